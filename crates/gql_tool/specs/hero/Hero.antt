-- What a leaf of the hero completes to, for private clauses.
use Rattle.std.specs.Prelude.{ℕ, ◌+◌, ◌<◌, ◌≤◌, length, Bool, true, false, List, [], ◌∷◌, map, flat_map, Option, Some, None, is_none, IfSome, IsTrue, IsUtf8, Ok, codes, decimal, ◌≡◌}
use Rattle.std.specs.List.{AllByRecursion, list_any}
use Rattle.gql_tree.specs.declared.Key.{Key}
use Rattle.gql_tree.specs.declared.Key.TheVariants.{Name as Named_key}
use Rattle.gql_tree.specs.declared.Spot.{Spot}
use Rattle.gql_tree.specs.declared.Fault.{Fault}
use Rattle.gql_tree.specs.declared.Named.{Named}
use Rattle.gql_tree.specs.declared.Value.{Value}
use Rattle.gql_tree.specs.declared.Value.TheVariants as v
use Rattle.gql_tree.specs.declared.Payload.{Payload}
use Rattle.gql_tree.specs.Typed.{fits}
use Rattle.gql_tree.specs.declared.Content.TheVariants.{Fields}
use Rattle.gql_model.specs.Complete.{Part, bubble, nothing, just, fault_at, null_message, value_in, is_bubble}
use Rattle.gql_tool.specs.declared.hero.shape.LeafName.{LeafName}
use Rattle.gql_tool.specs.declared.hero.shape.LeafName.TheVariants.{Id, Name, Age, Boom}
use Rattle.gql_tool.specs.declared.hero.shape.Leaf.{Leaf}
use Rattle.gql_tool.specs.declared.hero.tables.LeafCell.{LeafCell}
use Rattle.gql_tool.specs.declared.hero.tables.LeafCell.TheVariants.{Null, Int, Text, Error}
use Rattle.gql_tool.specs.declared.hero.tables.Person.{Person}
use Rattle.gql_tool.specs.declared.hero.tables.HeroTables.{HeroTables}
use Rattle.gql_tool.specs.declared.hero.tables.HeroCell.{HeroCell}
use Rattle.gql_tool.specs.declared.hero.tables.HeroCell.TheVariants.{Ref}
use Rattle.gql_tool.specs.declared.hero.tables.HeroCell.TheVariants as hero_cells
use Rattle.gql_tool.specs.declared.hero.shape.HeroDocument.{HeroDocument}
use Rattle.gql_tool.specs.declared.hero.shape.Deferred.{Deferred}
use Rattle.gql_tool.specs.declared.request.Request.{Request}
use Rattle.gql_tool.specs.declared.request.Request.TheVariants.{NoText, NoDocument, NotBuilt, Built}
use Rattle.gql_tool.specs.declared.hero.request.HeroRequest.{HeroRequest}
use Rattle.gql_model.specs.declared.syntax.Document.{Document}
use Rattle.gql_tool.specs.Judged as is
use Rattle.gql_tool.specs.Judged.{Judgement, Parses}
use Rattle.gql_tool.specs.inner.Servable.{CanBeServed}
use Rattle.gql_tool.specs.hero.Built.{request_with, built, regions_of}
use Rattle.gql_tool.specs.hero.Shape.{times, deferred_leaves_of}
use Rattle.gql_tool.specs.hero.Operation.{name_of}

abbrev pub hero_path : List Key
hero_path = Named_key (codes "hero") ∷ []

abbrev pub leaf_path : LeafName → List Key
leaf_path name = Named_key (codes "hero") ∷ Named_key (name_of name) ∷ []

-- whether the leaf's type is Non-Null
abbrev pub is_required : LeafName → Bool
is_required Id = true
is_required Name = true
is_required Age = false
is_required Boom = true

abbrev pub cell_under : Person → LeafName → LeafCell
cell_under p Id = p.id
cell_under p Name = p.name
cell_under p Age = p.age
cell_under p Boom = p.boom

-- null, which bubbles where it may not stand
abbrev pub null_at : Bool → List Fault → Part
null_at true fs = record { result = bubble; faults = fs }
null_at false fs = record { result = nothing; faults = fs }

-- the fault of a null without one
abbrev pub null_faults : Bool → Spot → List Key → List Fault
null_faults true spot path = fault_at spot null_message path ∷ []
null_faults false spot path = []

abbrev pub cell_part : Bool → Spot → List Key → LeafCell → Part
cell_part required spot path Null = null_at required (null_faults required spot path)
cell_part required spot path (Int n) = just (v.Int n)
cell_part required spot path (Text t) = just (v.Text t)
cell_part required spot path (Error m) = null_at required (fault_at spot m path ∷ [])

abbrev pub leaf_part : Person → Leaf → Part
leaf_part p leaf = cell_part (is_required leaf.name) leaf.spot (leaf_path leaf.name) (cell_under p leaf.name)

-- a leaf's value under its name
abbrev pub leaf_member : Person → Leaf → Named Value
leaf_member p leaf = record { name = name_of leaf.name; value = value_in (leaf_part p leaf) }

-- no leaf stands twice in a document
abbrev pub EachOnce : HeroDocument → Type 0
EachOnce d = (name : LeafName) → times name d.leaves + times name (deferred_leaves_of d.deferred) ≤ 1

-- lines and columns count from 1
abbrev pub IsSpot : Spot → Type 0
IsSpot spot = (1 ≤ spot.line) × (1 ≤ spot.column)

abbrev pub ArePlaced : List Leaf → Type 0
ArePlaced leaves = AllByRecursion (λ leaf. IsSpot leaf.spot) leaves

-- so they do at each place of a document
pub record IsPlaced (d : HeroDocument) : Type 0 where
  pub operation : IsSpot d.spot
  pub hero : IsSpot d.hero
  pub leaves : ArePlaced d.leaves
  pub fragment : IfSome d.deferred (λ def. IsSpot def.spot)
  pub deferred : ArePlaced (deferred_leaves_of d.deferred)

-- ---- several leaves

abbrev pub leaf_parts : Person → List Leaf → List Part
leaf_parts p leaves = map (leaf_part p) leaves

abbrev pub some_bubble : Person → List Leaf → Bool
some_bubble p leaves = list_any is_bubble (leaf_parts p leaves)

abbrev pub leaf_members : Person → List Leaf → List (Named Value)
leaf_members p leaves = map (leaf_member p) leaves

abbrev pub leaf_faults : Person → List Leaf → List Fault
leaf_faults p leaves = flat_map (λ x. x.faults) (leaf_parts p leaves)

-- ---- a part by its value, none for Bubble, and its fault

abbrev pub value_or_null : Option Value → Value
value_or_null None = v.Null
value_or_null (Some x) = x

abbrev pub fault_list : Option Fault → List Fault
fault_list None = []
fault_list (Some f) = f ∷ []

pub record IsPart (value : Option Value) (fault : Option Fault) (part : Part) : Type 0 where
  pub bubbles : is_none value ≡ is_bubble part
  pub value_is : value_or_null value ≡ value_in part
  pub faults : fault_list fault ≡ part.faults

-- ---- payloads

-- a response whose `hero` has this value
abbrev pub hero_object : Value → Value
hero_object value = v.Object (record { name = codes "hero"; value = value } ∷ [])

abbrev pub single : Value → List Fault → Payload
single value faults = record { initial = Some (hero_object value); errors = faults; pending = []; incremental = []; completed = []; has_next = None }

abbrev pub announcing : Value → List Fault → Option (List ℕ) → Payload
announcing value faults label = record { initial = Some (hero_object value); errors = faults; pending = record { id = decimal 0; path = record { keys = hero_path }; label = label } ∷ []; incremental = []; completed = []; has_next = Some true }

abbrev pub completing_by : Bool → Value → List Fault → Payload
completing_by true value faults = record { initial = None; errors = []; pending = []; incremental = []; completed = record { id = decimal 0; errors = faults } ∷ []; has_next = Some false }
completing_by false value faults = record { initial = None; errors = []; pending = []; incremental = record { id = decimal 0; sub_path = record { keys = [] }; content = Fields value; errors = faults } ∷ []; completed = record { id = decimal 0; errors = [] } ∷ []; has_next = Some false }

-- the payload that completes the deferred leaves
abbrev pub completing : Person → List Leaf → Payload
completing p leaves = completing_by (some_bubble p leaves) (v.Object (leaf_members p leaves)) (leaf_faults p leaves)

-- the payloads of a hero whose leaves don't bubble: two, where deferred leaves wait
abbrev pub standing_payloads : Person → List Leaf → Option Deferred → List Payload
standing_payloads p leaves None = single (v.Object (leaf_members p leaves)) (leaf_faults p leaves) ∷ []
standing_payloads p leaves (Some def) = elim def.leaves [
  | [] ↦ single (v.Object (leaf_members p leaves)) (leaf_faults p leaves) ∷ []
  | l ∷ ls ↦ announcing (v.Object (leaf_members p leaves)) (leaf_faults p leaves) def.label ∷ completing p (l ∷ ls) ∷ []
]

abbrev pub person_payloads_by : Bool → Person → List Leaf → Option Deferred → List Payload
person_payloads_by true p leaves o = single v.Null (leaf_faults p leaves) ∷ []
person_payloads_by false p leaves o = standing_payloads p leaves o

abbrev pub person_payloads : Person → HeroDocument → List Payload
person_payloads p d = person_payloads_by (some_bubble p d.leaves) p d.leaves d.deferred

-- a hero that is a person is one of the tables
abbrev pub RefStands : HeroTables → Type 0
RefStands t = (n : ℕ) → t.hero ≡ Ref n → n < length t.persons

-- ---- what can be written of tables: texts are UTF-8, and integers have 64 signed bits

abbrev pub CellFits : LeafCell → Type 0
CellFits Null = Unit {0}
CellFits (Int n) = IsTrue (fits n)
CellFits (Text s) = IsUtf8 s
CellFits (Error m) = IsUtf8 m

pub record PersonFits (p : Person) : Type 0 where
  pub id : CellFits p.id
  pub name : CellFits p.name
  pub age : CellFits p.age
  pub boom : CellFits p.boom

abbrev pub HeroFits : HeroCell → Type 0
HeroFits hero_cells.Null = Unit {0}
HeroFits (hero_cells.Error m) = IsUtf8 m
HeroFits (Ref n) = Unit {0}

pub record TablesFit (t : HeroTables) : Type 0 where
  pub hero : HeroFits t.hero
  pub persons : AllByRecursion PersonFits t.persons

-- ---- requests

-- the document is read, and this is the request that is built of it
abbrev pub IsBuilt : (vars schema tables document : List ℕ) → HeroTables → HeroDocument → Type 0
IsBuilt vars schema tables document t d = IsUtf8 document × (it : Document) × Parses document (Ok it) × (built vars schema tables it ≡ Some (request_with t d))

-- whether a request is executed
abbrev pub request_of : Option HeroRequest → Request
request_of None = NotBuilt
request_of (Some request) = Built request

-- what a request is judged to be
abbrev pub judgement_of : Request → Judgement
judgement_of NoText = is.NoText
judgement_of (NoDocument refusal) = is.NoDocument refusal
judgement_of NotBuilt = is.NotBuilt
judgement_of (Built request) = is.Executed (regions_of request)

-- a request that is built is that of these files
abbrev pub IsOf : (vars schema tables document : List ℕ) → Request → Type 0
IsOf vars schema tables document (Built request) = IsBuilt vars schema tables document request.tables request.document
IsOf vars schema tables document _ = Unit {0}

-- what execution asks of a request that is built
pub record CanRun (request : HeroRequest) : Type 0 where
  pub stands : RefStands request.tables
  pub once : EachOnce request.document
  pub served : CanBeServed (regions_of request)

abbrev pub Runs : Request → Type 0
Runs (Built request) = CanRun request
Runs _ = Unit {0}
