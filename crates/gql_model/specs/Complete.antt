-- Completing what a field resolved to: CompleteValue, section 6.4.3 of the standard, and Handling Field Errors, section 6.4.4.
use Rattle.std.specs.Prelude.{ℕ, ◌+◌, Bool, true, false, List, [], ◌∷◌, ◌++◌, map, flat_map, length, take, Option, Some, None, codes}
use Rattle.std.specs.List.{list_any}
use Rattle.gql_tree.specs.declared.Key.{Key}
use Rattle.gql_tree.specs.declared.Key.TheVariants.{Index}
use Rattle.gql_tree.specs.declared.Value.{Value}
use Rattle.gql_tree.specs.declared.Value.TheVariants as v
use Rattle.gql_tree.specs.declared.Fault.{Fault}
use Rattle.gql_tree.specs.declared.Frag.{Frag}
use Rattle.gql_tree.specs.declared.Group.{Group}
use Rattle.gql_tree.specs.declared.Stream.{Stream}
use Rattle.gql_tree.specs.declared.Row.{Row}
use Rattle.gql_tree.specs.declared.Spot.{Spot}
use Rattle.gql_model.specs.UsedType.{UsedType, named, list, non_null}
use Rattle.gql_model.specs.World.{Cell, truth, integer, text, ref, error, items, cells_of}

-- what is deferred at objects and lists
pub record Found : Type 0 where
  pub fragments : List Frag
  pub groups : List Group
  pub streams : List Stream

abbrev pub no_found : Found
no_found = record { fragments = []; groups = []; streams = [] }

-- a value that stands, with what is deferred in it; null; or Bubble, where a null may not stand
pub data Result : Type 0 where
  bubble : Result
  nothing : Result
  good : Value → Found → Result

-- a result with the faults that came on the way
pub record Part : Type 0 where
  pub result : Result
  pub faults : List Fault

abbrev pub is_bubble : Part → Bool
is_bubble p = elim p.result [ bubble ↦ true | nothing ↦ false | good x f ↦ false ]

-- the value of a part that is no Bubble
abbrev pub value_in : Part → Value
value_in p = elim p.result [ bubble ↦ v.Null | nothing ↦ v.Null | good x f ↦ x ]

abbrev pub found_in : Part → Found
found_in p = elim p.result [ bubble ↦ no_found | nothing ↦ no_found | good x f ↦ f ]

abbrev pub with_parts : Found → List Part → Found
with_parts f ps = record {
  fragments = f.fragments ++ flat_map (λ p. (found_in p).fragments) ps;
  groups = f.groups ++ flat_map (λ p. (found_in p).groups) ps;
  streams = f.streams ++ flat_map (λ p. (found_in p).streams) ps;
}

-- a list or an object is Bubble where a part is Bubble, else made of the parts' values; every part gives its faults, in order
abbrev pub whole : (List Value → Value) → Found → List Part → Part
whole make found ps = record {
  result = elim (list_any is_bubble ps) [ true ↦ bubble | false ↦ good (make (map value_in ps)) (with_parts found ps) ];
  faults = flat_map (λ p. p.faults) ps;
}

-- at a nullable type, Bubble becomes null
abbrev pub soft : Part → Part
soft p = elim p.result [ bubble ↦ record { result = nothing; faults = p.faults } | nothing ↦ p | good x found ↦ p ]

abbrev pub or_fault : Fault → List Fault → List Fault
or_fault f [] = f ∷ []
or_fault f (g ∷ gs) = g ∷ gs

-- at a Non-Null type, null becomes Bubble, with one fault where none came with it
abbrev pub hard : Fault → Part → Part
hard f p = elim p.result [ nothing ↦ record { result = bubble; faults = or_fault f p.faults } | bubble ↦ p | good x found ↦ p ]

abbrev pub just : Value → Part
just x = record { result = good x no_found; faults = [] }

abbrev pub null_part : List Fault → Part
null_part fs = record { result = nothing; faults = fs }

-- f of each with its index
abbrev pub indexed : {A B : Type 0} → (ℕ → A → B) → ℕ → List A → List B
indexed f i [] = []
indexed f i (x ∷ xs) = f i x ∷ indexed f (i + 1) xs

abbrev pub fault_at : Spot → List ℕ → List Key → Fault
fault_at spot message path = record { message = message; line = spot.line; column = spot.column; path = Some (record { keys = path }) }

abbrev pub null_message : List ℕ
null_message = codes "Null in a non-null position"

-- a scalar or an enum value gives itself, an error null and one fault
abbrev pub leaf : Spot → Cell → List Key → Part
leaf spot (truth b) path = just (v.Bool b)
leaf spot (integer n) path = just (v.Int n)
leaf spot (text s) path = just (v.Text s)
leaf spot (error message) path = null_part (fault_at spot message path ∷ [])
leaf spot _ path = null_part []

-- `object` is what an object of a row gives at a path;
-- `streams` is the stream of a list at a path that lets so many items of so many stand in it
module _ (spot : Spot) (object : Row → List Key → Part) (streams : ℕ → ℕ → List Key → Found) where
  -- by the type, a cell at a path; an active `@stream` lets the first items stand, of the outermost list alone
  abbrev pub complete : UsedType → Option ℕ → Cell → List Key → Part
  complete (non_null s) first c path = hard (fault_at spot null_message path) (complete s first c path)
  complete (named t) first (ref row) path = soft (object row path)
  complete (list s) (Some n) (items cs) path =
      let all = cells_of cs in
      soft (whole v.List (streams n (length all) path) (indexed (λ i c. complete s None c (path ++ Index i ∷ [])) 0 (take n all)))
  complete (list s) None (items cs) path = soft (whole v.List no_found (indexed (λ i c. complete s None c (path ++ Index i ∷ [])) 0 (cells_of cs)))
  complete _ first c path = leaf spot c path
