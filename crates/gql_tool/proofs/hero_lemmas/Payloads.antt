-- The payloads of a document of heroes, by its leaves.
use Rattle.std.proofs.Common.{◌≡◌, refl, sym, ap, ◌∙◌, ℕ, Bool, true, false, List, [], ◌∷◌, Option, Some, None}
use Rattle.std.specs.Prelude.{slice_get}
use Rattle.gql_tree.specs.declared.Payload.{Payload}
use Rattle.gql_tree.specs.declared.Outcome.TheVariants.{Good}
use Rattle.gql_tree.specs.declared.Value.TheVariants as v
use Rattle.gql_tree.specs.Inline.{inline_payloads}
use Rattle.gql_model.specs.Complete.{fault_at}
use Rattle.gql_model.specs.Operations.{forest}
use Rattle.gql_tool.specs.declared.hero.shape.Leaf.{Leaf}
use Rattle.gql_tool.specs.declared.hero.shape.Deferred.{Deferred}
use Rattle.gql_tool.specs.declared.hero.shape.HeroDocument.{HeroDocument}
use Rattle.gql_tool.specs.declared.hero.tables.Person.{Person}
use Rattle.gql_tool.specs.declared.hero.tables.HeroTables.{HeroTables}
use Rattle.gql_tool.specs.declared.hero.tables.HeroCell.TheVariants as hero_cells
use Rattle.gql_tool.specs.hero.Operation.{nodes_of}
use Rattle.gql_tool.specs.hero.Service.{service, query}
use Rattle.gql_tool.specs.hero.Hero.{hero_path, leaf_members, leaf_faults, some_bubble, hero_object, single, announcing, completing, person_payloads, person_payloads_by, standing_payloads, EachOnce}
use Rattle.gql_tool.proofs.hero_lemmas.OneTask.{alone_run}
use Rattle.gql_tool.proofs.hero_lemmas.Forests.{forest-person, forest-null, forest-error, run-person}

-- a hero that is a person
pub payloads-person : (t : HeroTables) (d : HeroDocument) (n : ℕ) (p : Person) → slice_get t.persons n ≡ Some p → t.hero ≡ hero_cells.Ref n → EachOnce d → inline_payloads (forest (service t) (nodes_of d) query) ≡ person_payloads p d
payloads-person t d n p is ref once = ap inline_payloads (forest-person t d n p is ref once) ∙ (run-person t d.spot d.hero d.leaves n p is (some_bubble p d.leaves) d.deferred).payloads

-- a hero that is null or an error
pub payloads-null : (t : HeroTables) (d : HeroDocument) → t.hero ≡ hero_cells.Null → inline_payloads (forest (service t) (nodes_of d) query) ≡ single v.Null [] ∷ []
payloads-null t d none = ap inline_payloads (forest-null t d none) ∙ (alone_run (Good (hero_object v.Null)) [] []).payloads

pub payloads-error : (t : HeroTables) (d : HeroDocument) (m : List ℕ) → t.hero ≡ hero_cells.Error m → inline_payloads (forest (service t) (nodes_of d) query) ≡ single v.Null (fault_at d.hero m hero_path ∷ []) ∷ []
payloads-error t d m error = ap inline_payloads (forest-error t d m error) ∙ (alone_run (Good (hero_object v.Null)) (fault_at d.hero m hero_path ∷ []) []).payloads

-- ---- a person's payloads, case by case

module _ (p : Person) (d : HeroDocument) where
  abbrev stands : Payload
  stands = single (v.Object (leaf_members p d.leaves)) (leaf_faults p d.leaves)

  pub payloads-bubbled : some_bubble p d.leaves ≡ true → single v.Null (leaf_faults p d.leaves) ∷ [] ≡ person_payloads p d
  payloads-bubbled h = sym (ap (λ b. person_payloads_by b p d.leaves d.deferred) h)

  pub payloads-alone : some_bubble p d.leaves ≡ false → d.deferred ≡ None → stands ∷ [] ≡ person_payloads p d
  payloads-alone h none = sym (ap (λ b. person_payloads_by b p d.leaves d.deferred) h ∙ ap (person_payloads_by false p d.leaves) none)

  waiting_by : (def : Deferred) (ls : List Leaf) → (ls ≡ [] → ⊥) → person_payloads_by false p d.leaves (Some (record { label = def.label; spot = def.spot; leaves = ls })) ≡ announcing (v.Object (leaf_members p d.leaves)) (leaf_faults p d.leaves) def.label ∷ completing p ls ∷ []
  waiting_by def [] some = absurd (some refl)
  waiting_by def (l ∷ ls) some = refl

  pub payloads-empty : (def : Deferred) → some_bubble p d.leaves ≡ false → d.deferred ≡ Some def → def.leaves ≡ [] → stands ∷ [] ≡ person_payloads p d
  payloads-empty def h is none = sym (ap (λ b. person_payloads_by b p d.leaves d.deferred) h ∙ (ap (person_payloads_by false p d.leaves) is ∙ ap (λ ls. person_payloads_by false p d.leaves (Some (record { label = def.label; spot = def.spot; leaves = ls }))) none))

  pub payloads-waiting : (def : Deferred) → some_bubble p d.leaves ≡ false → d.deferred ≡ Some def → (def.leaves ≡ [] → ⊥) → announcing (v.Object (leaf_members p d.leaves)) (leaf_faults p d.leaves) def.label ∷ completing p def.leaves ∷ [] ≡ person_payloads p d
  payloads-waiting def h is some = sym (ap (λ b. person_payloads_by b p d.leaves d.deferred) h ∙ (ap (person_payloads_by false p d.leaves) is ∙ waiting_by def def.leaves some))

-- there is a first payload
standing-first : (p : Person) (leaves : List Leaf) (o : Option Deferred) → (first : Payload) × (rest : List Payload) × (standing_payloads p leaves o ≡ first ∷ rest)
standing-first p leaves None = (single (v.Object (leaf_members p leaves)) (leaf_faults p leaves), [], refl)
standing-first p leaves (Some def) = by def.leaves
  where
    by : (ls : List Leaf) → (first : Payload) × (rest : List Payload) × (standing_payloads p leaves (Some (record { label = def.label; spot = def.spot; leaves = ls })) ≡ first ∷ rest)
    by [] = (single (v.Object (leaf_members p leaves)) (leaf_faults p leaves), [], refl)
    by (l ∷ ls) = (announcing (v.Object (leaf_members p leaves)) (leaf_faults p leaves) def.label, completing p (l ∷ ls) ∷ [], refl)

payloads-first_by : (b : Bool) (p : Person) (leaves : List Leaf) (o : Option Deferred) → (first : Payload) × (rest : List Payload) × (person_payloads_by b p leaves o ≡ first ∷ rest)
payloads-first_by true p leaves o = (single v.Null (leaf_faults p leaves), [], refl)
payloads-first_by false p leaves o = standing-first p leaves o

pub payloads-first : (p : Person) (d : HeroDocument) → (first : Payload) × (rest : List Payload) × (person_payloads p d ≡ first ∷ rest)
payloads-first p d = payloads-first_by (some_bubble p d.leaves) p d.leaves d.deferred
