-- What stands in the value of a hero of leaves.
use Rattle.std.proofs.Common.{◌≡◌, refl, sym, ap, ◌∙◌, inl, inr, ℕ, ◌+◌, ◌≤◌, Bool, true, false, cond, List, [], ◌∷◌, Option, Some, None, arith}
use Rattle.std.specs.Prelude.{◌⊎◌, option_map, option_and_then, codes}
use Rattle.std.specs.Str.{bytes_eq}
use Rattle.std.proofs.lemmas.Slice.Eq.{bytes_eq-Decides}
use Rattle.gql_tree.specs.declared.Key.{Key}
use Rattle.gql_tree.specs.declared.Key.TheVariants.{Name as Named_key, Index}
use Rattle.gql_tree.specs.declared.Named.{Named}
use Rattle.gql_tree.specs.declared.Value.{Value, out-Value}
use Rattle.gql_tree.specs.declared.Value.TheVariants.{outs-Object, outs-Null}
use Rattle.gql_tree.specs.declared.Value.TheVariants as v
use Rattle.gql_tree.specs.Names.{named}
use Rattle.gql_tree.specs.Flat.{Mark, object, mark_of, below, find, flat}
use Rattle.gql_tool.specs.declared.hero.shape.LeafName.{LeafName}
use Rattle.gql_tool.specs.declared.hero.shape.Leaf.{Leaf}
use Rattle.gql_tool.specs.declared.hero.tables.Person.{Person}
use Rattle.gql_tool.specs.hero.Shape.{same_name, times}
use Rattle.gql_tool.specs.hero.Operation.{name_of}
use Rattle.gql_tool.specs.hero.Hero.{hero_object, leaf_member, leaf_members}
use Rattle.gql_tool.proofs.hero_lemmas.Once.{times-cons, count_true, count_none, names-differ, same_name-self, fewer}

abbrev pub Members : Type 0
Members = List (Named Value)

-- ---- objects

-- the mark at a path of what may be there
abbrev pub at_path : List Key → Option Value → Option Mark
at_path path found = option_map (λ w. mark_of (out-Value w)) (option_and_then (λ w. find w path) found)

pub flat-here : (ms : Members) → flat (v.Object ms) [] ≡ Some object
flat-here ms = ap (λ l. Some (mark_of l)) (outs-Object ms)

pub flat-index : (ms : Members) (i : ℕ) (path : List Key) → flat (v.Object ms) (Index i ∷ path) ≡ None
flat-index ms i path = ap (λ l. at_path path (below l (Index i))) (outs-Object ms)

pub flat-name : (ms : Members) (s : List ℕ) (path : List Key) → flat (v.Object ms) (Named_key s ∷ path) ≡ at_path path (named s ms)
flat-name ms s path = ap (λ l. at_path path (below l (Named_key s))) (outs-Object ms)

pub flat-null : (k : Key) (path : List Key) → flat v.Null (k ∷ path) ≡ None
flat-null (Index i) path = ap (λ l. at_path path (below l (Index i))) outs-Null
flat-null (Named_key s) path = ap (λ l. at_path path (below l (Named_key s))) outs-Null

-- ---- the object under `hero`

pub flat-hero : (x : Value) (s : List ℕ) (path : List Key) → flat (hero_object x) (Named_key s ∷ path) ≡ at_path path (cond (bytes_eq (codes "hero") s) (Some x) None)
flat-hero x s path = flat-name (record { name = codes "hero"; value = x } ∷ []) s path

-- ---- no name in both

abbrev pub NamesApart : Members → Members → Type 0
NamesApart ms ns = (s : List ℕ) → (named s ms ≡ None) ⊎ (named s ns ≡ None)

-- no mark stands where none does
pub gone : {A : Type 0} (o : Option Mark) (m : Mark) → o ≡ None → o ≡ Some m → A
gone o m none some = absurd (cc)

-- ---- leaves have names apart

pub no_named : (a : LeafName) (p : Person) (ls : List Leaf) → times a ls ≡ 0 → named (name_of a) (leaf_members p ls) ≡ None
no_named a p [] h = refl
no_named a p (l ∷ ls) h =
    let q = count_none (same_name l.name a) (times a ls) (sym (times-cons a l ls) ∙ h) in
    ap (λ b. cond b (Some (leaf_member p l).value) (named (name_of a) (leaf_members p ls))) (names-differ l.name a q.0).1 ∙ no_named a p ls q.1

-- a name that stands is a leaf's
abbrev IsLeafs : List ℕ → List Leaf → Type 0
IsLeafs s ls = (a : LeafName) × (name_of a ≡ s) × (1 ≤ times a ls)

leaf_by : (s : List ℕ) (p : Person) (l : Leaf) (ls : List Leaf) (b : Bool) → bytes_eq (name_of l.name) s ≡ b → (named s (leaf_members p ls) ≡ None) ⊎ IsLeafs s ls → (named s (leaf_members p (l ∷ ls)) ≡ None) ⊎ IsLeafs s (l ∷ ls)
leaf_by s p l ls true e rest =
    let one = times-cons l.name l ls ∙ count_true (same_name l.name l.name) (times l.name ls) (same_name-self l.name) in
    inr (l.name, (bytes_eq-Decides (name_of l.name) s).0 e, omega (arith, one))
leaf_by s p l ls false e (inl none) = inl (ap (λ b. cond b (Some (leaf_member p l).value) (named s (leaf_members p ls))) e ∙ none)
leaf_by s p l ls false e (inr found) = inr (found.0, found.1, (let le = fewer found.0 l ls in omega (arith, le, found.2)))

named_leaf : (s : List ℕ) (p : Person) (ls : List Leaf) → (named s (leaf_members p ls) ≡ None) ⊎ IsLeafs s ls
named_leaf s p [] = inl refl
named_leaf s p (l ∷ ls) = leaf_by s p l ls (bytes_eq (name_of l.name) s) refl (named_leaf s p ls)

pub NamesApart-leaves : (p : Person) (ls ms : List Leaf) → ((a : LeafName) → times a ls + times a ms ≤ 1) → NamesApart (leaf_members p ls) (leaf_members p ms)
NamesApart-leaves p ls ms once s = elim (named_leaf s p ls) [
  | inl none ↦ inl none
  | inr found ↦ inr (ap (λ k. named k (leaf_members p ms)) (sym found.1) ∙ no_named found.0 p ms (let h = once found.0 in omega (arith, h, found.2)))
]
