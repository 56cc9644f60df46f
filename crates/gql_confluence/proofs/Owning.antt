-- What a region brings to a path, and the region of a group that arises in another.
use Rattle.std.proofs.Common.{◌≡◌, ◌⊎◌, ℕ, List, [], ◌∷◌, ◌++◌, true, false, Some}
use Rattle.gql_tree.specs.declared.path.Key.{Key}
use Rattle.gql_tree.specs.declared.path.Key.TheVariants.{Name}
use Rattle.gql_tree.specs.declared.value.Value.{Value}
use Rattle.gql_tree.specs.Flat.{Mark, object, flat}
use Rattle.gql_tree.specs.Forest.{outcome_value}
use Rattle.gql_tree.specs.Merged.{Part}
use Rattle.gql_tree.specs.WellFormed.{Site}
use Rattle.gql_confluence.proofs.Parts.{In, HasAt}

abbrev pub value_in : Site → Value
value_in x = outcome_value x.region.outcome

abbrev pub part_in : Site → Part
part_in x = record { at = x.at; value = value_in x; errors = x.region.faults }

-- not the beginning itself, unless the region is a scope's root
abbrev pub Proper : Site → List Key → Type 0
Proper x rest = (x.is_root ≡ true) ⊎ ((k : Key) × (r : List Key) × (rest ≡ k ∷ r))

-- the region brings something to the path, and doesn't only begin there
pub record Owns (x : Site) (p : List Key) : Type 0 where
  pub rest : List Key
  pub mark : Mark
  pub at : p ≡ x.at ++ rest
  pub has : flat (value_in x) rest ≡ Some mark
  pub proper : Proper x rest

-- the region of a group that arises in another
pub record IsBelow (x y : Site) : Type 0 where
  pub no_root : x.is_root ≡ false
  pub rest : List Key
  pub at : x.at ≡ y.at ++ rest
  pub has : flat (value_in y) rest ≡ Some object
  pub proper : Proper y rest
  -- its keys are new there
  pub new : (n : List ℕ) → In n x.keys → (m : Mark) → HasAt (part_in y) (x.at ++ Name n ∷ []) m → ⊥
  -- and it brings nothing but its keys
  pub keyed : (k : Key) (r : List Key) (m : Mark) → flat (value_in x) (k ∷ r) ≡ Some m → (n : List ℕ) × (k ≡ Name n) × In n x.keys

abbrev pub IsTop : Site → Type 0
IsTop x = (x.is_root ≡ true) × (x.at ≡ [])

-- what two of them own is owned by one
abbrev pub Unique : List Site → Type 0
Unique xs = (x y : Site) → In x xs → In y xs → (p : List Key) → Owns x p → Owns y p → x ≡ y

pub owns_at : (x y : Site) → IsBelow x y → Owns y x.at
owns_at x y b = record { rest = b.rest; mark = object; at = b.at; has = b.has; proper = b.proper }

-- it begins with an object, where it isn't a scope's root
abbrev pub IsReady : Site → Type 0
IsReady x = (x.is_root ≡ false) → flat (value_in x) [] ≡ Some object
