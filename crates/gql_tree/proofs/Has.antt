-- A look-up by name finds something exactly where the name is there.
use Rattle.std.proofs.Common.{◌≡◌, ℕ, List, [], ◌∷◌, refl, Bool, true, false, cond, Some, None, Option, Bor}
use Rattle.std.specs.Prelude.{is_some, ◌||◌}
use Rattle.std.specs.Option.{option_copied}
use Rattle.std.specs.Str.{bytes_eq}
use Rattle.gql_tree.specs.declared.fields.Named.{Named}
use Rattle.gql_tree.specs.Names.{named, has_name}

has_by : {X : Type 0} (b c : Bool) (x : X) (o : Option X) → is_some o ≡ c → is_some (cond b (Some x) o) ≡ b || c
has_by true c x o h = refl
has_by false c x o h = h

pub named-has : {X : Type 0} (n : List ℕ) (ms : List (Named X)) → is_some (named n ms) ≡ has_name n ms
named-has n [] = refl
named-has n (m ∷ ms) = has_by (bytes_eq m.name n) (has_name n ms) m.value (named n ms) (named-has n ms)

-- a look-up whose value is copied finds as much
pub copied_some : {X : Type 0} (o : Option (Bor X)) → is_some (option_copied o) ≡ is_some o
copied_some None = refl
copied_some (Some x) = refl
