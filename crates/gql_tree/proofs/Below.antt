-- What holds of a value where it holds of each value one key below holds of every value.
use Rattle.std.proofs.Common.{◌≡◌, zero, suc, ℕ, List, [], ◌∷◌, map, subst, Bool, true, false, cond, Some, Option}
use Rattle.std.specs.Prelude.{slice_get}
use Rattle.std.specs.Str.{bytes_eq}
use Rattle.gql_tree.specs.declared.path.Key.{Key}
use Rattle.gql_tree.specs.declared.path.Key.TheVariants.{Name, Index}
use Rattle.gql_tree.specs.declared.fields.Named.{Named}
use Rattle.gql_tree.specs.declared.value.Value.{Value, out-Value, roll-Value, out-roll-Value}
use Rattle.gql_tree.specs.declared.value.Value.TheOpen.{Value-F}
use Rattle.gql_tree.specs.declared.value.Value.TheFolds.{map-Value, ind-Value}
use Rattle.gql_tree.specs.Names.{named}
use Rattle.gql_tree.specs.Flat.{Layer, below}
use Rattle.gql_tree.proofs.Json.{named_map}

module _ (P : Value → Type 0) where
  abbrev Known : Type 0
  Known = (x : Value) × P x

  abbrev value_in : Known → Value
  value_in e = e.0

  known : (x : Known) (v : Value) → Some x.0 ≡ Some v → P v
  known x v is = let same : x.0 ≡ v = cc in subst P same x.1

  item_known : (xs : List Known) (i : ℕ) (v : Value) → slice_get (map value_in xs) i ≡ Some v → P v
  item_known [] i v is = absurd (cc)
  item_known (x ∷ xs) zero v is = known x v is
  item_known (x ∷ xs) (suc i) v is = item_known xs i v is

  known_by : (b : Bool) (x : Known) (o : Option Value) (v : Value) → (o ≡ Some v → P v) → cond b (Some x.0) o ≡ Some v → P v
  known_by true x o v later is = known x v is
  known_by false x o v later is = later is

  member_known : (ms : List (Named Known)) (n : List ℕ) (v : Value) → named n (map (named_map value_in) ms) ≡ Some v → P v
  member_known [] n v is = absurd (cc)
  member_known (m ∷ ms) n v is = known_by (bytes_eq m.name n) m.value (named n (map (named_map value_in) ms)) v (member_known ms n v) is

  below_known : (y : Value-F Known) (k : Key) (v : Value) → below (map-Value Known Value value_in y) k ≡ Some v → P v
  below_known (Value-F.List xs) (Index i) v is = item_known xs i v is
  below_known (Value-F.Object ms) (Name n) v is = member_known ms n v is
  below_known _ (Index i) v is = absurd (cc)
  below_known _ (Name n) v is = absurd (cc)

  pub from_below : ((v : Value) → ((k : Key) (x : Value) → below (out-Value v) k ≡ Some x → P x) → P v) → (v : Value) → P v
  from_below step = ind-Value P (λ x y is. subst (λ (z : Layer). P (roll-Value z)) is
      (step (roll-Value (map-Value Known Value value_in y)) (λ k v here. below_known y k v (subst (λ (z : Layer). below z k ≡ Some v) (out-roll-Value (map-Value Known Value value_in y)) here))))
