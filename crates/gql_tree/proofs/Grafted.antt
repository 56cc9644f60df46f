-- A union put in the place of an object.
use Rattle.std.proofs.Common.{◌≡◌, ◌↔◌, ◌⊎◌, inl, inr, List, ◌++◌, sym, ◌∙◌, ap, Some, None, Option}
use Rattle.gql_tree.specs.declared.path.Key.{Key}
use Rattle.gql_tree.specs.declared.value.Value.{Value}
use Rattle.gql_tree.specs.Flat.{Mark, find, flat}
use Rattle.gql_tree.specs.inner.Place.{put_at}
use Rattle.gql_tree.specs.Union.{IsUnion, Clashes, moved}
use Rattle.gql_tree.specs.inner.United.{Unites, Conflict}
use Rattle.gql_tree.proofs.Moved.{Where, where_at, flat-append, flat-put_at, moved-append}

abbrev Holds : Mark → Option Mark → Option Mark → Option Mark → Type 0
Holds m whole a b = (whole ≡ Some m) ↔ ((a ≡ Some m) ⊎ (b ≡ Some m))

gone : {A : Type 0} (m : Mark) → None ≡ Some m → A
gone m h = absurd (cc)

alone : (m : Mark) (whole a b : Option Mark) → whole ≡ a → b ≡ None → Holds m whole a b
alone m whole a b e f = (λ x. inl (sym e ∙ x), λ s. elim s [ inl x ↦ e ∙ x | inr x ↦ gone m (sym f ∙ x) ])

same_holds : (m : Mark) (w a b w' a' b' : Option Mark) → w ≡ w' → a ≡ a' → b ≡ b' → Holds m w' a' b' → Holds m w a b
same_holds m w a b w' a' b' e f g h = rw (e, f, g) h

union_by : (path p : List Key) (u o w fields : Value) (m : Mark) → find o path ≡ Some w → Unites u w fields → Where path u o p → Holds m (flat (put_at path u o) p) (flat o p) (moved path (flat fields) p)
union_by path p u o w fields m e h (inr k) = alone m _ _ _ k.1 (k.0 (flat fields))
union_by path p u o w fields m e h (inl k) =
    let q = k.0 in
    same_holds m _ _ _ (flat u q) (flat w q) (flat fields q)
    (ap (flat (put_at path u o)) k.1 ∙ flat-put_at path q u o w e)
    (ap (flat o) k.1 ∙ flat-append path q o w e)
    (ap (moved path (flat fields)) k.1 ∙ moved-append path (flat fields) q)
    (h q m)

pub put_union : (path : List Key) (u o w fields : Value) → find o path ≡ Some w → Unites u w fields → IsUnion (flat (put_at path u o)) (flat o) (moved path (flat fields))
put_union path u o w fields e h p m = union_by path p u o w fields m e h (where_at path p u o w e)

pub clash_moved : (path : List Key) (o w fields : Value) → find o path ≡ Some w → Conflict w fields → Clashes (flat o) (moved path (flat fields))
clash_moved path o w fields e c = (path ++ c.0, c.1, c.2, flat-append path c.0 o w e ∙ c.3, moved-append path (flat fields) c.0 ∙ c.4, c.5)
