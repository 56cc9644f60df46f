-- Members that are put in from the last name to the first.
use Rattle.std.proofs.Common.{◌≡◌, ℕ, List, [], ◌∷◌, Option, Some, None, Bool, true, false, ◌&&◌, Ordering, Less, Equal, Greater, nat_cmp, refl, ◌∙◌, ap}
use Rattle.std.specs.Cmp.Lexicographic.{slice_cmp}
use Rattle.std.specs.Ordering.{match_ordering}
use Rattle.serde_json.specs.Data.{Data, Members, no_members, member, put}
use Rattle.gql_tree.proofs.Marks.{left_of, right_of}
use Rattle.gql_payload.specs.PayloadText.{present}
use Rattle.gql_payload.specs.inner.Members.{put_some}
use Rattle.gql_payload.proofs.Contents.{Part}

-- the first part put in last
abbrev pub put_each : List Part → Members
put_each [] = no_members
put_each (m ∷ ms) = put_some m.0 m.1 (put_each ms)

abbrev pub is_less : Ordering → Bool
is_less Less = true
is_less Equal = false
is_less Greater = false

-- the name comes before those of all parts
abbrev pub leads : List ℕ → List Part → Bool
leads name [] = true
leads name (m ∷ ms) = is_less (slice_cmp nat_cmp name m.0) && leads name ms

-- the names ascend
abbrev pub ascends : List Part → Bool
ascends [] = true
ascends (m ∷ ms) = leads m.0 ms && ascends ms

when_less : (o : Ordering) (a b c : Members) → is_less o ≡ true → match_ordering o a b c ≡ a
when_less Less a b c h = refl
when_less Equal a b c h = absurd (cc)
when_less Greater a b c h = absurd (cc)

put-members : (name : List ℕ) (d : Data) (ms : List Part) → leads name ms ≡ true → put name d (present ms) ≡ member name d (present ms)
put-members name d [] h = refl
put-members name d ((l, None) ∷ ms) h = put-members name d ms (right_of _ _ h)
put-members name d ((l, Some e) ∷ ms) h = when_less (slice_cmp nat_cmp name l) _ _ _ (left_of _ _ h)

put_some-members : (name : List ℕ) (o : Option Data) (ms : List Part) → leads name ms ≡ true → put_some name o (present ms) ≡ present ((name, o) ∷ ms)
put_some-members name None ms h = refl
put_some-members name (Some d) ms h = put-members name d ms h

pub put_each-members : (ms : List Part) → ascends ms ≡ true → put_each ms ≡ present ms
put_each-members [] h = refl
put_each-members (m ∷ ms) h = ap (put_some m.0 m.1) (put_each-members ms (right_of _ _ h)) ∙ put_some-members m.0 m.1 ms (left_of _ _ h)
