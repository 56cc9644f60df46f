-- Unions level by level are unions of the maps.
use Rattle.std.proofs.Common.{◌≡◌, ℕ, zero, suc, ◌+◌, ◌<◌, ◌↔◌, ◌⊎◌, inl, inr, List, [], ◌∷◌, ◌++◌, length, take, drop, get_or, append_assoc, add-one, refl, sym, subst, ◌∙◌, ap, Bool, true, false, cond, Some, None, Option, Result, IfOk, IsTrue, arith}
use Rattle.std.specs.Prelude.{slice_get, option_and_then, option_map, is_some, Ok, Err, not, ◌||◌, ◌&&◌}
use Rattle.std.specs.Str.{bytes_eq}
use Rattle.std.proofs.lemmas.Slice.Eq.{bytes_eq-Decides}
use Rattle.std.proofs.lemmas.List.{take_more}
use Rattle.gql_tree.specs.declared.path.Key.{Key}
use Rattle.gql_tree.specs.declared.path.Key.TheVariants.{Name, Index}
use Rattle.gql_tree.specs.declared.fields.Named.{Named}
use Rattle.gql_tree.specs.declared.value.Value.{Value, out-Value}
use Rattle.gql_tree.specs.declared.value.Value.TheOpen.{Value-F}
use Rattle.gql_tree.specs.declared.value.Value.TheVariants.{outs-List, outs-Object}
use Rattle.gql_tree.specs.declared.value.Value.TheVariants as v
use Rattle.gql_tree.specs.Names.{named, has_name, apart}
use Rattle.gql_tree.specs.Flat.{Layer, Mark, list, mark_of, items_of, members_of, below, find}
use Rattle.gql_tree.specs.Union.{Marks, IsUnion, Clashes}
use Rattle.gql_tree.specs.inner.United.{Unites, Conflict, UnitesMaybe, UnitesItems, Joins, AllJoin, others, ItemsClash, ConflictMaybe, MembersClash}
use Rattle.gql_tree.proofs.Same.{Distinct, distinct_of, named_first, named_skip}
use Rattle.gql_tree.proofs.Has.{named-has}

some_one : {A : Type 0} (x y : A) → Some x ≡ Some y → x ≡ y
some_one x y e = cc

abbrev at_path : List Key → Option Value → Option Mark
at_path path o = option_map (λ w. mark_of (out-Value w)) (option_and_then (λ w. find w path) o)

same_union : (r a : Value) (path : List Key) (m : Mark) → r ≡ a → at_path path (Some r) ≡ Some m → at_path path (Some a) ≡ Some m
same_union r a path m e h = ap (λ x. at_path path (Some x)) (sym e) ∙ h

gone : {A : Type 0} (m : Mark) → None ≡ Some m → A
gone m h = absurd (cc)

maybe_union : (path : List Key) (m : Mark) (r a b : Option Value) → UnitesMaybe r a b → (at_path path r ≡ Some m) ↔ ((at_path path a ≡ Some m) ⊎ (at_path path b ≡ Some m))
maybe_union path m None None None h = (λ e. gone m e, λ s. elim s [ inl e ↦ gone m e | inr e ↦ gone m e ])
maybe_union path m None None (Some b) h = absurd h
maybe_union path m None (Some a) None h = absurd h
maybe_union path m None (Some a) (Some b) h = absurd h
maybe_union path m (Some r) None None h = absurd h
maybe_union path m (Some r) (Some a) None h = (λ e. inl (same_union r a path m h e), λ s. elim s [ inl e ↦ same_union a r path m (sym h) e | inr e ↦ gone m e ])
maybe_union path m (Some r) None (Some b) h = (λ e. inr (same_union r b path m h e), λ s. elim s [ inl e ↦ gone m e | inr e ↦ same_union b r path m (sym h) e ])
maybe_union path m (Some r) (Some a) (Some b) h = h path m

pub union_from_layer : (r a b : Value) → mark_of (out-Value r) ≡ mark_of (out-Value a) → mark_of (out-Value a) ≡ mark_of (out-Value b) → ((k : Key) → UnitesMaybe (below (out-Value r) k) (below (out-Value a) k) (below (out-Value b) k)) → Unites r a b
union_from_layer r a b e f h [] m = (λ x. inl (ap Some (sym e) ∙ x), λ s. elim s [ inl x ↦ ap Some e ∙ x | inr x ↦ ap Some (e ∙ f) ∙ x ])
union_from_layer r a b e f h (k ∷ path) m = maybe_union path m _ _ _ (h k)

-- ---- a list

list_members : (l : Layer) (n : ℕ) → list n ≡ mark_of l → members_of l ≡ []
list_members Value-F.Null n h = refl
list_members (Value-F.Bool x) n h = refl
list_members (Value-F.Int x) n h = refl
list_members (Value-F.Text x) n h = refl
list_members (Value-F.List x) n h = refl
list_members (Value-F.Object x) n h = absurd (cc)

items_union : (rs xs ys : List Value) (i : ℕ) → UnitesItems rs xs ys → UnitesMaybe (slice_get rs i) (slice_get xs i) (slice_get ys i)
items_union [] [] [] i h = tt
items_union [] [] (y ∷ ys) i h = absurd h
items_union [] (x ∷ xs) [] i h = absurd h
items_union [] (x ∷ xs) (y ∷ ys) i h = absurd h
items_union (r ∷ rs) [] [] i h = absurd h
items_union (r ∷ rs) [] (y ∷ ys) i h = absurd h
items_union (r ∷ rs) (x ∷ xs) [] i h = absurd h
items_union (r ∷ rs) (x ∷ xs) (y ∷ ys) zero h = h.0
items_union (r ∷ rs) (x ∷ xs) (y ∷ ys) (suc i) h = items_union rs xs ys i h.1

union_length : (rs xs ys : List Value) → UnitesItems rs xs ys → length rs ≡ length xs
union_length [] [] [] h = refl
union_length [] [] (y ∷ ys) h = absurd h
union_length [] (x ∷ xs) [] h = absurd h
union_length [] (x ∷ xs) (y ∷ ys) h = absurd h
union_length (r ∷ rs) [] [] h = absurd h
union_length (r ∷ rs) [] (y ∷ ys) h = absurd h
union_length (r ∷ rs) (x ∷ xs) [] h = absurd h
union_length (r ∷ rs) (x ∷ xs) (y ∷ ys) h = ap suc (union_length rs xs ys h.1)

pub union_last : (rs xs ys : List Value) (r x y : Value) → UnitesItems rs xs ys → Unites r x y → UnitesItems (rs ++ r ∷ []) (xs ++ x ∷ []) (ys ++ y ∷ [])
union_last [] [] [] r x y h u = (u, tt)
union_last [] [] (b ∷ ys) r x y h u = absurd h
union_last [] (a ∷ xs) [] r x y h u = absurd h
union_last [] (a ∷ xs) (b ∷ ys) r x y h u = absurd h
union_last (c ∷ rs) [] [] r x y h u = absurd h
union_last (c ∷ rs) [] (b ∷ ys) r x y h u = absurd h
union_last (c ∷ rs) (a ∷ xs) [] r x y h u = absurd h
union_last (c ∷ rs) (a ∷ xs) (b ∷ ys) r x y h u = (h.0, union_last rs xs ys r x y h.1 u)

list_below : (l : Layer) (rs xs ys : List Value) → members_of l ≡ [] → items_of l ≡ ys → UnitesItems rs xs ys → (k : Key) → UnitesMaybe (below (Value-F.List rs) k) (below (Value-F.List xs) k) (below l k)
list_below l rs xs ys e f h (Index i) = subst (λ (zs : List Value). UnitesMaybe (slice_get rs i) (slice_get xs i) (slice_get zs i)) (sym f) (items_union rs xs ys i h)
list_below l rs xs ys e f h (Name n) = subst (λ (ms : List (Named Value)). UnitesMaybe None None (named n ms)) (sym e) tt

pub list_union : (r a b : Value) (rs xs : List Value) → r ≡ v.List rs → a ≡ v.List xs → mark_of (out-Value a) ≡ mark_of (out-Value b) → UnitesItems rs xs (items_of (out-Value b)) → Unites r a b
list_union r a b rs xs e f g h =
    let er : out-Value r ≡ Value-F.List rs = ap out-Value e ∙ outs-List rs in
    let ea : out-Value a ≡ Value-F.List xs = ap out-Value f ∙ outs-List xs in
    let m : list (length xs) ≡ mark_of (out-Value b) = ap mark_of (sym ea) ∙ g in
    union_from_layer r a b (ap mark_of er ∙ (ap list (union_length rs xs _ h) ∙ ap mark_of (sym ea))) g
    (λ k. subst (λ (l : Layer). UnitesMaybe (below l k) (below (out-Value a) k) (below (out-Value b) k)) (sym er)
    (subst (λ (l : Layer). UnitesMaybe (below (Value-F.List rs) k) (below l k) (below (out-Value b) k)) (sym ea)
    (list_below (out-Value b) rs xs _ (list_members (out-Value b) (length xs) m) refl h k)))

-- ---- an object

first_of : (m : Named Value) (ms : List (Named Value)) (n : List ℕ) (b : Bool) → bytes_eq m.name n ≡ b → named n (m ∷ ms) ≡ cond b (Some m.value) (named n ms)
first_of m ms n b e = ap (λ x. cond x (Some m.value) (named n ms)) e

join_by : (b : Bool) (ns rs ms tail : List (Named Value)) (r m : Named Value) (n : List ℕ) → bytes_eq m.name n ≡ b → Joins ns r m → (b ≡ false → UnitesMaybe (named n (rs ++ tail)) (named n ms) (named n ns)) → UnitesMaybe (named n (r ∷ (rs ++ tail))) (cond b (Some m.value) (named n ms)) (named n ns)
join_by true ns rs ms tail r m n e j h =
    let same : m.name ≡ n = (bytes_eq-Decides m.name n).0 e in
    subst (λ (o : Option Value). UnitesMaybe o (Some m.value) (named n ns)) (sym (first_of r (rs ++ tail) n true (ap (λ x. bytes_eq x n) j.0 ∙ e)))
    (subst (λ (x : List ℕ). UnitesMaybe (Some r.value) (Some m.value) (named x ns)) same j.1)
join_by false ns rs ms tail r m n e j h =
    subst (λ (o : Option Value). UnitesMaybe o (named n ms) (named n ns)) (sym (first_of r (rs ++ tail) n false (ap (λ x. bytes_eq x n) j.0 ∙ e))) (h refl)

only_second : (o : Option Value) → UnitesMaybe o None o
only_second None = tt
only_second (Some x) = refl

joined : (ns rs ms tail : List (Named Value)) (n : List ℕ) → AllJoin ns rs ms → (named n ms ≡ None → named n tail ≡ named n ns) → UnitesMaybe (named n (rs ++ tail)) (named n ms) (named n ns)
joined ns [] [] tail n j g = subst (λ (o : Option Value). UnitesMaybe o None (named n ns)) (sym (g refl)) (only_second (named n ns))
joined ns [] (m ∷ ms) tail n j g = absurd j
joined ns (r ∷ rs) [] tail n j g = absurd j
joined ns (r ∷ rs) (m ∷ ms) tail n j g = join_by (bytes_eq m.name n) ns rs ms tail r m n refl j.0 (λ f. joined ns rs ms tail n j.1 (λ e. g (first_of m ms n false f ∙ e)))

other_by : (t b : Bool) (x : Named Value) (ms ns : List (Named Value)) (n : List ℕ) → has_name x.name ms ≡ t → bytes_eq x.name n ≡ b → named n ms ≡ None → named n (others ms ns) ≡ named n ns → named n (cond t (others ms ns) (x ∷ others ms ns)) ≡ cond b (Some x.value) (named n ns)
other_by true true x ms ns n s e h g = let same : x.name ≡ n = (bytes_eq-Decides x.name n).0 e in let f : has_name x.name ms ≡ false = ap (λ z. has_name z ms) same ∙ (sym (named-has n ms) ∙ ap is_some h) in absurd (cc)
other_by true false x ms ns n s e h g = g
other_by false true x ms ns n s e h g = first_of x (others ms ns) n true e
other_by false false x ms ns n s e h g = first_of x (others ms ns) n false e ∙ g

other_named : (ms ns : List (Named Value)) (n : List ℕ) → named n ms ≡ None → named n (others ms ns) ≡ named n ns
other_named ms [] n h = refl
other_named ms (x ∷ ns) n h = other_by (has_name x.name ms) (bytes_eq x.name n) x ms ns n refl refl h (other_named ms ns n h)

object_below : (rs ms ns : List (Named Value)) → AllJoin ns rs ms → (k : Key) → UnitesMaybe (below (Value-F.Object (rs ++ others ms ns)) k) (below (Value-F.Object ms) k) (below (Value-F.Object ns) k)
object_below rs ms ns h (Index i) = tt
object_below rs ms ns h (Name n) = joined ns rs ms (others ms ns) n h (other_named ms ns n)

pub object_union : (r a b : Value) (rs ms ns : List (Named Value)) → r ≡ v.Object (rs ++ others ms ns) → a ≡ v.Object ms → b ≡ v.Object ns → AllJoin ns rs ms → Unites r a b
object_union r a b rs ms ns e f g h =
    let all = rs ++ others ms ns in
    let er : out-Value r ≡ Value-F.Object all = ap out-Value e ∙ outs-Object all in
    let ea : out-Value a ≡ Value-F.Object ms = ap out-Value f ∙ outs-Object ms in
    let eb : out-Value b ≡ Value-F.Object ns = ap out-Value g ∙ outs-Object ns in
    union_from_layer r a b (ap mark_of er ∙ ap mark_of (sym ea)) (ap mark_of ea ∙ ap mark_of (sym eb))
    (λ k. subst (λ (l : Layer). UnitesMaybe (below l k) (below (out-Value a) k) (below (out-Value b) k)) (sym er)
    (subst (λ (l : Layer). UnitesMaybe (below (Value-F.Object all) k) (below l k) (below (out-Value b) k)) (sym ea)
    (subst (λ (l : Layer). UnitesMaybe (below (Value-F.Object all) k) (below (Value-F.Object ms) k) (below l k)) (sym eb)
    (object_below rs ms ns h k))))

-- the joined members have the names of the first
pub join_names : (k : List ℕ) (ns rs ms : List (Named Value)) → AllJoin ns rs ms → has_name k rs ≡ has_name k ms
join_names k ns [] [] h = refl
join_names k ns [] (m ∷ ms) h = absurd h
join_names k ns (r ∷ rs) [] h = absurd h
join_names k ns (r ∷ rs) (m ∷ ms) h = λ i. bytes_eq (h.0.0 i) k || join_names k ns rs ms h.1 i

pub join_apart : (ns rs ms : List (Named Value)) → AllJoin ns rs ms → apart rs ≡ apart ms
join_apart ns [] [] h = refl
join_apart ns [] (m ∷ ms) h = absurd h
join_apart ns (r ∷ rs) [] h = absurd h
join_apart ns (r ∷ rs) (m ∷ ms) h = λ i. not (first_name i) && join_apart ns rs ms h.1 i where
  first_name : has_name r.name rs ≡ has_name m.name ms
  first_name = ap (λ k. has_name k rs) h.0.0 ∙ join_names m.name ns rs ms h.1

pub join_last : (ns rs ms : List (Named Value)) (r m : Named Value) → AllJoin ns rs ms → Joins ns r m → AllJoin ns (rs ++ r ∷ []) (ms ++ m ∷ [])
join_last ns [] [] r m h j = (j, tt)
join_last ns [] (x ∷ ms) r m h j = absurd h
join_last ns (x ∷ rs) [] r m h j = absurd h
join_last ns (x ∷ rs) (y ∷ ms) r m h j = (h.0, join_last ns rs ms r m h.1 j)

-- ---- steps of the loops

pub union_step : (rs new xs ys : List Value) (i : ℕ) (r x y : Value) → new ≡ rs ++ r ∷ [] → x ≡ get_or xs i x → y ≡ get_or ys i y → i < length xs → i < length ys → UnitesItems rs (take i xs) (take i ys) → Unites r x y → UnitesItems new (take (i + 1) xs) (take (i + 1) ys)
union_step rs new xs ys i r x y e f g lx ly h u =
    let tx : take (i + 1) xs ≡ take i xs ++ x ∷ [] = take_more xs i x lx ∙ ap (λ z. take i xs ++ z ∷ []) (sym f) in
    let ty : take (i + 1) ys ≡ take i ys ++ y ∷ [] = take_more ys i y ly ∙ ap (λ z. take i ys ++ z ∷ []) (sym g) in
    rw (e, tx, ty) (union_last rs (take i xs) (take i ys) r x y h u)

pub join_step : (ns rs new ms : List (Named Value)) (i : ℕ) (r m : Named Value) → new ≡ rs ++ r ∷ [] → m ≡ get_or ms i m → i < length ms → AllJoin ns rs (take i ms) → Joins ns r m → AllJoin ns new (take (i + 1) ms)
join_step ns rs new ms i r m e f lt h j =
    let t : take (i + 1) ms ≡ take i ms ++ m ∷ [] = take_more ms i m lt ∙ ap (λ z. take i ms ++ z ∷ []) (sym f) in
    rw (e, t) (join_last ns rs (take i ms) r m h j)

-- ---- clashes

pub clash_here : (a b : Value) → (mark_of (out-Value a) ≡ mark_of (out-Value b) → ⊥) → Conflict a b
clash_here a b h = ([], mark_of (out-Value a), mark_of (out-Value b), refl, refl, h)

pub clash_below : (a b x y : Value) (k : Key) → below (out-Value a) k ≡ Some x → below (out-Value b) k ≡ Some y → Conflict x y → Conflict a b
clash_below a b x y k e f c = (k ∷ c.0, c.1, c.2, ap (at_path c.0) e ∙ c.3, ap (at_path c.0) f ∙ c.4, c.5)

pub items_clash : (a b : Value) (xs : List Value) → a ≡ v.List xs → ItemsClash xs (items_of (out-Value b)) → Conflict a b
items_clash a b xs f c = clash_below a b c.1 c.2 (Index c.0) (ap (λ zs. slice_get zs c.0) (ap items_of (ap out-Value f ∙ outs-List xs)) ∙ c.3) c.4 c.5

pub members_clash : (a b : Value) (ms ns : List (Named Value)) → a ≡ v.Object ms → b ≡ v.Object ns → MembersClash ms ns → Conflict a b
members_clash a b ms ns f g c = clash_below a b c.1 c.2 (Name c.0) (ap (named c.0) (ap members_of (ap out-Value f ∙ outs-Object ms)) ∙ c.3) (ap (named c.0) (ap members_of (ap out-Value g ∙ outs-Object ns)) ∙ c.4) c.5

named_at : (ms : List (Named Value)) (k : ℕ) (d : Named Value) → Distinct ms → k < length ms → named (get_or ms k d).name ms ≡ Some (get_or ms k d).value
named_at [] k d s lt = absurd (omega arith)
named_at (m ∷ ms) zero d s lt = named_first m ms
named_at (m ∷ ms) (suc k) d s lt = named_skip m ms _ _ s.0 (named_at ms k d s.1 (omega arith))

pub member_clash : (ms ns : List (Named Value)) (i : ℕ) (m : Named Value) → IsTrue (apart ms) → m ≡ get_or ms i m → i < length ms → ConflictMaybe m.value (named m.name ns) → MembersClash ms ns
member_clash ms ns i m d f lt c = (m.name, m.value, c.0, subst (λ (x : Named Value). named x.name ms ≡ Some x.value) (sym f) (named_at ms i m (distinct_of ms d) lt), c.1, c.2)

-- what two differ in at one path, no union has
pub union_agrees : (r a b : Marks) → IsUnion r a b → Clashes a b → ⊥
union_agrees r a b h c = c.5 (some_one c.1 c.2 (sym ((h c.0 c.1).1 (inl c.3)) ∙ (h c.0 c.2).1 (inr c.4)))

pub ok_map : {T E : Type 0} (r : Result T E) (P Q : T → Type 0) → ((x : T) → P x → Q x) → IfOk r P → IfOk r Q
ok_map (Ok x) P Q f h = f x h
ok_map (Err e) P Q f h = h

-- ---- the members of other names

others_at : (ms ns : List (Named Value)) (i : ℕ) (n : Named Value) → n ≡ get_or ns i n → i < length ns → others ms (drop i ns) ≡ cond (has_name n.name ms) (others ms (drop (suc i) ns)) (n ∷ others ms (drop (suc i) ns))
others_at ms [] i n e lt = absurd (omega arith)
others_at ms (x ∷ ns) zero n e lt = ap (λ y. cond (has_name y.name ms) (others ms ns) (y ∷ others ms ns)) (sym e)
others_at ms (x ∷ ns) (suc i) n e lt = others_at ms ns i n e (omega arith)

others_next : (b : Bool) (ms ns : List (Named Value)) (i : ℕ) (n : Named Value) → n ≡ get_or ns i n → i < length ns → has_name n.name ms ≡ b → others ms (drop i ns) ≡ cond b (others ms (drop (i + 1) ns)) (n ∷ others ms (drop (i + 1) ns))
others_next b ms ns i n e lt h = rw add-one (others_at ms ns i n e lt ∙ ap (λ t. cond t (others ms (drop (suc i) ns)) (n ∷ others ms (drop (suc i) ns))) h)

pub others_skipped : (ms ns us whole : List (Named Value)) (i : ℕ) (n : Named Value) → n ≡ get_or ns i n → i < length ns → has_name n.name ms ≡ true → us ++ others ms (drop i ns) ≡ whole → us ++ others ms (drop (i + 1) ns) ≡ whole
others_skipped ms ns us whole i n e lt h g = ap (λ xs. us ++ xs) (sym (others_next true ms ns i n e lt h)) ∙ g

pub others_pushed : (ms ns us whole : List (Named Value)) (i : ℕ) (n : Named Value) → n ≡ get_or ns i n → i < length ns → has_name n.name ms ≡ false → us ++ others ms (drop i ns) ≡ whole → (us ++ n ∷ []) ++ others ms (drop (i + 1) ns) ≡ whole
others_pushed ms ns us whole i n e lt h g = append_assoc us (n ∷ []) (others ms (drop (i + 1) ns)) ∙ (ap (λ xs. us ++ xs) (sym (others_next false ms ns i n e lt h)) ∙ g)
