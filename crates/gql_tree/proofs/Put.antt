-- What a change at a path keeps.
use Rattle.std.proofs.Common.{◌≡◌, ℕ, zero, suc, List, [], ◌∷◌, refl, sym, subst, ◌∙◌, ap, Bool, true, false, cond, Some, None, Option, IsSome}
use Rattle.std.specs.Prelude.{slice_get, option_and_then, option_map}
use Rattle.std.specs.Str.{bytes_eq}
use Rattle.gql_tree.specs.declared.path.Key.{Key}
use Rattle.gql_tree.specs.declared.path.Key.TheVariants.{Name, Index}
use Rattle.gql_tree.specs.declared.value.Value.{Value, out-Value, roll-Value, out-roll-Value, roll-out-Value}
use Rattle.gql_tree.specs.declared.value.Value.TheOpen.{Value-F}
use Rattle.gql_tree.specs.declared.fields.Named.{Named}
use Rattle.gql_tree.specs.Flat.{Layer, below, find}
use Rattle.gql_tree.specs.Names.{named}
use Rattle.gql_tree.specs.inner.Place.{change_item, change_named, change_below, put_at}
use Rattle.gql_tree.proofs.Place.{with_value}

-- ---- the place changed is the place read

item_changed : (f : Value → Value) (i : ℕ) (vs : List Value) → slice_get (change_item i f vs) i ≡ option_map f (slice_get vs i)
item_changed f i [] = refl
item_changed f zero (v ∷ vs) = refl
item_changed f (suc i) (v ∷ vs) = item_changed f i vs

pub first_test : (m : Named Value) (ms : List (Named Value)) (n : List ℕ) (b : Bool) → bytes_eq m.name n ≡ b → named n (m ∷ ms) ≡ cond b (Some m.value) (named n ms)
first_test m ms n b e = ap (λ x. cond x (Some m.value) (named n ms)) e

named_by : (b : Bool) (f : Value → Value) (m : Named Value) (ms : List (Named Value)) (n : List ℕ) → bytes_eq m.name n ≡ b → named n (change_named n f ms) ≡ option_map f (named n ms) → named n (cond b (with_value m f ∷ ms) (m ∷ change_named n f ms)) ≡ option_map f (cond b (Some m.value) (named n ms))
named_by true f m ms n e h = first_test (with_value m f) ms n true e
named_by false f m ms n e h = first_test m (change_named n f ms) n false e ∙ h

pub named_changed : (f : Value → Value) (n : List ℕ) (ms : List (Named Value)) → named n (change_named n f ms) ≡ option_map f (named n ms)
named_changed f n [] = refl
named_changed f n (m ∷ ms) = named_by (bytes_eq m.name n) f m ms n refl (named_changed f n ms)

pub below_changed : (k : Key) (f : Value → Value) (l : Layer) → below (change_below k f l) k ≡ option_map f (below l k)
below_changed (Index i) f Value-F.Null = refl
below_changed (Index i) f (Value-F.Bool b) = refl
below_changed (Index i) f (Value-F.Int n) = refl
below_changed (Index i) f (Value-F.Text t) = refl
below_changed (Index i) f (Value-F.List items) = item_changed f i items
below_changed (Index i) f (Value-F.Object members) = refl
below_changed (Name n) f Value-F.Null = refl
below_changed (Name n) f (Value-F.Bool b) = refl
below_changed (Name n) f (Value-F.Int z) = refl
below_changed (Name n) f (Value-F.Text t) = refl
below_changed (Name n) f (Value-F.List items) = refl
below_changed (Name n) f (Value-F.Object members) = named_changed f n members

put_in : (a : Option Value) (f : Value → Value) (ks : List Key) (w : Value) → ((c : Value) → a ≡ Some c → find (f c) ks ≡ Some w) → IsSome a → option_and_then (λ x. find x ks) (option_map f a) ≡ Some w
put_in None f ks w h s = absurd (cc)
put_in (Some c) f ks w h s = h c refl

some_of : (a : Option Value) (ks : List Key) → IsSome (option_and_then (λ x. find x ks) a) → IsSome a
some_of None ks h = h
some_of (Some v) ks h = refl

some_in : (a : Option Value) (ks : List Key) (c : Value) → IsSome (option_and_then (λ x. find x ks) a) → a ≡ Some c → IsSome (find c ks)
some_in a ks c h e = subst (λ (o : Option Value). IsSome (option_and_then (λ x. find x ks) o)) e h

-- what was put at a path stands there
pub find_put : (ks : List Key) (w v : Value) → IsSome (find v ks) → find (put_at ks w v) ks ≡ Some w
find_put [] w v h = refl
find_put (k ∷ ks) w v h =
    ap (λ l. option_and_then (λ x. find x ks) (below l k)) (out-roll-Value (change_below k (put_at ks w) (out-Value v)))
    ∙ (ap (option_and_then (λ x. find x ks)) (below_changed k (put_at ks w) (out-Value v))
    ∙ put_in (below (out-Value v) k) (put_at ks w) ks w (λ c e. find_put ks w c (some_in (below (out-Value v) k) ks c h e)) (some_of (below (out-Value v) k) ks h))

-- ---- putting twice

item_twice : (f g : Value → Value) (i : ℕ) (vs : List Value) → change_item i f (change_item i g vs) ≡ change_item i (λ x. f (g x)) vs
item_twice f g i [] = refl
item_twice f g zero (v ∷ vs) = refl
item_twice f g (suc i) (v ∷ vs) = ap (λ xs. v ∷ xs) (item_twice f g i vs)

first_changed : (f : Value → Value) (m : Named Value) (ms : List (Named Value)) (n : List ℕ) (b : Bool) → bytes_eq m.name n ≡ b → change_named n f (m ∷ ms) ≡ cond b (with_value m f ∷ ms) (m ∷ change_named n f ms)
first_changed f m ms n b e = ap (λ x. cond x (with_value m f ∷ ms) (m ∷ change_named n f ms)) e

twice_by : (b : Bool) (f g : Value → Value) (m : Named Value) (ms : List (Named Value)) (n : List ℕ) → bytes_eq m.name n ≡ b → change_named n f (change_named n g ms) ≡ change_named n (λ x. f (g x)) ms → change_named n f (cond b (with_value m g ∷ ms) (m ∷ change_named n g ms)) ≡ cond b (with_value m (λ x. f (g x)) ∷ ms) (m ∷ change_named n (λ x. f (g x)) ms)
twice_by true f g m ms n e h = first_changed f (with_value m g) ms n true e
twice_by false f g m ms n e h = first_changed f m (change_named n g ms) n false e ∙ ap (λ xs. m ∷ xs) h

named_twice : (f g : Value → Value) (n : List ℕ) (ms : List (Named Value)) → change_named n f (change_named n g ms) ≡ change_named n (λ x. f (g x)) ms
named_twice f g n [] = refl
named_twice f g n (m ∷ ms) = twice_by (bytes_eq m.name n) f g m ms n refl (named_twice f g n ms)

below_twice : (k : Key) (f g : Value → Value) (l : Layer) → change_below k f (change_below k g l) ≡ change_below k (λ x. f (g x)) l
below_twice (Index i) f g Value-F.Null = refl
below_twice (Index i) f g (Value-F.Bool b) = refl
below_twice (Index i) f g (Value-F.Int n) = refl
below_twice (Index i) f g (Value-F.Text t) = refl
below_twice (Index i) f g (Value-F.List items) = ap Value-F.List (item_twice f g i items)
below_twice (Index i) f g (Value-F.Object members) = refl
below_twice (Name n) f g Value-F.Null = refl
below_twice (Name n) f g (Value-F.Bool b) = refl
below_twice (Name n) f g (Value-F.Int z) = refl
below_twice (Name n) f g (Value-F.Text t) = refl
below_twice (Name n) f g (Value-F.List items) = refl
below_twice (Name n) f g (Value-F.Object members) = ap Value-F.Object (named_twice f g n members)

-- the second put decides
pub put_twice : (ks : List Key) (w u v : Value) → put_at ks w (put_at ks u v) ≡ put_at ks w v
put_twice [] w u v = refl
put_twice (k ∷ ks) w u v =
    ap (λ l. roll-Value (change_below k (put_at ks w) l)) (out-roll-Value (change_below k (put_at ks u) (out-Value v)))
    ∙ (ap roll-Value (below_twice k (put_at ks w) (put_at ks u) (out-Value v))
    ∙ ap (λ f. roll-Value (change_below k f (out-Value v))) (λ i x. put_twice ks w u x i))

-- ---- putting back

item_back : (f : Value → Value) (i : ℕ) (vs : List Value) → ((c : Value) → slice_get vs i ≡ Some c → f c ≡ c) → change_item i f vs ≡ vs
item_back f i [] h = refl
item_back f zero (v ∷ vs) h = ap (λ x. x ∷ vs) (h v refl)
item_back f (suc i) (v ∷ vs) h = ap (λ xs. v ∷ xs) (item_back f i vs h)

with_back : (m : Named Value) (f : Value → Value) → f m.value ≡ m.value → with_value m f ≡ m
with_back m f h = ap (λ x. record { name = m.name; value = x }) h

back_by : (b : Bool) (f : Value → Value) (m : Named Value) (ms : List (Named Value)) (n : List ℕ) → ((c : Value) → cond b (Some m.value) (named n ms) ≡ Some c → f c ≡ c) → (((c : Value) → named n ms ≡ Some c → f c ≡ c) → change_named n f ms ≡ ms) → cond b (with_value m f ∷ ms) (m ∷ change_named n f ms) ≡ m ∷ ms
back_by true f m ms n h g = ap (λ x. x ∷ ms) (with_back m f (h m.value refl))
back_by false f m ms n h g = ap (λ xs. m ∷ xs) (g h)

named_back : (f : Value → Value) (n : List ℕ) (ms : List (Named Value)) → ((c : Value) → named n ms ≡ Some c → f c ≡ c) → change_named n f ms ≡ ms
named_back f n [] h = refl
named_back f n (m ∷ ms) h = back_by (bytes_eq m.name n) f m ms n h (named_back f n ms)

below_back : (k : Key) (f : Value → Value) (l : Layer) → ((c : Value) → below l k ≡ Some c → f c ≡ c) → change_below k f l ≡ l
below_back (Index i) f Value-F.Null h = refl
below_back (Index i) f (Value-F.Bool b) h = refl
below_back (Index i) f (Value-F.Int n) h = refl
below_back (Index i) f (Value-F.Text t) h = refl
below_back (Index i) f (Value-F.List items) h = ap Value-F.List (item_back f i items h)
below_back (Index i) f (Value-F.Object members) h = refl
below_back (Name n) f Value-F.Null h = refl
below_back (Name n) f (Value-F.Bool b) h = refl
below_back (Name n) f (Value-F.Int z) h = refl
below_back (Name n) f (Value-F.Text t) h = refl
below_back (Name n) f (Value-F.List items) h = refl
below_back (Name n) f (Value-F.Object members) h = ap Value-F.Object (named_back f n members h)

some_one : (a b : Value) → Some a ≡ Some b → b ≡ a
some_one a b e = cc

-- what stood at the path, put back, changes nothing
pub put_back : (ks : List Key) (w v : Value) → find v ks ≡ Some w → put_at ks w v ≡ v
put_back [] w v h = some_one v w h
put_back (k ∷ ks) w v h =
    ap roll-Value (below_back k (put_at ks w) (out-Value v) (λ c e. put_back ks w c (ap (option_and_then (λ x. find x ks)) (sym e) ∙ h)))
    ∙ roll-out-Value v
