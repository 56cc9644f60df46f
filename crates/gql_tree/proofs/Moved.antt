-- What stands where after a value was put at a path.
use Rattle.std.proofs.Common.{◌≡◌, ℕ, zero, suc, ◌⊎◌, inl, inr, List, [], ◌∷◌, ◌++◌, length, refl, sym, subst, ◌∙◌, ap, Bool, true, false, cond, Some, None, Option, arith}
use Rattle.std.specs.Prelude.{slice_get, option_and_then, option_map, ◌==◌}
use Rattle.std.specs.Str.{bytes_eq}
use Rattle.std.proofs.lemmas.Slice.Eq.{bytes_eq-Decides}
use Rattle.std.proofs.lemmas.Bool.Decides.{Decides-eqb, nat_tests}
use Rattle.gql_tree.specs.declared.path.Key.{Key}
use Rattle.gql_tree.specs.declared.path.Key.TheVariants.{Name, Index}
use Rattle.gql_tree.specs.declared.fields.Named.{Named}
use Rattle.gql_tree.specs.declared.value.Value.{Value, out-Value, out-roll-Value}
use Rattle.gql_tree.specs.declared.value.Value.TheOpen.{Value-F}
use Rattle.gql_tree.specs.Keys.{same_key}
use Rattle.gql_tree.specs.Names.{named}
use Rattle.gql_tree.specs.Flat.{Layer, Mark, mark_of, list, below, find, flat}
use Rattle.gql_tree.specs.inner.Place.{change_item, change_named, change_below, put_at}
use Rattle.gql_tree.specs.Union.{Marks, moved}
use Rattle.gql_tree.proofs.Place.{with_value}
use Rattle.gql_tree.proofs.Put.{below_changed, first_test, find_put}

-- ---- what a change below keeps

length_kept : (f : Value → Value) (i : ℕ) (vs : List Value) → length (change_item i f vs) ≡ length vs
length_kept f i [] = refl
length_kept f zero (v ∷ vs) = refl
length_kept f (suc i) (v ∷ vs) = ap suc (length_kept f i vs)

mark_kept : (k : Key) (f : Value → Value) (l : Layer) → mark_of (change_below k f l) ≡ mark_of l
mark_kept (Index i) f Value-F.Null = refl
mark_kept (Index i) f (Value-F.Bool b) = refl
mark_kept (Index i) f (Value-F.Int z) = refl
mark_kept (Index i) f (Value-F.Text t) = refl
mark_kept (Index i) f (Value-F.List xs) = ap list (length_kept f i xs)
mark_kept (Index i) f (Value-F.Object ms) = refl
mark_kept (Name n) f Value-F.Null = refl
mark_kept (Name n) f (Value-F.Bool b) = refl
mark_kept (Name n) f (Value-F.Int z) = refl
mark_kept (Name n) f (Value-F.Text t) = refl
mark_kept (Name n) f (Value-F.List xs) = refl
mark_kept (Name n) f (Value-F.Object ms) = refl

eq_suc : (i j : ℕ) → (suc i == suc j) ≡ false → (i == j) ≡ false
eq_suc i j h = grind (arith, nat_tests)

item_other : (f : Value → Value) (i j : ℕ) (vs : List Value) → (i == j) ≡ false → slice_get (change_item i f vs) j ≡ slice_get vs j
item_other f i j [] h = refl
item_other f zero zero (v ∷ vs) h = let e = (Decides-eqb 0 0).1 refl in absurd (cc)
item_other f zero (suc j) (v ∷ vs) h = refl
item_other f (suc i) zero (v ∷ vs) h = refl
item_other f (suc i) (suc j) (v ∷ vs) h = item_other f i j vs (eq_suc i j h)

other_by : (b c : Bool) (f : Value → Value) (m : Named Value) (ms : List (Named Value)) (k n : List ℕ) → bytes_eq m.name k ≡ b → bytes_eq m.name n ≡ c → bytes_eq k n ≡ false → named n (change_named k f ms) ≡ named n ms → named n (cond b (with_value m f ∷ ms) (m ∷ change_named k f ms)) ≡ cond c (Some m.value) (named n ms)
other_by true true f m ms k n e g h r =
    let same : m.name ≡ k = (bytes_eq-Decides m.name k).0 e in
    let also : m.name ≡ n = (bytes_eq-Decides m.name n).0 g in
    let both : bytes_eq k n ≡ true = (bytes_eq-Decides k n).1 (sym same ∙ also) in absurd (cc)
other_by true false f m ms k n e g h r = first_test (with_value m f) ms n false g
other_by false true f m ms k n e g h r = first_test m (change_named k f ms) n true g
other_by false false f m ms k n e g h r = first_test m (change_named k f ms) n false g ∙ r

pub named_other : (f : Value → Value) (k n : List ℕ) (ms : List (Named Value)) → bytes_eq k n ≡ false → named n (change_named k f ms) ≡ named n ms
named_other f k n [] h = refl
named_other f k n (m ∷ ms) h = other_by (bytes_eq m.name k) (bytes_eq m.name n) f m ms k n refl refl h (named_other f k n ms h)

pub below_other : (k l : Key) (f : Value → Value) (a : Layer) → same_key k l ≡ false → below (change_below k f a) l ≡ below a l
below_other (Index i) (Index j) f Value-F.Null h = refl
below_other (Index i) (Index j) f (Value-F.Bool b) h = refl
below_other (Index i) (Index j) f (Value-F.Int z) h = refl
below_other (Index i) (Index j) f (Value-F.Text t) h = refl
below_other (Index i) (Index j) f (Value-F.List xs) h = item_other f i j xs h
below_other (Index i) (Index j) f (Value-F.Object ns) h = refl
below_other (Index i) (Name n) f Value-F.Null h = refl
below_other (Index i) (Name n) f (Value-F.Bool b) h = refl
below_other (Index i) (Name n) f (Value-F.Int z) h = refl
below_other (Index i) (Name n) f (Value-F.Text t) h = refl
below_other (Index i) (Name n) f (Value-F.List xs) h = refl
below_other (Index i) (Name n) f (Value-F.Object ns) h = refl
below_other (Name m) (Index j) f Value-F.Null h = refl
below_other (Name m) (Index j) f (Value-F.Bool b) h = refl
below_other (Name m) (Index j) f (Value-F.Int z) h = refl
below_other (Name m) (Index j) f (Value-F.Text t) h = refl
below_other (Name m) (Index j) f (Value-F.List xs) h = refl
below_other (Name m) (Index j) f (Value-F.Object ns) h = refl
below_other (Name m) (Name n) f Value-F.Null h = refl
below_other (Name m) (Name n) f (Value-F.Bool b) h = refl
below_other (Name m) (Name n) f (Value-F.Int z) h = refl
below_other (Name m) (Name n) f (Value-F.Text t) h = refl
below_other (Name m) (Name n) f (Value-F.List xs) h = refl
below_other (Name m) (Name n) f (Value-F.Object ns) h = named_other f m n ns h

pub key_same : (k l : Key) → same_key k l ≡ true → k ≡ l
key_same (Index i) (Index j) h = ap Index ((Decides-eqb i j).0 h)
key_same (Index i) (Name n) h = absurd (cc)
key_same (Name m) (Index j) h = absurd (cc)
key_same (Name m) (Name n) h = ap Name ((bytes_eq-Decides m n).0 h)

-- ---- paths that begin with another

same_bytes : (n : List ℕ) → bytes_eq n n ≡ true
same_bytes n = (bytes_eq-Decides n n).1 refl

pub same_key-refl : (k : Key) → same_key k k ≡ true
same_key-refl (Index i) = (Decides-eqb i i).1 refl
same_key-refl (Name n) = same_bytes n

-- behind the path stands the map itself
pub moved-append : (path : List Key) (a : Marks) (q : List Key) → moved path a (path ++ q) ≡ a q
moved-append [] a q = refl
moved-append (k ∷ ks) a q = ap (λ b. cond b (moved ks a (ks ++ q)) None) (same_key-refl k) ∙ moved-append ks a q

-- what is moved stands behind the path
behind_by : (b : Bool) (k l : Key) (ks ls : List Key) (a : Marks) (m : Mark) → same_key k l ≡ b → (moved ks a ls ≡ Some m → (q : List Key) × (ls ≡ ks ++ q) × (a q ≡ Some m)) → cond b (moved ks a ls) None ≡ Some m → (q : List Key) × (l ∷ ls ≡ k ∷ (ks ++ q)) × (a q ≡ Some m)
behind_by true k l ks ls a m e h g = let p = h g in (p.0, (λ i. sym (key_same k l e) i ∷ p.1 i), p.2)
behind_by false k l ks ls a m e h g = absurd (cc)

pub moved_behind : (path p : List Key) (a : Marks) (m : Mark) → moved path a p ≡ Some m → (q : List Key) × (p ≡ path ++ q) × (a q ≡ Some m)
moved_behind [] p a m h = (p, refl, h)
moved_behind (k ∷ ks) [] a m h = absurd (cc)
moved_behind (k ∷ ks) (l ∷ ls) a m h = behind_by (same_key k l) k l ks ls a m refl (moved_behind ks ls a m) h

abbrev at_path : List Key → Option Value → Option Mark
at_path path o = option_map (λ w. mark_of (out-Value w)) (option_and_then (λ w. find w path) o)

under : (o : Option Value) (ks q : List Key) (w : Value) → ((c : Value) → find c ks ≡ Some w → flat c (ks ++ q) ≡ flat w q) → option_and_then (λ x. find x ks) o ≡ Some w → at_path (ks ++ q) o ≡ flat w q
under None ks q w h e = absurd (cc)
under (Some c) ks q w h e = h c e

-- below a path stands what stands in the value there
pub flat-append : (path q : List Key) (v w : Value) → find v path ≡ Some w → flat v (path ++ q) ≡ flat w q
flat-append [] q v w e = let same : v ≡ w = cc in ap (λ x. flat x q) same
flat-append (k ∷ ks) q v w e = under (below (out-Value v) k) ks q w (λ c f. flat-append ks q c w f) e

pub flat-put_at : (path q : List Key) (u v w : Value) → find v path ≡ Some w → flat (put_at path u v) (path ++ q) ≡ flat u q
flat-put_at path q u v w e = flat-append path q (put_at path u v) u (find_put path u v (rw e refl))

-- ---- a path goes through the place, or passes it by

abbrev Elsewhere : List Key → Value → Value → List Key → Type 0
Elsewhere path u v p = ((f : Marks) → moved path f p ≡ None) × (flat (put_at path u v) p ≡ flat v p)

abbrev pub Where : List Key → Value → Value → List Key → Type 0
Where path u v p = ((q : List Key) × (p ≡ path ++ q)) ⊎ Elsewhere path u v p

-- one level of a put value
put_layer : (k : Key) (ks : List Key) (u v : Value) → out-Value (put_at (k ∷ ks) u v) ≡ change_below k (put_at ks u) (out-Value v)
put_layer k ks u v = out-roll-Value (change_below k (put_at ks u) (out-Value v))

deeper : (k : Key) (ks ls : List Key) (u v c : Value) → below (out-Value v) k ≡ Some c → Where ks u c ls → Where (k ∷ ks) u v (k ∷ ls)
deeper k ks ls u v c e (inl p) = inl (p.0, ap (λ r. k ∷ r) p.1)
deeper k ks ls u v c e (inr p) = inr (
  (λ f. ap (λ b. cond b (moved ks f ls) None) (same_key-refl k) ∙ p.0 f),
  ap (λ l. at_path ls (below l k)) (put_layer k ks u v)
      ∙ (ap (at_path ls) (below_changed k (put_at ks u) (out-Value v))
      ∙ (ap (λ o. at_path ls (option_map (put_at ks u) o)) e ∙ (p.1 ∙ ap (at_path ls) (sym e)))),
)

through : (o : Option Value) (k : Key) (ks ls : List Key) (u v w : Value) → below (out-Value v) k ≡ o → ((c : Value) → find c ks ≡ Some w → Where ks u c ls) → option_and_then (λ x. find x ks) o ≡ Some w → Where (k ∷ ks) u v (k ∷ ls)
through None k ks ls u v w e h g = absurd (cc)
through (Some c) k ks ls u v w e h g = deeper k ks ls u v c e (h c g)

where_by : (b : Bool) (k l : Key) (ks ls : List Key) (u v : Value) → same_key k l ≡ b → Where (k ∷ ks) u v (k ∷ ls) → Where (k ∷ ks) u v (l ∷ ls)
where_by true k l ks ls u v e h = subst (λ (x : Key). Where (k ∷ ks) u v (x ∷ ls)) (key_same k l e) h
where_by false k l ks ls u v e h = inr (
  (λ f. ap (λ b. cond b (moved ks f ls) None) e),
  ap (λ a. at_path ls (below a l)) (put_layer k ks u v) ∙ ap (at_path ls) (below_other k l (put_at ks u) (out-Value v) e),
)

-- a path begins with the place's, or has the mark that it had
pub where_at : (path p : List Key) (u v w : Value) → find v path ≡ Some w → Where path u v p
where_at [] p u v w e = inl (p, refl)
where_at (k ∷ ks) [] u v w e = inr ((λ f. refl), ap Some (ap mark_of (put_layer k ks u v) ∙ mark_kept k (put_at ks u) (out-Value v)))
where_at (k ∷ ks) (l ∷ ls) u v w e = where_by (same_key k l) k l ks ls u v refl (through (below (out-Value v) k) k ks ls u v w refl (λ c f. where_at ks ls u c w f) e)
