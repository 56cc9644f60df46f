-- A change of one value, or more members of other names, keep the names apart.
use Rattle.std.proofs.Common.{◌≡◌, ℕ, List, [], ◌∷◌, ◌++◌, refl, sym, ◌∙◌, ap, Bool, true, false, cond, IsTrue}
use Rattle.std.specs.Prelude.{not, ◌||◌, ◌&&◌}
use Rattle.std.specs.Str.{bytes_eq}
use Rattle.std.proofs.lemmas.Slice.Eq.{bytes_eq-Decides}
use Rattle.gql_tree.specs.declared.fields.Named.{Named}
use Rattle.gql_tree.specs.declared.value.Value.{Value}
use Rattle.gql_tree.specs.Names.{has_name, apart}
use Rattle.gql_tree.specs.inner.Place.{change_named}
use Rattle.gql_tree.specs.inner.United.{others}
use Rattle.gql_tree.proofs.Names.{either, both, from_both}

has_by : (b : Bool) (k : List ℕ) (n : List ℕ) (f : Value → Value) (m : Named Value) (ms : List (Named Value)) → has_name k (change_named n f ms) ≡ has_name k ms → has_name k (cond b (record { name = m.name; value = f m.value } ∷ ms) (m ∷ change_named n f ms)) ≡ bytes_eq m.name k || has_name k ms
has_by true k n f m ms h = refl
has_by false k n f m ms h = ap (λ b. bytes_eq m.name k || b) h

has_changed : (k n : List ℕ) (f : Value → Value) (ms : List (Named Value)) → has_name k (change_named n f ms) ≡ has_name k ms
has_changed k n f [] = refl
has_changed k n f (m ∷ ms) = has_by (bytes_eq m.name n) k n f m ms (has_changed k n f ms)

apart_by : (b : Bool) (n : List ℕ) (f : Value → Value) (m : Named Value) (ms : List (Named Value)) → apart (change_named n f ms) ≡ apart ms → apart (cond b (record { name = m.name; value = f m.value } ∷ ms) (m ∷ change_named n f ms)) ≡ not (has_name m.name ms) && apart ms
apart_by true n f m ms h = refl
apart_by false n f m ms h = λ i. not (has_changed m.name n f ms i) && h i

-- a change of one value keeps the names
pub apart_changed : (n : List ℕ) (f : Value → Value) (ms : List (Named Value)) → apart (change_named n f ms) ≡ apart ms
apart_changed n f [] = refl
apart_changed n f (m ∷ ms) = apart_by (bytes_eq m.name n) n f m ms (apart_changed n f ms)

or_true : (a b : Bool) → b ≡ true → a || b ≡ true
or_true true b h = refl
or_true false b h = h

or_first : (a b : Bool) → a ≡ true → a || b ≡ true
or_first true b h = refl
or_first false b h = absurd (cc)

neither : (a b : Bool) → a ≡ false → b ≡ false → a || b ≡ false
neither true b h k = absurd (cc)
neither false b h k = k

has_append : (k : List ℕ) (xs ys : List (Named Value)) → has_name k xs ≡ false → has_name k ys ≡ false → has_name k (xs ++ ys) ≡ false
has_append k [] ys h g = g
has_append k (x ∷ xs) ys h g = let p = either (bytes_eq x.name k) (has_name k xs) h in neither _ _ p.0 (has_append k xs ys p.1 g)

apart_append : (xs ys : List (Named Value)) → IsTrue (apart xs) → IsTrue (apart ys) → ((k : List ℕ) → has_name k xs ≡ true → has_name k ys ≡ false) → IsTrue (apart (xs ++ ys))
apart_append [] ys h g d = g
apart_append (x ∷ xs) ys h g d =
    let p = both (has_name x.name xs) (apart xs) h in
    from_both _ _ (has_append x.name xs ys p.0 (d x.name (or_first _ _ ((bytes_eq-Decides x.name x.name).1 refl)))) (apart_append xs ys p.1 g (λ k e. d k (or_true _ _ e)))

fewer_by : (b : Bool) (k : List ℕ) (n : Named Value) (ms os : List (Named Value)) → bytes_eq n.name k ≡ false → has_name k os ≡ false → has_name k (cond b os (n ∷ os)) ≡ false
fewer_by true k n ms os h g = g
fewer_by false k n ms os h g = neither _ _ h g

fewer : (k : List ℕ) (ms ns : List (Named Value)) → has_name k ns ≡ false → has_name k (others ms ns) ≡ false
fewer k ms [] h = refl
fewer k ms (n ∷ ns) h = let p = either (bytes_eq n.name k) (has_name k ns) h in fewer_by (has_name n.name ms) k n ms (others ms ns) p.0 (fewer k ms ns p.1)

unlike : (b : Bool) (k : List ℕ) (n : Named Value) (ms : List (Named Value)) → bytes_eq n.name k ≡ b → has_name k ms ≡ true → has_name n.name ms ≡ false → b ≡ false
unlike true k n ms e h g = let same : n.name ≡ k = (bytes_eq-Decides n.name k).0 e in let f = ap (λ m. has_name m ms) same in absurd (cc)
unlike false k n ms e h g = refl

none_by : (b : Bool) (k : List ℕ) (n : Named Value) (ms os : List (Named Value)) → has_name n.name ms ≡ b → has_name k ms ≡ true → has_name k os ≡ false → has_name k (cond b os (n ∷ os)) ≡ false
none_by true k n ms os e h g = g
none_by false k n ms os e h g = neither _ _ (unlike (bytes_eq n.name k) k n ms refl h e) g

others_none : (k : List ℕ) (ms ns : List (Named Value)) → has_name k ms ≡ true → has_name k (others ms ns) ≡ false
others_none k ms [] h = refl
others_none k ms (n ∷ ns) h = none_by (has_name n.name ms) k n ms (others ms ns) refl h (others_none k ms ns h)

others_by : (b : Bool) (n : Named Value) (ms os : List (Named Value)) → has_name n.name os ≡ false → IsTrue (apart os) → IsTrue (apart (cond b os (n ∷ os)))
others_by true n ms os h g = g
others_by false n ms os h g = from_both _ _ h g

others_apart : (ms ns : List (Named Value)) → IsTrue (apart ns) → IsTrue (apart (others ms ns))
others_apart ms [] h = refl
others_apart ms (n ∷ ns) h = let p = both (has_name n.name ns) (apart ns) h in others_by (has_name n.name ms) n ms (others ms ns) (fewer n.name ms ns p.0) (others_apart ms ns p.1)

pub joined_apart : (rs ms ns : List (Named Value)) → ((k : List ℕ) → has_name k rs ≡ has_name k ms) → IsTrue (apart rs) → IsTrue (apart ns) → IsTrue (apart (rs ++ others ms ns))
joined_apart rs ms ns same h g = apart_append rs (others ms ns) h (others_apart ms ns g) (λ k e. others_none k ms ns (sym (same k) ∙ e))
