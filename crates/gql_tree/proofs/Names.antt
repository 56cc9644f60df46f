-- A member whose name is none of the others' keeps the names apart.
use Rattle.std.proofs.Common.{◌≡◌, ℕ, zero, suc, ◌+◌, ◌<◌, Option, Some, None, cond, List, [], ◌∷◌, ◌++◌, length, get_or, take, refl, sym, ◌∙◌, ap, Bool, true, false, IsTrue, arith}
use Rattle.std.specs.Prelude.{not, ◌||◌, ◌&&◌, slice_set, position}
use Rattle.std.proofs.lemmas.Iterator.Adapters.{position_from-zero}
use Rattle.std.specs.List.{position_from}
use Rattle.std.specs.Str.{bytes_eq}
use Rattle.std.proofs.lemmas.Slice.Eq.{bytes_eq-Decides}
use Rattle.gql_tree.specs.declared.fields.Named.{Named}
use Rattle.gql_tree.specs.Names.{has_name, apart, put_named}

pub either : (a b : Bool) → a || b ≡ false → (a ≡ false) × (b ≡ false)
either true b h = absurd (cc)
either false b h = (refl, h)

pub both : (a b : Bool) → IsTrue (not a && b) → (a ≡ false) × IsTrue b
both true b h = absurd (cc)
both false b h = (refl, h)

pub from_both : (a b : Bool) → a ≡ false → IsTrue b → IsTrue (not a && b)
from_both true b h k = absurd (cc)
from_both false b h k = k

turned : (a b : List ℕ) (c : Bool) → bytes_eq b a ≡ c → bytes_eq a b ≡ false → c ≡ false
turned a b true e h = let same : b ≡ a = (bytes_eq-Decides b a).0 e in let t : bytes_eq a b ≡ true = (bytes_eq-Decides a b).1 (sym same) in absurd (cc)
turned a b false e h = refl

has_push : {X : Type 0} (n : List ℕ) (es : List (Named X)) (e : Named X) → has_name n es ≡ false → bytes_eq e.name n ≡ false → has_name n (es ++ e ∷ []) ≡ false
has_push n [] e h k = ap (λ b. b || false) k
has_push n (x ∷ xs) e h k =
    let p = either (bytes_eq x.name n) (has_name n xs) h in
    ap (λ b. b || has_name n (xs ++ e ∷ [])) p.0 ∙ has_push n xs e p.1 k

pub apart_push : {X : Type 0} (es : List (Named X)) (e : Named X) → IsTrue (apart es) → has_name e.name es ≡ false → IsTrue (apart (es ++ e ∷ []))
apart_push [] e h k = refl
apart_push (x ∷ xs) e h k =
    let p = either (bytes_eq x.name e.name) (has_name e.name xs) k in
    let q = both (has_name x.name xs) (apart xs) h in
    from_both _ _ (has_push x.name xs e q.0 (turned x.name e.name _ refl p.0)) (apart_push xs e q.1 p.1)

none_before : {X : Type 0} (es : List (Named X)) (i : ℕ) (d : Named X) (n : List ℕ) → i < length es → has_name n es ≡ false → bytes_eq (get_or es i d).name n ≡ false
none_before [] i d n lt h = absurd (omega arith)
none_before (x ∷ xs) zero d n lt h = (either (bytes_eq x.name n) (has_name n xs) h).0
none_before (x ∷ xs) (suc i) d n lt h = none_before xs i d n (omega arith) (either (bytes_eq x.name n) (has_name n xs) h).1

pub from_neither : (a b : Bool) → a ≡ false → b ≡ false → a || b ≡ false
from_neither a b h k = rw (h, k) refl

-- none of the members before one has its name
pub has_name-take : {X : Type 0} (es : List (Named X)) (i : ℕ) (d : Named X) → i < length es → IsTrue (apart es) → has_name (get_or es i d).name (take i es) ≡ false
has_name-take [] i d lt h = absurd (omega arith)
has_name-take (x ∷ xs) zero d lt h = refl
has_name-take (x ∷ xs) (suc i) d lt h =
    let q = both (has_name x.name xs) (apart xs) h in
    let within : i < length xs = omega arith in
    from_neither _ _ (turned (get_or xs i d).name x.name _ refl (none_before xs i d x.name within q.0)) (has_name-take xs i d within q.1)

-- ---- a value put under a name

module _ {X : Type 0} (n : List ℕ) (x : X) where
  abbrev Has : Named X → Bool
  Has e = bytes_eq e.name n

  -- the member with the value in place of its own
  abbrev pub with_value : Named X → Named X
  with_value e = record { name = e.name; value = x }

  -- put in the place of the first of the name
  abbrev PutsAt : ℕ → List (Named X) → ℕ → Named X → Type 0
  PutsAt k es at d = (j : ℕ) × (at ≡ k + j) × (j < length es) × (put_named n x es ≡ slice_set es j (with_value (get_or es j d)))

  put_by : (b : Bool) (e : Named X) (es : List (Named X)) (k at : ℕ) (d : Named X) → (position_from Has (k + 1) es ≡ Some at → PutsAt (k + 1) es at d) → cond b (Some k) (position_from Has (k + 1) es) ≡ Some at → (j : ℕ) × (at ≡ k + j) × (j < suc (length es)) × (cond b (with_value e ∷ es) (e ∷ put_named n x es) ≡ slice_set (e ∷ es) j (with_value (get_or (e ∷ es) j d)))
  put_by true e es k at d h is = let same : k ≡ at = cc in (0, omega arith, omega arith, refl)
  put_by false e es k at d h is = let p = h is in (suc p.0, omega (arith, p.1), omega (arith, p.2), ap (λ xs. e ∷ xs) p.3)

  put_named-set_from : (es : List (Named X)) (k at : ℕ) (d : Named X) → position_from Has k es ≡ Some at → PutsAt k es at d
  put_named-set_from [] k at d is = absurd (cc)
  put_named-set_from (e ∷ es) k at d is = put_by (Has e) e es k at d (put_named-set_from es (k + 1) at d) is

  none_by : (b : Bool) (e : Named X) (es : List (Named X)) (k : ℕ) → (position_from Has (k + 1) es ≡ None → (has_name n es ≡ false) × (put_named n x es ≡ es ++ record { name = n; value = x } ∷ [])) → cond b (Some k) (position_from Has (k + 1) es) ≡ None → (b || has_name n es ≡ false) × (cond b (with_value e ∷ es) (e ∷ put_named n x es) ≡ e ∷ (es ++ record { name = n; value = x } ∷ []))
  none_by true e es k h is = absurd (cc)
  none_by false e es k h is = let p = h is in (p.0, ap (λ xs. e ∷ xs) p.1)

  pub put_named-append : (es : List (Named X)) (k : ℕ) → position_from Has k es ≡ None → (has_name n es ≡ false) × (put_named n x es ≡ es ++ record { name = n; value = x } ∷ [])
  put_named-append [] k is = (refl, refl)
  put_named-append (e ∷ es) k is = none_by (Has e) e es k (put_named-append es (k + 1)) is

  pub put_named-set : (es : List (Named X)) (at : ℕ) (d : Named X) → position_from Has 0 es ≡ Some at → (at < length es) × (put_named n x es ≡ slice_set es at (with_value (get_or es at d)))
  put_named-set es at d is =
      let p = put_named-set_from es 0 at d is in
      let same : p.0 ≡ at = omega (arith, p.1) in
      (omega (arith, p.1, p.2), p.3 ∙ ap (λ j. slice_set es j (with_value (get_or es j d))) same)

  has_name-set : (k : List ℕ) (es : List (Named X)) (i : ℕ) (d : Named X) → i < length es → has_name k (slice_set es i (with_value (get_or es i d))) ≡ has_name k es
  has_name-set k [] i d lt = absurd (omega arith)
  has_name-set k (e ∷ es) zero d lt = refl
  has_name-set k (e ∷ es) (suc i) d lt = ap (λ b. bytes_eq e.name k || b) (has_name-set k es i d (omega arith))

  -- a change of one value keeps the names
  pub apart-set : (es : List (Named X)) (i : ℕ) (d : Named X) → i < length es → apart (slice_set es i (with_value (get_or es i d))) ≡ apart es
  apart-set [] i d lt = absurd (omega arith)
  apart-set (e ∷ es) zero d lt = refl
  apart-set (e ∷ es) (suc i) d lt =
      let within : i < length es = omega arith in
      rw (has_name-set e.name es i d within, apart-set es i d within) refl

-- where a search by name found it, as a search from the front
pub position-by_name : {X : Type 0} (es ms : List (Named X)) (n m : List ℕ) (r : Option ℕ) → ms ≡ es → m ≡ n → r ≡ position (λ e. bytes_eq e.name m) ms → position_from (λ e. bytes_eq e.name n) 0 es ≡ r
position-by_name {X} es ms n m r a b h = sym (h ∙ (position_from-zero (λ (e : Named X). bytes_eq e.name m) ms ∙ (ap (λ k. position_from (λ (e : Named X). bytes_eq e.name k) 0 ms) b ∙ ap (λ xs. position_from (λ (e : Named X). bytes_eq e.name n) 0 xs) a)))

-- a value under a new name comes last
pub put_named-fresh : {X : Type 0} (n : List ℕ) (x : X) (es : List (Named X)) → has_name n es ≡ false → put_named n x es ≡ es ++ record { name = n; value = x } ∷ []
put_named-fresh n x [] h = refl
put_named-fresh n x (e ∷ es) h =
    let p = either (bytes_eq e.name n) (has_name n es) h in
    ap (λ b. cond b (record { name = e.name; value = x } ∷ es) (e ∷ put_named n x es)) p.0 ∙ ap (λ xs. e ∷ xs) (put_named-fresh n x es p.1)
