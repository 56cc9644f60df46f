-- What completes a region from a place on, and that a byte's step keeps it.
use Rattle.std.proofs.Common.{◌≡◌, ℕ, zero, suc, ◌+◌, ◌≤◌, true, false, ◌==◌, IsTrue, List, [], ◌∷◌, ◌++◌, length, get_or, take, drop, Option, Some, None, refl, sym, ap, ◌∙◌, arith, eqb-true, codes}
use Rattle.std.proofs.lemmas.List.{drop_more, drop_all}
use Rattle.std.proofs.lemmas.Bool.{eqb-false}
use Rattle.std.specs.List.{AllByRecursion as Each, concat}
use Rattle.gql_multipart.specs.Frame.{crlf}
use Rattle.gql_multipart.specs.declared.place.Place.{Place}
use Rattle.gql_multipart.specs.declared.place.Place.TheVariants.{Mark, Blanks, Line, Name, Value, FieldFeed, LastFeed}
use Rattle.gql_multipart.specs.declared.place.Moved.{Moved}
use Rattle.gql_multipart.specs.declared.place.Moved.TheVariants.{Go, Whole, Bad}
use Rattle.gql_multipart.specs.Body.{mark, blank_byte, token_byte, value_byte, IsHeaderLine}
use Rattle.gql_multipart.specs.inner.Reading.{IsShort, bar, clashes}
use Rattle.gql_multipart.proofs.Lists.{by_test, from_test, NoCr, NoCr-at}
use Rattle.gql_multipart.proofs.Seeking.{Finds}

-- CRLF and the mark
abbrev pub sought : List ℕ → List ℕ
sought boundary = crlf ++ mark boundary

-- the bytes don't go on with what is barred
abbrev pub Avoids : List ℕ → Option ℕ → List ℕ → Type 0
Avoids boundary None w = Unit {0}
Avoids boundary (Some k) w = (rest : List ℕ) → w ≡ drop k (sought boundary) ++ rest → ⊥

-- ends a line in its name, and in its value
abbrev pub NameRest : List ℕ → Option ℕ → List ℕ → Type 0
NameRest boundary barred x = (name value : List ℕ)
    × Each (λ b. IsTrue (token_byte b)) name
    × Each (λ b. IsTrue (value_byte b)) value
    × (x ≡ name ++ (codes ":" ++ (value ++ crlf)))
    × Avoids boundary barred x

abbrev pub ValueRest : List ℕ → Option ℕ → List ℕ → Type 0
ValueRest boundary barred x = (value : List ℕ)
    × Each (λ b. IsTrue (value_byte b)) value
    × (x ≡ value ++ crlf)
    × Avoids boundary barred x

-- the rest of a line, further lines and the empty line, with so much room for the lines
abbrev pub Block : List ℕ → ℕ → List ℕ → List ℕ → Type 0
Block boundary room x w = (lines : List (List ℕ))
    × Each (IsHeaderLine boundary) lines
    × (length x + length (concat lines) ≤ room)
    × (w ≡ x ++ (concat lines ++ crlf))

-- the bytes that complete the region of a place
abbrev pub Completes : List ℕ → Place → List ℕ → Type 0
Completes boundary (Mark room j) w = (q : ℕ) × Finds (sought boundary) (take j (sought boundary) ++ w) q × (q ≤ room)
Completes boundary (Blanks room) w = (blanks : List ℕ) × Each (λ b. IsTrue (blank_byte b)) blanks × (length blanks ≤ room) × (w ≡ blanks ++ crlf)
Completes boundary (Line room) w = Block boundary room [] w
Completes boundary (Name room barred) w = (x : List ℕ) × NameRest boundary barred x × Block boundary room x w
Completes boundary (Value room barred) w = (x : List ℕ) × ValueRest boundary barred x × Block boundary room x w
Completes boundary (FieldFeed room) w = Block boundary room (10 ∷ []) w
Completes boundary LastFeed w = w ≡ 10 ∷ []

abbrev pub Moves : List ℕ → List ℕ → Moved → Type 0
Moves boundary w (Go place) = Completes boundary place w
Moves boundary w Whole = w ≡ []
Moves boundary w Bad = ⊥

pub quiet_tail : (boundary : List ℕ) → NoCr boundary → NoCr (10 ∷ 45 ∷ 45 ∷ boundary)
quiet_tail boundary n = ((λ e. absurd cc), ((λ e. absurd cc), ((λ e. absurd cc), n)))

-- ---- what is barred

pub cc_heads : (x y : ℕ) (xs ys : List ℕ) → x ∷ xs ≡ y ∷ ys → (x ≡ y) × (xs ≡ ys)
cc_heads x y xs ys e = (cc, cc)

pub bar_on : (boundary : List ℕ) (barred : Option ℕ) (b : ℕ) (w : List ℕ) → IsShort (sought boundary) barred → Avoids boundary barred (b ∷ w) → Avoids boundary (bar (sought boundary) barred b) w
bar_on boundary None b w s a = tt
bar_on boundary (Some k) b w s a =
    by_test (λ o. Avoids boundary o w) (get_or (sought boundary) k 0 == b) (Some (k + 1)) None
    (λ e rest p. a rest (rw (drop_more (sought boundary) k 0 s, eqb-true (get_or (sought boundary) k 0) b e) (ap (λ z. b ∷ z) p)))
    (λ e. tt)

pub bar_back : (boundary : List ℕ) (barred : Option ℕ) (b : ℕ) (w : List ℕ) → IsShort (sought boundary) barred → Avoids boundary (bar (sought boundary) barred b) w → Avoids boundary barred (b ∷ w)
bar_back boundary None b w s a = tt
bar_back boundary (Some k) b w s a =
    λ rest p.
    let q : b ∷ w ≡ get_or (sought boundary) k 0 ∷ (drop (k + 1) (sought boundary) ++ rest) = p ∙ ap (λ z. z ++ rest) (drop_more (sought boundary) k 0 s) in
    let h = cc_heads _ _ _ _ q in
    from_test (λ o. Avoids boundary o w) (get_or (sought boundary) k 0 == b) (Some (k + 1)) None a
    (λ e av. av rest h.1)
    (λ e _. eqb-false (get_or (sought boundary) k 0) b e (sym h.0))

-- where a mark has come whole, its bytes weren't avoided
pub no_clash : (boundary : List ℕ) (barred : Option ℕ) (w : List ℕ) → Avoids boundary barred w → clashes (sought boundary) barred ≡ true → ⊥
no_clash boundary None w a e = absurd cc
no_clash boundary (Some k) w a e =
    a w (rw (drop_all k (sought boundary) (omega (arith, eqb-true k (length (sought boundary)) e))) refl)

-- what is barred is short again, where nothing clashes
pub bar_short : (m : List ℕ) (barred : Option ℕ) (b : ℕ) → IsShort m barred → clashes m (bar m barred b) ≡ false → IsShort m (bar m barred b)
bar_short m None b s e = tt
bar_short m (Some k) b s e =
    by_test (λ o. clashes m o ≡ false → IsShort m o) (get_or m k 0 == b) (Some (k + 1)) None
    (λ t f. let far : k + 1 ≡ length m → ⊥ = eqb-false (k + 1) (length m) f in omega arith)
    (λ t f. tt) e

-- the end of a line has nothing that is barred
pub Avoids-crlf : (boundary : List ℕ) (barred : Option ℕ) → NoCr boundary → IsShort (sought boundary) barred → Avoids boundary barred crlf
Avoids-crlf boundary None n s = tt
Avoids-crlf boundary (Some zero) n s = λ rest e. absurd cc
Avoids-crlf boundary (Some (suc k)) n s = λ rest e.
    let q : 13 ∷ 10 ∷ [] ≡ get_or (10 ∷ mark boundary) k 0 ∷ (drop (k + 1) (10 ∷ mark boundary) ++ rest) = e ∙ ap (λ z. z ++ rest) (drop_more (10 ∷ mark boundary) k 0 (omega arith)) in
    NoCr-at (10 ∷ mark boundary) k (quiet_tail boundary n) (omega arith) (sym (cc_heads _ _ _ _ q).0)
