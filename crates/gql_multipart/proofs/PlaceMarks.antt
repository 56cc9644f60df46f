-- Steps towards a mark, and through what ends a delimiter line.
use Rattle.std.proofs.Common.{◌≡◌, ℕ, suc, ◌+◌, ◌-◌, ◌<◌, ◌≤◌, true, false, ◌==◌, nat_le, if◌then◌else◌, IsTrue, List, [], ◌∷◌, ◌++◌, length, get_or, take, refl, sym, ap, ◌∙◌, subst, arith, append-nil, eqb-true, take_all, leb-true, leb-false}
use Rattle.std.proofs.lemmas.Bool.{eqb-false}
use Rattle.std.specs.List.{AllByRecursion as Each}
use Rattle.gql_multipart.specs.Frame.{crlf}
use Rattle.gql_multipart.specs.declared.place.Place.TheVariants.{Mark, Blanks, LastFeed}
use Rattle.gql_multipart.specs.declared.place.Moved.TheVariants.{Go, Whole, Bad}
use Rattle.gql_multipart.specs.Body.{blank_byte}
use Rattle.gql_multipart.specs.inner.Reading.{mark_step, matched_step, missed as missed_step, spend, blank_step}
use Rattle.gql_multipart.proofs.Lists.{by_test, from_test, NoCr}
use Rattle.gql_multipart.proofs.Seeking.{Finds, missed, unmissed, taken, found_first, strip, unstrip}
use Rattle.gql_multipart.proofs.Places.{sought, Completes, Moves, quiet_tail, cc_heads}

-- ---- a mark

-- a byte that isn't the mark's next
missed_on : (boundary : List ℕ) → NoCr boundary → (room j b : ℕ) (w : List ℕ) (k : ℕ) → j + k ≤ room → Finds (sought boundary) (b ∷ w) k → Moves boundary w (if b == 13 then missed_step room j 1 else missed_step room (j + 1) 0)
missed_on boundary n room j b w k l f =
    by_test (Moves boundary w) (b == 13) (missed_step room j 1) (missed_step room (j + 1) 0)
    (λ e. by_test (Moves boundary w) (nat_le j room) (Go (Mark (room - j) 1)) Bad
    (λ r. (k, (let P : ℕ → Type 0 = λ x. Finds (sought boundary) (x ∷ w) k in subst P (eqb-true b 13 e) f), omega (arith, leb-true j room r)))
    (λ r. absurd (omega (arith, leb-false j room r))))
    (λ e.
    let one = strip (10 ∷ 45 ∷ 45 ∷ boundary) (b ∷ []) w k (eqb-false b 13 e, tt) f in
    by_test (Moves boundary w) (nat_le (j + 1) room) (Go (Mark (room - (j + 1)) 0)) Bad
    (λ r. (one.0, one.2, omega (arith, one.1, leb-true (j + 1) room r)))
    (λ r. absurd (omega (arith, one.1, leb-false (j + 1) room r))))

pub mark_on : (boundary : List ℕ) → NoCr boundary → (room j b : ℕ) (w : List ℕ) → j < length (sought boundary) → Completes boundary (Mark room j) (b ∷ w) → Moves boundary w (mark_step (sought boundary) room j b)
mark_on boundary n room j b w l c =
    let m = sought boundary in
    by_test (Moves boundary w) (get_or m j 0 == b) (matched_step m room j) (if b == 13 then missed_step room j 1 else missed_step room (j + 1) 0)
    (λ e.
    let P : List ℕ → Type 0 = λ text. Finds m text c.0 in
    let f : Finds m (take (j + 1) m ++ w) c.0 = subst P (taken m j b w l (eqb-true (get_or m j 0) b e)) c.1 in
    by_test (Moves boundary w) (j + 1 == length m) Whole (Go (Mark room (j + 1)))
    (λ d.
    let whole : take (j + 1) m ≡ m = take_all (j + 1) m (omega (arith, eqb-true (j + 1) (length m) d)) in
    let Q : List ℕ → Type 0 = λ text. Finds m (text ++ w) c.0 in
    found_first (10 ∷ 45 ∷ 45 ∷ boundary) w c.0 (subst Q whole f))
    (λ d. (c.0, f, c.2)))
    (λ e.
    let k = missed (10 ∷ 45 ∷ 45 ∷ boundary) j b w c.0 (quiet_tail boundary n) l (eqb-false (get_or m j 0) b e) c.1 in
    missed_on boundary n room j b w k.0 (omega (arith, k.1, c.2)) k.2)

missed_back : (boundary : List ℕ) → NoCr boundary → (room j b : ℕ) (w : List ℕ) → Moves boundary w (if b == 13 then missed_step room j 1 else missed_step room (j + 1) 0) → (k : ℕ) × (j + k ≤ room) × Finds (sought boundary) (b ∷ w) k
missed_back boundary n room j b w v =
    from_test (Moves boundary w) (b == 13) (missed_step room j 1) (missed_step room (j + 1) 0) v
    (λ e u. from_test (Moves boundary w) (nat_le j room) (Go (Mark (room - j) 1)) Bad u
    (λ r c. (c.0, omega (arith, c.2, leb-true j room r), (let P : ℕ → Type 0 = λ x. Finds (sought boundary) (x ∷ w) c.0 in subst P (sym (eqb-true b 13 e)) c.1)))
    (λ r c. absurd c))
    (λ e u. from_test (Moves boundary w) (nat_le (j + 1) room) (Go (Mark (room - (j + 1)) 0)) Bad u
    (λ r c. (suc c.0, omega (arith, c.2, leb-true (j + 1) room r), unstrip (10 ∷ 45 ∷ 45 ∷ boundary) (b ∷ []) w c.0 (suc c.0) (eqb-false b 13 e, tt) (omega arith) c.1))
    (λ r c. absurd c))

pub mark_back : (boundary : List ℕ) → NoCr boundary → (room j b : ℕ) (w : List ℕ) → j < length (sought boundary) → Moves boundary w (mark_step (sought boundary) room j b) → Completes boundary (Mark room j) (b ∷ w)
mark_back boundary n room j b w l v =
    let m = sought boundary in
    from_test (Moves boundary w) (get_or m j 0 == b) (matched_step m room j) (if b == 13 then missed_step room j 1 else missed_step room (j + 1) 0) v
    (λ e u.
    let moved = taken m j b w l (eqb-true (get_or m j 0) b e) in
    from_test (Moves boundary w) (j + 1 == length m) Whole (Go (Mark room (j + 1))) u
    (λ d c. (0, moved ∙ (ap (λ z. z ++ w) (take_all (j + 1) m (omega (arith, eqb-true (j + 1) (length m) d))) ∙ (ap (λ z. m ++ z) c ∙ append-nil m)), omega arith))
    (λ d c. (let P : List ℕ → Type 0 = λ text. Finds m text c.0 in (c.0, subst P (sym moved) c.1, c.2))))
    (λ e u.
    let k = missed_back boundary n room j b w u in
    (j + k.0, unmissed (10 ∷ 45 ∷ 45 ∷ boundary) j b w k.0 (j + k.0) (quiet_tail boundary n) l (eqb-false (get_or m j 0) b e) refl k.2, k.1))

-- ---- the end of a delimiter line

blank_first : (b : ℕ) → IsTrue (blank_byte b) → b ≡ 13 → ⊥
blank_first b h e = let P : ℕ → Type 0 = λ x. IsTrue (blank_byte x) in let bad : IsTrue (blank_byte 13) = subst P e h in absurd cc

pub blank_on : (boundary : List ℕ) (room b : ℕ) (w : List ℕ) → Completes boundary (Blanks room) (b ∷ w) → Moves boundary w (blank_step room b)
blank_on boundary room b w (blanks, each, few, e) = blank_on_by boundary room b w blanks each few e
  where
    blank_on_by : (boundary : List ℕ) (room b : ℕ) (w blanks : List ℕ) → Each (λ b. IsTrue (blank_byte b)) blanks → length blanks ≤ room → b ∷ w ≡ blanks ++ crlf → Moves boundary w (blank_step room b)
    blank_on_by boundary room b w [] each few e =
        let h = cc_heads b 13 w (10 ∷ []) e in
        by_test (Moves boundary w) (b == 13) (Go LastFeed) (if blank_byte b then spend room 0 Blanks else Bad)
        (λ d. h.1)
        (λ d. absurd (eqb-false b 13 d h.0))
    blank_on_by boundary room b w (x ∷ blanks) each few e =
        let h = cc_heads b x w (blanks ++ crlf) e in
        let P : ℕ → Type 0 = λ x. IsTrue (blank_byte x) in
        let is_blank : IsTrue (blank_byte b) = subst P (sym h.0) each.0 in
        by_test (Moves boundary w) (b == 13) (Go LastFeed) (if blank_byte b then spend room 0 Blanks else Bad)
        (λ d. absurd (blank_first b is_blank (eqb-true b 13 d)))
        (λ d. by_test (Moves boundary w) (blank_byte b) (spend room 0 Blanks) Bad
        (λ _. by_test (Moves boundary w) (nat_le (0 + 1) room) (Go (Blanks (room - 1))) Bad
        (λ r. (blanks, each.1, omega arith, h.1))
        (λ r. absurd (omega (arith, leb-false (0 + 1) room r))))
        (λ not_blank. absurd (let bad : true ≡ false = sym is_blank ∙ not_blank in cc)))

pub blank_back : (boundary : List ℕ) (room b : ℕ) (w : List ℕ) → Moves boundary w (blank_step room b) → Completes boundary (Blanks room) (b ∷ w)
blank_back boundary room b w v =
    from_test (Moves boundary w) (b == 13) (Go LastFeed) (if blank_byte b then spend room 0 Blanks else Bad) v
    (λ e c. ([], tt, omega arith, (let first : b ≡ 13 = eqb-true b 13 e in cc)))
    (λ e u. from_test (Moves boundary w) (blank_byte b) (spend room 0 Blanks) Bad u
    (λ d s. from_test (Moves boundary w) (nat_le (0 + 1) room) (Go (Blanks (room - 1))) Bad s
    (λ r c. (b ∷ c.0, (d, c.1), omega (arith, c.2, leb-true (0 + 1) room r), ap (λ z. b ∷ z) c.3))
    (λ r c. absurd c))
    (λ d c. absurd c))
