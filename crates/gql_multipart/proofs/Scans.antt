-- A region is read byte by byte as its relation says.
use Rattle.std.proofs.Common.{◌≡◌, ℕ, zero, suc, ◌+◌, ◌-◌, ◌<◌, ◌≤◌, Bool, true, false, ◌==◌, ◌&&◌, nat_le, if◌then◌else◌, List, [], ◌∷◌, ◌++◌, length, get_or, take, drop, Option, Some, None, Result, Ok, Err, refl, sym, ap, ap₂, ◌∙◌, subst, arith, append-nil, length-append, take-append-drop, length-take-le, eqb-true, eq-eqb, add-one, ◌⊎◌, inl, inr, leb-true}
use Rattle.std.proofs.lemmas.Bool.{eqb-false}
use Rattle.std.proofs.lemmas.List.{drop_more}
use Rattle.std.specs.List.{concat}
use Rattle.gql_multipart.specs.Frame.{crlf}
use Rattle.gql_multipart.specs.declared.refusal.FrameKind.{FrameKind}
use Rattle.gql_multipart.specs.declared.place.Place.{Place}
use Rattle.gql_multipart.specs.declared.place.Place.TheVariants.{Mark, Blanks, Line, Name, Value, FieldFeed, LastFeed}
use Rattle.gql_multipart.specs.declared.place.Moved.{Moved}
use Rattle.gql_multipart.specs.declared.place.Moved.TheVariants.{Go, Whole, Bad}
use Rattle.gql_multipart.specs.declared.read.Stop.{Stop}
use Rattle.gql_multipart.specs.declared.read.Stop.TheVariants.{More, Ended, Refused}
use Rattle.gql_multipart.specs.Body.{mark}
use Rattle.gql_multipart.specs.Regions.{Inside}
use Rattle.gql_multipart.specs.inner.Reading.{IsShort, IsAlive, step, matched_step, missed, spend, bar, clashes, name_need, named, valued, went, scan}
use Rattle.gql_multipart.proofs.Lists.{by_test, from_test, NoCr, NoCr-at}
use Rattle.gql_multipart.proofs.Seeking.{Finds}
use Rattle.gql_multipart.proofs.Places.{sought, Avoids, Completes, Moves, bar_short, cc_heads, quiet_tail, Avoids-crlf}
use Rattle.gql_multipart.proofs.PlaceMarks.{mark_on, mark_back, blank_on, blank_back}
use Rattle.gql_multipart.proofs.PlaceLines.{line_on, line_back, name_on, name_back, value_on, value_back, feed_on, feed_back, last_on, last_back, both}

-- ---- places from which a region can be completed

abbrev pub Alive : List ℕ → Place → Type 0
Alive boundary place = IsAlive (sought boundary) place

abbrev pub StaysAlive : List ℕ → Moved → Type 0
StaysAlive m (Go place) = IsAlive m place
StaysAlive m Whole = Unit {0}
StaysAlive m Bad = Unit {0}

spends : (m : List ℕ) (room need : ℕ) (place : ℕ → Place) → (need + 1 ≤ room → IsAlive m (place (room - 1))) → StaysAlive m (spend room need place)
spends m room need place alive = by_test (StaysAlive m) (nat_le (need + 1) room) (Go (place (room - 1))) Bad (λ r. alive (leb-true (need + 1) room r)) (λ r. tt)

named_alive : (m : List ℕ) (room : ℕ) (barred : Option ℕ) (b : ℕ) → IsShort m barred → StaysAlive m (named m room (bar m barred b))
named_alive m room barred b s =
    let c = bar m barred b in
    by_test (StaysAlive m) (clashes m c) Bad (spend room (name_need m c) (λ r. Name r c))
    (λ t. tt)
    (λ t. spends m room (name_need m c) (λ r. Name r c) (λ l. (bar_short m barred b s t, omega arith)))

valued_alive : (m : List ℕ) (room : ℕ) (barred : Option ℕ) (b : ℕ) → IsShort m barred → StaysAlive m (valued m room (bar m barred b))
valued_alive m room barred b s =
    let c = bar m barred b in
    by_test (StaysAlive m) (clashes m c) Bad (spend room 2 (λ r. Value r c))
    (λ t. tt)
    (λ t. spends m room 2 (λ r. Value r c) (λ l. (bar_short m barred b s t, omega arith)))

missed_alive : (m : List ℕ) (room n j : ℕ) → j < length m → StaysAlive m (missed room n j)
missed_alive m room n j l = by_test (StaysAlive m) (nat_le n room) (Go (Mark (room - n) j)) Bad (λ t. omega arith) (λ t. tt)

-- a step leads to such a place
pub step_alive : (m : List ℕ) (place : Place) (b : ℕ) → 2 < length m → IsAlive m place → StaysAlive m (step m place b)
step_alive m (Mark room j) b long a =
    let P = StaysAlive m in
    by_test P (get_or m j 0 == b) (matched_step m room j) (if b == 13 then missed room j 1 else missed room (j + 1) 0)
    (λ t. by_test P (j + 1 == length m) Whole (Go (Mark room (j + 1))) (λ e. tt) (λ e. let far : j + 1 ≡ length m → ⊥ = eqb-false (j + 1) (length m) e in omega arith))
    (λ t. by_test P (b == 13) (missed room j 1) (missed room (j + 1) 0) (λ e. missed_alive m room j 1 (omega arith)) (λ e. missed_alive m room (j + 1) 0 (omega arith)))
step_alive m (Blanks room) b long a =
    let P = StaysAlive m in
    by_test P (b == 13) (Go LastFeed) _ (λ t. tt) (λ t. by_test P _ (spend room 0 Blanks) Bad (λ e. spends m room 0 Blanks (λ l. tt)) (λ e. tt))
step_alive m (Line room) b long a =
    let P = StaysAlive m in
    by_test P (b == 13) (Go LastFeed) _ (λ t. tt) (λ t. by_test P _ (named m room (bar m (Some 2) b)) Bad (λ e. named_alive m room (Some 2) b (omega arith)) (λ e. tt))
step_alive m (Name room barred) b long a =
    let P = StaysAlive m in
    by_test P (b == 58) (valued m room (bar m barred b)) _ (λ t. valued_alive m room barred b a.0) (λ t. by_test P _ (named m room (bar m barred b)) Bad (λ e. named_alive m room barred b a.0) (λ e. tt))
step_alive m (Value room barred) b long a =
    let P = StaysAlive m in
    by_test P (b == 13) (spend room 1 FieldFeed) _ (λ t. spends m room 1 FieldFeed (λ l. omega arith)) (λ t. by_test P _ (valued m room (bar m barred b)) Bad (λ e. valued_alive m room barred b a.0) (λ e. tt))
step_alive m (FieldFeed room) b long a = by_test (StaysAlive m) (b == 10) (spend room 0 Line) Bad (λ t. spends m room 0 Line (λ l. tt)) (λ t. tt)
step_alive m LastFeed b long a = by_test (StaysAlive m) (b == 10) Whole Bad (λ t. tt) (λ t. tt)

-- ---- the relation, one byte on and back

pub step_on : (boundary : List ℕ) → NoCr boundary → (place : Place) (b : ℕ) (w : List ℕ) → Alive boundary place → Completes boundary place (b ∷ w) → Moves boundary w (step (sought boundary) place b)
step_on boundary n (Mark room j) b w a c = mark_on boundary n room j b w a c
step_on boundary n (Blanks room) b w a c = blank_on boundary room b w c
step_on boundary n (Line room) b w a c = line_on boundary room b w c
step_on boundary n (Name room barred) b w a c = name_on boundary room barred b w a.0 c
step_on boundary n (Value room barred) b w a c = value_on boundary room barred b w a.0 c
step_on boundary n (FieldFeed room) b w a c = feed_on boundary room b w c
step_on boundary n LastFeed b w a c = last_on boundary b w c

pub step_back : (boundary : List ℕ) → NoCr boundary → (place : Place) (b : ℕ) (w : List ℕ) → Alive boundary place → Moves boundary w (step (sought boundary) place b) → Completes boundary place (b ∷ w)
step_back boundary n (Mark room j) b w a c = mark_back boundary n room j b w a c
step_back boundary n (Blanks room) b w a c = blank_back boundary room b w c
step_back boundary n (Line room) b w a c = line_back boundary room b w c
step_back boundary n (Name room barred) b w a c = name_back boundary room barred b w a.0 c
step_back boundary n (Value room barred) b w a c = value_back boundary room barred b w n a.0 c
step_back boundary n (FieldFeed room) b w a c = feed_back boundary room b w c
step_back boundary n LastFeed b w a c = last_back boundary b w c

-- ---- a whole region is not nothing, and each place has one

finds_length : (m text : List ℕ) (q : ℕ) → Finds m text q → length text ≡ q + length m
finds_length m text zero f = ap length f ∙ omega arith
finds_length m [] (suc q) f = absurd f
finds_length m (x ∷ text) (suc q) f = omega (arith, finds_length m text q f.1)

pub not_whole : (boundary : List ℕ) (place : Place) → Alive boundary place → Completes boundary place [] → ⊥
not_whole boundary (Mark room j) a (q, f, l) = omega (arith, finds_length (sought boundary) (take j (sought boundary) ++ []) q f, length-append (take j (sought boundary)) [], length-take-le j (sought boundary) (omega arith))
not_whole boundary (Blanks room) a (blanks, each, l, e) = omega (arith, ap length e, length-append blanks crlf)
not_whole boundary (Line room) a (lines, each, l, e) = omega (arith, ap length e, length-append (concat lines) crlf)
not_whole boundary (Name room barred) a (x, h, (lines, each, l, e)) = omega (arith, ap length e, length-append x (concat lines ++ crlf), length-append (concat lines) crlf)
not_whole boundary (Value room barred) a (x, h, (lines, each, l, e)) = omega (arith, ap length e, length-append x (concat lines ++ crlf), length-append (concat lines) crlf)
not_whole boundary (FieldFeed room) a (lines, each, l, e) = absurd cc
not_whole boundary LastFeed a e = absurd cc

-- a colon and CRLF where no colon ends a mark
colon_avoids : (boundary : List ℕ) (barred : Option ℕ) → NoCr boundary → IsShort (sought boundary) barred → name_need (sought boundary) barred ≡ 3 → Avoids boundary barred (58 ∷ crlf)
colon_avoids boundary None n s need = tt
colon_avoids boundary (Some k) n s need =
    λ rest e.
    let m = sought boundary in
    let q : 58 ∷ crlf ≡ get_or m k 0 ∷ (drop (k + 1) m ++ rest) = e ∙ ap (λ z. z ++ rest) (drop_more m k 0 s) in
    let h = cc_heads 58 (get_or m k 0) crlf (drop (k + 1) m ++ rest) q in
    from_test (λ i. i ≡ 3) ((k + 1 == length m) && (get_or m k 0 == 58)) 4 3 need
    (λ t p. absurd (omega arith))
    (λ t p. further boundary k n s (sym h.0) t rest h.1)
  where
    further : (boundary : List ℕ) (k : ℕ) → NoCr boundary → k < length (sought boundary) → get_or (sought boundary) k 0 ≡ 58 → ((k + 1 == length (sought boundary)) && (get_or (sought boundary) k 0 == 58)) ≡ false → (rest : List ℕ) → crlf ≡ drop (k + 1) (sought boundary) ++ rest → ⊥
    further boundary k n s colon t rest e =
        by_test {A = Bool} (λ _. ⊥) (k + 1 == length (sought boundary)) true false
        (λ d. let f : true ≡ false = sym (ap₂ (λ x y. x && y) d (eq-eqb (get_or (sought boundary) k 0) 58 colon)) ∙ t in absurd cc)
        (λ d.
        let far : k + 1 ≡ length (sought boundary) → ⊥ = eqb-false (k + 1) (length (sought boundary)) d in
        let q : crlf ≡ get_or (sought boundary) (k + 1) 0 ∷ (drop ((k + 1) + 1) (sought boundary) ++ rest) = e ∙ ap (λ z. z ++ rest) (drop_more (sought boundary) (k + 1) 0 (omega arith)) in
        let h = cc_heads 13 (get_or (sought boundary) (k + 1) 0) (10 ∷ []) (drop ((k + 1) + 1) (sought boundary) ++ rest) q in
        NoCr-at (10 ∷ mark boundary) k (quiet_tail boundary n) (omega arith) (sym (h.0 ∙ ap (λ i. get_or (sought boundary) i 0) (add-one k))))

-- a letter where a colon ends a mark
letter_avoids : (boundary : List ℕ) (barred : Option ℕ) → IsShort (sought boundary) barred → name_need (sought boundary) barred ≡ 4 → Avoids boundary barred (97 ∷ 58 ∷ crlf)
letter_avoids boundary None s need = tt
letter_avoids boundary (Some k) s need =
    λ rest e.
    let m = sought boundary in
    let q : 97 ∷ 58 ∷ crlf ≡ get_or m k 0 ∷ (drop (k + 1) m ++ rest) = e ∙ ap (λ z. z ++ rest) (drop_more m k 0 s) in
    let h = cc_heads 97 (get_or m k 0) (58 ∷ crlf) (drop (k + 1) m ++ rest) q in
    from_test (λ i. i ≡ 4) ((k + 1 == length m) && (get_or m k 0 == 58)) 4 3 need
    (λ t p. let colon : get_or m k 0 ≡ 58 = eqb-true (get_or m k 0) 58 (both (k + 1 == length m) (get_or m k 0 == 58) t).1 in absurd (omega arith))
    (λ t p. absurd (omega arith))

name_needs : (m : List ℕ) (barred : Option ℕ) → (name_need m barred ≡ 3) ⊎ (name_need m barred ≡ 4)
name_needs m None = inl refl
name_needs m (Some k) = by_test (λ i. (i ≡ 3) ⊎ (i ≡ 4)) ((k + 1 == length m) && (get_or m k 0 == 58)) 4 3 (λ t. inr refl) (λ t. inl refl)

name_completion : (boundary : List ℕ) → NoCr boundary → (room : ℕ) (barred : Option ℕ) → Alive boundary (Name room barred) → (name_need (sought boundary) barred ≡ 3) ⊎ (name_need (sought boundary) barred ≡ 4) → (w : List ℕ) × Completes boundary (Name room barred) w
name_completion boundary n room barred (s, l) (inl need) =
    ((58 ∷ crlf) ++ crlf, (58 ∷ crlf, ([], [], tt, tt, refl, colon_avoids boundary barred n s need), ([], tt, omega arith, refl)))
name_completion boundary n room barred (s, l) (inr need) =
    ((97 ∷ 58 ∷ crlf) ++ crlf, (97 ∷ 58 ∷ crlf, (97 ∷ [], [], (refl, tt), tt, refl, letter_avoids boundary barred s need), ([], tt, omega arith, refl)))

pub completion : (boundary : List ℕ) → NoCr boundary → (place : Place) → Alive boundary place → (w : List ℕ) × Completes boundary place w
completion boundary n (Mark room j) a = (drop j (sought boundary), (0, take-append-drop j (sought boundary), omega arith))
completion boundary n (Blanks room) a = (crlf, ([], tt, omega arith, refl))
completion boundary n (Line room) a = (crlf, ([], tt, omega arith, refl))
completion boundary n (Name room barred) a = name_completion boundary n room barred a (name_needs (sought boundary) barred)
completion boundary n (Value room barred) a = (crlf ++ crlf, (crlf, ([], tt, refl, Avoids-crlf boundary barred n a.0), ([], tt, omega arith, refl)))
completion boundary n (FieldFeed room) a = (10 ∷ crlf, ([], tt, omega arith, refl))
completion boundary n LastFeed a = (10 ∷ [], refl)

-- ---- a region, byte by byte

-- a whole region is read to its end, whatever follows
pub scan_reads : (boundary : List ℕ) → NoCr boundary → (kind : FrameKind) (place : Place) (n : ℕ) (w x : List ℕ) → Alive boundary place → Completes boundary place w → scan (sought boundary) kind place n (w ++ x) ≡ Ok (n + length w)
scan_reads boundary q kind place n [] x a c = absurd (not_whole boundary place a c)
scan_reads boundary q kind place n (b ∷ w) x a c =
    moved_reads boundary kind n w x (λ p. scan (sought boundary) kind p (n + 1) (w ++ x)) (step (sought boundary) place b) (step_on boundary q place b w a c) (step_alive (sought boundary) place b (omega arith) a)
    (λ p alive completes. scan_reads boundary q kind p (n + 1) w x alive completes)
  where
    moved_reads : (boundary : List ℕ) (kind : FrameKind) (n : ℕ) (w x : List ℕ) (go_on : Place → Result ℕ Stop) (moved : Moved) → Moves boundary w moved → StaysAlive (sought boundary) moved → ((p : Place) → Alive boundary p → Completes boundary p w → go_on p ≡ Ok ((n + 1) + length w)) → went kind (n + 1) moved go_on ≡ Ok (n + suc (length w))
    moved_reads boundary kind n w x go_on (Go p) v a rec = rec p a v ∙ ap (λ i. Ok i) (omega arith)
    moved_reads boundary kind n w x go_on Whole v a rec = ap (λ i. Ok i) (omega (arith, ap length v))
    moved_reads boundary kind n w x go_on Bad v a rec = absurd v

-- what each result says of the bytes
abbrev pub ScanTold : List ℕ → FrameKind → Place → ℕ → List ℕ → Result ℕ Stop → Type 0
ScanTold boundary kind place n w (Ok k) = (a c : List ℕ) × (w ≡ a ++ c) × (k ≡ n + length a) × Completes boundary place a
ScanTold boundary kind place n w (Err More) = (x : List ℕ) × Completes boundary place (w ++ x)
ScanTold boundary kind place n w (Err Ended) = ⊥
ScanTold boundary kind place n w (Err (Refused kind' k)) = (a : List ℕ) × (b : ℕ) × (c : List ℕ)
    × (w ≡ a ++ (b ∷ c))
    × (k ≡ n + suc (length a))
    × (kind' ≡ kind)
    × (scan (sought boundary) kind place n a ≡ Err More)
    × ((x : List ℕ) → scan (sought boundary) kind place n (a ++ (b ∷ x)) ≡ Err (Refused kind' k))

told_on : (boundary : List ℕ) → NoCr boundary → (kind : FrameKind) (place p : Place) (n b : ℕ) (w : List ℕ) → Alive boundary place → step (sought boundary) place b ≡ Go p → (r : Result ℕ Stop) → ScanTold boundary kind p (n + 1) w r → ScanTold boundary kind place n (b ∷ w) r
told_on boundary q kind place p n b w alive e (Ok k) (a, c, cut, count, h) =
    (b ∷ a, c, ap (λ z. b ∷ z) cut, omega arith, step_back boundary q place b a alive (subst (Moves boundary a) (sym e) h))
told_on boundary q kind place p n b w alive e (Err More) (x, h) = (x, step_back boundary q place b (w ++ x) alive (subst (Moves boundary (w ++ x)) (sym e) h))
told_on boundary q kind place p n b w alive e (Err Ended) h = h
told_on boundary q kind place p n b w alive e (Err (Refused kind' k)) (a, b', c, cut, count, kinds, before, behind) = (
  b ∷ a,
  b',
  c,
  ap (λ z. b ∷ z) cut,
  omega arith,
  kinds,
  ap (λ moved. went kind (n + 1) moved (λ next. scan (sought boundary) kind next (n + 1) a)) e ∙ before,
  (λ x. ap (λ moved. went kind (n + 1) moved (λ next. scan (sought boundary) kind next (n + 1) (a ++ (b' ∷ x)))) e ∙ behind x),
)

pub scan_told : (boundary : List ℕ) → NoCr boundary → (kind : FrameKind) (place : Place) (n : ℕ) (w : List ℕ) → Alive boundary place → ScanTold boundary kind place n w (scan (sought boundary) kind place n w)
scan_told boundary q kind place n [] a = completion boundary q place a
scan_told boundary q kind place n (b ∷ w) a =
    moved_told boundary q kind place n b w a (step (sought boundary) place b) refl (step_alive (sought boundary) place b (omega arith) a) (λ p alive. scan_told boundary q kind p (n + 1) w alive)
  where
    moved_told : (boundary : List ℕ) → NoCr boundary → (kind : FrameKind) (place : Place) (n b : ℕ) (w : List ℕ) → Alive boundary place → (moved : Moved) → step (sought boundary) place b ≡ moved → StaysAlive (sought boundary) moved → ((p : Place) → Alive boundary p → ScanTold boundary kind p (n + 1) w (scan (sought boundary) kind p (n + 1) w)) → ScanTold boundary kind place n (b ∷ w) (went kind (n + 1) moved (λ next. scan (sought boundary) kind next (n + 1) w))
    moved_told boundary q kind place n b w a (Go p) e alive rec = told_on boundary q kind place p n b w a e (scan (sought boundary) kind p (n + 1) w) (rec p alive)
    moved_told boundary q kind place n b w a Whole e alive rec = (b ∷ [], w, refl, omega arith, step_back boundary q place b [] a (subst (Moves boundary []) (sym e) refl))
    moved_told boundary q kind place n b w a Bad e alive rec = ([], b, w, refl, omega arith, refl, refl, (λ x. ap (λ moved. went kind (n + 1) moved (λ next. scan (sought boundary) kind next (n + 1) x)) e))

-- nothing that is more, and not all of a whole region, is whole
pub scan_inside : (boundary : List ℕ) → NoCr boundary → (kind : FrameKind) (place : Place) (n : ℕ) (a : List ℕ) → Alive boundary place → scan (sought boundary) kind place n a ≡ Err More → Inside (Completes boundary place) a
scan_inside boundary q kind place n a alive e =
    inside_of (subst (ScanTold boundary kind place n a) e (scan_told boundary q kind place n a alive))
  where
    inside_of : ScanTold boundary kind place n a (Err More) → Inside (Completes boundary place) a
    inside_of (x, h) = (
      x,
      (λ none.
          let same : (a ++ x) ++ [] ≡ a = append-nil (a ++ x) ∙ (ap (λ z. a ++ z) none ∙ append-nil a) in
          let whole : scan (sought boundary) kind place n ((a ++ x) ++ []) ≡ Ok (n + length (a ++ x)) = scan_reads boundary q kind place n (a ++ x) [] alive h in
          let bad : Err More ≡ Ok (n + length (a ++ x)) = sym e ∙ (ap (λ z. scan (sought boundary) kind place n z) (sym same) ∙ whole) in cc),
      h,
    )
