-- What stands behind a mark is read as its relation says.
use Rattle.std.proofs.Common.{◌≡◌, ℕ, ◌+◌, ◌⊎◌, inl, inr, Bool, true, false, ◌==◌, if◌then◌else◌, IsTrue, List, [], ◌∷◌, ◌++◌, length, drop, Result, Ok, Err, refl, sym, ap, ◌∙◌, subst, arith, drop_at, drop-drop, eqb-true}
use Rattle.std.specs.List.{AllByRecursion as Each}
use Rattle.gql_multipart.specs.Frame.{crlf}
use Rattle.gql_multipart.specs.declared.refusal.FrameKind.{FrameKind}
use Rattle.gql_multipart.specs.declared.refusal.FrameKind.TheVariants.{BadDelimiter}
use Rattle.gql_multipart.specs.declared.place.Place.TheVariants.{Blanks}
use Rattle.gql_multipart.specs.declared.read.Stop.{Stop}
use Rattle.gql_multipart.specs.declared.read.Stop.TheVariants.{More, Ended, Refused}
use Rattle.gql_multipart.specs.Body.{dashes, IsLineEnd, blank_byte}
use Rattle.gql_multipart.specs.Regions.{Inside}
use Rattle.gql_multipart.specs.inner.Reading.{scan, second_dash, is_dash, mark_end}
use Rattle.gql_multipart.proofs.Lists.{NoCr, by_test}
use Rattle.gql_multipart.proofs.Places.{sought}
use Rattle.gql_multipart.proofs.Scans.{ScanTold, scan_reads, scan_told, scan_inside}
use Rattle.gql_multipart.proofs.Readers.{Told, Reads, EndOf}

-- the end mark's dashes, which don't stand behind the first mark
abbrev pub Closes : Bool → List ℕ → Type 0
Closes first a = (first ≡ false) × (a ≡ dashes)

abbrev pub BehindMark : Bool → List ℕ → Type 0
BehindMark first a = IsLineEnd a ⊎ Closes first a

abbrev pub InMarkEnd : Bool → FrameKind → List ℕ → Type 0
InMarkEnd first kind a = (kind ≡ BadDelimiter) × Inside (BehindMark first) a

-- the same by what stands behind the mark
abbrev on_rest : List ℕ → Bool → ℕ → List ℕ → Result ℕ Stop
on_rest m first n w = if is_dash first w then Err (second_dash (n + 1) (drop 1 w)) else scan m BadDelimiter (Blanks 64) n w

mark_end_is : (m : List ℕ) (first : Bool) (pre w : List ℕ) → mark_end m first (pre ++ w) (length pre) ≡ on_rest m first (length pre) w
unfolding mark_end
mark_end_is m first pre w =
    ap (λ z. if is_dash first (drop (length pre) (pre ++ w)) then Err (second_dash (length pre + 1) z) else scan m BadDelimiter (Blanks 64) (length pre) (drop (length pre) (pre ++ w))) (sym (drop-drop 1 (length pre) (pre ++ w)))
    ∙ ap (λ z. on_rest m first (length pre) z) (drop_at pre w (length pre) refl)

line_first : (first : Bool) (a c : List ℕ) → IsLineEnd a → is_dash first (a ++ c) ≡ false
line_first true a c h = refl
line_first false a c (blanks, each, l, e) = ap (λ z. is_dash false (z ++ c)) e ∙ by_blanks blanks c each
  where
    by_blanks : (blanks c : List ℕ) → Each (λ b. IsTrue (blank_byte b)) blanks → is_dash false ((blanks ++ crlf) ++ c) ≡ false
    by_blanks [] c each = refl
    by_blanks (b ∷ blanks) c each =
        by_test {A = Bool} (λ _. (b == 45) ≡ false) (b == 45) true false
        (λ d. absurd (let bad : IsTrue (blank_byte 45) = ap blank_byte (sym (eqb-true b 45 d)) ∙ each.0 in cc))
        (λ d. d)

no_dash_front : (first : Bool) (a c : List ℕ) → is_dash first (a ++ c) ≡ false → is_dash first a ≡ false
no_dash_front true a c e = refl
no_dash_front false [] c e = refl
no_dash_front false (x ∷ a) c e = e

no_dash_other : (first : Bool) (a c x : List ℕ) (b : ℕ) → is_dash first (a ++ (b ∷ c)) ≡ false → is_dash first (a ++ (b ∷ x)) ≡ false
no_dash_other true a c x b e = refl
no_dash_other false [] c x b e = e
no_dash_other false (y ∷ a) c x b e = e

module _ (boundary : List ℕ) (q : NoCr boundary) (first : Bool) where
  -- where no dash comes first
  on_line : (pre w : List ℕ) → is_dash first w ≡ false → mark_end (sought boundary) first (pre ++ w) (length pre) ≡ scan (sought boundary) BadDelimiter (Blanks 64) (length pre) w
  on_line pre w e = mark_end_is (sought boundary) first pre w ∙ ap (λ t. if t then Err (second_dash (length pre + 1) (drop 1 w)) else scan (sought boundary) BadDelimiter (Blanks 64) (length pre) w) e

  on_dash : (pre w : List ℕ) → is_dash first w ≡ true → mark_end (sought boundary) first (pre ++ w) (length pre) ≡ Err (second_dash (length pre + 1) (drop 1 w))
  on_dash pre w e = mark_end_is (sought boundary) first pre w ∙ ap (λ t. if t then Err (second_dash (length pre + 1) (drop 1 w)) else scan (sought boundary) BadDelimiter (Blanks 64) (length pre) w) e

  abbrev EndTold : List ℕ → List ℕ → Result ℕ Stop → Type 0
  EndTold pre w s = Told (mark_end (sought boundary) first) (EndOf IsLineEnd) (Closes first) (InMarkEnd first) pre w s

  inside_line : (a : List ℕ) → Inside IsLineEnd a → Inside (BehindMark first) a
  inside_line a (more, some, h) = (more, some, inl h)

  line_told : (pre w : List ℕ) (s : Result ℕ Stop) → is_dash first w ≡ false → ScanTold boundary BadDelimiter (Blanks 64) (length pre) w s → EndTold pre w s
  line_told pre w (Ok k) e (a, c, cut, count, h) = (a, c, cut, (count, h))
  line_told pre w (Err More) e (x, h) = (x, inl (length pre + length (w ++ x), (refl, h)))
  line_told pre w (Err Ended) e h = absurd h
  line_told pre w (Err (Refused kind k)) e (a, b, c, cut, count, kinds, before, behind) =
      let here : is_dash first (a ++ (b ∷ c)) ≡ false = ap (λ z. is_dash first z) (sym cut) ∙ e in (
        a,
        b,
        c,
        cut,
        count,
        (kinds, inside_line a (scan_inside boundary q BadDelimiter (Blanks 64) (length pre) a tt before)),
        on_line pre a (no_dash_front first a (b ∷ c) here) ∙ before,
        (λ x. on_line pre (a ++ (b ∷ x)) (no_dash_other first a c x b here) ∙ behind x),
      )

  dash_told : (pre w : List ℕ) → first ≡ false → is_dash first (45 ∷ w) ≡ true → EndTold pre (45 ∷ w) (Err (second_dash (length pre + 1) w))
  dash_told pre [] f e = (45 ∷ [], inr (f, refl))
  dash_told pre (y ∷ w) f e =
      by_test (λ s. EndTold pre (45 ∷ y ∷ w) (Err s)) (y == 45) Ended (Refused BadDelimiter ((length pre + 1) + 1))
      (λ d. (45 ∷ 45 ∷ [], w, ap (λ z. 45 ∷ z ∷ w) (eqb-true y 45 d), (f, refl)))
      (λ d. (
        45 ∷ [],
        y,
        w,
        refl,
        omega arith,
        (refl, (45 ∷ [], (λ p. absurd cc), inr (f, refl))),
        on_dash pre (45 ∷ []) (ap (λ t. is_dash t (45 ∷ [])) f),
        (λ x. on_dash pre (45 ∷ y ∷ x) (ap (λ t. is_dash t (45 ∷ y ∷ x)) f) ∙ ap (λ t. Err (if t then Ended else Refused BadDelimiter ((length pre + 1) + 1))) d),
      ))

  told_line : (pre w : List ℕ) → is_dash first w ≡ false → EndTold pre w (mark_end (sought boundary) first (pre ++ w) (length pre))
  told_line pre w e = subst (EndTold pre w) (sym (on_line pre w e)) (line_told pre w (scan (sought boundary) BadDelimiter (Blanks 64) (length pre) w) e (scan_told boundary q BadDelimiter (Blanks 64) (length pre) w tt))

  told_dash : (pre w : List ℕ) (b : ℕ) → first ≡ false → b ≡ 45 → EndTold pre (b ∷ w) (mark_end (sought boundary) first (pre ++ (b ∷ w)) (length pre))
  told_dash pre w b f e =
      let dash : is_dash first (45 ∷ w) ≡ true = ap (λ t. is_dash t (45 ∷ w)) f in
      let there : EndTold pre (45 ∷ w) (mark_end (sought boundary) first (pre ++ (45 ∷ w)) (length pre)) = subst (EndTold pre (45 ∷ w)) (sym (on_dash pre (45 ∷ w) dash)) (dash_told pre w f dash) in
      subst (λ x. EndTold pre (x ∷ w) (mark_end (sought boundary) first (pre ++ (x ∷ w)) (length pre))) (sym e) there

  mark_end_told : (pre w : List ℕ) (f : Bool) → first ≡ f → EndTold pre w (mark_end (sought boundary) first (pre ++ w) (length pre))
  mark_end_told pre w true e = told_line pre w (ap (λ t. is_dash t w) e)
  mark_end_told pre [] false e = told_line pre [] (ap (λ t. is_dash t []) e)
  mark_end_told pre (b ∷ w) false e =
      by_test {A = Bool} (λ _. EndTold pre (b ∷ w) (mark_end (sought boundary) first (pre ++ (b ∷ w)) (length pre))) (b == 45) true false
      (λ d. told_dash pre w b e (eqb-true b 45 d))
      (λ d. told_line pre (b ∷ w) (ap (λ t. is_dash t (b ∷ w)) e ∙ d))

  end_ends : (pre a c : List ℕ) → Closes first a → mark_end (sought boundary) first (pre ++ (a ++ c)) (length pre) ≡ Err Ended
  end_ends pre a c (f, e) =
      ap (λ z. mark_end (sought boundary) first (pre ++ (z ++ c)) (length pre)) e
      ∙ on_dash pre (dashes ++ c) (ap (λ t. is_dash t (dashes ++ c)) f)

  pub mark_end_reads : Reads (mark_end (sought boundary) first) (EndOf IsLineEnd) (Closes first) (InMarkEnd first)
  mark_end_reads = record {
    reads = λ pre a c r h. on_line pre (a ++ c) (line_first first a c h.1) ∙ (scan_reads boundary q BadDelimiter (Blanks 64) (length pre) a c tt h.1 ∙ ap (λ i. Ok i) (sym h.0));
    ends = end_ends;
    tells = λ pre w. mark_end_told pre w first refl;
  }
