-- How a place follows from the one before it.
use Rattle.std.proofs.Common.{◌≡◌, ℕ, suc, length, get_or, ◌+◌, ◌==◌, ◌<◌, Bool, true, false, List, [], ◌∷◌, ◌++◌, refl, ap, sym, ◌∙◌, append_assoc, add_assoc, add-zero, zero-add, arith}
use Rattle.std.specs.Prelude.{nat_eq, nat_lt, ◌&&◌, not, if◌then◌else◌, count_by}
use Rattle.std.specs.List.{list_any, starts_with}
use Rattle.std.proofs.lemmas.Bool.{or_parts, or_from, or_left, and_left, cond-true, lt-ltb}
use Rattle.std.proofs.lemmas.List.{append-nil}
use Rattle.std.proofs.lemmas.List.Sums.{sum_by-append}
use Rattle.std.proofs.lemmas.Bool.Decides.{nat_tests}
use Rattle.gql_tree.specs.declared.Spot.{Spot}
use Rattle.gql_lex.specs.Classes.{is_line_end}
use Rattle.gql_lex.specs.Places.{ends_line, lines_ended, last_line, begins_character, spot_at}
use Rattle.gql_lex.specs.inner.Lines.{on_line}

-- one more byte, a last one
pub lines_ended-push : (passed : List ℕ) (byte : ℕ) (rest : List ℕ) → lines_ended (passed ++ byte ∷ []) rest ≡ lines_ended passed (byte ∷ rest) + (if ends_line byte rest then 1 else 0)
lines_ended-push [] byte rest = add-zero _ ∙ sym (zero-add _)
lines_ended-push (first ∷ more) byte rest =
    ap (λ behind. (if ends_line first behind then 1 else 0) + lines_ended (more ++ byte ∷ []) rest) (append_assoc more (byte ∷ []) rest)
    ∙ ap (λ n. (if ends_line first (more ++ byte ∷ rest) then 1 else 0) + n) (lines_ended-push more byte rest)
    ∙ sym (add_assoc (if ends_line first (more ++ byte ∷ rest) then 1 else 0) (lines_ended more (byte ∷ rest)) (if ends_line byte rest then 1 else 0))

some_ended : (n : ℕ) (whole later : List ℕ) → 0 < n → later ≡ [] → (if n == 0 then whole else later) ≡ []
some_ended n whole later some none = grind (arith, nat_tests)

last_of_one : (ended : Bool) (byte : ℕ) → ended ≡ true → (if ((if ended then 1 else 0) + 0) == 0 then byte ∷ [] else []) ≡ []
last_of_one true byte e = refl
last_of_one false byte e = cc

added_one : (n l : ℕ) (ended : Bool) → n ≡ l + (if ended then 1 else 0) → ended ≡ true → 0 < n
added_one n l true is e = omega arith
added_one n l false is e = absurd (cc)

-- where the last byte ends a line, nothing stands behind it
pub last_line-ended : (passed : List ℕ) (byte : ℕ) (rest : List ℕ) → ends_line byte rest ≡ true → last_line (passed ++ byte ∷ []) rest ≡ []
last_line-ended [] byte rest e = last_of_one (ends_line byte rest) byte e
last_line-ended (first ∷ more) byte rest e =
    some_ended (lines_ended (first ∷ (more ++ byte ∷ [])) rest) (first ∷ (more ++ byte ∷ [])) (last_line (more ++ byte ∷ []) rest)
    (added_one (lines_ended (first ∷ (more ++ byte ∷ [])) rest) (lines_ended (first ∷ more) (byte ∷ rest)) (ends_line byte rest) (lines_ended-push (first ∷ more) byte rest) e)
    (last_line-ended more byte rest e)

line_of_one : (ended : Bool) (byte : ℕ) → ended ≡ false → (if ((if ended then 1 else 0) + 0) == 0 then byte ∷ [] else []) ≡ byte ∷ []
line_of_one true byte e = absurd (cc)
line_of_one false byte e = refl

added_none : (n l : ℕ) (ended : Bool) → n ≡ l + (if ended then 1 else 0) → ended ≡ false → n ≡ l
added_none n l true is e = absurd (cc)
added_none n l false is e = omega arith

by_test : (none : Bool) (whole later : List ℕ) (byte : ℕ) → (if none then whole ++ byte ∷ [] else later ++ byte ∷ []) ≡ (if none then whole else later) ++ byte ∷ []
by_test true whole later byte = refl
by_test false whole later byte = refl

-- where it doesn't, it stands behind what stood there
pub last_line-more : (passed : List ℕ) (byte : ℕ) (rest : List ℕ) → ends_line byte rest ≡ false → last_line (passed ++ byte ∷ []) rest ≡ last_line passed (byte ∷ rest) ++ byte ∷ []
last_line-more [] byte rest e = line_of_one (ends_line byte rest) byte e
last_line-more (first ∷ more) byte rest e =
    ap (λ n. if n == 0 then first ∷ (more ++ byte ∷ []) else last_line (more ++ byte ∷ []) rest)
    (added_none (lines_ended (first ∷ (more ++ byte ∷ [])) rest) (lines_ended (first ∷ more) (byte ∷ rest)) (ends_line byte rest) (lines_ended-push (first ∷ more) byte rest) e)
    ∙ ap (λ later. if lines_ended (first ∷ more) (byte ∷ rest) == 0 then first ∷ (more ++ byte ∷ []) else later) (last_line-more more byte rest e)
    ∙ by_test (lines_ended (first ∷ more) (byte ∷ rest) == 0) (first ∷ more) (last_line more (byte ∷ rest)) byte

abbrev pub place : ℕ → ℕ → Spot
place line column = record { line = line; column = column }

-- ---- the place behind one more byte

pub spot_at-ended : (spot : Spot) (passed : List ℕ) (byte : ℕ) (rest : List ℕ) → ends_line byte rest ≡ true → spot ≡ spot_at passed (byte ∷ rest) → place (spot.line + 1) 1 ≡ spot_at (passed ++ byte ∷ []) rest
spot_at-ended spot passed byte rest e is =
    let lines : spot.line + 1 ≡ 1 + lines_ended (passed ++ byte ∷ []) rest = line_by (ends_line byte rest) spot.line _ _ (ap (λ (s : Spot). s.line) is) (lines_ended-push passed byte rest) e in
    ap (λ n. place n 1) lines ∙ ap (λ line. place (1 + lines_ended (passed ++ byte ∷ []) rest) (1 + count_by begins_character line)) (sym (last_line-ended passed byte rest e))
  where
    line_by : (ended : Bool) (line old new : ℕ) → line ≡ 1 + old → new ≡ old + (if ended then 1 else 0) → ended ≡ true → line + 1 ≡ 1 + new
    line_by true line old new a b e = omega arith
    line_by false line old new a b e = absurd (cc)

same_line : (ended : Bool) (line old new : ℕ) → line ≡ 1 + old → new ≡ old + (if ended then 1 else 0) → ended ≡ false → line ≡ 1 + new
same_line true line old new a b e = absurd (cc)
same_line false line old new a b e = omega arith

one_counted : (n : ℕ) → 0 + n ≡ n
one_counted n = omega arith

count-push : (line : List ℕ) (byte : ℕ) → count_by begins_character (line ++ byte ∷ []) ≡ count_by begins_character line + (if begins_character byte then 1 else 0)
count-push line byte = sum_by-append (λ b. if begins_character b then 1 else 0) line (byte ∷ []) ∙ ap (λ n. count_by begins_character line + n) (one_counted (if begins_character byte then 1 else 0))

one_column : (begins : Bool) (column old new : ℕ) → column ≡ 1 + old → new ≡ old + (if begins then 1 else 0) → begins ≡ true → column + 1 ≡ 1 + new
one_column true column old new a b e = omega arith
one_column false column old new a b e = absurd (cc)

no_column : (begins : Bool) (column old new : ℕ) → column ≡ 1 + old → new ≡ old + (if begins then 1 else 0) → begins ≡ false → column ≡ 1 + new
no_column true column old new a b e = absurd (cc)
no_column false column old new a b e = omega arith

columns : (passed : List ℕ) (byte : ℕ) (rest : List ℕ) → ends_line byte rest ≡ false → count_by begins_character (last_line (passed ++ byte ∷ []) rest) ≡ count_by begins_character (last_line passed (byte ∷ rest)) + (if begins_character byte then 1 else 0)
columns passed byte rest e = ap (count_by begins_character) (last_line-more passed byte rest e) ∙ count-push (last_line passed (byte ∷ rest)) byte

pub spot_at-next : (spot : Spot) (passed : List ℕ) (byte : ℕ) (rest : List ℕ) → ends_line byte rest ≡ false → begins_character byte ≡ true → spot ≡ spot_at passed (byte ∷ rest) → place spot.line (spot.column + 1) ≡ spot_at (passed ++ byte ∷ []) rest
spot_at-next spot passed byte rest e begins is =
    ap (λ n. place n (spot.column + 1)) (same_line (ends_line byte rest) spot.line _ _ (ap (λ (s : Spot). s.line) is) (lines_ended-push passed byte rest) e)
    ∙ ap (place (1 + lines_ended (passed ++ byte ∷ []) rest)) (one_column (begins_character byte) spot.column _ _ (ap (λ (s : Spot). s.column) is) (columns passed byte rest e) begins)

pub spot_at-same : (spot : Spot) (passed : List ℕ) (byte : ℕ) (rest : List ℕ) → ends_line byte rest ≡ false → begins_character byte ≡ false → spot ≡ spot_at passed (byte ∷ rest) → spot ≡ spot_at (passed ++ byte ∷ []) rest
spot_at-same spot passed byte rest e begins is =
    ap (λ n. place n spot.column) (same_line (ends_line byte rest) spot.line _ _ (ap (λ (s : Spot). s.line) is) (lines_ended-push passed byte rest) e)
    ∙ ap (place (1 + lines_ended (passed ++ byte ∷ []) rest)) (no_column (begins_character byte) spot.column _ _ (ap (λ (s : Spot). s.column) is) (columns passed byte rest e) begins)

-- ---- the place behind bytes in which no line ends

no_end : (byte : ℕ) (rest : List ℕ) → is_line_end byte ≡ false → ends_line byte rest ≡ false
no_end byte rest none =
    let parts = or_parts (byte == 10) (byte == 13) none in
    or_from (byte == 10) (byte == 13 && not (starts_with nat_eq rest (10 ∷ []))) parts.0 (and_left (byte == 13) (not (starts_with nat_eq rest (10 ∷ []))) parts.1)

by_character : (begins : Bool) (spot : Spot) (passed : List ℕ) (byte : ℕ) (rest : List ℕ) → begins_character byte ≡ begins → ends_line byte rest ≡ false → spot ≡ spot_at passed (byte ∷ rest)
    → place spot.line (spot.column + (if begins then 1 else 0)) ≡ spot_at (passed ++ byte ∷ []) rest
by_character true spot passed byte rest begins e is = spot_at-next spot passed byte rest e begins is
by_character false spot passed byte rest begins e is = ap (place spot.line) (add-zero spot.column) ∙ spot_at-same spot passed byte rest e begins is

-- the first of the characters, and the others
counted-first : (byte : ℕ) (here : List ℕ) → count_by begins_character (byte ∷ here) ≡ (if begins_character byte then 1 else 0) + count_by begins_character here
counted-first byte here =
    sum_by-append (λ b. if begins_character b then 1 else 0) (byte ∷ []) here
    ∙ ap (λ n. n + count_by begins_character here) (one_counted (if begins_character byte then 1 else 0))

pub spot_at-line : (spot : Spot) (passed here rest : List ℕ) → list_any is_line_end here ≡ false → spot ≡ spot_at passed (here ++ rest) → on_line spot here ≡ spot_at (passed ++ here) rest
spot_at-line spot passed [] rest none is = ap (place spot.line) (add-zero spot.column) ∙ is ∙ ap (λ p. spot_at p rest) (sym (append-nil passed))
spot_at-line spot passed (byte ∷ here) rest none is =
    let one : ℕ = if begins_character byte then 1 else 0 in
    let parts = or_parts (is_line_end byte) (list_any is_line_end here) none in
    let behind : place spot.line (spot.column + one) ≡ spot_at (passed ++ byte ∷ []) (here ++ rest) = by_character (begins_character byte) spot passed byte (here ++ rest) refl (no_end byte (here ++ rest) parts.0) is in
    ap (λ n. place spot.line (spot.column + n)) (counted-first byte here)
    ∙ ap (place spot.line) (sym (add_assoc spot.column one (count_by begins_character here)))
    ∙ spot_at-line (place spot.line (spot.column + one)) (passed ++ byte ∷ []) here rest parts.1 behind
    ∙ ap (λ p. spot_at p rest) (append_assoc passed (byte ∷ []) here)

-- each byte of ASCII begins a character
pub count-ascii : (text : List ℕ) → ((i : ℕ) → get_or text i 0 < 128) → length text ≡ count_by begins_character text
count-ascii [] small = refl
count-ascii (byte ∷ rest) small =
    let one : ◌≡◌ {A = ℕ} (if begins_character byte then 1 else 0) 1 = cond-true (begins_character byte) 1 0 (or_left (nat_lt byte 128) _ (lt-ltb byte 128 (small 0))) in
    let others : length rest ≡ count_by begins_character rest = count-ascii rest (λ i. small (suc i)) in
    let first = counted-first byte rest in
    omega (arith, one, others, first)
