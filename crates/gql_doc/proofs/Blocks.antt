-- How a block string is read and written.
use Rattle.std.proofs.Common.{◌≡◌, ◌≢◌, ℕ, ◌+◌, ◌<◌, ◌==◌, Bool, true, false, List, [], ◌∷◌, ◌++◌, length, take, drop, get_or, flat_map, Option, Some, None, refl, ap, sym, ◌∙◌, append_assoc, arith}
use Rattle.std.specs.Char.{encode_utf8}
use Rattle.std.specs.Str.{encode_utf8_all}
use Rattle.std.proofs.lemmas.Bool.{eqb-true}
use Rattle.std.proofs.lemmas.List.{append-nil, take_more, flat_map_more}
use Rattle.std.proofs.lemmas.Str.{encodes-append}
use Rattle.gql_doc.specs.StringValue.{least, with_front, lines, ends_line, joined}

-- the least of what was found, and of what is still found
abbrev pub with_least : Option ℕ → Option ℕ → Option ℕ
with_least None more = more
with_least (Some n) more = Some (least n more)

-- ---- lines

with_front-nil : (ls : List (List ℕ)) → with_front [] ls ≡ ls
with_front-nil [] = refl
with_front-nil (l ∷ ls) = refl

with_front-push : (line : List ℕ) (c : ℕ) (ls : List (List ℕ)) → with_front (line ++ c ∷ []) ls ≡ with_front line (with_front (c ∷ []) ls)
with_front-push line c [] = refl
with_front-push line c (l ∷ ls) = ap (λ x. x ∷ ls) (append_assoc line (c ∷ []) l)

lines-ended : (c : ℕ) (rest : List ℕ) → ends_line c rest ≡ true → lines (c ∷ rest) ≡ [] ∷ lines rest
lines-ended c rest e = rw e refl

lines-same : (c : ℕ) (rest : List ℕ) → ends_line c rest ≡ false → (c == 13) ≡ false → lines (c ∷ rest) ≡ with_front (c ∷ []) (lines rest)
lines-same c rest e f = rw (e, f) refl

-- an iteration ends a line
pub lines-turn_ended : (done : List (List ℕ)) (line text : List ℕ) (first : ℕ) (behind : List ℕ) (total : List (List ℕ)) → 0 < length text → first ≡ get_or text 0 first → behind ≡ drop 1 text → ends_line first behind ≡ true
    → done ++ with_front line (lines text) ≡ total → (done ++ line ∷ []) ++ with_front [] (lines behind) ≡ total
lines-turn_ended done line [] first behind total some first_is behind_is ends so_far = absurd (omega arith)
lines-turn_ended done line (c ∷ text) first behind total some first_is behind_is ends so_far =
    let at : ends_line c text ≡ true = sym (ap (λ x. ends_line x text) first_is ∙ refl) ∙ ap (ends_line first) (sym behind_is) ∙ ends in
    append_assoc done (line ∷ []) (with_front [] (lines behind))
    ∙ ap (λ ls. done ++ (line ∷ ls)) (with_front-nil (lines behind) ∙ ap lines behind_is)
    ∙ ap (λ l. done ++ (l ∷ lines text)) (sym (append-nil line))
    ∙ ap (λ ls. done ++ with_front line ls) (sym (lines-ended c text at))
    ∙ so_far

by_test : (c : ℕ) (rest : List ℕ) → ends_line c rest ≡ false → c ≢ 13 → (b : Bool) → (c == 13) ≡ b → lines (c ∷ rest) ≡ with_front (c ∷ []) (lines rest)
by_test c rest e ne true h = absurd (ne (eqb-true c 13 h))
by_test c rest e ne false h = lines-same c rest e h

-- an iteration goes on with a line
pub lines-turn_more : (done : List (List ℕ)) (line text : List ℕ) (first : ℕ) (behind : List ℕ) (total : List (List ℕ)) → 0 < length text → first ≡ get_or text 0 first → behind ≡ drop 1 text → ends_line first behind ≡ false → first ≢ 13
    → done ++ with_front line (lines text) ≡ total → done ++ with_front (line ++ first ∷ []) (lines behind) ≡ total
lines-turn_more done line [] first behind total some first_is behind_is ends ne so_far = absurd (omega arith)
lines-turn_more done line (c ∷ text) first behind total some first_is behind_is ends ne so_far =
    let at : ends_line c text ≡ false = sym (ap (λ x. ends_line x text) first_is) ∙ ap (ends_line first) (sym behind_is) ∙ ends in
    let other : c ≢ 13 = λ e. ne (first_is ∙ e) in
    ap (λ ls. done ++ ls) (with_front-push line first (lines behind) ∙ ap (λ x. with_front line (with_front (x ∷ []) (lines behind))) first_is ∙ ap (λ t. with_front line (with_front (c ∷ []) (lines t))) behind_is)
    ∙ ap (λ ls. done ++ with_front line ls) (sym (by_test c text at other (c == 13) refl))
    ∙ so_far

-- ---- writing

-- an iteration writes a character
pub encode_utf8_all-turn : (old line : List ℕ) (i c : ℕ) → i < length line → c ≡ get_or line i c → (old ++ encode_utf8_all (take i line)) ++ encode_utf8 c ≡ old ++ encode_utf8_all (take (i + 1) line)
encode_utf8_all-turn old line i c lt is =
    append_assoc old (encode_utf8_all (take i line)) (encode_utf8 c)
    ∙ ap (λ bs. old ++ (encode_utf8_all (take i line) ++ bs)) (sym (append-nil (encode_utf8 c)))
    ∙ ap (λ bs. old ++ bs) (sym (encodes-append (take i line) (c ∷ [])))
    ∙ ap (λ x. old ++ encode_utf8_all (take i line ++ x ∷ [])) is
    ∙ ap (λ cs. old ++ encode_utf8_all cs) (sym (take_more line i c lt))

abbrev broken : List ℕ → List ℕ
broken next = 10 ∷ next

-- an iteration writes a line
pub lines-turn_written : (old : List ℕ) (ls : List (List ℕ)) (i : ℕ) (line : List ℕ) → i < length ls → line ≡ get_or ls i line
    → ((old ++ encode_utf8_all (flat_map broken (take i ls))) ++ encode_utf8 10) ++ encode_utf8_all line ≡ old ++ encode_utf8_all (flat_map broken (take (i + 1) ls))
lines-turn_written old ls i line lt is =
    append_assoc (old ++ encode_utf8_all (flat_map broken (take i ls))) (encode_utf8 10) (encode_utf8_all line)
    ∙ append_assoc old (encode_utf8_all (flat_map broken (take i ls))) (encode_utf8_all (10 ∷ line))
    ∙ ap (λ bs. old ++ bs) (sym (encodes-append (flat_map broken (take i ls)) (10 ∷ line)))
    ∙ ap (λ cs. old ++ encode_utf8_all cs) (flat_map_more broken [] (take i ls) line)
    ∙ ap (λ x. old ++ encode_utf8_all (flat_map broken (take i ls ++ x ∷ []))) is
    ∙ ap (λ l. old ++ encode_utf8_all (flat_map broken l)) (sym (take_more ls i line lt))

-- the first line, and then the others
pub joined-written : (ls : List (List ℕ)) (first : List ℕ) (behind : List (List ℕ)) (old : List ℕ) → 0 < length ls → first ≡ get_or ls 0 first → behind ≡ drop 1 ls → old ≡ []
    → (old ++ encode_utf8_all first) ++ encode_utf8_all (flat_map broken behind) ≡ encode_utf8_all (joined ls)
joined-written [] first behind old some first_is behind_is old_is = absurd (omega arith)
joined-written (l ∷ ls) first behind old some first_is behind_is old_is =
    (λ i. (old_is i ++ encode_utf8_all (first_is i)) ++ encode_utf8_all (flat_map broken (behind_is i)))
    ∙ sym (encodes-append l (flat_map broken ls))
