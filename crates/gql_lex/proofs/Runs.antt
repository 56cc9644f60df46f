-- How runs of pieces are counted, a piece at a time.
use Rattle.std.proofs.Common.{◌≡◌, ℕ, zero, suc, ◌+◌, ◌<◌, ◌≤◌, List, [], ◌∷◌, length, drop, Bool, true, false, Option, Some, None, refl, ap, sym, ◌∙◌, subst, zero-add, add-one, arith, add_assoc}
use Rattle.std.specs.Prelude.{if◌then◌else◌}
use Rattle.std.specs.List.{prefix_len}
use Rattle.std.proofs.lemmas.Bool.{cond-true}
use Rattle.std.proofs.lemmas.List.{drop-drop}
use Rattle.gql_lex.specs.Classes.{is_blank}
use Rattle.gql_lex.specs.declared.run.Pieces.{Pieces}
use Rattle.gql_lex.specs.declared.run.Pieces.TheVariants.{Blanks}
use Rattle.gql_lex.specs.Runs.{piece, run_len}

-- the bytes of a piece are counted each
run_len-inside : (pieces : Pieces) (n : ℕ) (text : List ℕ) → n ≤ length text → run_len pieces n text ≡ n + run_len pieces 0 (drop n text)
run_len-inside pieces zero text fits = sym (zero-add _)
run_len-inside pieces (suc n) [] fits = absurd (omega arith)
run_len-inside pieces (suc n) (byte ∷ rest) fits = (let within : n ≤ length rest = omega arith in let e = run_len-inside pieces n rest within in omega (arith, e))

by_piece : Pieces → List ℕ → Option ℕ → ℕ
by_piece pieces rest None = 0
by_piece pieces rest (Some more) = suc (run_len pieces more rest)

-- a piece at the front, and then those behind it
pub run_len-more : (pieces : Pieces) (text : List ℕ) (more : ℕ) → piece pieces text ≡ Some more → more < length text → run_len pieces 0 text ≡ (more + 1) + run_len pieces 0 (drop (more + 1) text)
unfolding by_piece
run_len-more pieces [] more is fits = absurd (omega arith)
run_len-more pieces (byte ∷ rest) more is fits =
    ap (by_piece pieces rest) is
    ∙ ap suc (run_len-inside pieces more rest (omega arith))
    ∙ rw (add-one more) (omega arith)

-- where no piece stands, none is counted
pub run_len-none : (pieces : Pieces) (text : List ℕ) → piece pieces text ≡ None → run_len pieces 0 text ≡ 0
unfolding by_piece
run_len-none pieces [] is = refl
run_len-none pieces (byte ∷ rest) is = ap (by_piece pieces rest) is

-- an iteration passes a piece
pub run_len-turn : (pieces : Pieces) (text : List ℕ) (len more : ℕ) → piece pieces (drop len text) ≡ Some more → more < length (drop len text) → (len + (more + 1)) + run_len pieces 0 (drop (len + (more + 1)) text) ≡ len + run_len pieces 0 (drop len text)
run_len-turn pieces text len more is fits =
    ap (λ rest. (len + (more + 1)) + run_len pieces 0 rest) (sym (drop-drop (more + 1) len text))
    ∙ add_assoc len (more + 1) (run_len pieces 0 (drop (more + 1) (drop len text)))
    ∙ ap (λ n. len + n) (sym (run_len-more pieces (drop len text) more is fits))

-- ---- blanks of one byte

-- a run of blanks goes on behind the first `count` bytes
abbrev GoesOn : List ℕ → ℕ → Type 0
GoesOn text count = run_len Blanks 0 text ≡ count + run_len Blanks 0 (drop count text)

one_blank : (byte : ℕ) (rest : List ℕ) (count : ℕ) (single : Bool) → is_blank byte ≡ single → GoesOn rest count → GoesOn (byte ∷ rest) (if single then 1 + count else 0)
one_blank byte rest count false is more = sym (zero-add _)
one_blank byte rest count true is more =
    let first = run_len-more Blanks (byte ∷ rest) 0 (cond-true (is_blank byte) _ _ is) (omega arith) in
    let long : suc count ≡ 1 + count = omega arith in
    subst (GoesOn (byte ∷ rest)) long (omega (arith, first, more))

-- it does behind those of one byte
pub blanks_run : (text : List ℕ) → GoesOn text (prefix_len is_blank text)
blanks_run [] = refl
blanks_run (byte ∷ rest) = one_blank byte rest (prefix_len is_blank rest) (is_blank byte) refl (blanks_run rest)

-- so it does where `len` bytes are passed before them
pub blanks_run-behind : (text : List ℕ) (len : ℕ) → (len + prefix_len is_blank (drop len text)) + run_len Blanks 0 (drop (len + prefix_len is_blank (drop len text)) text) ≡ len + run_len Blanks 0 (drop len text)
blanks_run-behind text len =
    let more = prefix_len is_blank (drop len text) in
    ap (λ rest. (len + more) + run_len Blanks 0 rest) (sym (drop-drop more len text))
    ∙ add_assoc len more (run_len Blanks 0 (drop more (drop len text)))
    ∙ ap (λ n. len + n) (sym (blanks_run (drop len text)))
