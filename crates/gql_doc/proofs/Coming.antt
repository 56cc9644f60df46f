-- What a lexer gives one after another is all that comes.
use Rattle.std.proofs.Common.{◌≡◌, ℕ, zero, suc, ◌≤◌, ◌<◌, Bool, true, List, [], ◌∷◌, ◌++◌, length, take, drop, Option, Some, None, Result, Ok, Err, refl, sym, ap, ◌∙◌, append_assoc, arith, length-drop}
use Rattle.std.proofs.lemmas.List.{take-append-drop}
use Rattle.gql_lex.specs.Tokens.{Lexeme, Lexes, blanks, next_of, done_with}
use Rattle.gql_lex.specs.declared.refusal.LexRefusal.{LexRefusal}
use Rattle.gql_lex.proofs.Lexing.{is_next}
use Rattle.gql_doc.specs.inner.Left.{Coming, coming_by, coming_at, coming}
use Rattle.gql_doc.specs.inner.Reading as reading

abbrev Answer : Type 0
Answer = Result (Option Lexeme) LexRefusal

-- a token takes some bytes
shorter : (passed rest : List ℕ) (token : Lexeme) → next_of passed rest ≡ Ok (Some token) → length (drop (done_with rest) rest) < length rest
shorter passed rest token is =
    let next = is_next passed rest token is in
    let some = next.sound.some in
    let fits = next.sound.fits in
    let done = next.done in
    omega (arith, length-drop (done_with rest) rest, length-drop (blanks rest) rest)

-- what follows is asked for only where a token comes
same_by : (one other : Coming) (answer : Answer) → ((token : Lexeme) → answer ≡ Ok (Some token) → one ≡ other) → coming_by one answer ≡ coming_by other answer
same_by one other (Ok (Some token)) same = ap (λ others. coming_by others (Ok (Some token))) (same token refl)
same_by one other (Ok None) same = refl
same_by one other (Err refusal) same = refl

-- nothing comes of no bytes
none_comes : (others : Coming) (passed : List ℕ) → coming_by others (next_of passed []) ≡ coming passed []
none_comes others passed = refl

-- from the number of the bytes on it is the same how many there may be
coming_enough : (n m : ℕ) (passed rest : List ℕ) → length rest ≤ n → length rest ≤ m → coming_at n passed rest ≡ coming_at m passed rest
coming_enough zero zero passed rest few fewer = refl
coming_enough zero (suc m) passed [] few fewer = sym (none_comes (coming_at m (passed ++ take (done_with []) []) (drop (done_with []) [])) passed)
coming_enough zero (suc m) passed (byte ∷ rest) few fewer = absurd (omega arith)
coming_enough (suc n) zero passed [] few fewer = none_comes (coming_at n (passed ++ take (done_with []) []) (drop (done_with []) [])) passed
coming_enough (suc n) zero passed (byte ∷ rest) few fewer = absurd (omega arith)
coming_enough (suc n) (suc m) passed rest few fewer =
    same_by _ _ (next_of passed rest) (λ token is.
    let less = shorter passed rest token is in
    coming_enough n m (passed ++ take (done_with rest) rest) (drop (done_with rest) rest) (omega arith) (omega arith))

-- what comes is what comes next, and then what comes behind it
coming_once : (passed rest : List ℕ) → coming_by (coming (passed ++ take (done_with rest) rest) (drop (done_with rest) rest)) (next_of passed rest) ≡ coming passed rest
coming_once passed [] = none_comes (coming (passed ++ take (done_with []) []) (drop (done_with []) [])) passed
coming_once passed (byte ∷ rest) =
    let all = byte ∷ rest in
    same_by _ _ (next_of passed all) (λ token is.
    let less : length (drop (done_with all) all) < suc (length rest) = shorter passed all token is in
    coming_enough (length (drop (done_with all) all)) (length rest) (passed ++ take (done_with all) all) (drop (done_with all) all) (omega arith) (omega arith))

-- so it stays behind a call of the lexer
pub coming-next : (passed rest passed_then rest_then : List ℕ) (answer : Answer) → answer ≡ next_of passed rest → passed_then ≡ passed ++ take (done_with rest) rest → rest_then ≡ drop (done_with rest) rest
    → coming_by (coming passed_then rest_then) answer ≡ coming passed rest
coming-next passed rest passed_then rest_then answer given passed_is rest_is = rw (given, passed_is, rest_is) (coming_once passed rest)

-- the text stays behind a call of the lexer
pub text-next : (passed rest passed_then rest_then : List ℕ) → passed_then ≡ passed ++ take (done_with rest) rest → rest_then ≡ drop (done_with rest) rest → passed_then ++ rest_then ≡ passed ++ rest
text-next passed rest passed_then rest_then passed_is rest_is =
    rw (passed_is, rest_is) (append_assoc passed (take (done_with rest) rest) (drop (done_with rest) rest) ∙ ap (λ t. passed ++ t) (take-append-drop (done_with rest) rest))

-- what comes are the tokens of the text, and their end
lexes_by : (passed rest : List ℕ) (others : Coming) (answer : Answer) → next_of passed rest ≡ answer
    → ((token : Lexeme) → answer ≡ Ok (Some token) → Lexes (passed ++ take (done_with rest) rest) (drop (done_with rest) rest) others.tokens others.end)
    → (let all = coming_by others answer in Lexes passed rest all.tokens all.end)
lexes_by passed rest others (Ok (Some token)) is later = (is, later token refl)
lexes_by passed rest others (Ok None) is later = is
lexes_by passed rest others (Err refusal) is later = is

lexes_at : (count : ℕ) (passed rest : List ℕ) → length rest ≤ count → (let all = coming_at count passed rest in Lexes passed rest all.tokens all.end)
lexes_at zero passed [] few = refl
lexes_at zero passed (byte ∷ rest) few = absurd (omega arith)
lexes_at (suc count) passed rest few =
    lexes_by passed rest (coming_at count (passed ++ take (done_with rest) rest) (drop (done_with rest) rest)) (next_of passed rest) refl (λ token is.
    let less = shorter passed rest token is in
    lexes_at count (passed ++ take (done_with rest) rest) (drop (done_with rest) rest) (omega arith))

pub coming-lexes : (text : List ℕ) → Lexes [] text (coming [] text).tokens (coming [] text).end
coming-lexes text = lexes_at (length text) [] text (omega arith)

-- a token that passes a test is taken
pub take-first : (test : Lexeme → Bool) (others : Coming) (token : Lexeme) (left : List Lexeme) → test token ≡ true → left ≡ others.tokens → reading.take test (token ∷ others.tokens) ≡ Ok (token, left)
take-first test others token left passes is = rw passes (ap (λ (rest : List Lexeme). Ok (token, rest)) (sym is))
