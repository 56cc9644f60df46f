-- Reading one after another, as a loop does.
use Rattle.std.proofs.Common.{◌≡◌, ℕ, zero, suc, ◌≤◌, ◌<◌, if◌then◌else◌, Bool, true, false, List, [], ◌∷◌, ◌++◌, length, Ok, Err, refl, sym, ap, ◌∙◌, append_assoc, arith}
use Rattle.std.proofs.lemmas.List.{append-nil}
use Rattle.gql_lex.specs.Tokens.{Lexeme}
use Rattle.gql_doc.specs.inner.Reading.{Reading, Reader, Fails, behind, next_is, many_at, many}
use Rattle.gql_doc.specs.declared.parser.Stop.{Stop}
use Rattle.gql_doc.specs.declared.parser.Stop.TheVariants as stop

-- ---- readers that take a token

-- where the reader gives a value, it leaves fewer tokens
abbrev pub Shrinks : {A : Type 0} → Reader A → Type 0
Shrinks {A} reader = (tokens rest : List Lexeme) (value : A) → reader tokens ≡ Ok (value, rest) → length rest < length tokens

-- what a turn reads, and then the others
abbrev onwards : {A : Type 0} → (List Lexeme → Reading (List A)) → Reading A → Reading (List A)
onwards others read = behind read (λ value rest. behind (others rest) (λ values after. Ok (value ∷ values, after)))

-- from the number of the tokens on it is the same how often a reader may be called at most
turns_enough : {A : Type 0} (test : Lexeme → Bool) (reader : Reader A) → Shrinks reader → (n m : ℕ) (tokens : List Lexeme)
    → ((rest : List Lexeme) → length rest ≤ n → length rest ≤ m → many_at n test reader rest ≡ many_at m test reader rest)
    → (read : Reading A) → reader tokens ≡ read → length tokens ≤ suc n → length tokens ≤ suc m → onwards (many_at n test reader) read ≡ onwards (many_at m test reader) read
turns_enough test reader shrinks n m tokens same (Err e) is few fewer = refl
turns_enough test reader shrinks n m tokens same (Ok x) is few fewer =
    let less : length x.1 < length tokens = shrinks tokens x.1 x.0 is in
    ap (λ others. behind others (λ values after. Ok (x.0 ∷ values, after))) (same x.1 (omega arith) (omega arith))

many_enough : {A : Type 0} (test : Lexeme → Bool) (reader : Reader A) → Shrinks reader → (n m : ℕ) (tokens : List Lexeme) → length tokens ≤ n → length tokens ≤ m → many_at n test reader tokens ≡ many_at m test reader tokens
many_enough test reader shrinks zero zero tokens few fewer = refl
many_enough test reader shrinks zero (suc m) [] few fewer = refl
many_enough test reader shrinks zero (suc m) (token ∷ tokens) few fewer = absurd (omega arith)
many_enough test reader shrinks (suc n) zero [] few fewer = refl
many_enough test reader shrinks (suc n) zero (token ∷ tokens) few fewer = absurd (omega arith)
many_enough test reader shrinks (suc n) (suc m) tokens few fewer = ap (λ turns. if next_is test tokens then turns else Ok ([], tokens)) (turns_enough test reader shrinks n m tokens (many_enough test reader shrinks n m) (reader tokens) refl few fewer)

-- where the next token passes the test, the reader is called, and then as often as before
many_once : {A : Type 0} (test : Lexeme → Bool) (reader : Reader A) → Shrinks reader → (tokens : List Lexeme) → next_is test tokens ≡ true → many test reader tokens ≡ onwards (many test reader) (reader tokens)
many_once test reader shrinks [] passes = absurd cc
many_once test reader shrinks (token ∷ tokens) passes = rw passes (by (reader (token ∷ tokens)) refl)
  where
    by : (read : Reading _) → reader (token ∷ tokens) ≡ read → onwards (many_at (length tokens) test reader) read ≡ onwards (many test reader) read
    by (Err e) is = refl
    by (Ok x) is =
        let less : length x.1 < suc (length tokens) = shrinks (token ∷ tokens) x.1 x.0 is in
        ap (λ others. behind others (λ values after. Ok (x.0 ∷ values, after))) (many_enough test reader shrinks (length tokens) (length x.1) x.1 (omega arith) (omega arith))

-- where it doesn't, nothing is read
many_none : {A : Type 0} (test : Lexeme → Bool) (reader : Reader A) (tokens : List Lexeme) → next_is test tokens ≡ false → many test reader tokens ≡ Ok ([], tokens)
many_none test reader [] fails = refl
many_none test reader (token ∷ tokens) fails = rw fails refl

-- ---- the turns of a loop

-- what was read before, and what is still read
abbrev pub with_front : {A : Type 0} → List A → Reading (List A) → Reading (List A)
with_front front read = behind read (λ values rest. Ok (front ++ values, rest))

regroup : {A : Type 0} (front : List A) (value : A) (read : Reading (List A)) → with_front front (behind read (λ values rest. Ok (value ∷ values, rest))) ≡ with_front (front ++ value ∷ []) read
regroup front value (Ok x) = ap (λ (values : List _). Ok (values, x.1)) (sym (append_assoc front (value ∷ []) x.0))
regroup front value (Err e) = refl

-- a turn that reads one more
pub with_front-turn : {A : Type 0} (test : Lexeme → Bool) (reader : Reader A) → Shrinks reader → (front : List A) (tokens : List Lexeme) (value : A) (rest : List Lexeme) (total : Reading (List A))
    → next_is test tokens ≡ true → reader tokens ≡ Ok (value, rest)
    → with_front front (many test reader tokens) ≡ total → with_front (front ++ value ∷ []) (many test reader rest) ≡ total
with_front-turn test reader shrinks front tokens value rest total passes reads so_far =
    sym (regroup front value (many test reader rest)) ∙ sym (ap (λ read. with_front front (onwards (many test reader) read)) reads) ∙ sym (ap (with_front front) (many_once test reader shrinks tokens passes)) ∙ so_far

-- a turn that stops
pub with_front-stop : {A : Type 0} (test : Lexeme → Bool) (reader : Reader A) → Shrinks reader → (front : List A) (tokens left : List Lexeme) (why : Stop) (total : Reading (List A))
    → next_is test tokens ≡ true → Fails why left (reader tokens)
    → with_front front (many test reader tokens) ≡ total → Fails why left total
with_front-stop test reader shrinks front tokens left stop.NoMemory total passes fails so_far = tt
with_front-stop test reader shrinks front tokens left stop.Unexpected total passes fails so_far =
    sym so_far ∙ ap (with_front front) (many_once test reader shrinks tokens passes) ∙ ap (λ read. with_front front (onwards (many test reader) read)) fails
with_front-stop test reader shrinks front tokens left stop.TooDeep total passes fails so_far =
    sym so_far ∙ ap (with_front front) (many_once test reader shrinks tokens passes) ∙ ap (λ read. with_front front (onwards (many test reader) read)) fails

-- behind the last turn
pub with_front-end : {A : Type 0} (test : Lexeme → Bool) (reader : Reader A) (front : List A) (tokens : List Lexeme) (total : Reading (List A))
    → next_is test tokens ≡ false → with_front front (many test reader tokens) ≡ total → total ≡ Ok (front, tokens)
with_front-end test reader front tokens total fails so_far =
    sym so_far ∙ ap (with_front front) (many_none test reader tokens fails) ∙ ap (λ (values : List _). Ok (values, tokens)) (append-nil front)
