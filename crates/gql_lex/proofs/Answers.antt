-- How the lexer's answers follow from what stands at the front.
use Rattle.std.proofs.Common.{◌≡◌, ℕ, zero, suc, ◌+◌, ◌-◌, ◌<◌, ◌≤◌, List, [], ◌∷◌, ◌++◌, length, take, drop, get_or, Some, Err, refl, ap, sym, ◌∙◌, subst, arith, append_assoc, zero-add, length-drop}
use Rattle.std.specs.Str.{IsUtf8, IsCharBoundary}
use Rattle.std.proofs.lemmas.List.{get_or-drop, drop-drop}
use Rattle.std.proofs.lemmas.Str.{IsUtf8-drop, IsCharBoundary-before_ascii, IsCharBoundary-after_ascii}
use Rattle.gql_tree.specs.declared.Spot.{Spot}
use Rattle.gql_lex.specs.declared.scan.Found.TheVariants.{Wrong}
use Rattle.gql_lex.specs.declared.scan.Fault.{Fault}
use Rattle.gql_lex.specs.declared.refusal.LexRefusal.{LexRefusal}
use Rattle.gql_lex.specs.Places.{spot_at}
use Rattle.gql_lex.specs.Front.{front}
use Rattle.gql_lex.specs.Tokens.{blanks, refusal, answer_by, next_of}

-- a text may be cut behind a token
pub IsCharBoundary-token : (text here : List ℕ) (count len : ℕ) → IsUtf8 text → here ≡ drop count text → 0 < len → count + len ≤ length text → get_or text count 0 < 128 → get_or text (count + (len - 1)) 0 < 128 → IsCharBoundary here len
IsCharBoundary-token text here count len utf8 is some fits first last =
    let rest : IsUtf8 (drop count text) = IsUtf8-drop text count utf8 (IsCharBoundary-before_ascii text count (omega arith) first) in
    let at : IsCharBoundary (drop count text) (len - 1 + 1) = IsCharBoundary-after_ascii (drop count text) (len - 1) rest (omega (arith, length-drop count text)) (subst (λ x. x < 128) (sym (get_or-drop count text (len - 1) 0)) last) in
    let whole : len - 1 + 1 ≡ len = omega arith in
    subst (λ bs. IsCharBoundary bs len) (sym is) (subst (IsCharBoundary (drop count text)) whole at)

take-nil : (k : ℕ) → take {A = ℕ} k [] ≡ []
take-nil zero = refl
take-nil (suc k) = refl

-- more bytes from the front are those and then more
pub take-split : (n m : ℕ) (xs : List ℕ) → take (n + m) xs ≡ take n xs ++ take m (drop n xs)
take-split zero m xs = ap (λ k. take k xs) (zero-add m)
take-split (suc n) m [] = take-nil (suc n + m) ∙ sym (take-nil m)
take-split (suc n) m (x ∷ xs) = ap (λ k. take k (x ∷ xs)) (suc-more n m) ∙ ap (λ ys. x ∷ ys) (take-split n m xs)
  where
    suc-more : (n m : ℕ) → suc n + m ≡ suc (n + m)
    suc-more n m = omega arith

-- a refusal, as its place was counted
pub next_of-wrong : (passed rest : List ℕ) (count inside : ℕ) (fault : Fault) (spot : Spot) (r : LexRefusal) → count ≡ blanks rest → Some (Wrong fault inside) ≡ front (drop count rest) → spot ≡ spot_at (passed ++ take (count + inside) rest) (drop (count + inside) rest) → r ≡ refusal fault spot → Err r ≡ next_of passed rest
next_of-wrong passed rest count inside fault spot r count_is found spot_is r_is =
    ap Err r_is
    ∙ ap (λ (s : Spot). Err (refusal fault s))
    (spot_is
    ∙ ap (λ p. spot_at (passed ++ p) (drop (count + inside) rest)) (take-split count inside rest)
    ∙ ap (λ p. spot_at p (drop (count + inside) rest)) (sym (append_assoc passed (take count rest) (take inside (drop count rest))))
    ∙ ap (spot_at ((passed ++ take count rest) ++ take inside (drop count rest))) (sym (drop-drop inside count rest)))
    ∙ ap (answer_by (passed ++ take count rest) (drop count rest)) found
    ∙ ap (λ n. answer_by (passed ++ take n rest) (drop n rest) (front (drop n rest))) count_is

-- the place behind some blanks and a token, by the place before them
pub spot_at-more : (text : List ℕ) (start count len : ℕ) (spot behind : Spot)
    → spot ≡ spot_at (take start text ++ take count (drop start text)) (drop count (drop start text))
    → (spot ≡ spot_at (take start text ++ take count (drop start text)) (drop count (drop start text)) → behind ≡ spot_at ((take start text ++ take count (drop start text)) ++ take len (drop count (drop start text))) (drop len (drop count (drop start text))))
    → behind ≡ spot_at (take (start + count + len) text) (drop (start + count + len) text)
spot_at-more text start count len spot behind here there =
    there here
    ∙ ap (λ p. spot_at (p ++ take len (drop count (drop start text))) (drop len (drop count (drop start text)))) (sym (take-split start count text))
    ∙ ap (λ t. spot_at (take (start + count) text ++ take len t) (drop len t)) (drop-drop count start text)
    ∙ ap (λ p. spot_at p (drop len (drop (start + count) text))) (sym (take-split (start + count) len text))
    ∙ ap (spot_at (take (start + count + len) text)) (drop-drop len (start + count) text)
