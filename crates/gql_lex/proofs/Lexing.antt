-- The tokens of a text, one after another: each is right for its kind, and each text has them.
use Rattle.std.proofs.Common.{◌≡◌, ℕ, zero, suc, ◌+◌, ◌-◌, ◌<◌, ◌≤◌, List, [], ◌∷◌, ◌++◌, length, take, drop, get_or, Option, Some, None, Result, Ok, Err, refl, ap, sym, ◌∙◌, subst, arith, length-drop}
use Rattle.std.specs.List.{AllByRecursion as Each}
use Rattle.std.specs.Str.{IsUtf8, IsCharBoundary}
use Rattle.std.proofs.lemmas.List.{get_or-drop, drop-drop}
use Rattle.std.proofs.lemmas.Str.{IsUtf8-take, IsUtf8-drop, IsCharBoundary-before_ascii, IsCharBoundary-after_ascii}
use Rattle.gql_lex.specs.declared.scan.Found.{Found}
use Rattle.gql_lex.specs.declared.scan.Found.TheVariants.{Token, Wrong}
use Rattle.gql_lex.specs.declared.refusal.LexRefusal.{LexRefusal}
use Rattle.gql_lex.specs.Front.{front}
use Rattle.gql_lex.specs.Tokens.{Lexeme, End, Whole, Refused, answer_by, blanks, next_of, done_by, done_with, Lexes}
use Rattle.gql_lex.proofs.Texts.{IsTextOf}
use Rattle.gql_lex.proofs.Tokens.{IsSound, token-sound}

-- a token stands at the front, behind the blanks
pub record IsNext (rest : List ℕ) (token : Lexeme) : Type 0 where
  pub len : ℕ
  pub sound : IsSound (drop (blanks rest) rest) token.kind len
  pub text : token.text ≡ take len (drop (blanks rest) rest)
  pub done : done_with rest ≡ blanks rest + len

-- the answer is a token where one is found
answered : (passed here : List ℕ) (found : Option Found) (token : Lexeme) → answer_by passed here found ≡ Ok (Some token) → (len : ℕ) × (found ≡ Some (Token token.kind len)) × (token.text ≡ take len here)
answered passed here None token is = absurd (cc)
answered passed here (Some (Token kind len)) token is =
    (len, ap (λ k. Some (Token k len)) (let e : kind ≡ token.kind = cc in e), (let e : token.text ≡ take len here = cc in e))
answered passed here (Some (Wrong fault inside)) token is = absurd (cc)

pub is_next : (passed rest : List ℕ) (token : Lexeme) → next_of passed rest ≡ Ok (Some token) → IsNext rest token
is_next passed rest token is =
    let here = drop (blanks rest) rest in
    let a = answered (passed ++ take (blanks rest) rest) here (front here) token is in
    record { len = a.0; sound = token-sound here token.kind a.0 a.1; text = a.2; done = ap (done_by (blanks rest)) a.1 }

-- ---- kinds

-- a token is right for its kind
abbrev pub IsRight : Lexeme → Type 0
IsRight token = IsTextOf token.kind token.text

-- each token is right for its kind
pub tokens-right : (passed rest : List ℕ) (tokens : List Lexeme) (end : End) → Lexes passed rest tokens end → Each IsRight tokens
tokens-right passed rest [] end lexes = tt
tokens-right passed rest (token ∷ tokens) end lexes =
    let next = is_next passed rest token lexes.0 in
    (subst (IsTextOf token.kind) (sym next.text) next.sound.right, tokens-right (passed ++ take (done_with rest) rest) (drop (done_with rest) rest) tokens end lexes.1)

-- ---- UTF-8

-- a text may be cut before a token and behind it
cut : (rest : List ℕ) (token : Lexeme) → IsNext rest token → IsUtf8 rest → IsUtf8 token.text × IsUtf8 (drop (done_with rest) rest)
cut rest token next utf8 =
    let count = blanks rest in
    let here = drop count rest in
    let len = next.len in
    let s = next.sound in
    let within : count < length rest = (let some = s.some in let fits = s.fits in omega (arith, length-drop count rest)) in
    let first : get_or rest (count + 0) 0 < 128 = subst (λ b. b < 128) (get_or-drop count rest 0 0) s.first in
    let begins : get_or rest count 0 < 128 = subst (λ n. get_or rest n 0 < 128) (let e : count + 0 ≡ count = omega arith in e) first in
    let left : IsUtf8 here = IsUtf8-drop rest count utf8 (IsCharBoundary-before_ascii rest count within begins) in
    let last : len - 1 < length here = (let some = s.some in let fits = s.fits in omega arith) in
    let whole : len - 1 + 1 ≡ len = (let some = s.some in omega arith) in
    let at : IsCharBoundary here len = subst (IsCharBoundary here) whole (IsCharBoundary-after_ascii here (len - 1) left last s.last) in (
      subst IsUtf8 (sym next.text) (IsUtf8-take here len left at),
      subst IsUtf8 (drop-drop len count rest ∙ ap (λ n. drop n rest) (sym next.done)) (IsUtf8-drop here len left at),
    )

-- the tokens of a UTF-8 text are UTF-8
pub tokens-utf8 : (passed rest : List ℕ) (tokens : List Lexeme) (end : End) → IsUtf8 rest → Lexes passed rest tokens end → Each (λ (token : Lexeme). IsUtf8 token.text) tokens
tokens-utf8 passed rest [] end utf8 lexes = tt
tokens-utf8 passed rest (token ∷ tokens) end utf8 lexes =
    let both = cut rest token (is_next passed rest token lexes.0) utf8 in
    (both.0, tokens-utf8 (passed ++ take (done_with rest) rest) (drop (done_with rest) rest) tokens end both.1 lexes.1)

-- ---- every text

abbrev HasTokens : List ℕ → List ℕ → Type 0
HasTokens passed rest = (tokens : List Lexeme) × (end : End) × Lexes passed rest tokens end

-- a token takes some bytes
shorter : (rest : List ℕ) (token : Lexeme) → IsNext rest token → length (drop (done_with rest) rest) < length rest
shorter rest token next =
    let some = next.sound.some in
    let fits = next.sound.fits in
    let done = next.done in
    omega (arith, length-drop (done_with rest) rest, length-drop (blanks rest) rest)

by_answer : (passed rest : List ℕ) (answer : Result (Option Lexeme) LexRefusal) → next_of passed rest ≡ answer → ((before after : List ℕ) → length after < length rest → HasTokens before after) → HasTokens passed rest
by_answer passed rest (Err refusal) is later = ([], Refused refusal, is)
by_answer passed rest (Ok None) is later = ([], Whole, is)
by_answer passed rest (Ok (Some token)) is later =
    let more = later (passed ++ take (done_with rest) rest) (drop (done_with rest) rest) (shorter rest token (is_next passed rest token is)) in
    (token ∷ more.0, more.1, (is, more.2))

has_tokens : (bound : ℕ) (passed rest : List ℕ) → length rest ≤ bound → HasTokens passed rest
has_tokens zero passed rest within = by_answer passed rest (next_of passed rest) refl (λ before after less. absurd (omega arith))
has_tokens (suc bound) passed rest within = by_answer passed rest (next_of passed rest) refl (λ before after less. has_tokens bound before after (omega arith))

-- every text has tokens and an end
pub Lexes-all : (text : List ℕ) → (tokens : List Lexeme) × (end : End) × Lexes [] text tokens end
Lexes-all text = has_tokens (length text) [] text (omega arith)
