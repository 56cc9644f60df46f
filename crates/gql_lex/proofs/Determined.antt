-- The tokens of a text are determined.
use Rattle.std.proofs.Common.{◌≡◌, ℕ, List, [], ◌∷◌, ◌++◌, take, drop, Option, Some, Result, Ok, refl, sym, ◌∙◌}
use Rattle.gql_lex.specs.declared.refusal.LexRefusal.{LexRefusal}
use Rattle.gql_lex.specs.Tokens.{Lexeme, End, Whole, Refused, ended, done_with, Lexes}

one_token : (t u : Lexeme) → (let a : Result (Option Lexeme) LexRefusal = Ok (Some t) in let b : Result (Option Lexeme) LexRefusal = Ok (Some u) in a ≡ b) → t ≡ u
one_token t u e = cc

one_end : (s e : End) → ended s ≡ ended e → s ≡ e
one_end Whole Whole h = refl
one_end Whole (Refused r) h = absurd (cc)
one_end (Refused r) Whole h = absurd (cc)
one_end (Refused r) (Refused q) h = cc

no_end : (t : Lexeme) (e : End) → ended e ≡ Ok (Some t) → ⊥
no_end t Whole h = cc
no_end t (Refused r) h = cc

pub Lexes-determined : (passed rest : List ℕ) → (ts us : List Lexeme) → (s e : End) → Lexes passed rest ts s → Lexes passed rest us e → (ts ≡ us) × (s ≡ e)
Lexes-determined passed rest [] [] s e a b = (refl, one_end s e (sym a ∙ b))
Lexes-determined passed rest [] (u ∷ us) s e a b = absurd (no_end u s (sym a ∙ b.0))
Lexes-determined passed rest (t ∷ ts) [] s e a b = absurd (no_end t e (sym b ∙ a.0))
Lexes-determined passed rest (t ∷ ts) (u ∷ us) s e a b =
    let same = one_token t u (sym a.0 ∙ b.0) in
    let more = Lexes-determined (passed ++ take (done_with rest) rest) (drop (done_with rest) rest) ts us s e a.1 b.1 in
    ((λ i. same i ∷ more.0 i), more.1)
