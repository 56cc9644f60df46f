-- What is found at the front as a string, and what stands there where something is wrong.
use Rattle.std.proofs.Common.{◌≡◌, ◌≢◌, ℕ, ◌==◌, Bool, true, false, List, ◌++◌, length, take, drop, Some, refl, ap, sym, ◌∙◌}
use Rattle.std.specs.Prelude.{nat_eq}
use Rattle.std.specs.List.{starts_with}
use Rattle.std.proofs.lemmas.Bool.{cond_both}
use Rattle.gql_lex.specs.declared.run.Pieces.TheVariants.{BlockItems}
use Rattle.gql_lex.specs.declared.scan.Found.{Found}
use Rattle.gql_lex.specs.declared.scan.Found.TheVariants.{Token, Wrong}
use Rattle.gql_lex.specs.declared.scan.Fault.{Fault}
use Rattle.gql_lex.specs.declared.token.TokenKind.TheVariants as kind
use Rattle.gql_lex.specs.Runs.{run_len}
use Rattle.gql_lex.specs.Strings.{allowed_len, block}
use Rattle.gql_lex.specs.Front.{front}
use Rattle.gql_lex.specs.StringTexts.{three_quotes, begins_quotes, IsQuoted, IsBlock}
use Rattle.gql_lex.proofs.Found.{starts_split}
use Rattle.gql_lex.proofs.Tokens.{token-sound}
use Rattle.gql_lex.proofs.QuotedTexts.{front-quoted_text}
use Rattle.gql_lex.proofs.BlockTexts.{front-block_text}

-- what is found as a quoted string is one
pub quoted-is : (text : List ℕ) (len : ℕ) → front text ≡ Some (Token kind.Quoted len) → (value : List ℕ) × IsQuoted (take len text) value
quoted-is text len found = (token-sound text kind.Quoted len found).right

-- what is found as a block string is one
pub block-is : (text : List ℕ) (len : ℕ) → front text ≡ Some (Token kind.Block len) → (raw : List ℕ) × IsBlock (take len text) raw
block-is text len found = (token-sound text kind.Block len found).right

not_quoted : (text : List ℕ) (len : ℕ) → block text ≢ Token kind.Quoted len
not_quoted text len =
    cond_both (starts_with nat_eq (drop (run_len BlockItems 0 text) text) three_quotes) _ _ (λ (found : Found). found ≢ Token kind.Quoted len)
    (λ _. cond_both (allowed_len (take (run_len BlockItems 0 text) text) == length (take (run_len BlockItems 0 text) text)) _ _ (λ (found : Found). found ≢ Token kind.Quoted len) (λ _ e. cc) (λ _ e. cc))
    (λ _ e. cc)

alone_by : (text : List ℕ) (len : ℕ) (b : Bool) → begins_quotes text ≡ b → front text ≡ Some (Token kind.Quoted len) → b ≡ false
alone_by text len false is found = refl
alone_by text len true is found =
    let one : Some (block (drop 3 text)) ≡ Some (Token kind.Quoted len) = sym (ap front (starts_split three_quotes text is)) ∙ found in
    absurd (not_quoted (drop 3 text) len (cc))

-- no quoted string is found where three quotes begin
pub quoted-alone : (text : List ℕ) (len : ℕ) → front text ≡ Some (Token kind.Quoted len) → begins_quotes text ≡ false
quoted-alone text len found = alone_by text len (begins_quotes text) refl found

none_by : (text : List ℕ) (fault : Fault) (inside : ℕ) → front text ≡ Some (Wrong fault inside) → (token rest value : List ℕ) → IsQuoted token value → text ≡ token ++ rest → (b : Bool) → begins_quotes text ≡ b → b ≡ true
none_by text fault inside wrong token rest value is at true e = refl
none_by text fault inside wrong token rest value is at false e =
    let found = sym wrong ∙ ap front at ∙ front-quoted_text token rest value is (sym (ap begins_quotes at) ∙ e) in
    absurd (cc)

-- where something is wrong, no quoted string stands at the front, but for the first two of three quotes
pub quoted-none : (text : List ℕ) (fault : Fault) (inside : ℕ) → front text ≡ Some (Wrong fault inside) → (token rest value : List ℕ) → IsQuoted token value → text ≡ token ++ rest → begins_quotes text ≡ true
quoted-none text fault inside wrong token rest value is at = none_by text fault inside wrong token rest value is at (begins_quotes text) refl

-- where something is wrong, no block string stands at the front
pub block-none : (text : List ℕ) (fault : Fault) (inside : ℕ) → front text ≡ Some (Wrong fault inside) → (token rest raw : List ℕ) → IsBlock token raw → text ≢ token ++ rest
block-none text fault inside wrong token rest raw is at = (let found = sym wrong ∙ ap front at ∙ front-block_text token rest raw is in cc)
