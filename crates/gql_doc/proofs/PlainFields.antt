-- Fields without an alias, arguments and directives.
use Rattle.std.proofs.Common.{◌≡◌, ℕ, false, List, [], ◌∷◌, Result, Ok, Err, MatchResult, refl, sym, ap, ◌∙◌, codes}
use Rattle.std.proofs.lemmas.Bool.{or_parts}
use Rattle.gql_lex.specs.Tokens.{Lexeme}
use Rattle.gql_doc.specs.Terminals.{is_punctuator, is_name, is_field_part}
use Rattle.gql_doc.specs.inner.Reading.{Reading, Reader, Gives, Fails, behind, take, next_is, listed, field, plain_field, behind_name, behind_names, arguments, directives}
use Rattle.gql_doc.specs.declared.parser.Stop.{Stop}
use Rattle.gql_doc.specs.declared.parser.Stop.TheVariants as stop
use Rattle.gql_model.specs.declared.syntax.Selection.{Selection}

-- the field of this name with the selections that were read
with_name : Lexeme → Reading (List Selection) → Reading Selection
with_name first read = behind read (λ inside rest. Ok (plain_field first inside, rest))

-- where nothing stands between a field's name and its selection set, only the set is read
behind_name-plain : (room : ℕ) (inner : Reader (List Selection)) (first : Lexeme) (tokens : List Lexeme) → next_is is_field_part tokens ≡ false
    → behind_name room inner first tokens ≡ with_name first (listed (is_punctuator (codes "{")) inner tokens)
unfolding with_name behind_name behind_names arguments directives
behind_name-plain room inner first [] none = refl
behind_name-plain room inner first (token ∷ tokens) none =
    let no_colon = or_parts (is_punctuator (codes ":") token) _ none in
    let no_more = or_parts (is_punctuator (codes "(") token) _ no_colon.1 in
    rw (no_colon.0, no_more.0, no_more.1) refl

field-plain : (room : ℕ) (inner : Reader (List Selection)) (first : Lexeme) (tokens rest : List Lexeme) → take is_name tokens ≡ Ok (first, rest) → next_is is_field_part rest ≡ false
    → field room inner tokens ≡ with_name first (listed (is_punctuator (codes "{")) inner rest)
unfolding field
field-plain room inner first tokens rest reads none = rw reads (behind_name-plain room inner first rest none)

-- the field is made
pub plain-made : (room : ℕ) (inner : Reader (List Selection)) (first : Lexeme) (tokens rest left : List Lexeme) (inside : List Selection) (result : Result Selection Stop)
    → take is_name tokens ≡ Ok (first, rest) → next_is is_field_part rest ≡ false → listed (is_punctuator (codes "{")) inner rest ≡ Ok (inside, left)
    → MatchResult result (λ it. it ≡ plain_field first inside) (λ why. why ≡ stop.NoMemory) → Gives (λ x. x) result left (field room inner tokens)
unfolding with_name
plain-made room inner first tokens rest left inside (Ok it) reads none set made = field-plain room inner first tokens rest reads none ∙ ap (with_name first) set ∙ ap (λ (it : Selection). Ok (it, left)) (sym made)
plain-made room inner first tokens rest left inside (Err stop.NoMemory) reads none set made = tt
plain-made room inner first tokens rest left inside (Err stop.Unexpected) reads none set made = absurd cc
plain-made room inner first tokens rest left inside (Err stop.TooDeep) reads none set made = absurd cc

-- its selection set stops
pub plain-stopped : (room : ℕ) (inner : Reader (List Selection)) (first : Lexeme) (tokens rest left : List Lexeme) (why : Stop)
    → take is_name tokens ≡ Ok (first, rest) → next_is is_field_part rest ≡ false → Fails why left (listed (is_punctuator (codes "{")) inner rest) → Fails why left (field room inner tokens)
unfolding with_name
plain-stopped room inner first tokens rest left stop.NoMemory reads none fails = tt
plain-stopped room inner first tokens rest left stop.Unexpected reads none fails = field-plain room inner first tokens rest reads none ∙ ap (with_name first) fails
plain-stopped room inner first tokens rest left stop.TooDeep reads none fails = field-plain room inner first tokens rest reads none ∙ ap (with_name first) fails
