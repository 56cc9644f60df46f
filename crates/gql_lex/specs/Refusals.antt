-- The names of refusals, as they are shown to a user.
use Rattle.std.specs.Prelude.{ℕ, List, codes}
use Rattle.gql_lex.specs.declared.refusal.LexRefusal.{LexRefusal}
use Rattle.gql_lex.specs.declared.refusal.LexRefusal.TheVariants.{BadCharacter, BadEscape, OpenString, BadNumber, FloatToken}

abbrev pub lex_name : LexRefusal → List ℕ
lex_name (BadCharacter spot) = codes "BadCharacter"
lex_name (BadEscape spot) = codes "BadEscape"
lex_name (OpenString spot) = codes "OpenString"
lex_name (BadNumber spot) = codes "BadNumber"
lex_name (FloatToken spot) = codes "FloatToken"
