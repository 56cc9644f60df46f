use Rattle.gql_lex.proofs.TokenPlaces.{tokens-slices, tokens-rise, tokens-refused}
use Rattle.gql_lex.proofs.laws.tokens_stand_in_their_text.Goals as goal

pub returns : goal.returns
returns c = record { slices = tokens-slices; rise = tokens-rise; refused = tokens-refused }
