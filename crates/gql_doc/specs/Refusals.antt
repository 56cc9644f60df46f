-- What a user is shown of a text that is no document: a name, and a place.
use Rattle.std.specs.Prelude.{ℕ, List, Option, None, Some, codes}
use Rattle.gql_tree.specs.declared.Spot.{Spot}
use Rattle.gql_lex.specs.Refusals.{lex_name}
use Rattle.gql_lex.specs.TokenPlaces.{place_of}
use Rattle.gql_doc.specs.declared.refusal.ParseRefusal.{ParseRefusal}
use Rattle.gql_doc.specs.declared.refusal.ParseRefusal.TheVariants.{TooLong, Lex, Unexpected, TooDeep, NoMemory}

abbrev pub parse_name : ParseRefusal → List ℕ
parse_name TooLong = codes "TooLong"
parse_name (Lex refusal) = lex_name refusal
parse_name (Unexpected spot) = codes "Unexpected"
parse_name (TooDeep spot) = codes "TooDeep"
parse_name NoMemory = codes "NoMemory"

-- a text that is too long has no place
abbrev pub parse_spot : ParseRefusal → Option Spot
parse_spot TooLong = None
parse_spot (Lex refusal) = Some (place_of refusal)
parse_spot (Unexpected spot) = Some spot
parse_spot (TooDeep spot) = Some spot
parse_spot NoMemory = None
