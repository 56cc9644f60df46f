use Rattle.gql_tool.proofs.hero_lemmas.Merged.{merged_is_plain}
use Rattle.gql_tool.proofs.hero_lemmas.Reading.{built-once, built-stands}
use Rattle.gql_tool.proofs.hero.laws.a_response_without_failures_is_plain.Goals as goal

pub returns-clause-data : goal.returns-clause-data
returns-clause-data c = λ vars schema tables document t d value faults is merged.
    (merged_is_plain t d (built-once vars schema tables document t d is) (built-stands vars schema tables document t d is) value faults merged).0

pub returns-clause-errors : goal.returns-clause-errors
returns-clause-errors c = λ vars schema tables document t d value faults is merged.
    (merged_is_plain t d (built-once vars schema tables document t d is) (built-stands vars schema tables document t d is) value faults merged).1
