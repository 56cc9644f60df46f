use Rattle.std.proofs.Common.{ap, ◌∙◌}
use Rattle.gql_tool.specs.hero.Shape.{hero_of}
use Rattle.gql_tool.proofs.hero_lemmas.Only.{found_only}
use Rattle.gql_tool.proofs.hero_lemmas.Written.{written_found}
use Rattle.gql_tool.proofs.hero.laws.executed_documents.Goals as goal

pub returns-clause-only : goal.returns-clause-only
returns-clause-only c = found_only

pub returns-clause-all : goal.returns-clause-all
returns-clause-all c = λ it hero (at, is, has, once). ap hero_of is ∙ written_found at hero has once
