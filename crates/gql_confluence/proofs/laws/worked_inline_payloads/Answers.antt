use Rattle.std.proofs.Common.{refl}
use Rattle.gql_confluence.proofs.laws.worked_inline_payloads.Goals as goal

pub returns-clause-top : goal.returns-clause-top
returns-clause-top c = refl

pub returns-clause-inside : goal.returns-clause-inside
returns-clause-inside c = refl

pub returns-clause-in_items : goal.returns-clause-in_items
returns-clause-in_items c = refl
