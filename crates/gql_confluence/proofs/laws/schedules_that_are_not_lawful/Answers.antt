use Rattle.std.proofs.Common.{◌≡◌, true, false}
use Rattle.gql_confluence.proofs.laws.schedules_that_are_not_lawful.Goals as goal

never : false ≡ true → ⊥
never e = cc

pub returns-clause-done_at_the_start : goal.returns-clause-done_at_the_start
returns-clause-done_at_the_start c = λ h. never h.done

pub returns-clause-backwards : goal.returns-clause-backwards
returns-clause-backwards c = λ h. never h.items
