use Rattle.gql_schema.proofs.Answered.{judged_as, unread_judged}
use Rattle.gql_schema.proofs.reading.read_schema.Goals as goal

pub returns-in-Ok-clause-found : goal.returns-in-Ok-clause-found
returns-in-Ok-clause-found c it short is = judged_as it c.in-Ok.document c.judged.result (c.in-Ok.ensures.found it short is) c.judged.ensures

pub returns-in-Err-clause-found : goal.returns-in-Err-clause-found
returns-in-Err-clause-found c it short is = unread_judged it c.in-Err.why c.unread.result c.unread.ensures (c.in-Err.ensures.found it short is)
