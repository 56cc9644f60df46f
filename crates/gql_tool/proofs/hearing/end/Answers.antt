use Rattle.gql_client.specs.declared.stop.ClientRefusal.TheVariants.{Refused}
use Rattle.gql_tool.proofs.Replays.{Meets-whole, Meets-end, err_by}
use Rattle.gql_tool.proofs.hearing.end.Goals as goal

pub returns-in-Ok-clause-meets : goal.returns-in-Ok-clause-meets
returns-in-Ok-clause-meets g c = λ boundary bytes within stands.
    let ended = c.in-Ok.ensures.taken _ stands in
    Meets-whole c.finish.new.self boundary bytes _ _ _ within ended.0 ended.1 c.put_lines.ensures.meets

pub returns-in-Err-Refused-clause-meets : goal.returns-in-Err-Refused-clause-meets
returns-in-Err-Refused-clause-meets g c = λ boundary bytes within stands.
    Meets-end c.args.client.now c.finish.new.self boundary bytes _ _ _ within stands (c.finish.ensures.refused (err_by c.finish.result c.in-Err-Refused.field-0 Refused c.in-Err-Refused.is c.in-Err-Refused.field-0-is) _ stands) c.finish.ensures.merger c.put_lines-in-Err-Refused.ensures.meets
