use Rattle.gql_tool.proofs.Executes.{executed-failing, executed-ending}
use Rattle.gql_tool.specs.hero.Built.{regions_of}
use Rattle.gql_tool.proofs.request.execute.Goals as goal

pub deliver-requires-clause-once : goal.deliver-requires-clause-once
deliver-requires-clause-once g c = c.requires.runs.once

pub deliver-requires-clause-stands : goal.deliver-requires-clause-stands
deliver-requires-clause-stands g c = c.requires.runs.stands

pub returns-in_err-deliver-clause-meets : goal.returns-in_err-deliver-clause-meets
returns-in_err-deliver-clause-meets g c =
    (executed-failing (regions_of c.args.request.now) c.requires.runs.served c.args.client.now c.requires.client c.args.cut _ _ c.deliver.new.client _ _ c.from_residual.ensures.1 c.in_err-deliver.ensures.handed).0

pub returns-in_err-deliver-clause-client : goal.returns-in_err-deliver-clause-client
returns-in_err-deliver-clause-client g c =
    (executed-failing (regions_of c.args.request.now) c.requires.runs.served c.args.client.now c.requires.client c.args.cut _ _ c.deliver.new.client _ _ c.from_residual.ensures.1 c.in_err-deliver.ensures.handed).1

pub returns-clause-meets : goal.returns-clause-meets
returns-clause-meets g c =
    (executed-ending (regions_of c.args.request.now) c.requires.runs.served c.args.client.now c.requires.client c.args.cut _ _ _ c.deliver.new.client _ c.in_ok-deliver.ensures.handed c.put_merged_line.ensures.sent).0

pub returns-clause-client : goal.returns-clause-client
returns-clause-client g c =
    (executed-ending (regions_of c.args.request.now) c.requires.runs.served c.args.client.now c.requires.client c.args.cut _ _ _ c.deliver.new.client _ c.in_ok-deliver.ensures.handed c.put_merged_line.ensures.sent).1
