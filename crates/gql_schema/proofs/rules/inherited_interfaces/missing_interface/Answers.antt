use Rattle.std.proofs.Common.{map}
use Rattle.gql_schema.specs.Seen.{defined}
use Rattle.gql_schema.proofs.Walking.{typewise_ok}
use Rattle.gql_model.specs.rules.types.InheritedInterfaces.{missing_interfaces_of}
use Rattle.gql_schema.proofs.rules.inherited_interfaces.missing_interface.Goals as goal

pub returns : goal.returns
returns c = typewise_ok (missing_interfaces_of (map defined c.args.types.now)) c.as_slice.result.now c.args.types.now c.as_slice.ensures.now c.try_first_among.result c.try_first_among.ensures
