use Rattle.std.proofs.Common.{ap, sym, ◌∙◌, Some, None}
use Rattle.std.specs.Option.{option_copied}
use Rattle.gql_schema.proofs.LookUps.{named_as, members_if}
use Rattle.gql_schema.proofs.defined.members_of.Goals as goal

pub returns-in-Some : goal.returns-in-Some
returns-in-Some c = ap members_if (named_as c.args.types.now c.args.name.now (Some c.in-Some.of.now) (ap option_copied (sym c.in-Some.is) ∙ c.get.ensures))

pub returns-in-None : goal.returns-in-None
returns-in-None c = ap members_if (named_as c.args.types.now c.args.name.now None (ap option_copied (sym c.in-None.is) ∙ c.get.ensures))
