use Rattle.std.proofs.Common.{ap, sym, ◌∙◌, Some, None}
use Rattle.std.specs.Option.{option_copied}
use Rattle.gql_schema.proofs.LookUps.{kind_found}
use Rattle.gql_schema.proofs.defined.kind_named.Goals as goal

pub returns-in-Some : goal.returns-in-Some
returns-in-Some c = kind_found c.args.types.now c.args.name.now (Some c.in-Some.of.now) (ap option_copied (sym c.in-Some.is) ∙ c.get.ensures)

pub returns-in-None : goal.returns-in-None
returns-in-None c = kind_found c.args.types.now c.args.name.now None (ap option_copied (sym c.in-None.is) ∙ c.get.ensures)
