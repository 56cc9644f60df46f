use Rattle.std.proofs.Common.{ap, sym, ◌∙◌, map, Some, None}
use Rattle.std.specs.Option.{option_copied}
use Rattle.gql_schema.specs.Seen.{defined}
use Rattle.gql_schema.proofs.LookUps.{named_as, object_if, object_found}
use Rattle.gql_schema.proofs.defined.input_object.Goals as goal

pub returns-in-Some : goal.returns-in-Some
returns-in-Some c = c.if_input.ensures ∙ ap object_if (named_as c.args.types.now c.args.name.now (Some c.in-Some.of.now) (ap option_copied (sym c.in-Some.is) ∙ c.get.ensures)) ∙ object_found (map defined c.args.types.now) c.args.name.now

pub returns-in-None : goal.returns-in-None
returns-in-None c = ap object_if (named_as c.args.types.now c.args.name.now None (ap option_copied (sym c.in-None.is) ∙ c.get.ensures)) ∙ object_found (map defined c.args.types.now) c.args.name.now
