use Rattle.std.proofs.Common.{◌∙◌, ap, map}
use Rattle.gql_model.specs.rules.Places.{repeats}
use Rattle.gql_model.specs.rules.TypeParts.{named_input}
use Rattle.gql_schema.specs.Seen.{defined}
use Rattle.gql_schema.proofs.Inputs.{inputs_named_apart}
use Rattle.gql_schema.proofs.build.defaults.inputs_at.Goals as goal

pub returns-clause-apart : goal.returns-clause-apart
returns-clause-apart c = ap (λ is. repeats (map named_input is)) c.inputs_of.ensures ∙ inputs_named_apart (map defined c.args.types.now) c.innermost.result.name.now c.requires
