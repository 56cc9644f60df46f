use Rattle.std.proofs.Common.{◌∙◌, ap}
use Rattle.gql_model.specs.Coercing.{number_at, value_at}
use Rattle.gql_model.specs.rules.References.{reference}
use Rattle.gql_schema.proofs.Coerced.{value_at_innermost}
use Rattle.gql_schema.proofs.Coercions.{ok_same}
use Rattle.gql_schema.proofs.build.defaults.number_value.Goals as goal

pub returns : goal.returns
returns c =
    let r = reference c.args.kind.now in
    ok_same c.wrapped.result _ _
    (ap (λ value. value_at (λ _. value) r) (c.in_ok-number_at.ensures ∙ ap (number_at c.args.digits.now) c.innermost.ensures.name)
    ∙ value_at_innermost (number_at c.args.digits.now) r)
    c.wrapped.ensures
