use Rattle.std.proofs.Common.{ap, sym, ◌∙◌, length}
use Rattle.gql_schema.proofs.Places.{defined_at, defined_nowhere}
use Rattle.gql_schema.proofs.build.numbers.defined_place.Goals as goal

pub returns-in-Some-clause-place : goal.returns-in-Some-clause-place
returns-in-Some-clause-place c = defined_at c.args.types.now c.args.name.now c.in-Some.place (sym c.place.ensures.place ∙ c.in-Some.is)

pub returns-in-None-clause-place : goal.returns-in-None-clause-place
returns-in-None-clause-place c = ap length c.as_slice.ensures.now ∙ defined_nowhere c.args.types.now c.args.name.now (sym c.place.ensures.place ∙ c.in-None.is)
