use Rattle.std.proofs.Common.{◌≡◌, ap, sym, ◌∙◌, [], ◌∷◌, ◌++◌}
use Rattle.std.specs.Option.{option_map}
use Rattle.gql_schema.specs.Seen.{defined}
use Rattle.gql_schema.proofs.Definitions.{type_more, no_type_more}
use Rattle.gql_schema.proofs.defined.listed_types.Goals as goal
use Rattle.gql_schema.proofs.defined.listed_types.Goals.{in-Some+in_ok-push, in_default}

pub loop-definition-preserved : goal.loop-definition-preserved
loop-definition-preserved c = elim c.match-defined_in.branch [
  | in-Some+in_ok-push w ↦
      let grown : c.match-defined_in.found ≡ c.loop-definition.found ++ w.in-Some.of ∷ [] = w.found-is ∙ w.in_ok-push.ensures.ok in
      type_more c.as_slice-definition-items.result.now c.loop-definition.definition-index c.definition-item.result c.definition-item.is c.loop-definition-test.true c.loop-definition.found c.match-defined_in.found c.loop-definition.invariant w.in-Some.of (ap (option_map defined) (sym w.in-Some.is) ∙ c.defined_in.ensures) grown
  | in_default w ↦
      no_type_more c.as_slice-definition-items.result.now c.loop-definition.definition-index c.definition-item.result c.definition-item.is c.loop-definition-test.true c.loop-definition.found c.match-defined_in.found c.loop-definition.invariant (ap (option_map defined) (sym w.in_default.is) ∙ c.defined_in.ensures) w.found-is
]
