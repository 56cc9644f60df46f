use Rattle.std.proofs.Common.{◌∙◌, ap}
use Rattle.gql_tree.specs.Names.{has_name}
use Rattle.gql_tree.proofs.Names.{apart_push}
use Rattle.gql_tree.proofs.fields.Fields.push.Goals as goal

pub invariant_of-self-2 : goal.invariant_of-self-2
invariant_of-self-2 c c' = rw c'.in_ok-push.ensures.items (apart_push c'.self.inside.items.items (record { name = c'.args.name; value = c'.args.value }) c'.self.invariant (ap (has_name c'.args.name) c'.self.view_is ∙ c'.requires))
