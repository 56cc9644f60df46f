use Rattle.gql_tree.proofs.One.{one_response}
use Rattle.gql_tree.proofs.laws.a_forest_has_one_response.Goals as goal

pub returns : goal.returns
returns c = one_response
