use Rattle.gql_tree.proofs.Uniting.{union_exists_at}
use Rattle.gql_tree.proofs.laws.unions_exist.Goals as goal

pub returns : goal.returns
returns c = union_exists_at
