use Rattle.gql_tree.proofs.Finite.{flat_finite}
use Rattle.gql_tree.proofs.laws.flat_is_finite.Goals as goal

pub returns : goal.returns
returns c = flat_finite c.args.value.now
