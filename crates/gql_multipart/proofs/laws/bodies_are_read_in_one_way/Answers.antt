use Rattle.gql_multipart.proofs.Standing.{quiet}
use Rattle.gql_multipart.proofs.Unique.{bodies_one}
use Rattle.gql_multipart.proofs.laws.bodies_are_read_in_one_way.Goals as goal

pub returns : goal.returns
returns c = λ boundary bytes contents others valid a b. bodies_one boundary (quiet boundary valid) bytes contents others a b
