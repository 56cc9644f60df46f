use Rattle.std.proofs.Common.{refl}
use Rattle.gql_multipart.proofs.laws.body_lengths.Goals as goal

pub returns-clause-one_piece : goal.returns-clause-one_piece
returns-clause-one_piece c = refl

pub returns-clause-two_pieces : goal.returns-clause-two_pieces
returns-clause-two_pieces c = refl
