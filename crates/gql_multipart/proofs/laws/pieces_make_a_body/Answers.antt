use Rattle.gql_multipart.proofs.Bodies.{concat-pieces_of-frame, so_far-push, so_far-last}
use Rattle.gql_multipart.proofs.laws.pieces_make_a_body.Goals as goal

pub returns-clause-whole : goal.returns-clause-whole
returns-clause-whole c = concat-pieces_of-frame

pub returns-clause-next : goal.returns-clause-next
returns-clause-next c = so_far-push

pub returns-clause-last : goal.returns-clause-last
returns-clause-last c = so_far-last
