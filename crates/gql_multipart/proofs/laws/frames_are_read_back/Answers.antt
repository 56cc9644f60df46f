use Rattle.gql_multipart.proofs.Frames.{frame_is_body, frame_only, so_far_complete}
use Rattle.gql_multipart.proofs.laws.frames_are_read_back.Goals as goal

pub returns-clause-whole : goal.returns-clause-whole
returns-clause-whole c = frame_is_body

pub returns-clause-only : goal.returns-clause-only
returns-clause-only c = frame_only

pub returns-clause-so_far : goal.returns-clause-so_far
returns-clause-so_far c = so_far_complete
