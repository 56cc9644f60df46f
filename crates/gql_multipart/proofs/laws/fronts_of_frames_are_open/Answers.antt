use Rattle.gql_multipart.proofs.Fronts.{front_open, front_parts, so_far_open, so_far_parts}
use Rattle.gql_multipart.proofs.laws.fronts_of_frames_are_open.Goals as goal

pub returns-clause-open : goal.returns-clause-open
returns-clause-open c = front_open

pub returns-clause-parts : goal.returns-clause-parts
returns-clause-parts c = front_parts

pub returns-clause-so_far_open : goal.returns-clause-so_far_open
returns-clause-so_far_open c = so_far_open

pub returns-clause-so_far_parts : goal.returns-clause-so_far_parts
returns-clause-so_far_parts c = so_far_parts
