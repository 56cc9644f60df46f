use Rattle.gql_multipart.proofs.Fronts.{so_far_shut, frame_shut, so_far_before, frame_before}
use Rattle.gql_multipart.proofs.laws.frames_of_long_lines_are_shut.Goals as goal

pub returns-clause-so_far : goal.returns-clause-so_far
returns-clause-so_far c = so_far_shut

pub returns-clause-whole : goal.returns-clause-whole
returns-clause-whole c = frame_shut

pub returns-clause-so_far_parts : goal.returns-clause-so_far_parts
returns-clause-so_far_parts c = λ ts t front back contents each long. so_far_before ts t each long front back contents

pub returns-clause-parts : goal.returns-clause-parts
returns-clause-parts c = λ ts t front back contents each long. frame_before ts t each long front back contents
