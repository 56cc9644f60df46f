use Rattle.gql_client.proofs.OneHearing.{merges_one, refused_more, refused_not, ends_one, end_not}
use Rattle.gql_client.proofs.laws.hearing_has_one_end.Goals as goal

pub returns-clause-accepted : goal.returns-clause-accepted
returns-clause-accepted c = λ boundary bytes t u valid a b. merges_one boundary valid bytes t u a.0 b.0

pub returns-clause-refused : goal.returns-clause-refused
returns-clause-refused c = λ boundary front more t u why other valid a b. refused_more boundary valid front more t u why other a b

pub returns-clause-never_both : goal.returns-clause-never_both
returns-clause-never_both c = λ boundary front more t u why valid a b. refused_not boundary valid front more t u why a b

pub returns-clause-end_refused : goal.returns-clause-end_refused
returns-clause-end_refused c = λ boundary bytes t u why other same a b. ends_one boundary bytes t u same why other a b

pub returns-clause-end_never_both : goal.returns-clause-end_never_both
returns-clause-end_never_both c = λ boundary bytes t u why same a b. end_not boundary bytes t u same why a b
