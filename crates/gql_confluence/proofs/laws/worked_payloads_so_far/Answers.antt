use Rattle.std.proofs.Common.{◌≡◌, true, false, refl}
use Rattle.gql_confluence.proofs.laws.worked_payloads_so_far.Goals as goal

never : {A : Type 0} → false ≡ true → A
never e = absurd (cc)

pub returns-clause-same : goal.returns-clause-same
returns-clause-same c = (refl, (refl, (λ e. (refl, tt)), (refl, (λ e. (refl, tt)), (refl, (λ e. never e), tt))))

pub returns-clause-so_far : goal.returns-clause-so_far
returns-clause-so_far c = refl

pub returns-clause-so_far_too : goal.returns-clause-so_far_too
returns-clause-so_far_too c = refl

pub returns-clause-in_the_end : goal.returns-clause-in_the_end
returns-clause-in_the_end c = refl
