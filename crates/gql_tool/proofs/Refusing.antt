-- A request that is refused.
use Rattle.std.proofs.Common.{◌≡◌, sym, subst, ℕ, List, Option}
use Rattle.gql_tree.specs.declared.Spot.{Spot}
use Rattle.gql_tool.specs.declared.status.Status.{Status}
use Rattle.gql_tool.specs.declared.status.Status.TheVariants.{Refused}
use Rattle.gql_tool.specs.declared.request.Request.{Request}
use Rattle.gql_tool.specs.Outcome.{Outcome}
use Rattle.gql_tool.specs.Local.{refused, Answered}
use Rattle.gql_tool.specs.Meets.{Meets}
use Rattle.gql_tool.specs.hero.Hero.{judgement_of}

-- by the bytes of its body
pub refused-meets : (message : List ℕ) (spot : Option Spot) (given bytes : List ℕ) (status : Status) (a b : Option (List ℕ)) → given ≡ bytes → bytes ≡ (refused message spot).bytes
    → Meets (λ o. o ≡ record { status = Refused; bytes = given }) status a b → Meets (λ o. o ≡ refused message spot) status a b
refused-meets message spot given bytes status a b same is meets =
    subst (λ (xs : List ℕ). Meets (λ o. o ≡ (let p : Outcome = record { status = Refused; bytes = xs } in p)) status a b) is
    (subst (λ (xs : List ℕ). Meets (λ o. o ≡ (let p : Outcome = record { status = Refused; bytes = xs } in p)) status a b) same meets)

-- what is answered to a request by what it is
pub answered-as : (request known : Request) (status : Status) (a b : Option (List ℕ)) → request ≡ known → Meets (Answered (judgement_of known)) status a b → Meets (Answered (judgement_of request)) status a b
answered-as request known status a b is meets = subst (λ (r : Request). Meets (Answered (judgement_of r)) status a b) (sym is) meets
