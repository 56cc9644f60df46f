use Rattle.std.proofs.Common.{◌≡◌, sym, subst, ap, Result, Err}
use Rattle.std.proofs.lemmas.Bool.{true≢false}
use Rattle.gql_tool.specs.declared.request.Request.{Request}
use Rattle.gql_tool.specs.declared.status.Status.{Status}
use Rattle.gql_tool.specs.Words.{names_of}
use Rattle.gql_tool.specs.hero.Hero.{judgement_of}
use Rattle.gql_tool.specs.Statuses.{IsOneOf}
use Rattle.gql_tool.specs.inner.Steps.{request_statuses}
use Rattle.gql_tool.proofs.Asked.{client_of, client_unfed}
use Rattle.gql_tool.proofs.Files.{answers}
use Rattle.gql_tool.proofs.Judged.{judged, Rose-behind}
use Rattle.gql_tool.proofs.command.local.Goals as goal

pub returns-in-Ok-clause-answers : goal.returns-in-Ok-clause-answers
returns-in-Ok-clause-answers g c = answers _ (names_of c.args.words.now) (judgement_of c.in-Ok.request) _ _ _ _ c.in-Ok.ensures.asks c.in-Ok.ensures.kept c.answer.ensures.meets

pub returns-in-Ok-clause-client : goal.returns-in-Ok-clause-client
returns-in-Ok-clause-client g c = client_of _ (names_of c.args.words.now) (judgement_of c.in-Ok.request) c.args.words.now.cut _ _ _ _ _ _ c.in-Ok.ensures.asks c.in-Ok.ensures.kept c.answer.ensures.client

pub returns-in-Err-clause-client : goal.returns-in-Err-clause-client
returns-in-Err-clause-client g c = client_unfed _ c.args.words.now.cut _ _ _ _ c.in-Err.ensures.statuses

pub returns-in-Ok-clause-complete : goal.returns-in-Ok-clause-complete
returns-in-Ok-clause-complete g c = λ has no_read no_write.
    judged _ (names_of c.args.words.now) _ _ _ has (returns-in-Ok-clause-answers g c) (λ is. true≢false (sym (subst (IsOneOf request_statuses) is c.answer.ensures.statuses)))
    (λ is. no_write (Rose-behind _ _ _ c.in-Ok.ensures.write_fault.later (c.answer.ensures.write_fault.rose is)))

stopped : (status to : Status) → status ≡ to → (let e : Result Request Status = Err status in e) ≡ Err to
stopped status to same = ap (λ (s : Status). (let e : Result Request Status = Err s in e)) same

pub returns-in-Err-clause-complete : goal.returns-in-Err-clause-complete
returns-in-Err-clause-complete g c = λ has no_read no_write.
    judged _ (names_of c.args.words.now) _ _ _ has c.in-Err.ensures.stops (λ is. no_read (c.in-Err.ensures.read_fault.rose (stopped _ _ is)))
    (λ is. no_write (c.in-Err.ensures.write_fault.rose (stopped _ _ is)))
