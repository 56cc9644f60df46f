use Rattle.std.proofs.Common.{◌≡◌, ◌<◌, List, [], ◌∷◌, length, Some, sym, ap, ◌∙◌, subst}
use Rattle.std.specs.Prelude.{slice_get}
use Rattle.std.proofs.lemmas.Option.{slice_get_read}
use Rattle.gql_tree.specs.declared.Fault.{Fault}
use Rattle.gql_tree.specs.declared.Payload.{Payload}
use Rattle.gql_tree.specs.declared.Value.TheVariants as v
use Rattle.gql_tree.specs.Forest.{region, outcome_value}
use Rattle.gql_tree.specs.Course.{course}
use Rattle.gql_tree.specs.Payloads.{moments, next_of, payload_at, payloads_from}
use Rattle.gql_tree.specs.Inline.{inline_times}
use Rattle.gql_tool.specs.hero.Built.{regions}
use Rattle.gql_tool.specs.inner.Handed.{HandedAll}
use Rattle.gql_tool.specs.declared.hero.tables.Person.{Person}
use Rattle.gql_tool.specs.hero.Hero.{single}
use Rattle.gql_tool.proofs.hero_lemmas.Payloads.{payloads-null, payloads-error, payloads-person}
use Rattle.gql_tool.proofs.HandedAll.{HandedAll-none}
use Rattle.gql_tool.proofs.hero.deliver.deliver.Goals as goal

pub returns-in-Null-clause-handed : goal.returns-in-Null-clause-handed
returns-in-Null-clause-handed g c =
    let same = ap (λ (fs : List Fault). (let ps : List Payload = single v.Null fs ∷ [] in ps)) c.new-faults.ensures in
    subst (λ (ps : List Payload). HandedAll ps c.args.cut (g.O.Sink.sent c.args.output.now) (g.O.Sink.sent c.deliver_single.new.output) c.args.client.now c.deliver_single.new.client c.deliver_single.result)
    (same ∙ sym (payloads-null c.args.tables.now c.args.document.now c.in-Null.is)) c.deliver_single.ensures.handed

pub returns-in_ok-faults-in-Error-clause-handed : goal.returns-in_ok-faults-in-Error-clause-handed
returns-in_ok-faults-in-Error-clause-handed g c =
    let same = ap (λ (fs : List Fault). (let ps : List Payload = single v.Null fs ∷ [] in ps)) c.in_ok-faults-in-Error.ensures in
    subst (λ (ps : List Payload). HandedAll ps c.args.cut (g.O.Sink.sent c.args.output.now) (g.O.Sink.sent c.deliver_single-in-Error.new.output) c.args.client.now c.deliver_single-in-Error.new.client c.deliver_single-in-Error.result)
    (same ∙ sym (payloads-error c.args.tables.now c.args.document.now c.in-Error.message c.in-Error.is)) c.deliver_single-in-Error.ensures.handed

pub returns-in-Ref-clause-handed : goal.returns-in-Ref-clause-handed
returns-in-Ref-clause-handed g c =
    let t = c.args.tables.now in
    let d = c.args.document.now in
    let n = c.in-Ref.number in
    let p = c.index-persons-number.result in
    let within : n < length t.persons = c.requires.stands n c.in-Ref.is in
    let same : length c.as_slice-persons.result.now ≡ length t.persons = ap length c.as_slice-persons.ensures in
    let at : slice_get c.as_slice-persons.result.now n ≡ Some p = slice_get_read c.as_slice-persons.result.now (length t.persons) n p (sym same) within c.index-persons-number.is in
    let found : slice_get t.persons n ≡ Some p = ap (λ (ps : List Person). slice_get ps n) (sym c.as_slice-persons.ensures) ∙ at in
    subst (λ (ps : List Payload). HandedAll ps c.args.cut (g.O.Sink.sent c.args.output.now) (g.O.Sink.sent c.deliver_person.new.output) c.args.client.now c.deliver_person.new.client c.deliver_person.result)
    (sym (payloads-person t d n p found c.in-Ref.is c.requires.once)) c.deliver_person.ensures.handed

pub returns-in_err-faults-in-Error-clause-handed : goal.returns-in_err-faults-in-Error-clause-handed
returns-in_err-faults-in-Error-clause-handed g c =
    let f = regions c.args.tables.now c.args.document.now in
    let co = course (inline_times f) f in
    HandedAll-none (payload_at co 0 (Some (outcome_value (region f).outcome)) (region f).faults (next_of co (moments co))) (payloads_from co (moments co)) c.args.cut (g.O.Sink.sent c.args.output.now) c.args.client.now _ c.from_residual.ensures.1
