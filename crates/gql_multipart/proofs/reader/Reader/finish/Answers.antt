use Rattle.std.proofs.Common.{length, refl, sym, ap, ◌∙◌}
use Rattle.gql_multipart.proofs.Standing.{opened, finish_ended, finish_open}
use Rattle.gql_multipart.proofs.reader.Reader.finish.Goals as goal

pub returns-then-has_ended-clause-answer : goal.returns-then-has_ended-clause-answer
returns-then-has_ended-clause-answer c = λ past s.
    finish_ended _ past c.deref.result.now c.deref-2.result.now c.len-length.result c.seek.result c.has_ended.result (opened _ _ past c.self.view_is s) c.deref.ensures.value c.deref-2.ensures.value (c.len-length.ensures ∙ sym c.deref-2.ensures.len) c.seek.ensures.value c.has_ended.ensures c.if-has_ended.true

pub returns-clause-answer : goal.returns-clause-answer
returns-clause-answer c = λ past s.
    let t = opened _ _ past c.self.view_is s in
    let length_is = c.len-length.ensures ∙ sym c.deref-2.ensures.len in (
      refl,
      length_is ∙ ap length (c.deref-2.ensures.value ∙ t.bytes),
      finish_open _ past c.deref.result.now c.deref-2.result.now c.len-length.result c.seek.result c.has_ended.result t c.deref.ensures.value c.deref-2.ensures.value length_is c.seek.ensures.value c.has_ended.ensures c.if-has_ended.false,
    )
