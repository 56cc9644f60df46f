use Rattle.std.proofs.Common.{refl}
use Rattle.gql_multipart.proofs.Standing.{opened, stands_given, stands_stopped, part_said, stop_said, kept_given, kept_stopped, given_bytes, none_given}
use Rattle.gql_multipart.proofs.reader.Reader.next_part.Goals as goal

pub returns-in-Ok : goal.returns-in-Ok
returns-in-Ok c = (
  (refl, (λ w. tt), (kept_given _ _ c.content.result.now c.self.view_is, (λ past s. stands_given _ past (opened _ _ past c.self.view_is s)))),
  record {
    bytes = λ _. given_bytes _ _ c.deref-2.result.now c.seek.result c.in-Ok.found c.self.view_is c.deref-2.ensures.value c.seek.ensures.grows c.in-Ok.is;
    answer = λ past s. part_said _ past c.deref.result.now c.deref-2.result.now c.deref-in-Ok.result.now c.deref-in-Ok-2.result.now c.content.result.now c.seek.result c.in-Ok.found (opened _ _ past c.self.view_is s) c.deref.ensures.value c.deref-2.ensures.value c.seek.ensures.value c.in-Ok.is c.deref-in-Ok.ensures.value c.deref-in-Ok-2.ensures.value c.content.ensures;
    after = tt;
  },
)

pub returns-in-Err : goal.returns-in-Err
returns-in-Err c = (
  (refl, (λ w. tt), (kept_stopped _ _ c.in-Err.stop _ c.stopped.ensures c.self.view_is, (λ past s. stands_stopped _ past c.in-Err.stop _ c.stopped.ensures (opened _ _ past c.self.view_is s)))),
  record {
    bytes = λ given. absurd (none_given c.in-Err.stop _ c.stopped.ensures given);
    answer = λ past s. stop_said _ past c.deref.result.now c.deref-2.result.now c.seek.result c.in-Err.stop _ (opened _ _ past c.self.view_is s) c.deref.ensures.value c.deref-2.ensures.value c.seek.ensures.value c.in-Err.is c.stopped.ensures;
    after = tt;
  },
)
