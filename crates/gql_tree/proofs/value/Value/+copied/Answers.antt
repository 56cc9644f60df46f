use Rattle.std.proofs.Common.{◌∙◌, ap, take, arith}
use Rattle.gql_tree.specs.Names.{has_name, apart}
use Rattle.gql_tree.proofs.Names.{has_name-take}
use Rattle.gql_tree.proofs.value.Value.+copied.Goals as goal

pub push-requires-in-loop-member : goal.push-requires-in-loop-member
push-requires-in-loop-member t c =
    let m = c.member-item.result in
    let ms = c.as_slice-member-items.result.now in
    let i = c.loop-member.member-index in
    rw (c.in_ok-copy-in-Object.ensures, c.loop-member.invariant)
    (ap (λ x. has_name x.name (take i ms)) c.member-item.is ∙ has_name-take ms i m (omega arith) (ap apart c.as_slice-member-items.ensures.now ∙ c.as_slice-member-items.ensures.apart))
