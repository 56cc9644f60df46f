use Rattle.std.proofs.Common.{◌-◌, ◌++◌, ◌∙◌, length, take, drop, sym, arith}
use Rattle.std.proofs.lemmas.List.{take_rest}
use Rattle.gql_doc.specs.StringValue.{lines, with_front}
use Rattle.gql_doc.proofs.Blocks.{lines-turn_ended, lines-turn_more}
use Rattle.gql_doc.proofs.block_string.lines.Goals as goal

pub loop-rest-preserved-in_ok-push : goal.loop-rest-preserved-in_ok-push
loop-rest-preserved-in_ok-push c =
    let rest = c.loop-rest.rest.now in
    let behind = take (length rest - 1) (drop 1 rest) in
    let turn = lines-turn_ended c.loop-rest.done c.loop-rest.line rest c.first-item.result behind (lines c.args.text.now) (omega arith) c.first-item.is (take_rest rest 1)
    (sym c.ends_line.ensures ∙ c.if-ends_line.true) c.loop-rest.invariant in
    (λ i. c.in_ok-push.ensures.ok i ++ with_front (c.new-line-then-ends_line.ensures i) (lines behind)) ∙ turn

pub loop-rest-preserved-in_ok-push-2 : goal.loop-rest-preserved-in_ok-push-2
loop-rest-preserved-in_ok-push-2 c =
    let rest = c.loop-rest.rest.now in
    let behind = take (length rest - 1) (drop 1 rest) in
    let turn = lines-turn_more c.loop-rest.done c.loop-rest.line rest c.first-item.result behind (lines c.args.text.now) (omega arith) c.first-item.is (take_rest rest 1)
    (sym c.ends_line.ensures ∙ c.if-ends_line.false) c.if-first-ne13.true c.loop-rest.invariant in
    (λ i. c.loop-rest.done ++ with_front (c.in_ok-push-2.ensures.ok i) (lines behind)) ∙ turn
