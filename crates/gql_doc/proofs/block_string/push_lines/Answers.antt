use Rattle.std.proofs.Common.{◌++◌, ◌∙◌, ap, string_bytes, arith}
use Rattle.std.specs.Char.{encode_utf8}
use Rattle.std.specs.Str.{encode_utf8_all}
use Rattle.gql_doc.proofs.Blocks.{lines-turn_written}
use Rattle.gql_doc.proofs.block_string.push_lines.Goals as goal

pub loop-line-preserved : goal.loop-line-preserved
loop-line-preserved c =
    let line = c.line-item.result in
    c.in_ok-push_all.ensures
    ∙ (λ i. c.in_ok-push.ensures.bytes i ++ encode_utf8_all (c.as_slice.ensures i))
    ∙ ap (λ bytes. (bytes ++ encode_utf8 10) ++ encode_utf8_all line) c.loop-line.invariant
    ∙ lines-turn_written (string_bytes c.args.text.now) c.args.lines.now c.loop-line.line-index line (omega arith) c.line-item.is
