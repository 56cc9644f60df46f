use Rattle.std.proofs.Common.{◌++◌, ◌∙◌, ap, string_bytes, arith}
use Rattle.std.specs.Char.{encode_utf8}
use Rattle.gql_doc.proofs.Blocks.{encode_utf8_all-turn}
use Rattle.gql_doc.proofs.block_string.push_all.Goals as goal

pub loop-character-preserved : goal.loop-character-preserved
loop-character-preserved c =
    let ch = c.character-item.result in
    c.in_ok-push.ensures.bytes
    ∙ ap (λ bytes. bytes ++ encode_utf8 ch) c.loop-character.invariant
    ∙ encode_utf8_all-turn (string_bytes c.args.text.now) c.args.line.now c.loop-character.character-index ch (omega arith) c.character-item.is
