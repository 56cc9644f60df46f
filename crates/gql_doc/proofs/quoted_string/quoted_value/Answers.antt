use Rattle.gql_doc.proofs.Quoted.{quoted_value-turn}
use Rattle.std.proofs.Common.{◌++◌, ◌∙◌, string_bytes, ap, arith}
use Rattle.std.proofs.lemmas.List.{take_rest}
use Rattle.std.specs.Str.{encode_utf8_all}
use Rattle.gql_doc.specs.StringValue.{quoted_value}
use Rattle.gql_doc.proofs.quoted_string.quoted_value.Goals as goal

pub loop-rest-preserved : goal.loop-rest-preserved
loop-rest-preserved c =
    let turn = quoted_value-turn (string_bytes c.loop-rest.value) c.loop-rest.rest.now c.first-item.result _ c.quoted_piece-character.result c.after-rest.result.now
    (encode_utf8_all (quoted_value 0 c.args.content.now)) (omega arith) c.first-item.is (take_rest c.loop-rest.rest.now 1) c.quoted_piece-character.ensures c.after-rest.ensures c.loop-rest.invariant in
    ap (λ written. written ++ encode_utf8_all (quoted_value 0 c.after-rest.result.now)) c.in_ok-push.ensures.bytes ∙ turn
