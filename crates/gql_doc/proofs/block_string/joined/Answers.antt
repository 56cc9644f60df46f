use Rattle.std.proofs.Common.{◌-◌, ◌++◌, ◌∙◌, ◌∷◌, ap, length, take, drop, flat_map, string_bytes, arith}
use Rattle.std.specs.Str.{encode_utf8_all}
use Rattle.std.proofs.lemmas.List.{take_rest}
use Rattle.gql_doc.proofs.Blocks.{joined-written}
use Rattle.gql_doc.proofs.block_string.joined.Goals as goal

pub returns : goal.returns
returns c =
    let ls = c.args.lines.now in
    let behind = take (length ls - 1) (drop 1 ls) in
    c.in_ok-push_lines.ensures
    ∙ ap (λ bytes. bytes ++ encode_utf8_all (flat_map (λ next. 10 ∷ next) behind)) (c.in_ok-push_all.ensures ∙ ap (λ line. string_bytes c.new-text.result ++ encode_utf8_all line) c.as_slice.ensures)
    ∙ joined-written ls c.first-item.result behind (string_bytes c.new-text.result) (omega arith) c.first-item.is (take_rest ls 1) c.new-text.ensures.bytes
