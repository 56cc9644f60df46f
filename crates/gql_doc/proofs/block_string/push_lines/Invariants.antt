use Rattle.std.proofs.Common.{◌≡◌, ◌++◌, ◌∷◌, flat_map, take, string_bytes}
use Rattle.std.specs.Str.{encode_utf8_all}
use Rattle.gql_doc.proofs.block_string.push_lines.Given as goal

abbrev pub invariant-loop-line : goal.invariant-loop-line
invariant-loop-line l = string_bytes l.text ≡ string_bytes l.initial.text ++ encode_utf8_all (flat_map (λ next. 10 ∷ next) (take l.line-index l.lines))
