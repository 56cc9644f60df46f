use Rattle.std.proofs.Common.{◌≡◌, ◌++◌, take, string_bytes}
use Rattle.std.specs.Str.{encode_utf8_all}
use Rattle.gql_doc.proofs.block_string.push_all.Given as goal

abbrev pub invariant-loop-character : goal.invariant-loop-character
invariant-loop-character l = string_bytes l.text ≡ string_bytes l.initial.text ++ encode_utf8_all (take l.character-index l.line)
