use Rattle.std.proofs.Common.{◌≡◌, ◌++◌, length, string_bytes}
use Rattle.std.specs.Str.{encode_utf8_all}
use Rattle.gql_doc.specs.StringValue.{quoted_value}
use Rattle.gql_doc.proofs.quoted_string.quoted_value.Given as goal

abbrev pub invariant-loop-rest : goal.invariant-loop-rest
invariant-loop-rest l = string_bytes l.value ++ encode_utf8_all (quoted_value 0 l.rest) ≡ encode_utf8_all (quoted_value 0 l.content)

abbrev pub decreases-loop-rest : goal.decreases-loop-rest
decreases-loop-rest l = length l.rest
