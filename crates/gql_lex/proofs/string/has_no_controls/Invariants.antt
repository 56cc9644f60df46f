use Rattle.std.proofs.Common.{◌≡◌, take}
use Rattle.std.specs.List.{list_all}
use Rattle.gql_lex.specs.inner.Lines.{is_no_control}
use Rattle.gql_lex.proofs.string.has_no_controls.Given as goal

abbrev pub invariant-loop-byte : goal.invariant-loop-byte
invariant-loop-byte l = l.none ≡ list_all is_no_control (take l.byte-index l.text)
