use Rattle.std.proofs.Common.{◌≡◌, ◌++◌, ◌∷◌, [], IsUtf8, flat_map, string_bytes}
use Rattle.std.specs.Str.Iter.{chars_rest}
use Rattle.gql_doc.specs.Quoting.{quoted_byte}
use Rattle.gql_doc.proofs.printing.push_string.Given as goal

abbrev pub invariant-loop-character : goal.invariant-loop-character
invariant-loop-character l =
    IsUtf8 (chars_rest l.character-iterator)
    × (string_bytes l.out ++ flat_map quoted_byte (chars_rest l.character-iterator) ≡ (string_bytes l.fn.out ++ 34 ∷ []) ++ flat_map quoted_byte l.fn.value)
