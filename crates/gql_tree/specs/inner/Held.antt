-- What lies under a `Text`.
use Rattle.std.specs.Prelude.{ℕ, List, string_bytes}
use Rattle.gql_tree.specs.declared.text.Held.{Held}
use Rattle.gql_tree.specs.declared.text.Held.TheVariants.{Short, Long}

-- the bytes of the text
abbrev pub held_bytes : Held → List ℕ
held_bytes (Short short) = short.bytes
held_bytes (Long string) = string_bytes string
