-- Where a payload stands in its response.
use Rattle.std.specs.Prelude.{Bool, true, false}
use Rattle.gql_tool.specs.declared.handing.Stage.{Stage}
use Rattle.gql_tool.specs.declared.handing.Stage.TheVariants.{First, Last}

abbrev pub is_first : Stage → Bool
is_first Last = false
is_first _ = true

abbrev pub is_last : Stage → Bool
is_last First = false
is_last _ = true
