use Rattle.std.proofs.Common.{◌∙◌, ap}
use Rattle.serde_json.specs.Written.{has_float, compact_text}
use Rattle.gql_tree.proofs.Json.{no_float}
use Rattle.gql_tree.proofs.value.Value.to_json.Goals as goal

pub returns : goal.returns
returns c = c.from_string.ensures ∙ (c.in_ok-to_string.ensures.text (ap has_float c.in_ok-json.ensures.datum ∙ no_float _) ∙ ap compact_text c.in_ok-json.ensures.datum)
