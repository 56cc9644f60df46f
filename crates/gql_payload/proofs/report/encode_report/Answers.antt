use Rattle.std.proofs.Common.{◌∙◌, ap}
use Rattle.serde_json.specs.Written.{has_float, compact_text}
use Rattle.gql_payload.proofs.Reports.{report_plain}
use Rattle.gql_payload.proofs.report.encode_report.Goals as goal

pub returns-clause-text : goal.returns-clause-text
returns-clause-text c = c.from_string.ensures ∙ (c.in_ok-to_string.ensures.text (ap has_float c.in_ok-json.ensures.json ∙ report_plain c.args.value.now c.args.errors.now c.args.failures.now) ∙ ap compact_text c.in_ok-json.ensures.json)
