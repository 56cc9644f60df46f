use Rattle.std.proofs.Common.{◌≡◌, refl, ◌∙◌, ap}
use Rattle.serde_json.specs.Data.{object}
use Rattle.serde_json.specs.View.{members_view}
use Rattle.serde_json.proofs.Views.{view-Object}
use Rattle.gql_payload.proofs.Members.{put_each, put_each-members}
use Rattle.gql_payload.proofs.Reports.{report_parts}
use Rattle.gql_payload.proofs.report.report_json.Goals as goal

pub returns-clause-json : goal.returns-clause-json
returns-clause-json c =
    let made : members_view c.put.new.map.entries ≡ put_each (report_parts c.args.value.now c.args.errors.now c.args.failures.now) =
    simp (c.in_ok-put.ensures.json, c.in_ok-put_array-2.ensures.json, c.in_ok-put_array.ensures.json, c.new-map.ensures.empty) refl in
    view-Object c.put.new.map ∙ ap object (made ∙ put_each-members (report_parts c.args.value.now c.args.errors.now c.args.failures.now) refl)
