use Rattle.std.proofs.Common.{◌≡◌, refl, ◌∙◌, ap}
use Rattle.serde_json.specs.Data.{object}
use Rattle.serde_json.specs.View.{members_view}
use Rattle.serde_json.proofs.Views.{view-Object}
use Rattle.gql_payload.proofs.Members.{put_each, put_each-members}
use Rattle.gql_payload.proofs.Contents.{completed_parts}
use Rattle.gql_payload.proofs.objects.CompletedToSerde.to_serde.Goals as goal

pub returns-clause-json : goal.returns-clause-json
returns-clause-json c =
    let made : members_view c.put_unless_empty.new.map.entries ≡ put_each (completed_parts c.args.self.now) =
    simp (c.in_ok-put_unless_empty.ensures.json, c.in_ok-put.ensures.json, c.new-map.ensures.empty, c.as_slice.ensures) refl in
    view-Object c.put_unless_empty.new.map ∙ ap object (made ∙ put_each-members (completed_parts c.args.self.now) refl)
