use Rattle.std.proofs.Common.{◌≡◌, refl, ◌∙◌, ap}
use Rattle.serde_json.specs.Data.{object}
use Rattle.serde_json.specs.View.{members_view}
use Rattle.serde_json.proofs.Views.{view-Object}
use Rattle.gql_payload.proofs.Members.{put_each, put_each-members}
use Rattle.gql_payload.proofs.Contents.{pending_parts}
use Rattle.gql_payload.proofs.objects.PendingToSerde.to_serde.Goals as goal

pub returns-clause-json : goal.returns-clause-json
returns-clause-json c =
    let made : members_view c.put-2.new.map.entries ≡ put_each (pending_parts c.args.self.now) =
    simp (c.in_ok-put-2.ensures.json, c.in_ok-put_if_some.ensures.json, c.in_ok-put.ensures.json, c.new-map.ensures.empty) refl in
    view-Object c.put-2.new.map ∙ ap object (made ∙ put_each-members (pending_parts c.args.self.now) refl)
