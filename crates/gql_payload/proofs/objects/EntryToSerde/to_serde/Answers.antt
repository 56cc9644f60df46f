use Rattle.std.proofs.Common.{◌≡◌, refl, ◌∙◌, ap}
use Rattle.serde_json.specs.Data.{object}
use Rattle.serde_json.specs.View.{members_view}
use Rattle.serde_json.proofs.Views.{view-Object}
use Rattle.gql_payload.proofs.Members.{put_each, put_each-members}
use Rattle.gql_payload.proofs.Contents.{entry_parts}
use Rattle.gql_payload.proofs.objects.EntryToSerde.to_serde.Goals as goal

pub returns-clause-json : goal.returns-clause-json
returns-clause-json c =
    let made : members_view c.put_fields.new.map.entries ≡ put_each (entry_parts c.args.self.now) =
    simp (c.in_ok-put_fields.ensures.json, c.in_ok-put_unless_empty-2.ensures.json, c.in_ok-put.ensures.json, c.in_ok-put_items.ensures.json, c.in_ok-put_unless_empty.ensures.json, c.new-map.ensures.empty, c.as_slice.ensures, c.as_slice-2.ensures) refl in
    view-Object c.put_fields.new.map ∙ ap object (made ∙ put_each-members (entry_parts c.args.self.now) refl)
