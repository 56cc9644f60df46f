use Rattle.std.proofs.Common.{sym, ◌∙◌, ap}
use Rattle.std.specs.Prelude.{is_some}
use Rattle.gql_tree.proofs.Has.{named-has, copied_some}
use Rattle.gql_tree.proofs.fields.Fields.has.Goals as goal

pub returns : goal.returns
returns g c = c.is_some.ensures ∙ (sym (copied_some c.get.result) ∙ (ap is_some c.get.ensures ∙ named-has c.args.name.now c.args.self.now))
