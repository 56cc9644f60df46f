use Rattle.std.proofs.Common.{◌≡◌, sym, ◌∙◌, ap, Some}
use Rattle.std.specs.Prelude.{Ok, Err}
use Rattle.std.proofs.lemmas.Result.{on_ok_weaker}
use Rattle.gql_tree.specs.declared.delivery.Content.TheVariants.{Fields}
use Rattle.gql_merge.specs.Apply.{target}
use Rattle.gql_merge.proofs.Made.{delivers}
use Rattle.gql_merge.proofs.Refusals.{weaker}
use Rattle.gql_merge.proofs.state.State.deliver.Goals as goal

pub returns-in-Fields-clause-ok : goal.returns-in-Fields-clause-ok
returns-in-Fields-clause-ok c =
    let e = c.args.entry.now in
    let s = c.args.self.now in
    let path = c.as_slice-in-Fields.result.now in
    let fields = c.in_ok-copy-in-Fields.field-0 in
    let there : target e s.awaited ≡ Some path = ap (target e) (sym c.as_slice.ensures) ∙ (c.in_ok-path.ensures.ok ∙ ap Some (sym c.as_slice-in-Fields.ensures)) in
    let held : e.content ≡ Fields fields = c.in-Fields.is ∙ ap Fields (sym c.in_ok-copy-in-Fields.ensures) in
    on_ok_weaker c.graft.result (λ h. delivers e s path (Fields fields) (Ok c.graft.new.self) there held h) c.graft.ensures.ok

pub returns-in-Fields-clause-refused : goal.returns-in-Fields-clause-refused
returns-in-Fields-clause-refused c =
    let e = c.args.entry.now in
    let s = c.args.self.now in
    let path = c.as_slice-in-Fields.result.now in
    let fields = c.in_ok-copy-in-Fields.field-0 in
    let there : target e s.awaited ≡ Some path = ap (target e) (sym c.as_slice.ensures) ∙ (c.in_ok-path.ensures.ok ∙ ap Some (sym c.as_slice-in-Fields.ensures)) in
    let held : e.content ≡ Fields fields = c.in-Fields.is ∙ ap Fields (sym c.in_ok-copy-in-Fields.ensures) in
    weaker _ _ (λ d h. delivers e s path (Fields fields) (Err d) there held h) c.graft.result c.graft.ensures.refused
