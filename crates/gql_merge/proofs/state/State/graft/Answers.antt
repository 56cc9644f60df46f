use Rattle.std.proofs.Common.{◌≡◌, refl, sym, subst, ◌∙◌, Some, Option}
use Rattle.std.specs.Prelude.{Err}
use Rattle.gql_tree.specs.declared.value.Value.{Value}
use Rattle.gql_tree.specs.Flat.{flat}
use Rattle.gql_tree.specs.Union.{IsUnion, moved}
use Rattle.gql_tree.specs.Extended.{marks}
use Rattle.gql_merge.specs.declared.refusal.MergeRefusal.{MergeRefusal}
use Rattle.gql_merge.specs.Apply.{OnRefusal, Grafts}
use Rattle.gql_merge.proofs.Placed.{graft_there, graft_refused}
use Rattle.gql_merge.proofs.state.State.graft.Goals as goal

pub returns-in-Err-clause-refused : goal.returns-in-Err-clause-refused
returns-in-Err-clause-refused c =
    let s = c.args.self.now in
    let is : s.value ≡ Some c.in-Some.value = sym c.take.ensures.value ∙ c.in-Some.is in
    subst (λ (e : MergeRefusal). OnRefusal {T = Unit {0}} (Err e) (λ d. Grafts c.args.path.now c.args.fields s (Err d))) (sym c.refusal_of.ensures)
    (graft_refused c.args.path.now s c.in-Some.value is c.args.fields c.graft.result c.in-Err.refusal c.in-Err.is c.graft.ensures.place c.graft.ensures.clash c.graft.ensures.kind)

pub returns-in-Ok-clause-ok : goal.returns-in-Ok-clause-ok
returns-in-Ok-clause-ok c =
    let s = c.args.self.now in
    let is : s.value ≡ Some c.in-Some.value = sym c.take.ensures.value ∙ c.in-Some.is in (
      refl,
      graft_there c.args.path.now s c.in-Some.value is c.graft.result c.in-Ok.field-0 c.in-Ok.is c.graft.ensures.place,
      subst (λ (o : Option Value). IsUnion (flat c.graft.new.self) (marks o) (moved c.args.path.now (flat c.args.fields))) (sym is) c.in-Ok.ensures.united,
    )
