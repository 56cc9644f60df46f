use Rattle.std.proofs.Common.{◌≡◌, rules, sym, subst, Some}
use Rattle.std.specs.Prelude.{Err}
use Rattle.gql_tree.specs.declared.unite.Unlike.TheVariants as Unlike
use Rattle.gql_tree.specs.declared.value.Value.{Value}
use Rattle.gql_tree.specs.Flat.{flat, find}
use Rattle.gql_tree.specs.Union.{IsUnion, moved}
use Rattle.gql_tree.proofs.Grafted.{put_union, clash_moved}
use Rattle.gql_tree.proofs.Union.{union_agrees}
use Rattle.gql_tree.proofs.value.Value.graft.Goals as goal

pub returns-in_err-whole-clause-clash : goal.returns-in_err-whole-clause-clash
returns-in_err-whole-clause-clash c = λ e.
    let here : find c.args.self.now c.args.path.now ≡ Some c.in-Some.place.now = search rules in
    let f : Err c.in_err-whole.field-0.0 ≡ Err Unlike.Clash = search (rules, e) in
    clash_moved c.args.path.now c.args.self.now c.in-Some.place.now c.args.fields here (c.in_err-whole.ensures.clash f)

pub returns-clause-united : goal.returns-clause-united
returns-clause-united c =
    let here : find c.args.self.now c.args.path.now ≡ Some c.in-Some.place.now = search rules in
    subst (λ (x : Value). IsUnion (flat x) (flat c.args.self.now) (moved c.args.path.now (flat c.args.fields))) (sym c.replace_at.ensures.now)
    (put_union c.args.path.now c.in_ok-whole.whole c.args.self.now c.in-Some.place.now c.args.fields here c.in_ok-whole.ensures.ok)

pub returns-clause-agreed : goal.returns-clause-agreed
returns-clause-agreed c =
    let here : find c.args.self.now c.args.path.now ≡ Some c.in-Some.place.now = search rules in
    union_agrees _ (flat c.args.self.now) (moved c.args.path.now (flat c.args.fields))
    (put_union c.args.path.now c.in_ok-whole.whole c.args.self.now c.in-Some.place.now c.args.fields here c.in_ok-whole.ensures.ok)
