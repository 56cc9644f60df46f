use Rattle.std.proofs.Common.{◌≡◌, rules, refl, sym, subst, ◌∙◌, ap, Some, ◌++◌}
use Rattle.gql_tree.specs.declared.value.Value.{Value, out-Value}
use Rattle.gql_tree.specs.declared.value.Value.TheVariants as v
use Rattle.gql_tree.specs.Flat.{flat, find, items_of}
use Rattle.gql_tree.specs.inner.Place.{put_at}
use Rattle.gql_tree.specs.Extended.{IsLonger}
use Rattle.gql_tree.proofs.Put.{find_put, put_twice, put_back}
use Rattle.gql_tree.proofs.Extended.{longer, list_again}
use Rattle.gql_tree.proofs.value.Value.extend.Goals as goal

pub replace_at-requires : goal.replace_at-requires
replace_at-requires c =
    let there = find_put c.args.path.now v.Null c.args.self.now (rw c.replace_at-place.ensures.was refl) in
    rw (c.replace_at-place.ensures.now, there) refl

pub returns-in_err-grown-clause-kept : goal.returns-in_err-grown-clause-kept
returns-in_err-grown-clause-kept c =
    let path = c.args.path.now in
    let old = c.args.self.now in
    let place = c.append-grown.new.self in
    let back : c.replace_at.new.self ≡ old =
    c.replace_at.ensures.now ∙ (ap (put_at path place) c.replace_at-place.ensures.now ∙ (put_twice path place v.Null old
    ∙ (ap (λ w. put_at path w old) c.in_err-grown.ensures.err ∙ put_back path c.replace_at-place.result old c.replace_at-place.ensures.was))) in
    search (rules, back)

pub returns-clause-longer : goal.returns-clause-longer
returns-clause-longer c =
    let path = c.args.path.now in
    let old = c.args.self.now in
    let was = c.replace_at-place.result in
    let place = c.append-grown.new.self in
    let xs = items_of (out-Value was) in
    let new : c.replace_at.new.self ≡ put_at path (v.List (xs ++ c.args.items)) old =
    c.replace_at.ensures.now ∙ (ap (put_at path place) c.replace_at-place.ensures.now ∙ (put_twice path place v.Null old ∙ ap (λ w. put_at path w old) c.in_ok-grown.ensures.ok)) in
    let list : find old path ≡ Some (v.List xs) = c.replace_at-place.ensures.was ∙ ap Some (list_again was (search rules)) in
    subst (λ (x : Value). IsLonger (flat x) (flat old) path c.args.items) (sym new) (longer path xs c.args.items old list)
