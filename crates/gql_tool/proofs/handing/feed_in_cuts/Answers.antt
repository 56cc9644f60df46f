use Rattle.std.proofs.Common.{◌≡◌, refl, sym, ap, ◌∙◌, subst, arith, append_assoc, append-nil, ◌+◌, ◌<◌, ◌++◌, length, []}
use Rattle.std.proofs.lemmas.Bool.Decides.{nat_tests}
use Rattle.gql_client.specs.declared.stop.ClientRefusal.TheVariants as answer
use Rattle.gql_tool.specs.LocalClient.{cuts_in}
use Rattle.gql_tool.specs.inner.Handed.{StopsIn}
use Rattle.gql_client.proofs.Clients.{handed_by}
use Rattle.gql_tool.proofs.Cuts.{Hears-nothing, Hears-more, CountsOn-nothing, CountsOn-more, CountsOn-one, CountsOn-same, cuts-none, cuts-more, StopsIn-later, StopsIn-within}
use Rattle.gql_tool.proofs.handing.feed_in_cuts.Goals as goal

pub loop-rest-init : goal.loop-rest-init
loop-rest-init c = record {
  passed = ([], refl, Hears-nothing c.args.client.now);
  counted = (0, omega arith, CountsOn-nothing c.args.client.now);
}

pub loop-rest-preserved : goal.loop-rest-preserved
loop-rest-preserved c =
    let from = c.loop-rest.invariant.passed in
    let counts = c.loop-rest.invariant.counted in
    let next = c.split_at.result.0.now in
    let behind = c.split_at.result.1.now in
    let some : 0 < length c.loop-rest.rest.now = grind (arith, nat_tests, c.is_empty.ensures, c.loop-rest-test.true) in
    let one : cuts_in c.args.cut c.loop-rest.rest.now ≡ 1 + cuts_in c.args.cut behind =
    cuts-more c.args.cut c.loop-rest.rest.now next behind c.requires some (omega (arith, c.split_at.ensures.front_len, c.min.ensures)) (omega (arith, c.split_at.ensures.back_len, c.min.ensures)) in
    record {
      passed = (
        from.0 ++ next,
        from.1 ∙ (ap (λ xs. from.0 ++ xs) c.split_at.ensures.by_index.0 ∙ sym (append_assoc from.0 next behind)),
        Hears-more c.args.client.now c.loop-rest.client c.feed.new.self from.0 next from.2 c.in_ok-feed.ensures.taken,
      );
      counted = (
        counts.0 + 1,
        omega (arith, one, counts.1),
        CountsOn-more c.args.client.now c.loop-rest.client c.feed.new.self counts.0 1 counts.2 (CountsOn-one c.loop-rest.client c.feed.new.self c.in_ok-feed.ensures.cuts),
      );
    }

pub returns-in_err-feed-clause-refused : goal.returns-in_err-feed-clause-refused
returns-in_err-feed-clause-refused c = λ is.
    let from = c.loop-rest.invariant.passed in
    let next = c.split_at.result.0.now in
    let behind = c.split_at.result.1.now in
    let refused = handed_by _ _ c.feed.result _ c.from_residual.result answer.Refused c.in_err-feed.was c.from_residual.ensures.1 is in
    let here : StopsIn c.loop-rest.client c.feed.new.self next =
    λ h stands. (next, [], sym (append-nil next), c.feed.ensures.refused refused h stands) in
    let all : c.args.piece.now ≡ (from.0 ++ next) ++ behind = from.1 ∙ (ap (λ xs. from.0 ++ xs) c.split_at.ensures.by_index.0 ∙ sym (append_assoc from.0 next behind)) in
    subst (StopsIn c.args.client.now c.feed.new.self) (sym all) (StopsIn-within c.args.client.now c.feed.new.self (from.0 ++ next) behind (StopsIn-later c.args.client.now c.loop-rest.client c.feed.new.self from.0 next from.2 here))

pub returns-clause-cuts : goal.returns-clause-cuts
returns-clause-cuts c =
    let counts = c.loop-rest.invariant.counted in
    let none : length c.loop-rest.rest.now ≡ 0 = grind (arith, nat_tests, c.is_empty.ensures, c.loop-rest-test.false) in
    CountsOn-same c.args.client.now c.loop-rest.client counts.0 (cuts_in c.args.cut c.args.piece.now) (omega (arith, counts.1, cuts-none c.args.cut c.loop-rest.rest.now c.requires none)) counts.2
