use Rattle.std.proofs.Common.{◌∙◌, ◌<◌, ◌≤◌, ap, sym, subst, ℕ, List, length, arith}
use Rattle.std.specs.List.{AllByRecursion as Each}
use Rattle.gql_schema.specs.Graph.{all_added}
use Rattle.gql_schema.proofs.Marks.{few_marked}
use Rattle.gql_schema.proofs.Reach.{reached_from_none}
use Rattle.gql_schema.proofs.Walk.{IsWalked, walk_begin, row_within, walked_more, marked_is_reached}
use Rattle.gql_schema.proofs.graph.reaches.Goals as goal

pub returns-then-is_empty : goal.returns-then-is_empty
returns-then-is_empty c = reached_from_none c.args.graph.now c.args.start.now c.args.goal (sym c.is_empty.ensures ∙ c.if-is_empty.true)

pub loop-at-init : goal.loop-at-init
loop-at-init c =
    let graph = c.args.graph.now in
    let start = c.args.start.now in
    record {
      marked = c.in_ok-add_all.ensures.marked;
      same = c.in_ok-add_all.ensures.same ∙ c.in_ok-reached.ensures.bound;
      walked = subst (λ (ks : List ℕ). IsWalked graph start 0 ks) (sym (c.in_ok-add_all.ensures.added ∙ ap (λ ks. all_added ks start) c.in_ok-reached.ensures.none)) (walk_begin graph start);
    }

pub returns-then-at-len : goal.returns-then-at-len
returns-then-at-len c =
    let v = c.loop-at.invariant in
    let listed = c.loop-at.reached.listed in
    let done : length listed.items ≤ c.loop-at.at = omega (arith, c.if-at-len.true, c.len.ensures, listed.ok.0) in
    let few : c.loop-at.at ≤ length c.args.graph.now = omega (arith, c.loop-at-test.true) in
    marked_is_reached c.args.graph.now c.args.start.now listed.items c.loop-at.reached.marks.items c.loop-at.at v.marked v.same c.args.goal c.index.result.now c.index.ensures c.requires.goal done few v.walked

pub add_all-requires-in-loop-at-clause-within : goal.add_all-requires-in-loop-at-clause-within
add_all-requires-in-loop-at-clause-within c =
    let v = c.loop-at.invariant in
    let listed = c.loop-at.reached.listed in
    let marks = c.loop-at.reached.marks.items in
    let lt : c.loop-at.at < length listed.items = omega (arith, c.if-at-len.false, c.len.ensures, listed.ok.0) in
    subst (λ (row : List ℕ). Each (λ k. k < length marks) row) (sym c.as_slice.ensures)
    (row_within c.args.graph.now c.args.start.now listed.items marks c.loop-at.at v.marked v.same c.index-in-loop-at.result.now lt c.index-in-loop-at.ensures c.index-graph-node.result c.index-graph-node.is c.requires.graph)

pub loop-at-preserved : goal.loop-at-preserved
loop-at-preserved c =
    let v = c.loop-at.invariant in
    let listed = c.loop-at.reached.listed in
    let lt : c.loop-at.at < length listed.items = omega (arith, c.if-at-len.false, c.len.ensures, listed.ok.0) in
    let after = c.in_ok-add_all-2.ensures in
    record {
      marked = after.marked;
      same = after.same ∙ v.same;
      walked = walked_more c.args.graph.now c.args.start.now listed.items c.loop-at.reached.marks.items c.loop-at.at v.marked v.same c.index-in-loop-at.result.now lt c.index-in-loop-at.ensures c.index-graph-node.result c.index-graph-node.is c.add_all-in-loop-at.new.numbers.listed.items (after.added ∙ ap (all_added listed.items) c.as_slice.ensures) v.walked;
    }

pub returns : goal.returns
returns c =
    let v = c.loop-at.invariant in
    let listed = c.loop-at.reached.listed in
    let ends : length c.args.graph.now ≤ c.loop-at.at = omega (arith, c.loop-at-test.false) in
    let done : length listed.items ≤ c.loop-at.at = omega (arith, few_marked listed.items c.loop-at.reached.marks.items v.marked, v.same, ends) in
    let few : c.loop-at.at ≤ length c.args.graph.now = omega (arith, c.loop-at.auto.at-end) in
    marked_is_reached c.args.graph.now c.args.start.now listed.items c.loop-at.reached.marks.items c.loop-at.at v.marked v.same c.args.goal c.index-2.result.now c.index-2.ensures c.requires.goal done few v.walked
