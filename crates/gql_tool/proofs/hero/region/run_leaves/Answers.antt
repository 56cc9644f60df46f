use Rattle.std.proofs.Common.{◌≤◌, arith}
use Rattle.gql_tool.specs.declared.hero.shape.LeafName.{LeafName}
use Rattle.gql_tool.specs.hero.Shape.{times}
use Rattle.gql_tool.proofs.hero_lemmas.Once.{has_name-before}
use Rattle.gql_tool.proofs.hero.region.run_leaves.Goals as goal

pub push-requires : goal.push-requires
push-requires c =
    let ls = c.as_slice-leaf-items.result.now in
    let once : (a : LeafName) → times a ls ≤ 1 = λ a. rw (c.as_slice-leaf-items.ensures) (c.requires a) in
    rw (c.in_ok-name_text.ensures, c.loop-leaf.invariant.members) (has_name-before c.args.person.now ls c.loop-leaf.leaf-index _ (omega arith) once)
