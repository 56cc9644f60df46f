use Rattle.std.proofs.Common.{◌∙◌, arith, refl}
use Rattle.gql_multipart.proofs.Steps.{go_alive, scan_go}
use Rattle.gql_multipart.proofs.read.region.Goals as goal

pub loop-index-preserved : goal.loop-index-preserved
loop-index-preserved c = record {
  within = go_alive _ _ _ _ _ c.requires.sought c.loop-index.invariant.within c.step.ensures c.in-Go.is;
  rest = scan_go c.args.sought.now c.args.kind c.loop-index.place _ _ _ c.loop-index.index c.args.bytes.now c.step.ensures c.in-Go.is refl (omega arith) ∙ c.loop-index.invariant.rest;
}
