use Rattle.gql_tree.proofs.delivery.RegionResultTryCopy.copy.Goals as goal

pub returns : goal.returns
returns c = λ i. record {
  outcome = c.in_ok-copy.ensures i;
  faults = c.in_ok-copy-2.ensures i;
  fragments = c.in_ok-copy-3.ensures i;
  groups = c.in_ok-copy-4.ensures i;
  streams = c.in_ok-copy-5.ensures i;
}
