use Rattle.gql_tree.proofs.delivery.EntryTryCopy.copy.Goals as goal

pub returns : goal.returns
returns c = λ i. record {
  id = c.in_ok-copy.ensures i;
  sub_path = c.in_ok-copy-2.ensures i;
  content = c.in_ok-copy-3.ensures i;
  errors = c.in_ok-copy-4.ensures i;
}
