use Rattle.gql_tree.proofs.delivery.PayloadTryCopy.copy.Goals as goal

pub returns : goal.returns
returns c = λ i. record {
  initial = c.in_ok-copy.ensures i;
  errors = c.in_ok-copy-2.ensures i;
  pending = c.in_ok-copy-3.ensures i;
  incremental = c.in_ok-copy-4.ensures i;
  completed = c.in_ok-copy-5.ensures i;
  has_next = c.args.self.now.has_next;
}
