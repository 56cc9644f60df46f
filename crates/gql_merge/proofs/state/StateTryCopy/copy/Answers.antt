use Rattle.gql_merge.proofs.state.StateTryCopy.copy.Goals as goal

pub returns : goal.returns
returns c = λ i. record {
  value = c.in_ok-copy.ensures i;
  awaited = c.in_ok-copy-2.ensures i;
  ids = c.in_ok-copy-3.ensures i;
  errors = c.in_ok-copy-4.ensures i;
  failures = c.in_ok-copy-5.ensures i;
  ended = c.args.self.now.ended;
}
