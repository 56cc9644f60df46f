use Rattle.std.proofs.Common.{ℕ, arith, length-drop}
use Rattle.std.proofs.lemmas.List.{length-take}
use Rattle.gql_io.proofs.Told.{Appends-take}
use Rattle.gql_io.proofs.std_sink.write_whole.Goals as goal

pub loop-taken-preserved : goal.loop-taken-preserved
loop-taken-preserved g c = (
  omega (arith, c.in-Ok.ensures.bound, length-take {A = ℕ}, length-drop {A = ℕ}),
  Appends-take _ _ _ c.args.bytes.now _ _ c.loop-taken.invariant.1 c.in-Ok.ensures.front,
)
