use Rattle.std.proofs.Common.{◌<◌, length, sym, ◌∙◌, ap, subst, arith, length-drop}
use Rattle.std.proofs.lemmas.List.{take_rest}
use Rattle.gql_lex.specs.Runs.{piece}
use Rattle.gql_lex.proofs.Runs.{run_len-turn}
use Rattle.gql_lex.proofs.run.run_len.Goals as goal

pub loop-more-preserved : goal.loop-more-preserved
loop-more-preserved c =
    let rest = take_rest c.args.text.now c.loop-more.len in
    let fits = subst (λ r. c.in-Some.more < length r) rest c.in-Some.ensures.within in
    record {
      within = omega (arith, fits, length-drop c.loop-more.len c.args.text.now);
      value = run_len-turn c.args.pieces c.args.text.now c.loop-more.len c.in-Some.more (ap (piece c.args.pieces) (sym rest) ∙ sym c.in-Some.ensures.value) fits ∙ c.loop-more.invariant.value;
    }
