use Rattle.std.proofs.Common.{◌≡◌, ℕ, ◌+◌, ◌<◌, ◌≤◌, List, length, drop, sym, ◌∙◌, ap, subst, arith, length-drop}
use Rattle.std.specs.List.{prefix_len}
use Rattle.std.proofs.lemmas.List.{take_rest}
use Rattle.gql_lex.specs.Classes.{is_blank}
use Rattle.gql_lex.specs.declared.run.Pieces.TheVariants.{Blanks}
use Rattle.gql_lex.specs.Runs.{blank, run_len}
use Rattle.gql_lex.proofs.Runs.{blanks_run, blanks_run-behind, run_len-turn}
use Rattle.gql_lex.proofs.run.blanks_len.Goals as goal

pub loop-more-init : goal.loop-more-init
loop-more-init c = record {
  within = c.single_blanks-len.ensures.within;
  value = ap (λ n. n + run_len Blanks 0 (drop n c.args.text.now)) c.single_blanks-len.ensures.value ∙ sym (blanks_run c.args.text.now);
}

pub loop-more-preserved : goal.loop-more-preserved
loop-more-preserved c =
    let text = c.args.text.now in
    let len = c.loop-more.len in
    let more = c.in-Some.more in
    let behind = len + (more + 1) in
    let rest = take_rest text len in
    let fits = subst (λ (r : List ℕ). more < length r) rest c.in-Some.ensures.within in
    let left = take_rest text behind in
    let single : c.single_blanks-len-in-Some.result ≡ prefix_len is_blank (drop behind text) = c.single_blanks-len-in-Some.ensures.value ∙ ap (prefix_len is_blank) left in
    let within = subst (λ (r : List ℕ). c.single_blanks-len-in-Some.result ≤ length r) left c.single_blanks-len-in-Some.ensures.within in
    record {
      within = omega (arith, fits, within, length-drop len text, length-drop behind text);
      value =
          ap (λ n. (behind + n) + run_len Blanks 0 (drop (behind + n) text)) single
          ∙ blanks_run-behind text behind
          ∙ run_len-turn Blanks text len more (ap blank (sym rest) ∙ sym c.in-Some.ensures.value) fits
          ∙ c.loop-more.invariant.value;
    }
