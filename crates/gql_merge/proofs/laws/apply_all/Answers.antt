use Rattle.std.proofs.Common.{◌≡◌, ◌+◌, suc, List, [], ◌∷◌, ◌++◌, take, drop, sym, subst, ◌∙◌, ap, rules, arith}
use Rattle.std.specs.Prelude.{Err}
use Rattle.std.proofs.lemmas.List.{take_more, take-append-drop}
use Rattle.std.proofs.Math.Seq.{drop-cons}
use Rattle.gql_tree.specs.declared.delivery.Payload.{Payload}
use Rattle.gql_merge.specs.declared.merger.Merger.{Merger}
use Rattle.gql_merge.specs.Apply.{Apply}
use Rattle.gql_merge.specs.Runs.{Runs, StopsAt}
use Rattle.gql_merge.proofs.Refusals.{handed_on}
use Rattle.gql_merge.proofs.Runs.{run_more}
use Rattle.gql_merge.proofs.laws.apply_all.Goals as goal

pub loop-payload-preserved : goal.loop-payload-preserved
loop-payload-preserved c =
    let ps = c.args.payloads.now in
    let i = c.loop-payload.payload-index in
    let p = c.payload-item.result in
    let more : take (i + 1) ps ≡ take i ps ++ p ∷ [] = take_more ps i p (omega arith) ∙ ap (λ (q : Payload). take i ps ++ q ∷ []) (sym c.payload-item.is) in
    subst (λ (xs : List Payload). Runs xs c.args.merger.now.state c.apply.new.self.state) (sym more)
    (run_more (take i ps) p c.args.merger.now.state c.loop-payload.merger.state c.apply.new.self.state c.loop-payload.invariant c.in_ok-apply.ensures.taken)

pub returns-in_err-apply-clause-refused : goal.returns-in_err-apply-clause-refused
returns-in_err-apply-clause-refused c =
    let ps = c.args.payloads.now in
    let i = c.loop-payload.payload-index in
    let p = c.payload-item.result in
    let e = c.in_err-apply.field-0.0 in
    let is : c.from_residual.result ≡ Err e = search rules in
    let here : ps ≡ take i ps ++ p ∷ drop (suc i) ps =
    sym (take-append-drop i ps) ∙ (ap (λ (xs : List Payload). take i ps ++ xs) (drop-cons ps i p (omega arith)) ∙ ap (λ (q : Payload). take i ps ++ q ∷ drop (suc i) ps) (sym c.payload-item.is)) in
    handed_on _ (StopsAt ps c.args.merger.now.state c.apply.new.self.state)
    (λ d refused. record {
      before = take i ps;
      payload = p;
      after = drop (suc i) ps;
      all = here;
      taken = subst (λ (m : Merger). Runs (take i ps) c.args.merger.now.state m.state) (sym c.in_err-apply.ensures.kept) c.loop-payload.invariant;
      refused = subst (λ (m : Merger). Apply p m.state (Err d)) (sym c.in_err-apply.ensures.kept) refused;
    })
    c.from_residual.result e is c.in_err-apply.ensures.refused
