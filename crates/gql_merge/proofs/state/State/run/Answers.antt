use Rattle.std.proofs.Common.{◌≡◌, inl, rules, List, subst}
use Rattle.std.specs.Prelude.{Ok, Err}
use Rattle.std.proofs.lemmas.Result.{on_ok_weaker}
use Rattle.gql_tree.specs.declared.delivery.Pending.{Pending}
use Rattle.gql_tree.specs.declared.delivery.Entry.{Entry}
use Rattle.gql_tree.specs.declared.delivery.Completed.{Completed}
use Rattle.gql_merge.specs.Steps.{Each}
use Rattle.gql_merge.specs.Apply.{Announces, Delivers, Completes}
use Rattle.gql_merge.proofs.Refusals.{handed_on, weaker}
use Rattle.gql_merge.proofs.Applied.{refused_announcing, refused_delivering, refused_completing, applied}
use Rattle.gql_merge.proofs.state.State.run.Goals as goal

pub returns-in_err-begin-clause-refused : goal.returns-in_err-begin-clause-refused
returns-in_err-begin-clause-refused c =
    let e = c.in_err-begin.field-0.0 in
    let is : c.from_residual.result ≡ Err e = search rules in
    handed_on _ _ (λ d h. inl h) c.from_residual.result e is c.in_err-begin.ensures.refused

pub returns-in_err-announce_all-clause-refused : goal.returns-in_err-announce_all-clause-refused
returns-in_err-announce_all-clause-refused c =
    let p = c.args.payload.now in
    let s0 = c.args.self.now in
    let s1 = c.begin.new.self in
    let e = c.in_err-announce_all.field-0.0 in
    let is : c.from_residual-in_err-announce_all.result ≡ Err e = search rules in
    handed_on _ _ (λ d h. refused_announcing p s0 s1 s1 s1 s1 d c.in_ok-begin.ensures.ok (subst (λ (xs : List Pending). Each Announces xs s1 (Err d)) c.as_slice.ensures h)) c.from_residual-in_err-announce_all.result e is c.in_err-announce_all.ensures.refused

pub returns-in_err-deliver_all-clause-refused : goal.returns-in_err-deliver_all-clause-refused
returns-in_err-deliver_all-clause-refused c =
    let p = c.args.payload.now in
    let s0 = c.args.self.now in
    let s1 = c.begin.new.self in
    let s2 = c.announce_all.new.self in
    let announced = subst (λ (xs : List Pending). Each Announces xs s1 (Ok s2)) c.as_slice.ensures c.in_ok-announce_all.ensures.ok in
    let e = c.in_err-deliver_all.field-0.0 in
    let is : c.from_residual-in_err-deliver_all.result ≡ Err e = search rules in
    handed_on _ _ (λ d h. refused_delivering p s0 s1 s2 s2 s2 d c.in_ok-begin.ensures.ok announced (subst (λ (xs : List Entry). Each Delivers xs s2 (Err d)) c.as_slice-2.ensures h)) c.from_residual-in_err-deliver_all.result e is c.in_err-deliver_all.ensures.refused

pub returns-in_err-complete_all-clause-refused : goal.returns-in_err-complete_all-clause-refused
returns-in_err-complete_all-clause-refused c =
    let p = c.args.payload.now in
    let s0 = c.args.self.now in
    let s1 = c.begin.new.self in
    let s2 = c.announce_all.new.self in
    let s3 = c.deliver_all.new.self in
    let announced = subst (λ (xs : List Pending). Each Announces xs s1 (Ok s2)) c.as_slice.ensures c.in_ok-announce_all.ensures.ok in
    let delivered = subst (λ (xs : List Entry). Each Delivers xs s2 (Ok s3)) c.as_slice-2.ensures c.in_ok-deliver_all.ensures.ok in
    let e = c.in_err-complete_all.field-0.0 in
    let is : c.from_residual-in_err-complete_all.result ≡ Err e = search rules in
    handed_on _ _ (λ d h. refused_completing p s0 s1 s2 s3 s3 d c.in_ok-begin.ensures.ok announced delivered (subst (λ (xs : List Completed). Each Completes xs s3 (Err d)) c.as_slice-3.ensures h)) c.from_residual-in_err-complete_all.result e is c.in_err-complete_all.ensures.refused

pub returns-clause-refused : goal.returns-clause-refused
returns-clause-refused c =
    let p = c.args.payload.now in
    let s0 = c.args.self.now in
    let s1 = c.begin.new.self in
    let s2 = c.announce_all.new.self in
    let s3 = c.deliver_all.new.self in
    let s4 = c.complete_all.new.self in
    let announced = subst (λ (xs : List Pending). Each Announces xs s1 (Ok s2)) c.as_slice.ensures c.in_ok-announce_all.ensures.ok in
    let delivered = subst (λ (xs : List Entry). Each Delivers xs s2 (Ok s3)) c.as_slice-2.ensures c.in_ok-deliver_all.ensures.ok in
    let completed = subst (λ (xs : List Completed). Each Completes xs s3 (Ok s4)) c.as_slice-3.ensures c.in_ok-complete_all.ensures.ok in
    weaker _ _ (λ d h. applied p s0 s1 s2 s3 s4 (Err d) c.in_ok-begin.ensures.ok announced delivered completed h) c.end.result c.end.ensures.refused

pub returns-clause-ok : goal.returns-clause-ok
returns-clause-ok c =
    let p = c.args.payload.now in
    let s0 = c.args.self.now in
    let s1 = c.begin.new.self in
    let s2 = c.announce_all.new.self in
    let s3 = c.deliver_all.new.self in
    let s4 = c.complete_all.new.self in
    let announced = subst (λ (xs : List Pending). Each Announces xs s1 (Ok s2)) c.as_slice.ensures c.in_ok-announce_all.ensures.ok in
    let delivered = subst (λ (xs : List Entry). Each Delivers xs s2 (Ok s3)) c.as_slice-2.ensures c.in_ok-deliver_all.ensures.ok in
    let completed = subst (λ (xs : List Completed). Each Completes xs s3 (Ok s4)) c.as_slice-3.ensures c.in_ok-complete_all.ensures.ok in
    on_ok_weaker c.end.result (λ h. applied p s0 s1 s2 s3 s4 (Ok c.end.new.self) c.in_ok-begin.ensures.ok announced delivered completed h) c.end.ensures.ok
