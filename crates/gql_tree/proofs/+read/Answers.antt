use Rattle.std.proofs.Common.{◌≡◌, [], ◌∷◌, ◌++◌, string_bytes, sym, ap, ◌∙◌, subst, append_assoc, arith}
use Rattle.std.specs.List.Sorted.{IsStrictlySortedBy}
use Rattle.std.specs.Map.{keys_of}
use Rattle.std.specs.String.{string_cmp}
use Rattle.serde_json.specs.Data.{object, no_members}
use Rattle.serde_json.specs.View.{view}
use Rattle.serde_json.proofs.Views.{Entry, view-Object, put_last}
use Rattle.gql_tree.specs.Json.{put_all, data_of}
use Rattle.gql_tree.proofs.Json.{data_Object, put_all-push}
use Rattle.gql_tree.proofs.FromJson.{has_name-before, fields_of-push}
use Rattle.gql_tree.proofs.+read.Goals as goal

pub from_json::members_from-push-requires : goal.from_json::members_from-push-requires
from_json::members_from-push-requires t c =
    let l = c.loop-key in
    let e : Entry = (c.in-Some.key.now, c.in-Some.member.now) in
    let all : c.args.members.now.entries ≡ l.invariant.done ++ e ∷ c.next.new.self = l.invariant.left ∙ ap (λ es. l.invariant.done ++ es) c.in-Some.ensures.steps in
    let ordered = subst (λ es. IsStrictlySortedBy string_cmp (keys_of es)) all c.iter-key-items.ensures.ordered in
    rw (c.from_string-name.ensures ∙ c.in_ok-clone.ensures.cases, l.invariant.ok) (has_name-before l.invariant.done e c.next.new.self ordered)

pub from_json::members_from-loop-key-preserved : goal.from_json::members_from-loop-key-preserved
from_json::members_from-loop-key-preserved t c =
    let l = c.loop-key in
    let done = l.invariant.done in
    let left = c.next.new.self in
    let e : Entry = (c.in-Some.key.now, c.in-Some.member.now) in
    let all : c.args.members.now.entries ≡ done ++ e ∷ left = l.invariant.left ∙ ap (λ es. done ++ es) c.in-Some.ensures.steps in
    let ordered = subst (λ es. IsStrictlySortedBy string_cmp (keys_of es)) all c.iter-key-items.ensures.ordered in
    let named : c.from_string-name.result ≡ string_bytes e.0 = c.from_string-name.ensures ∙ c.in_ok-clone.ensures.cases in
    let pushed = c.in_ok-push.ensures.ok in
    record {
      done = done ++ e ∷ [];
      left = all ∙ sym (append_assoc done (e ∷ []) left);
      ok = pushed ∙ (rw (named, c.in_ok-from_json.ensures.ok, l.invariant.ok) (sym (fields_of-push done e)));
      datum = ap (put_all data_of no_members) pushed ∙ (put_all-push data_of no_members l.fields _ ∙ rw (named, c.in_ok-from_json.ensures.datum, l.invariant.datum) (put_last done e left ordered));
      bad = grind (arith, c.in_ok-from_json.ensures.whole, l.invariant.bad, c.in-Some.ensures.steps);
    }

pub value::Value::from_json-returns-in_ok-members_from-in-Object-clause-datum : goal.value::Value::from_json-returns-in_ok-members_from-in-Object-clause-datum
value::Value::from_json-returns-in_ok-members_from-in-Object-clause-datum t c =
    data_Object c.in_ok-members_from-in-Object.field-0 ∙ (ap object c.in_ok-members_from-in-Object.ensures.datum ∙ (sym (view-Object c.in-Object.members) ∙ ap view (sym c.in-Object.is)))
