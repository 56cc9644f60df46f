use Rattle.std.proofs.Common.{◌≡◌, ◌<◌, sym, subst, ◌∙◌, ap, rules, Option, Some, List, ◌++◌, length, arith}
use Rattle.std.specs.Prelude.{Err}
use Rattle.gql_tree.specs.declared.fields.Named.{Named}
use Rattle.gql_tree.specs.declared.unite.Unlike.TheVariants.{Clash}
use Rattle.gql_tree.specs.declared.value.Value.{Value}
use Rattle.gql_tree.specs.Names.{named, apart}
use Rattle.gql_tree.specs.inner.United.{UnitesMaybe, UnitesItems, AllJoin, others, ItemsClash, ConflictMaybe, MembersClash}
use Rattle.gql_tree.proofs.Union.{list_union, object_union, union_step, join_step, clash_here, items_clash, members_clash, member_clash, ok_map, join_names, join_apart}
use Rattle.gql_tree.proofs.Apart.{joined_apart}
use Rattle.std.proofs.lemmas.List.{take_all}
use Rattle.gql_tree.proofs.+unite.Goals as goal

pub value::Value::united-returns-then-not-same_mark-clause-clash : goal.value::Value::united-returns-then-not-same_mark-clause-clash
value::Value::united-returns-then-not-same_mark-clause-clash t c = λ e. clash_here c.args.self.now c.args.other.now (λ f. let g = c.same_mark.ensures.1 f in let h = c.if-not-same_mark.true in absurd (cc))

pub unite::united_items-loop-i-preserved : goal.unite::united_items-loop-i-preserved
unite::united_items-loop-i-preserved t c =
    union_step _ _ _ _ c.loop-i.i _ _ _ c.in_ok-push.ensures.ok c.index-firsts-i.is c.index-others-i.is (omega arith) (omega (arith, c.requires, ap length c.as_slice-firsts.ensures)) c.loop-i.invariant c.in_ok-united.ensures.ok

pub unite::united_members-loop-member-preserved : goal.unite::united_members-loop-member-preserved
unite::united_members-loop-member-preserved t c =
    join_step _ _ _ _ c.loop-member.member-index _ _ c.in_ok-push.ensures.ok c.member-item.is (omega arith) c.loop-member.invariant
    (c.in_ok-name.ensures, subst (λ (o : Option Value). UnitesMaybe (Some c.in_ok-value.value) (Some c.member-item.result.value) o) (c.get.ensures ∙ ap (λ k. named k c.args.others.now) c.as_str.ensures) c.in_ok-value.ensures.ok)

pub unite::united_members-from_entries-requires : goal.unite::united_members-from_entries-requires
unite::united_members-from_entries-requires t c =
    let ms = c.args.members.now in
    let ns = c.args.others.now in
    let rs = c.loop-member.united in
    let whole : AllJoin ns rs ms = subst (λ (xs : List (Named Value)). AllJoin ns rs xs) (take_all c.loop-member.member-index c.as_slice-member-items.result.now (omega arith) ∙ c.as_slice-member-items.ensures.now) c.loop-member.invariant in
    ap apart (c.in_ok-push_others.ensures ∙ ap (λ xs. rs ++ others ms xs) c.as_slice.ensures.now)
    ∙ joined_apart rs ms ns (λ k. join_names k ns rs ms whole) (join_apart ns rs ms whole ∙ c.as_slice-member-items.ensures.apart) c.as_slice.ensures.apart

pub unite::united_members-returns-in_err-value-clause-clash : goal.unite::united_members-returns-in_err-value-clause-clash
unite::united_members-returns-in_err-value-clause-clash t c = λ e.
    let within : c.loop-member.member-index < length c.as_slice-member-items.result.now = omega arith in
    let f : Err c.in_err-value.field-0.0 ≡ Err Clash = search (rules, e) in
    let ms = c.as_slice-member-items.result.now in
    let ns = c.args.others.now in
    let k = c.in_err-value.ensures.clash f in
    let at : ConflictMaybe c.member-item.result.value (named c.member-item.result.name ns) = (k.0, sym (c.get.ensures ∙ ap (λ n. named n ns) c.as_str.ensures) ∙ k.1, k.2) in
    subst (λ (xs : List (Named Value)). MembersClash xs ns) c.as_slice-member-items.ensures.now
    (member_clash ms ns c.loop-member.member-index c.member-item.result (ap apart c.as_slice-member-items.ensures.now ∙ c.as_slice-member-items.ensures.apart) c.member-item.is within at)

pub value::Value::united-returns-in-List-clause-ok : goal.value::Value::united-returns-in-List-clause-ok
value::Value::united-returns-in-List-clause-ok t c =
    let a = c.args.self.now in
    let b = c.args.other.now in
    let xs = c.in-List.items in
    let marks = c.same_mark.ensures.0 c.if-not-same_mark.false in
    ok_map _ _ _ (λ r h. list_union r a b h.0 xs h.1 c.in-List.is marks (subst (λ (ys : List Value). UnitesItems h.0 xs ys) c.items.ensures h.2)) c.united_items.ensures.ok

pub value::Value::united-returns-in-List-clause-clash : goal.value::Value::united-returns-in-List-clause-clash
value::Value::united-returns-in-List-clause-clash t c = λ e.
    let xs = c.in-List.items in
    items_clash c.args.self.now c.args.other.now xs c.in-List.is (subst (λ (ys : List Value). ItemsClash xs ys) c.items.ensures (c.united_items.ensures.clash e))

pub value::Value::united-returns-in-Object-other-clause-ok : goal.value::Value::united-returns-in-Object-other-clause-ok
value::Value::united-returns-in-Object-other-clause-ok t c =
    let a = c.args.self.now in
    let b = c.args.other.now in
    let ms = c.in-Object.members in
    let ns = c.in-Object-other.second in
    ok_map _ _ _ (λ r h. object_union r a b h.0 ms ns h.1 c.in-Object.is c.in-Object-other.is h.2) c.united_members.ensures.ok

pub value::Value::united-returns-in-Object-other-clause-clash : goal.value::Value::united-returns-in-Object-other-clause-clash
value::Value::united-returns-in-Object-other-clause-clash t c = λ e.
    members_clash c.args.self.now c.args.other.now c.in-Object.members c.in-Object-other.second c.in-Object.is c.in-Object-other.is (c.united_members.ensures.clash e)
