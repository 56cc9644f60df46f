use Rattle.std.proofs.Common.{[], ◌∷◌, ◌++◌, sym, ◌∙◌, ap}
use Rattle.std.specs.Prelude.{slice_set}
use Rattle.std.proofs.lemmas.Result.{on_ok_weaker}
use Rattle.gql_tree.specs.Names.{has_name, apart, put_named}
use Rattle.gql_tree.proofs.Names.{position-by_name, put_named-set, put_named-append, apart-set, with_value}
use Rattle.gql_tree.proofs.fields.Fields.insert.Goals as goal

pub invariant_of-self : goal.invariant_of-self
invariant_of-self c c' =
    let es = c'.self.inside.items.items in
    let m = c'.index_mut.result.now in
    let found = position-by_name es c'.as_slice.result.now c'.args.name c'.as_str.result.now c'.position_of.result c'.as_slice.ensures.value c'.as_str.ensures c'.position_of.ensures in
    let put = put_named-set c'.args.name c'.args.value es c'.in-Some.at m (found ∙ c'.in-Some.is) in
    ap (λ e. apart (slice_set es c'.in-Some.at (with_value c'.args.name c'.args.value e))) c'.index_mut.ensures.value
    ∙ (apart-set c'.args.name c'.args.value es c'.in-Some.at m put.0 ∙ c'.self.invariant)

pub push-requires : goal.push-requires
push-requires c c' =
    let es = c'.self.inside.items.items in
    let found = position-by_name es c'.as_slice.result.now c'.args.name c'.as_str.result.now c'.position_of.result c'.as_slice.ensures.value c'.as_str.ensures c'.position_of.ensures in
    ap (has_name c'.args.name) (sym c'.self.view_is) ∙ (put_named-append c'.args.name c'.args.value es 0 (found ∙ c'.in-None.is)).0

pub returns-in-Some-clause-ok : goal.returns-in-Some-clause-ok
returns-in-Some-clause-ok c c' =
    let es = c'.self.inside.items.items in
    let m = c'.index_mut.result.now in
    let found = position-by_name es c'.as_slice.result.now c'.args.name c'.as_str.result.now c'.position_of.result c'.as_slice.ensures.value c'.as_str.ensures c'.position_of.ensures in
    let put = put_named-set c'.args.name c'.args.value es c'.in-Some.at m (found ∙ c'.in-Some.is) in
    ap (λ e. slice_set es c'.in-Some.at (with_value c'.args.name c'.args.value e)) c'.index_mut.ensures.value
    ∙ (sym put.1 ∙ ap (put_named c'.args.name c'.args.value) c'.self.view_is)

pub returns-in-None-clause-ok : goal.returns-in-None-clause-ok
returns-in-None-clause-ok c c' =
    let es = c'.self.inside.items.items in
    let found = position-by_name es c'.as_slice.result.now c'.args.name c'.as_str.result.now c'.position_of.result c'.as_slice.ensures.value c'.as_str.ensures c'.position_of.ensures in
    let put = (put_named-append c'.args.name c'.args.value es 0 (found ∙ c'.in-None.is)).1 in
    let whole = ap (put_named c'.args.name c'.args.value) (sym c'.self.view_is) ∙ (put ∙ ap (λ xs. xs ++ record { name = c'.args.name; value = c'.args.value } ∷ []) c'.self.view_is) in
    on_ok_weaker c'.push.result (λ pushed. pushed ∙ sym whole) c'.push.ensures.ok
