-- A payload that fits what a client has, and that can exist, leads to a state that can exist.
use Rattle.std.proofs.Common.{◌≡◌, inl, inr, List, [], ◌∷◌, ◌++◌, refl, sym, subst, ◌∙◌, ap, false, cond, Option, Some, None, IsSome}
use Rattle.std.specs.Prelude.{Ok, Err, IfSome}
use Rattle.std.specs.List.{AllByRecursion}
use Rattle.gql_tree.specs.declared.path.Key.{Key}
use Rattle.gql_tree.specs.declared.value.Value.{Value}
use Rattle.gql_tree.specs.declared.delivery.Payload.{Payload}
use Rattle.gql_tree.specs.declared.delivery.Pending.{Pending}
use Rattle.gql_tree.specs.declared.delivery.Entry.{Entry}
use Rattle.gql_tree.specs.declared.delivery.Completed.{Completed}
use Rattle.gql_tree.specs.declared.delivery.Content.TheVariants.{Fields, Items}
use Rattle.gql_tree.specs.Flat.{Mark, object, list, flat}
use Rattle.gql_tree.specs.Typed.{IsTypedValue, IsTypedContent, IsTypedEntry, IsTypedPayload}
use Rattle.gql_tree.specs.Union.{IsUnion, Clashes, moved}
use Rattle.gql_tree.specs.Extended.{marks, IsLonger}
use Rattle.gql_tree.specs.Merged.{Part}
use Rattle.gql_tree.proofs.Uniting.{union_exists_at, longer_exists_at}
use Rattle.gql_merge.specs.declared.state.State.{State}
use Rattle.gql_merge.specs.declared.refusal.MergeRefusal.TheVariants.{IdTwice}
use Rattle.gql_merge.specs.Steps.{Each}
use Rattle.gql_merge.specs.Apply.{Announces, Delivers, opened, without, complete_of, Completes, leaves_open}
use Rattle.gql_merge.specs.Same.{IsTypedState}
use Rattle.gql_merge.proofs.Made.{delivers}
use Rattle.gql_merge.proofs.Applied.{applied}
use Rattle.gql_merge.proofs.Reached.{LeadsOn, ended_state, ends}
use Rattle.gql_confluence.proofs.Lengths.{Setting, ShowsSet, shows_united, shows_longer}
use Rattle.gql_confluence.proofs.Accepted.{AllNew, ids_of, awaited_of, AllOpen, still_open, failed_if, failed_of}
use Rattle.gql_confluence.proofs.AcceptedItems.{FitsFields, FitsItems, Piece, FitsPiece, FitsAll, stands, no_clash, stood, IsFitting, led_to_all}

-- ---- pendings and completed records

announced_there : (ps : List Pending) (s : State) → AllNew s.ids ps → Each Announces ps s (Ok (record s { ids = ids_of s.ids ps; awaited = awaited_of s.awaited ps }))
announced_there [] s new = refl
announced_there (p ∷ ps) s new =
    let m : State = record s { ids = s.ids ++ p.id ∷ []; awaited = s.awaited ++ p ∷ [] } in
    (m, sym (ap (λ b. cond b (Err IdTwice) (Ok m)) new.0), announced_there ps m new.1)

completed_there : (cs : List Completed) (s : State) → AllOpen s.awaited cs → Each Completes cs s (Ok (record s { awaited = still_open s.awaited cs; failures = failed_of s.failures s.awaited cs }))
completed_there [] s open' = refl
completed_there (c ∷ cs) s open' =
    let after : Option Pending → State = λ o. record s { awaited = without c.id s.awaited; failures = s.failures ++ failed_if o c.errors } in
    let m : State = after (opened c.id s.awaited) in
    (m, sym (ap (λ (o : Option Pending). complete_of o c s) open'.1 ∙ ap (λ (o : Option Pending). Ok (after o)) (sym open'.1)), completed_there cs m open'.2)

-- ---- entries

-- where something stands, there is a value that can exist
standing_value : (o : Option Value) → IfSome o IsTypedValue → (path : List Key) (m : Mark) → marks o path ≡ Some m → (a : Value) × (o ≡ Some a) × IsTypedValue a × (flat a path ≡ Some m)
standing_value None typed path m e = absurd (cc)
standing_value (Some a) typed path m e = (a, refl, typed, e)

some_mark : (o : Option Mark) (m : Mark) → o ≡ Some m → IsSome o
some_mark None m e = cc
some_mark (Some n) m e = refl

-- what an entry leads to
pub record Puts (s : State) (e : Entry) (xs ns : List Part) (h : Setting) : Type 0 where
  pub value : Value
  pub typed : IsTypedValue value
  pub delivers : Delivers e s (Ok (record s { value = Some value }))
  pub shows : ShowsSet h (Some value) (xs ++ ns)

module _ (g : Setting) (xs : List Part) (s : State) (e : Entry) (shows : ShowsSet g s.value xs) (typed : IsTypedState s) (content : IsTypedContent e.content) where
  fields_put : (x : Part) → FitsFields g xs s.awaited e x → Puts s e xs (x ∷ []) g
  fields_put x fits =
      let v = standing_value s.value typed x.at object (stands g xs s e shows x fits) in
      let fields : IsTypedValue fits.value = (subst IsTypedContent fits.content content).0 in
      let apart : Clashes (flat v.0) (moved x.at (flat fits.value)) → ⊥ = λ k. no_clash g xs s e shows x fits (subst (λ (o : Option Value). Clashes (marks o) (moved x.at (flat fits.value))) (sym v.1) k) in
      let u = union_exists_at v.0 fits.value x.at v.2 fields (some_mark (flat v.0 x.at) object v.3) apart in
      let union : IsUnion (marks (Some u.0)) (marks s.value) (moved x.at (flat fits.value)) = subst (λ (o : Option Value). IsUnion (marks (Some u.0)) (marks o) (moved x.at (flat fits.value))) (sym v.1) u.2 in
      let m : State = record s { value = Some u.0 } in
      record {
        value = u.0;
        typed = u.1;
        delivers = delivers e s x.at (Fields fits.value) (Ok m) fits.aim fits.content (refl, stands g xs s e shows x fits, union);
        shows = shows_united g x fits.value fits.same s.value (Some u.0) xs shows union fits.new;
      }

  items_put : (ns : List Part) (h : Setting) → FitsItems g xs s.awaited e ns h → Puts s e xs ns h
  items_put ns h fits =
      let v = standing_value s.value typed fits.at (list fits.first) (stood g xs s e shows ns h fits) in
      let items : AllByRecursion IsTypedValue fits.values = (subst IsTypedContent fits.content content).1 in
      let u = longer_exists_at v.0 fits.at fits.values fits.first v.2 items v.3 in
      let longer : IsLonger (marks (Some u.0)) (marks s.value) fits.at fits.values = subst (λ (o : Option Value). IsLonger (marks (Some u.0)) (marks o) fits.at fits.values) (sym v.1) u.2 in
      let m : State = record s { value = Some u.0 } in
      record {
        value = u.0;
        typed = u.1;
        delivers = delivers e s fits.at (Items fits.values) (Ok m) fits.aim fits.content (refl, longer);
        shows = shows_longer g h fits.at fits.first s.value (Some u.0) xs ns fits.values shows fits.was fits.items longer fits.grown fits.kept fits.new;
      }

all_put : (es : List Entry) (ks : List Piece) (g : Setting) (xs : List Part) (s : State) (v : Value) → s.value ≡ Some v → ShowsSet g s.value xs → FitsAll g xs s.awaited es ks → IsTypedState s → AllByRecursion IsTypedEntry es
    → (w : Value) × IsTypedValue w × Each Delivers es s (Ok (record s { value = Some w }))
all_put [] [] g xs s v is shows fits typed all = (v, subst (λ (o : Option Value). IfSome o IsTypedValue) is typed, (λ i. Ok (record s { value = sym is i })))
all_put [] (k ∷ ks) g xs s v is shows fits typed all = absurd fits
all_put (e ∷ es) [] g xs s v is shows fits typed all = absurd fits
all_put (e ∷ es) (k ∷ ks) g xs s v is shows fits typed all =
    let p = one fits.0 in
    let rest = all_put es ks k.after (xs ++ k.parts) (record s { value = Some p.value }) p.value refl p.shows fits.1 p.typed all.1 in
    (rest.0, rest.1, (record s { value = Some p.value }, p.delivers, rest.2))
  where
    one : FitsPiece g xs s.awaited e k → Puts s e xs k.parts k.after
    one (inl (x, ps, gs, fit)) = subst (λ (l : List Part). Puts s e xs l k.after) (sym ps) (subst (λ (h : Setting). Puts s e xs (x ∷ []) h) (sym gs) (fields_put g xs s e shows typed all.0.content x fit))
    one (inr fit) = items_put g xs s e shows typed all.0.content k.parts k.after fit

-- ---- the whole payload

module _ (p : Payload) (s : State) (g : Setting) (xs : List Part) (ks : List Piece) (f : IsFitting p s g xs ks) where
  pub leads : ((w : Value) → leaves_open p (led_to_all p s g xs ks f w) ≡ false) → IsTypedState f.begun → IsTypedPayload p → LeadsOn p s
  leads closed typed all =
      let there : State = record f.begun { ids = ids_of f.begun.ids p.pending; awaited = awaited_of f.begun.awaited p.pending } in
      let d = all_put p.incremental ks g xs there f.value f.is_value f.shows f.fits typed all.incremental in
      let brought : State = record there { value = Some d.0 } in
      let last : State = led_to_all p s g xs ks f d.0 in (
        ended_state p last,
        applied p s f.begun there brought last (Ok (ended_state p last)) (sym f.begins) (announced_there p.pending f.begun f.new) d.2 (completed_there p.completed brought f.all_open) (ends p last (closed d.0)),
        d.1,
      )
