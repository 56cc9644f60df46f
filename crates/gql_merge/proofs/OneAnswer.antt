-- What a payload does to a client is determined, up to the order of members.
use Rattle.std.proofs.Common.{◌≡◌, ◌≢◌, ◌↔◌, ℕ, ◌+◌, ◌<◌, ◌⊎◌, inl, inr, List, [], ◌∷◌, ◌++◌, length, refl, sym, subst, ◌∙◌, ap, ap₂, Bool, true, false, cond, Some, None, Option, arith}
use Rattle.std.specs.Prelude.{Ok, Err, slice_get, option_map, flat_map, ◌&&◌}
use Rattle.gql_tree.specs.declared.path.Key.{Key}
use Rattle.gql_tree.specs.declared.path.Key.TheVariants.{Name, Index}
use Rattle.gql_tree.specs.declared.path.Path.{Path}
use Rattle.gql_tree.specs.declared.value.Value.{Value}
use Rattle.gql_tree.specs.declared.delivery.Fault.{Fault}
use Rattle.gql_tree.specs.declared.delivery.Failure.{Failure}
use Rattle.gql_tree.specs.declared.delivery.Payload.{Payload}
use Rattle.gql_tree.specs.declared.delivery.Pending.{Pending}
use Rattle.gql_tree.specs.declared.delivery.Entry.{Entry}
use Rattle.gql_tree.specs.declared.delivery.Completed.{Completed}
use Rattle.gql_tree.specs.declared.delivery.Content.{Content}
use Rattle.gql_tree.specs.declared.delivery.Content.TheVariants.{Fields, Items}
use Rattle.gql_tree.specs.Keys.{same_key}
use Rattle.gql_tree.specs.Flat.{Mark, object, list, flat}
use Rattle.gql_tree.specs.Same.{SameFlat, SameMaybe, SameItems}
use Rattle.gql_tree.specs.Sound.{SameContent, SameEntry, SameEntries, SamePayload}
use Rattle.gql_tree.specs.Union.{Marks, IsUnion, Clashes, moved}
use Rattle.gql_tree.specs.Extended.{IsLonger, IsElsewhere, IsOther, marks}
use Rattle.gql_tree.proofs.Same.{same_length, items_maybe}
use Rattle.gql_tree.proofs.Union.{union_agrees}
use Rattle.gql_tree.proofs.Extended.{split_at}
use Rattle.gql_tree.proofs.Moved.{key_same, same_key-refl}
use Rattle.gql_merge.specs.declared.state.State.{State}
use Rattle.gql_merge.specs.declared.refusal.MergeRefusal.{MergeRefusal}
use Rattle.gql_merge.specs.declared.refusal.MergeRefusal.TheVariants.{UnknownId, IdTwice, NoSuchPlace, Clash, AfterEnd, NotAList, OpenAtEnd, BadInitial, NoMemory}
use Rattle.gql_merge.specs.Steps.{Then, Each}
use Rattle.gql_merge.specs.Order.{Sorts, fault_cmp, failure_cmp}
use Rattle.gql_merge.specs.Same.{SameState, SameAnswer}
use Rattle.gql_merge.specs.Apply.{Answer, first_value, kept_value, begun, begin_with, Begins, is_known, announce, Announces, opened, OnlyValue, Grafts, Extends, Puts, target, DeliversAt, Delivers, failed, without, complete_of, Completes, faults_of, is_last, is_some_open, leaves_open, IsEnd, Ends, Apply}
use Rattle.gql_merge.proofs.Ordered.{sorts-ordered}
use Rattle.gql_merge.proofs.Totals.{faults_total, failures_total}
use Rattle.gql_merge.proofs.Exact.{faults_exact, failures_exact}

-- ---- steps

-- of the same states the two steps make the same
abbrev pub OneBy : (State → Answer → Type 0) → (State → Answer → Type 0) → Type 0
OneBy a b = (s t : State) (x y : Answer) → SameState s t → a s x → b t y → SameAnswer x y

then_one : (a b c d : State → Answer → Type 0) → OneBy a b → OneBy c d → OneBy (Then a c) (Then b d)
then_one a b c d first second s t (Ok x) (Ok y) same (m, p, q) (n, p', q') = second m n (Ok x) (Ok y) (first s t (Ok m) (Ok n) same p p') q q'
then_one a b c d first second s t (Ok x) (Err f) same (m, p, q) (inl p') = absurd (first s t (Ok m) (Err f) same p p')
then_one a b c d first second s t (Ok x) (Err f) same (m, p, q) (inr (n, p', q')) = second m n (Ok x) (Err f) (first s t (Ok m) (Ok n) same p p') q q'
then_one a b c d first second s t (Err e) (Ok y) same (inl p) (n, p', q') = absurd (first s t (Err e) (Ok n) same p p')
then_one a b c d first second s t (Err e) (Ok y) same (inr (m, p, q)) (n, p', q') = second m n (Err e) (Ok y) (first s t (Ok m) (Ok n) same p p') q q'
then_one a b c d first second s t (Err e) (Err f) same (inl p) (inl p') = first s t (Err e) (Err f) same p p'
then_one a b c d first second s t (Err e) (Err f) same (inl p) (inr (n, p', q')) = absurd (first s t (Err e) (Ok n) same p p')
then_one a b c d first second s t (Err e) (Err f) same (inr (m, p, q)) (inl p') = absurd (first s t (Ok m) (Err f) same p p')
then_one a b c d first second s t (Err e) (Err f) same (inr (m, p, q)) (inr (n, p', q')) = second m n (Err e) (Err f) (first s t (Ok m) (Ok n) same p p') q q'

-- answers that each step determines
made_one : (a b : State → Answer) → ((s t : State) → SameState s t → SameAnswer (a s) (b t)) → OneBy (λ s r. r ≡ a s) (λ s r. r ≡ b s)
made_one a b h s t x y same p q =
    let P : Answer → Type 0 = λ z. SameAnswer z y in
    let Q : Answer → Type 0 = λ z. SameAnswer (a s) z in
    subst P (sym p) (subst Q (sym q) (h s t same))

each_one : {X : Type 0} (step : X → State → Answer → Type 0) → ((x : X) → OneBy (step x) (step x)) → (xs : List X) → OneBy (Each step xs) (Each step xs)
each_one step h [] = made_one (λ s. Ok s) (λ s. Ok s) (λ s t same. same)
each_one step h (x ∷ xs) = then_one (step x) (step x) (Each step xs) (Each step xs) (h x) (each_one step h xs)

-- ---- the same values and marks

marks_of : (a b : Option Value) → SameMaybe a b → (path : List Key) → marks a path ≡ marks b path
marks_of None None h path = refl
marks_of None (Some w) h path = absurd h
marks_of (Some v) None h path = absurd h
marks_of (Some v) (Some w) h path = h path

of_marks : (a b : Option Value) → ((path : List Key) → marks a path ≡ marks b path) → SameMaybe a b
of_marks None None h = tt
of_marks None (Some w) h = let e = h [] in absurd (cc)
of_marks (Some v) None h = let e = h [] in absurd (cc)
of_marks (Some v) (Some w) h = h

pub same_back : (s t : State) → SameState s t → SameState t s
same_back s t h = record {
  value = of_marks t.value s.value (λ path. sym (marks_of s.value t.value h.value path));
  awaited = sym h.awaited;
  ids = sym h.ids;
  errors = sym h.errors;
  failures = sym h.failures;
  ended = sym h.ended;
}

-- the same states with the same new values
valued : (s t x y : State) → SameState s t → OnlyValue s x → OnlyValue t y → SameMaybe x.value y.value → SameState x y
valued s t x y h p q value = record {
  value = value;
  awaited = ap (λ (z : State). z.awaited) p ∙ (h.awaited ∙ sym (ap (λ (z : State). z.awaited) q));
  ids = ap (λ (z : State). z.ids) p ∙ (h.ids ∙ sym (ap (λ (z : State). z.ids) q));
  errors = ap (λ (z : State). z.errors) p ∙ (h.errors ∙ sym (ap (λ (z : State). z.errors) q));
  failures = ap (λ (z : State). z.failures) p ∙ (h.failures ∙ sym (ap (λ (z : State). z.failures) q));
  ended = ap (λ (z : State). z.ended) p ∙ (h.ended ∙ sym (ap (λ (z : State). z.ended) q));
}

-- ---- the beginning

first_same : (a b : Option Value) (fs : List Fault) → SameMaybe a b → SameMaybe (first_value a fs) (first_value b fs)
first_same None None [] h = tt
first_same None None (f ∷ fs) h = λ path. refl
first_same None (Some w) fs h = absurd h
first_same (Some v) None fs h = absurd h
first_same (Some v) (Some w) fs h = h

kept_same : (x y : Value) (a b : Option Value) → SameFlat x y → SameMaybe a b → SameMaybe (kept_value x a) (kept_value y b)
kept_same x y None None same h = same
kept_same x y None (Some w) same h = absurd h
kept_same x y (Some v) None same h = absurd h
kept_same x y (Some v) (Some w) same h = tt

begun_same : (p q : Payload) (a b : Option Value) → SamePayload p q → SameMaybe a b → SameMaybe (begun a p) (begun b q)
begun_same p q None None h same = subst (λ (fs : List Fault). SameMaybe (first_value p.initial p.errors) (first_value q.initial fs)) h.errors (first_same p.initial q.initial p.errors h.initial)
begun_same p q None (Some y) h same = absurd same
begun_same p q (Some x) None h same = absurd same
begun_same p q (Some x) (Some y) h same = kept_same x y p.initial q.initial same h.initial

begin_same : (s t : State) (a b : Option Value) → SameState s t → SameMaybe a b → SameAnswer (begin_with a s) (begin_with b t)
begin_same s t None None h same = refl
begin_same s t None (Some y) h same = absurd same
begin_same s t (Some x) None h same = absurd same
begin_same s t (Some x) (Some y) h same = record { value = same; awaited = h.awaited; ids = h.ids; errors = h.errors; failures = h.failures; ended = h.ended }

cond_same : (b c : Bool) (r x y : Answer) → b ≡ c → SameAnswer r r → SameAnswer x y → SameAnswer (cond b r x) (cond c r y)
cond_same true true r x y e first second = first
cond_same true false r x y e first second = absurd (cc)
cond_same false true r x y e first second = absurd (cc)
cond_same false false r x y e first second = second

begins_one : (p q : Payload) → SamePayload p q → OneBy (Begins p) (Begins q)
begins_one p q h = made_one _ _ (λ s t same. cond_same s.ended t.ended (Err AfterEnd) _ _ same.ended refl (begin_same s t (begun s.value p) (begun t.value q) same (begun_same p q s.value t.value h same.value)))

-- ---- a pending

announces_one : (p : Pending) → OneBy (Announces p) (Announces p)
announces_one p = made_one (announce p) (announce p) (λ s t same. cond_same (is_known p.id s.ids) (is_known p.id t.ids) (Err IdTwice) _ _ (ap (is_known p.id) same.ids) refl
    (record { value = same.value; awaited = ap (λ (ps : List Pending). ps ++ p ∷ []) same.awaited; ids = ap (λ (is : List (List ℕ)). is ++ p.id ∷ []) same.ids; errors = same.errors; failures = same.failures; ended = same.ended }))

-- ---- an entry of fields

option_one : {X : Type 0} (a b : Option X) → ((x : X) → (a ≡ Some x) ↔ (b ≡ Some x)) → a ≡ b
option_one None None h = refl
option_one None (Some y) h = let e = (h y).1 refl in e
option_one (Some x) b h = sym ((h x).0 refl)

some_one : {X : Type 0} (a : Option X) (x y : X) → a ≡ Some x → a ≡ Some y → x ≡ y
some_one a x y e f = let g : Some x ≡ Some y = sym e ∙ f in cc

unions_one : (w u a b : Marks) → IsUnion w a b → IsUnion u a b → (path : List Key) → w path ≡ u path
unions_one w u a b first second path = option_one (w path) (u path) (λ m. (λ e. (second path m).1 ((first path m).0 e), λ e. (first path m).1 ((second path m).0 e)))

-- how a refusal of fields stands
abbrev GraftRefused : List Key → Value → State → MergeRefusal → Type 0
GraftRefused path x s e =
    ((e ≡ NoSuchPlace) × (marks s.value path ≢ Some object))
    ⊎ ((e ≡ Clash) × (marks s.value path ≡ Some object) × Clashes (marks s.value) (moved path (flat x)))

graft_refused : (path : List Key) (x : Value) (s : State) (e : MergeRefusal) → Grafts path x s (Err e) → GraftRefused path x s e
graft_refused path x s UnknownId h = absurd h
graft_refused path x s IdTwice h = absurd h
graft_refused path x s NoSuchPlace h = inl (refl, h)
graft_refused path x s Clash h = inr (refl, h.0, h.1)
graft_refused path x s AfterEnd h = absurd h
graft_refused path x s NotAList h = absurd h
graft_refused path x s OpenAtEnd h = absurd h
graft_refused path x s BadInitial h = absurd h
graft_refused path x s NoMemory h = absurd h

module _ (path : List Key) where
  -- the same marks, as maps
  same_marks : (s t : State) → SameState s t → marks s.value ≡ marks t.value
  same_marks s t h = λ i q. marks_of s.value t.value h.value q i

  same_flat : (x y : Value) → SameFlat x y → flat x ≡ flat y
  same_flat x y h = λ i q. h q i

  -- fields that are united aren't refused
  grafted_not : (x y : Value) (s t r : State) (e : MergeRefusal) → SameFlat x y → SameState s t → Grafts path x s (Ok r) → GraftRefused path y t e → ⊥
  grafted_not x y s t r e also same h (inl p) = p.1 (sym (marks_of s.value t.value same.value path) ∙ h.1)
  grafted_not x y s t r e also same h (inr p) =
      let there : Clashes (marks s.value) (moved path (flat y)) = subst (λ (a : Marks). Clashes a (moved path (flat y))) (sym (same_marks s t same)) p.2 in
      union_agrees (marks r.value) (marks s.value) (moved path (flat x)) h.2 (subst (λ (a : Marks). Clashes (marks s.value) (moved path a)) (sym (same_flat x y also)) there)

  refusals_one : (x y : Value) (s t : State) (e f : MergeRefusal) → SameState s t → GraftRefused path x s e → GraftRefused path y t f → e ≡ f
  refusals_one x y s t e f same (inl p) (inl q) = p.0 ∙ sym q.0
  refusals_one x y s t e f same (inl p) (inr q) = absurd (p.1 (marks_of s.value t.value same.value path ∙ q.1))
  refusals_one x y s t e f same (inr p) (inl q) = absurd (q.1 (sym (marks_of s.value t.value same.value path) ∙ p.1))
  refusals_one x y s t e f same (inr p) (inr q) = p.0 ∙ sym q.0

  grafts_one : (x y : Value) → SameFlat x y → OneBy (Grafts path x) (Grafts path y)
  grafts_one x y also s t (Ok r) (Ok k) same h g =
      let there : IsUnion (marks k.value) (marks s.value) (moved path (flat y)) = subst (λ (a : Marks). IsUnion (marks k.value) a (moved path (flat y))) (sym (same_marks s t same)) g.2 in
      let other : IsUnion (marks k.value) (marks s.value) (moved path (flat x)) = subst (λ (a : Marks). IsUnion (marks k.value) (marks s.value) (moved path a)) (sym (same_flat x y also)) there in
      valued s t r k same h.0 g.0 (of_marks r.value k.value (unions_one (marks r.value) (marks k.value) (marks s.value) (moved path (flat x)) h.2 other))
  grafts_one x y also s t (Ok r) (Err f) same h g = grafted_not x y s t r f also same h (graft_refused path y t f g)
  grafts_one x y also s t (Err e) (Ok k) same h g = grafted_not y x t s k e (λ q. sym (also q)) (same_back s t same) g (graft_refused path x s e h)
  grafts_one x y also s t (Err e) (Err f) same h g = refusals_one x y s t e f same (graft_refused path x s e h) (graft_refused path y t f g)

-- ---- an entry of items

-- a path is the list's, one of an item from an index on, or elsewhere
abbrev Where : List Key → ℕ → List Key → Type 0
Where path n p = (p ≡ path) ⊎ (((i : ℕ) × (q : List Key) × (p ≡ path ++ Index (n + i) ∷ q)) ⊎ IsElsewhere path n p)

where_item : (n j : ℕ) (q : List Key) → (j < n) ⊎ ((i : ℕ) × (j ≡ n + i)) → Where [] n (Index j ∷ q)
where_item n j q (inl h) = inr (inr ((λ e. cc), λ i r e. (let same : j ≡ n + i = cc in omega (arith, h, same))))
where_item n j q (inr p) = inr (inl (p.0, q, ap (λ k. Index k ∷ q) p.1))

where_below : (k : Key) (ks ls : List Key) (n : ℕ) → Where ks n ls → Where (k ∷ ks) n (k ∷ ls)
where_below k ks ls n (inl e) = inl (ap (λ z. k ∷ z) e)
where_below k ks ls n (inr (inl (i, q, e))) = inr (inl (i, q, ap (λ z. k ∷ z) e))
where_below k ks ls n (inr (inr h)) = inr (inr ((λ e. h.0 (let f : ls ≡ ks = cc in f)), λ i q e. h.1 i q (let f : ls ≡ ks ++ Index (n + i) ∷ q = cc in f)))

where_by : (b : Bool) (k l : Key) (ks ls : List Key) (n : ℕ) → same_key k l ≡ b → Where ks n ls → Where (k ∷ ks) n (l ∷ ls)
where_by true k l ks ls n e h = subst (λ (x : Key). Where (k ∷ ks) n (x ∷ ls)) (key_same k l e) (where_below k ks ls n h)
where_by false k l ks ls n e h =
    let other : k ≡ l → ⊥ = λ f. (let g : same_key k l ≡ true = ap (λ (x : Key). same_key k x) (sym f) ∙ same_key-refl k in cc) in
    inr (inr ((λ f. other (let g : k ≡ l = cc in g)), λ i q f. other (let g : k ≡ l = cc in g)))

where_is : (path p : List Key) (n : ℕ) → Where path n p
where_is [] [] n = inl refl
where_is [] (Index j ∷ q) n = where_item n j q (split_at n j)
where_is [] (Name m ∷ q) n = inr (inr ((λ e. cc), λ i r e. cc))
where_is (k ∷ ks) [] n = inr (inr ((λ e. cc), λ i q e. cc))
where_is (k ∷ ks) (l ∷ ls) n = where_by (same_key k l) k l ks ls n refl (where_is ks ls n)

list_one : (a : Option Mark) (m n : ℕ) → a ≡ Some (list m) → a ≡ Some (list n) → m ≡ n
list_one a m n e f = let g : list m ≡ list n = some_one a (list m) (list n) e f in cc

module _ (new now old : Marks) (path : List Key) (xs ys : List Value) (also : SameItems xs ys) (a : IsLonger new old path xs) (b : IsLonger now old path ys) where
  first_one : b.first ≡ a.first
  first_one = list_one (old path) b.first a.first b.was a.was

  longer_by : (p : List Key) → Where path a.first p → new p ≡ now p
  longer_by p (inl e) =
      let ends : a.first + length xs ≡ b.first + length ys = omega (arith, first_one, same_length xs ys also) in
      ap new e ∙ (a.longer ∙ (ap (λ n. Some (list n)) ends ∙ (sym b.longer ∙ sym (ap now e))))
  longer_by p (inr (inl (i, q, e))) =
      let there : now (path ++ Index (a.first + i) ∷ q) ≡ marks (slice_get ys i) q = subst (λ (n : ℕ). now (path ++ Index (n + i) ∷ q) ≡ marks (slice_get ys i) q) first_one (b.behind i q) in
      ap new e ∙ (a.behind i q ∙ (marks_of (slice_get xs i) (slice_get ys i) (items_maybe xs ys i also) q ∙ (sym there ∙ sym (ap now e))))
  longer_by p (inr (inr h)) = a.else_kept p h ∙ sym (b.else_kept p (subst (λ (n : ℕ). IsElsewhere path n p) (sym first_one) h))

  longer_one : (p : List Key) → new p ≡ now p
  longer_one p = longer_by p (where_is path p a.first)

-- how a refusal of items stands
abbrev ExtendRefused : List Key → State → MergeRefusal → Type 0
ExtendRefused path s e = ((e ≡ NoSuchPlace) × (marks s.value path ≡ None)) ⊎ ((e ≡ NotAList) × IsOther (marks s.value path))

extend_refused : (path : List Key) (xs : List Value) (s : State) (e : MergeRefusal) → Extends path xs s (Err e) → ExtendRefused path s e
extend_refused path xs s UnknownId h = absurd h
extend_refused path xs s IdTwice h = absurd h
extend_refused path xs s NoSuchPlace h = inl (refl, h)
extend_refused path xs s Clash h = absurd h
extend_refused path xs s AfterEnd h = absurd h
extend_refused path xs s NotAList h = inr (refl, h)
extend_refused path xs s OpenAtEnd h = absurd h
extend_refused path xs s BadInitial h = absurd h
extend_refused path xs s NoMemory h = absurd h

module _ (path : List Key) where
  extended_not : (xs : List Value) (s t r : State) (e : MergeRefusal) → SameState s t → Extends path xs s (Ok r) → ExtendRefused path t e → ⊥
  extended_not xs s t r e same h (inl p) = let bad : None ≡ Some (list h.1.first) = sym p.1 ∙ (sym (marks_of s.value t.value same.value path) ∙ h.1.was) in cc
  extended_not xs s t r e same h (inr p) = subst IsOther (sym (marks_of s.value t.value same.value path) ∙ h.1.was) p.1

  extensions_one : (s t : State) (e f : MergeRefusal) → SameState s t → ExtendRefused path s e → ExtendRefused path t f → e ≡ f
  extensions_one s t e f same (inl p) (inl q) = p.0 ∙ sym q.0
  extensions_one s t e f same (inl p) (inr q) = absurd (subst IsOther (sym (marks_of s.value t.value same.value path) ∙ p.1) q.1)
  extensions_one s t e f same (inr p) (inl q) = absurd (subst IsOther (marks_of s.value t.value same.value path ∙ q.1) p.1)
  extensions_one s t e f same (inr p) (inr q) = p.0 ∙ sym q.0

  extends_one : (xs ys : List Value) → SameItems xs ys → OneBy (Extends path xs) (Extends path ys)
  extends_one xs ys also s t (Ok r) (Ok k) same h g =
      let there : IsLonger (marks k.value) (marks s.value) path ys = subst (λ (a : Marks). IsLonger (marks k.value) a path ys) (sym (same_marks path s t same)) g.1 in
      valued s t r k same h.0 g.0 (of_marks r.value k.value (longer_one (marks r.value) (marks k.value) (marks s.value) path xs ys also h.1 there))
  extends_one xs ys also s t (Ok r) (Err f) same h g = extended_not xs s t r f same h (extend_refused path ys t f g)
  extends_one xs ys also s t (Err e) (Ok k) same h g = extended_not ys t s k e (same_back s t same) g (extend_refused path xs s e h)
  extends_one xs ys also s t (Err e) (Err f) same h g = extensions_one s t e f same (extend_refused path xs s e h) (extend_refused path ys t f g)

-- ---- an entry

puts_one : (c d : Content) (path : List Key) → SameContent c d → OneBy (Puts c path) (Puts d path)
puts_one (Fields x) (Fields y) path h = grafts_one path x y h
puts_one (Fields x) (Items ys) path h = absurd h
puts_one (Items xs) (Fields y) path h = absurd h
puts_one (Items xs) (Items ys) path h = extends_one path xs ys h

delivers_at : (o : Option (List Key)) (c d : Content) → SameContent c d → OneBy (DeliversAt o c) (DeliversAt o d)
delivers_at None c d h = made_one (λ s. Err UnknownId) (λ s. Err UnknownId) (λ s t same. refl)
delivers_at (Some path) c d h = puts_one c d path h

same_target : (e f : Entry) (ps qs : List Pending) → SameEntry e f → ps ≡ qs → target e ps ≡ target f qs
same_target e f ps qs h same =
    ap (target e) same
    ∙ (ap (λ (id : List ℕ). option_map (λ (p : Pending). p.path.keys ++ e.sub_path.keys) (opened id qs)) h.id
    ∙ ap (λ (sub : Path). option_map (λ (p : Pending). p.path.keys ++ sub.keys) (opened f.id qs)) h.sub_path)

delivers_one : (e f : Entry) → SameEntry e f → OneBy (Delivers e) (Delivers f)
delivers_one e f h s t x y same p q =
    let there : DeliversAt (target e s.awaited) f.content t y = subst (λ (o : Option (List Key)). DeliversAt o f.content t y) (sym (same_target e f s.awaited t.awaited h same.awaited)) q in
    delivers_at (target e s.awaited) e.content f.content h.content s t x y same p there

entries_one : (es fs : List Entry) → SameEntries es fs → OneBy (Each Delivers es) (Each Delivers fs)
entries_one [] [] h = made_one (λ s. Ok s) (λ s. Ok s) (λ s t same. same)
entries_one [] (f ∷ fs) h = absurd h
entries_one (e ∷ es) [] h = absurd h
entries_one (e ∷ es) (f ∷ fs) h = then_one (Delivers e) (Delivers f) (Each Delivers es) (Each Delivers fs) (delivers_one e f h.0) (entries_one es fs h.1)

-- ---- a completed id

completed_same : (o : Option Pending) (c : Completed) (s t : State) → SameState s t → SameAnswer (complete_of o c s) (complete_of o c t)
completed_same None c s t h = refl
completed_same (Some p) c s t h = record { value = h.value; awaited = ap (without c.id) h.awaited; ids = h.ids; errors = h.errors; failures = ap (λ (fs : List Failure). fs ++ failed p c.errors) h.failures; ended = h.ended }

completes_one : (c : Completed) → OneBy (Completes c) (Completes c)
completes_one c = made_one _ _ (λ s t same. subst (λ (o : Option Pending). SameAnswer (complete_of (opened c.id s.awaited) c s) (complete_of o c t)) (ap (opened c.id) same.awaited) (completed_same (opened c.id s.awaited) c s t same))

-- ---- the end

entry_faults : (es fs : List Entry) → SameEntries es fs → flat_map (λ (e : Entry). e.errors) es ≡ flat_map (λ (e : Entry). e.errors) fs
entry_faults [] [] h = refl
entry_faults [] (f ∷ fs) h = absurd h
entry_faults (e ∷ es) [] h = absurd h
entry_faults (e ∷ es) (f ∷ fs) h = ap₂ (λ (a b : List Fault). a ++ b) h.0.errors (entry_faults es fs h.1)

same_faults : (p q : Payload) → SamePayload p q → faults_of p ≡ faults_of q
same_faults p q h = ap₂ (λ (a b : List Fault). a ++ b) h.errors (entry_faults p.incremental q.incremental h.incremental)

-- sorted lists of the same are one
sorted_one : (fs gs hs ks : List Fault) → fs ≡ gs → Sorts fault_cmp fs hs → Sorts fault_cmp gs ks → hs ≡ ks
sorted_one fs gs hs ks e h k =
    sorts-ordered fault_cmp faults_total faults_exact fs hs h
    ∙ sym (sorts-ordered fault_cmp faults_total faults_exact fs ks (subst (λ (z : List Fault). Sorts fault_cmp z ks) (sym e) k))

failed_one : (fs gs hs ks : List Failure) → fs ≡ gs → Sorts failure_cmp fs hs → Sorts failure_cmp gs ks → hs ≡ ks
failed_one fs gs hs ks e h k =
    sorts-ordered failure_cmp failures_total failures_exact fs hs h
    ∙ sym (sorts-ordered failure_cmp failures_total failures_exact fs ks (subst (λ (z : List Failure). Sorts failure_cmp z ks) (sym e) k))

end_refused : (p : Payload) (s : State) (e : MergeRefusal) → Ends p s (Err e) → (e ≡ OpenAtEnd) × (leaves_open p s ≡ true)
end_refused p s UnknownId h = absurd h
end_refused p s IdTwice h = absurd h
end_refused p s NoSuchPlace h = absurd h
end_refused p s Clash h = absurd h
end_refused p s AfterEnd h = absurd h
end_refused p s NotAList h = absurd h
end_refused p s OpenAtEnd h = (refl, h)
end_refused p s BadInitial h = absurd h
end_refused p s NoMemory h = absurd h

module _ (p q : Payload) (h : SamePayload p q) where
  ended_same : (s t x y : State) → SameState s t → IsEnd p s x → IsEnd q t y → SameState x y
  ended_same s t x y same a b = record {
    value = subst (λ (o : Option Value). SameMaybe o y.value) (sym a.value) (subst (SameMaybe s.value) (sym b.value) same.value);
    awaited = a.awaited ∙ (same.awaited ∙ sym b.awaited);
    ids = a.ids ∙ (same.ids ∙ sym b.ids);
    errors = sorted_one (s.errors ++ faults_of p) (t.errors ++ faults_of q) x.errors y.errors (ap₂ (λ (c d : List Fault). c ++ d) same.errors (same_faults p q h)) a.errors b.errors;
    failures = failed_one s.failures t.failures x.failures y.failures same.failures a.failures b.failures;
    ended = a.ended ∙ (ap is_last h.has_next ∙ sym b.ended);
  }

  same_open : (s t : State) → SameState s t → leaves_open p s ≡ leaves_open q t
  same_open s t same = ap₂ (λ (n : Option Bool) (ps : List Pending). is_last n && is_some_open ps) h.has_next same.awaited

  ends_one : OneBy (Ends p) (Ends q)
  ends_one s t (Ok x) (Ok y) same a b = ended_same s t x y same a.1 b.1
  ends_one s t (Ok x) (Err f) same a b = let e : f ≡ OpenAtEnd = (end_refused q t f b).0 in let g = (end_refused q t f b).1 in let k = same_open s t same in let l = a.0 in absurd (cc)
  ends_one s t (Err e) (Ok y) same a b = let g = (end_refused p s e a).1 in let k = same_open s t same in let l = b.0 in absurd (cc)
  ends_one s t (Err e) (Err f) same a b = (end_refused p s e a).0 ∙ sym (end_refused q t f b).0

-- ---- a payload

pub apply_one : (p q : Payload) (s t : State) (a b : Answer) → SamePayload p q → SameState s t → Apply p s a → Apply q t b → SameAnswer a b
apply_one p q s t a b h same x y =
    let pending : OneBy (Each Announces p.pending) (Each Announces q.pending) = subst (λ (ps : List Pending). OneBy (Each Announces p.pending) (Each Announces ps)) h.pending (each_one Announces announces_one p.pending) in
    let completed : OneBy (Each Completes p.completed) (Each Completes q.completed) = subst (λ (cs : List Completed). OneBy (Each Completes p.completed) (Each Completes cs)) h.completed (each_one Completes completes_one p.completed) in
    then_one _ _ _ _ (begins_one p q h) (then_one _ _ _ _ pending (then_one _ _ _ _ (entries_one p.incremental q.incremental h.incremental) (then_one _ _ _ _ completed (ends_one p q h)))) s t a b same x y
