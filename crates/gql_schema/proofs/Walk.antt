-- A walk along the edges of a graph, node by node as they are met.
use Rattle.std.proofs.Common.{◌≡◌, refl, sym, ◌∙◌, ap, ℕ, suc, ◌+◌, ◌<◌, ◌≤◌, ◌==◌, Bool, true, false, cond, ◌||◌, ⊎_elim, List, [], ◌∷◌, ◌++◌, length, get_or, take, subst, arith, eqb-true, eq-eqb}
use Rattle.std.specs.List.{AllByRecursion as Each}
use Rattle.std.proofs.lemmas.Bool.{or_cases, or_left, or_right}
use Rattle.std.proofs.lemmas.List.{take_more, take-append-le, take_all, length_push, get_or_read}
use Rattle.std.proofs.lemmas.List.Elements.{All-from_recursion}
use Rattle.std.proofs.lemmas.List.Folds.{list_any-append, list_any_at}
use Rattle.gql_schema.proofs.Each.{each_append, each_weaker}
use Rattle.gql_schema.specs.Graph.{has, next_in, within, is_reached, added, all_added, IsGraph, AreMarked}
use Rattle.gql_schema.proofs.Reach.{In, at_in, each_in, reached_closed, reached_more, reached_step, reached_upto}

-- ---- numbers, each once

-- what stands there already
absorbed : (a c : Bool) → (c ≡ true → a ≡ true) → a ≡ (a || (c || false))
absorbed true c f = refl
absorbed false true f = f refl
absorbed false false f = refl

has-added_by : (b : Bool) (ks : List ℕ) (m k : ℕ) → has ks m ≡ b → has (cond b ks (ks ++ m ∷ [])) k ≡ (has ks k || has (m ∷ []) k)
has-added_by true ks m k e = absorbed (has ks k) (k == m) (λ s. ap (has ks) (eqb-true k m s) ∙ e)
has-added_by false ks m k e = list_any-append (λ x. k == x) ks (m ∷ [])

or_parted : (a c d : Bool) → ((a || (c || false)) || d) ≡ (a || (c || d))
or_parted true c d = refl
or_parted false true d = refl
or_parted false false d = refl

or_none : (a : Bool) → a ≡ (a || false)
or_none true = refl
or_none false = refl

pub has-all_added : (ms ks : List ℕ) (k : ℕ) → has (all_added ks ms) k ≡ (has ks k || has ms k)
has-all_added [] ks k = or_none (has ks k)
has-all_added (m ∷ ms) ks k = has-all_added ms (added ks m) k ∙ ap (λ b. b || has ms k) (has-added_by (has ks m) ks m k refl) ∙ or_parted (has ks k) (k == m) (has ms k)

longer_by : (b : Bool) (ks : List ℕ) (m : ℕ) → length ks ≤ length (cond b ks (ks ++ m ∷ []))
longer_by true ks m = omega arith
longer_by false ks m = omega (arith, length_push ks m)

take-added_by : (b : Bool) (n : ℕ) (ks : List ℕ) (m : ℕ) → n ≤ length ks → take n (cond b ks (ks ++ m ∷ [])) ≡ take n ks
take-added_by true n ks m le = refl
take-added_by false n ks m le = take-append-le n ks (m ∷ []) le

-- those that are listed stay where they are
pub take-all_added : (ms : List ℕ) (n : ℕ) (ks : List ℕ) → n ≤ length ks → take n (all_added ks ms) ≡ take n ks
take-all_added [] n ks le = refl
take-all_added (m ∷ ms) n ks le = take-all_added ms n (added ks m) (let more = longer_by (has ks m) ks m in omega (arith, more, le)) ∙ take-added_by (has ks m) n ks m le

-- ---- the walk

-- all of these are reached, and from the first so many of them nothing else is
pub record IsWalked (graph : List (List ℕ)) (start : List ℕ) (at : ℕ) (ks : List ℕ) : Type 0 where
  pub sound : (k : ℕ) → In k ks → In k (within graph at start)
  pub starts : (k : ℕ) → In k start → In k ks
  pub closed : Each (λ x. (k : ℕ) → In k (next_in graph x) → In k ks) (take at ks)

module _ (graph : List (List ℕ)) (start : List ℕ) where
  pub walk_begin : IsWalked graph start 0 (all_added [] start)
  walk_begin = record {
    sound = λ k h. sym (has-all_added start [] k) ∙ h;
    starts = λ k h. has-all_added start [] k ∙ h;
    closed = tt;
  }

  module _ (at : ℕ) (ks : List ℕ) (lt : at < length ks) (w : IsWalked graph start at ks) where
    abbrev here : ℕ
    here = get_or ks at 0

    abbrev more : List ℕ
    more = all_added ks (next_in graph here)

    stays : (k : ℕ) → In k ks → In k more
    stays k h = has-all_added (next_in graph here) ks k ∙ or_left (has ks k) (has (next_in graph here) k) h

    comes : (k : ℕ) → In k (next_in graph here) → In k more
    comes k h = has-all_added (next_in graph here) ks k ∙ or_right (has ks k) (has (next_in graph here) k) h

    in_here : In here ks
    in_here = list_any_at (λ x. here == x) ks at 0 lt (eq-eqb here here refl)

    one_more : at + 1 ≡ suc at
    one_more = omega arith

    sound_more : (k : ℕ) → In k more → In k (within graph (at + 1) start)
    sound_more k h =
        ap (λ n. has (within graph n start) k) one_more
        ∙ ⊎_elim (λ e. reached_more graph at k start (w.sound k e)) (λ e. reached_step graph at k here start (w.sound here in_here) e)
        (or_cases (has ks k) (has (next_in graph here) k) (sym (has-all_added (next_in graph here) ks k) ∙ h))

    first_taken : take (at + 1) more ≡ take at ks ++ here ∷ []
    first_taken = take-all_added (next_in graph here) (at + 1) ks (omega (arith, lt)) ∙ take_more ks at 0 lt

    closed_more : Each (λ x. (k : ℕ) → In k (next_in graph x) → In k more) (take (at + 1) more)
    closed_more = rw first_taken
        (each_append (λ x. (k : ℕ) → In k (next_in graph x) → In k more) (take at ks) (here ∷ [])
        (each_weaker (λ x. (k : ℕ) → In k (next_in graph x) → In k ks) (λ x. (k : ℕ) → In k (next_in graph x) → In k more) (λ x f k h. stays k (f k h)) (take at ks) w.closed)
        (comes, tt))

    pub walk_step : IsWalked graph start (at + 1) more
    walk_step = record { sound = sound_more; starts = λ k h. stays k (w.starts k h); closed = closed_more }

  same_truth : (a b : Bool) → (a ≡ true → b ≡ true) → (b ≡ true → a ≡ true) → a ≡ b
  same_truth true b f g = sym (f refl)
  same_truth false true f g = g refl
  same_truth false false f g = refl

  pub walk_end : (at : ℕ) (ks : List ℕ) (goal : ℕ) → length ks ≤ at → at ≤ length graph → IsWalked graph start at ks → has ks goal ≡ is_reached graph start goal
  walk_end at ks goal all few w =
      let every : Each (λ x. (k : ℕ) → In k (next_in graph x) → In k ks) ks = subst (λ (xs : List ℕ). Each (λ x. (k : ℕ) → In k (next_in graph x) → In k ks) xs) (take_all at ks all) w.closed in
      same_truth (has ks goal) (is_reached graph start goal)
      (λ h. reached_upto graph at (length graph) goal start few (w.sound goal h))
      (λ h. at_in (λ k. In k ks) goal (within graph (length graph) start)
      (reached_closed graph (length graph) (λ k. In k ks)
      (λ x h. each_in (λ k. In k ks) (next_in graph x) (at_in (λ y. (k : ℕ) → In k (next_in graph y) → In k ks) x ks every h))
      start (each_in (λ k. In k ks) start w.starts))
      h)

-- ---- the walk with its marks

module _ (graph : List (List ℕ)) (start ks : List ℕ) (marks : List Bool) (at : ℕ) (w : AreMarked ks marks) (all : length marks ≡ length graph) where
  pub listed_within : (node : ℕ) → at < length ks → node ≡ get_or ks at node → node < length graph
  listed_within node lt is =
      let each : get_or ks at node < length marks = All-from_recursion (λ k. k < length marks) ks w.within at node lt in
      omega (arith, all, is, each)

  module _ (node : ℕ) (lt : at < length ks) (is : node ≡ get_or ks at node) (row : List ℕ) (stands : row ≡ get_or graph node row) where
    is_row : row ≡ next_in graph (get_or ks at 0)
    is_row = get_or_read graph node row (listed_within node lt is) stands [] ∙ ap (next_in graph) (get_or_read ks at node lt is 0)

    pub row_within : IsGraph graph → Each (λ k. k < length marks) row
    row_within h =
        let each : Each (λ k. k < length graph) (get_or graph node row) = All-from_recursion (Each (λ k. k < length graph)) graph h node row (listed_within node lt is) in
        each_weaker (λ k. k < length graph) (λ k. k < length marks) (λ k l. omega (arith, l, all)) row (subst (λ (xs : List ℕ). Each (λ k. k < length graph) xs) (sym stands) each)

    pub walked_more : (new : List ℕ) → new ≡ all_added ks row → IsWalked graph start at ks → IsWalked graph start (at + 1) new
    walked_more new e h = subst (λ (xs : List ℕ). IsWalked graph start (at + 1) xs) (sym (e ∙ ap (all_added ks) is_row)) (walk_step graph start at ks lt h)

  -- the mark of a node tells whether it is reached, once all that is listed was walked
  pub marked_is_reached : (goal : ℕ) (b : Bool) → b ≡ get_or marks goal b → goal < length graph → length ks ≤ at → at ≤ length graph → IsWalked graph start at ks → b ≡ is_reached graph start goal
  marked_is_reached goal b e lt done few h =
      let within : goal < length marks = omega (arith, lt, all) in
      get_or_read marks goal b within e false ∙ w.told goal within ∙ walk_end graph start at ks goal done few h
