-- The regions of a well-formed forest: each arises in one before it, and no two bring anything to one place.
use Rattle.std.proofs.Common.{◌≡◌, ◌⊎◌, inl, inr, ℕ, ◌<◌, ◌≤◌, List, [], ◌∷◌, ◌++◌, length, drop, refl, sym, subst, ◌∙◌, ap, Bool, true, false, cond, Option, Some, None, append_assoc, arith}
use Rattle.std.specs.Prelude.{nat_lt, not, ◌&&◌, ◌||◌}
use Rattle.std.specs.List.{list_any, list_all}
use Rattle.std.specs.Str.{bytes_eq}
use Rattle.std.proofs.lemmas.Slice.Eq.{bytes_eq-Decides}
use Rattle.std.proofs.lemmas.Bool.Decides.{Decides-eqb, nat_tests}
use Rattle.std.proofs.lemmas.List.{append-nil}
use Rattle.gql_tree.specs.declared.path.Key.{Key}
use Rattle.gql_tree.specs.declared.path.Key.TheVariants.{Index}
use Rattle.gql_tree.specs.declared.value.Value.{Value, out-Value}
use Rattle.gql_tree.specs.declared.value.Value.TheVariants.{Null, outs-Null}
use Rattle.gql_tree.specs.declared.delivery.Stream.{Stream}
use Rattle.gql_tree.specs.declared.delivery.RegionResult.{RegionResult}
use Rattle.gql_tree.specs.declared.delivery.TaskWork.{TaskWork}
use Rattle.gql_tree.specs.declared.delivery.TaskWork.TheVariants.{Fields, Item}
use Rattle.gql_tree.specs.Keys.{same_lists, same_key}
use Rattle.gql_tree.specs.Flat.{Mark, null, truth, integer, text, object, list, mark_of, flat, members_of}
use Rattle.gql_tree.specs.Forest.{Forest, Branches, grown, none, more, tasks_of, outcome_value}
use Rattle.gql_tree.specs.Fate.{is_good, Scope, scope_of}
use Rattle.gql_tree.specs.WellFormed.{first_region, Site, works_of, root_site, keys_of, sites_below, sites, mark_at, shows_object, no_two, share_a_key, collide, shows_list, begins_a_list, has_the_keys, has_its_fields, IsWellFormed}
use Rattle.gql_confluence.proofs.Parts.{In, in_left, in_right}
use Rattle.gql_confluence.proofs.Lists.{and_left, all_at, to_any}
use Rattle.gql_confluence.proofs.Deciders.{same_keys-refl, prefix_drop}
use Rattle.gql_confluence.proofs.Values.{object_mark}
use Rattle.gql_confluence.proofs.Owning.{value_in, Proper, Unique}
use Rattle.gql_confluence.proofs.Disjoint.{IsItemOf, Closed, unique_more, closed_more}
use Rattle.gql_confluence.proofs.ItemsApart.{coincide, listed_item, items_apart}
use Rattle.gql_confluence.proofs.Groups.{all_rec_at, apart_at, listed, marked, good_or, is_below}

module _ (f : Forest) (wf : IsWellFormed f) where
  abbrev regions : List Site
  regions = sites f

  -- ---- all regions

  -- two groups at one path share no key
  others : (xs : List Site) (a : Site) (ys : List Site) → regions ≡ xs ++ a ∷ ys → (b : Site) → In b xs → b.is_root ≡ false → a.is_root ≡ false → b.at ≡ a.at → (n : List ℕ) → In n b.keys → In n a.keys → ⊥
  others xs a ys e b i rb ra at n j k =
      let none' = apart_at collide xs a ys (subst (λ (l : List Site). no_two collide l ≡ true) e wf.groups_apart) b i in
      let shared : share_a_key b.keys a.keys ≡ true = to_any (λ x. list_any (bytes_eq x) a.keys) b.keys n j (to_any (bytes_eq n) a.keys n k ((bytes_eq-Decides n n).1 refl)) in
      let paths : same_lists same_key b.at a.at ≡ true = ap (λ (p : List Key). same_lists same_key b.at p) (sym at) ∙ same_keys-refl b.at in
      by b.is_root a.is_root (same_lists same_key b.at a.at) _ (share_a_key b.keys a.keys) rb ra paths shared none'
    where
      by : (c d p q r : Bool) → c ≡ false → d ≡ false → p ≡ true → r ≡ true → (not c && not d && p && (q || r)) ≡ false → ⊥
      by c d p true r e1 e2 e3 e4 z = let k : (not c && not d && p && (true || r)) ≡ true = rw (e1, e2, e3) refl in cc
      by c d p false r e1 e2 e3 e4 z = let k : (not c && not d && p && (false || r)) ≡ true = rw (e1, e2, e3, e4) refl in cc

  -- no two items stand at one place
  other_items : (xs : List Site) (a : Site) (ys : List Site) → regions ≡ xs ++ a ∷ ys → (b : Site) → In b xs → b.is_root ≡ true → a.is_root ≡ true → b.at ≡ a.at → ⊥
  other_items xs a ys e b i rb ra at =
      let none' = apart_at coincide xs a ys (subst (λ (l : List Site). no_two coincide l ≡ true) e (items_apart f wf)) b i in
      let paths : same_lists same_key b.at a.at ≡ true = ap (λ (p : List Key). same_lists same_key b.at p) (sym at) ∙ same_keys-refl b.at in
      let k : (b.is_root && a.is_root && same_lists same_key b.at a.at) ≡ true = rw (rb, ra, paths) refl in
      cc

  list_mark : (n : ℕ) (o : Option Mark) → shows_list n o ≡ true → o ≡ Some (list n)
  list_mark n None e = absurd (cc)
  list_mark n (Some m) e = by m e where
    by : (m : Mark) → shows_list n (Some m) ≡ true → Some m ≡ Some (list n)
    by null e = absurd (cc)
    by (truth b) e = absurd (cc)
    by (integer z) e = absurd (cc)
    by (text t) e = absurd (cc)
    by object e = absurd (cc)
    by (list k) e = ap (λ j. Some (list j)) ((Decides-eqb k n).0 e)

  -- a list doesn't stand at the beginning of a group's region
  no_list : (y : Site) → In y regions → y.is_root ≡ false → (n : ℕ) → flat (value_in y) [] ≡ Some (list n) → ⊥
  no_list y i nr n h = by (good_or y.region.outcome) where
    object_list : (o : Option Mark) → o ≡ Some object → o ≡ Some (list n) → ⊥
    object_list o e f = cc

    pick : (b c : Bool) → b ≡ true → c ≡ false → (not b || cond c true (shows_object (flat (value_in y) []) && has_the_keys y.keys (members_of (out-Value (value_in y))))) ≡ true
        → (shows_object (flat (value_in y) []) && has_the_keys y.keys (members_of (out-Value (value_in y)))) ≡ true
    pick true true e e' k = absurd (cc)
    pick true false e e' k = k
    pick false c e e' k = absurd (cc)

    by : (is_good y.region ≡ true) ⊎ (value_in y ≡ Null) → ⊥
    by (inl good) =
        let f = and_left (shows_object (flat (value_in y) [])) _ (pick (is_good y.region) y.is_root good nr (all_at has_its_fields regions wf.fields y i)) in
        object_list (flat (value_in y) []) (object_mark (flat (value_in y) []) f.0) h
    by (inr null') =
        let f : flat Null [] ≡ Some (list n) = ap (λ (v : Value). flat v []) (sym null') ∙ h in
        let g : flat Null [] ≡ Some null = ap (λ l. Some (mark_of l)) outs-Null in
        cc

  -- the good value of the initial region is no list
  pub no_first_list : (n : ℕ) → flat (outcome_value (first_region f).outcome) [] ≡ Some (list n) → ⊥
  no_first_list n h = by (good_or (first_region f).outcome) where
    object_list : (o : Option Mark) → o ≡ Some object → o ≡ Some (list n) → ⊥
    object_list o e g = cc

    pick : (b c : Bool) → b ≡ true → (not b || c) ≡ true → c ≡ true
    pick true c e k = k
    pick false c e k = absurd (cc)

    by : (is_good (first_region f) ≡ true) ⊎ (outcome_value (first_region f).outcome ≡ Null) → ⊥
    by (inl good) = object_list (flat (outcome_value (first_region f).outcome) []) (object_mark (flat (outcome_value (first_region f).outcome) []) (pick (is_good (first_region f)) _ good wf.first_object)) h
    by (inr null') =
        let e : flat Null [] ≡ Some (list n) = ap (λ (v : Value). flat v []) (sym null') ∙ h in
        let g : flat Null [] ≡ Some null = ap (λ l. Some (mark_of l)) outs-Null in
        cc

  -- where the list of a stream stands in its region
  pub record ListIn (y : Site) (st : Stream) : Type 0 where
    pub rest : List Key
    pub at : st.path.keys ≡ y.at ++ rest
    pub has : flat (value_in y) rest ≡ Some (list st.first)
    pub proper : Proper y rest

  pub list_in : (y : Site) (st : Stream) → In y regions → In st y.region.streams → ListIn y st
  list_in y st is_y is_st =
      let t = and_left (shows_list st.first (mark_at y st.path.keys)) _ (all_at (begins_a_list y) y.region.streams (all_at (λ x. list_all (begins_a_list x) x.region.streams) regions wf.streams_stand y is_y) st is_st) in
      let m = marked y st.path.keys (list st.first) (list_mark st.first (mark_at y st.path.keys) t.0) in
      record {
        rest = drop (length y.at) st.path.keys;
        at = prefix_drop y.at st.path.keys m.0;
        has = m.1;
        proper = proper_by y.is_root (drop (length y.at) st.path.keys) refl refl m.1;
      }
    where
      proper_by : (b : Bool) (l : List Key) → y.is_root ≡ b → drop (length y.at) st.path.keys ≡ l → flat (value_in y) (drop (length y.at) st.path.keys) ≡ Some (list st.first) → Proper y (drop (length y.at) st.path.keys)
      proper_by true l e f h = inl e
      proper_by false (k ∷ l) e f h = inr (k, l, f)
      proper_by false [] e f h = absurd (no_list y is_y e st.first (ap (flat (value_in y)) (sym f) ∙ h))

  -- and more is to come
  pub is_longer : (y : Site) (st : Stream) → In y regions → In st y.region.streams → st.first < st.length
  is_longer y st is_y is_st =
      let t = and_left (shows_list st.first (mark_at y st.path.keys)) _ (all_at (begins_a_list y) y.region.streams (all_at (λ x. list_all (begins_a_list x) x.region.streams) regions wf.streams_stand y is_y) st is_st) in
      by t.1
    where
      by : nat_lt st.first st.length ≡ true → st.first < st.length
      by e = grind (arith, nat_tests)

  item_of : (y a : Site) (st : Stream) (n : ℕ) → In y regions → In st y.region.streams → st.first ≤ n → a.at ≡ st.path.keys ++ Index n ∷ [] → a.is_root ≡ true → IsItemOf a y
  item_of y a st n is_y is_st le at root =
      let l = list_in y st is_y is_st in
      record {
        root = root;
        rest = l.rest;
        index = n;
        first = st.first;
        at = at ∙ ap (λ (k : List Key). k ++ Index n ∷ []) l.at;
        has = l.has;
        proper = l.proper;
        behind = le;
      }

  abbrev Fine : List Site → Type 0
  Fine xs = Unique xs × Closed xs

  task_of : (y : Site) → In y regions → (w : TaskWork) → In w y.works → In w (tasks_of y.region)
  task_of y i w j = subst (λ (l : List TaskWork). In w l) (all_rec_at (λ (x : Site). x.works ≡ tasks_of x.region) regions wf.grows y i) j

  walk : (s : Scope) (y : Site) (bs : Branches) → (xs ys : List Site) → In y xs → ((w : TaskWork) → In w (works_of bs) → In w y.works) → regions ≡ xs ++ (sites_below s y.around bs ++ ys) → Fine xs → Fine (xs ++ sites_below s y.around bs)
  walk s y none xs ys i ws e good = subst Fine (sym (append-nil xs)) good
  walk s y (more (Fields g) (grown r inner) bs) xs ys i ws e good =
      let a : Site = record { at = g.path.keys; is_root = false; owners = g.owners; keys = keys_of g; around = r.fragments ++ y.around; scope = s; region = r; works = works_of inner } in
      let below_a = sites_below s (r.fragments ++ y.around) inner in
      let beside = sites_below s y.around bs in
      let e1 : regions ≡ xs ++ a ∷ ((below_a ++ beside) ++ ys) = e in
      let is_y : In y regions = subst (λ (l : List Site). In y l) (sym e1) (in_left y xs (a ∷ ((below_a ++ beside) ++ ys)) i) in
      let is_a : In a regions = subst (λ (l : List Site). In a l) (sym e1) (in_right a xs (a ∷ ((below_a ++ beside) ++ ys)) (inl refl)) in
      let is_g : In g y.region.groups = listed y.region g (task_of y is_y (Fields g) (ws (Fields g) (inl refl))) in
      let b = inl (is_below f wf y a g is_y is_a is_g refl refl refl) in
      let o = others xs a ((below_a ++ beside) ++ ys) e1 in
      let o' = other_items xs a ((below_a ++ beside) ++ ys) e1 in
      let one : Fine (xs ++ a ∷ []) = (unique_more xs good.0 good.1 a y i b o o', closed_more xs good.0 good.1 a y i b o o') in
      let e2 : regions ≡ (xs ++ a ∷ []) ++ (below_a ++ (beside ++ ys)) = e1 ∙ (ap (λ (l : List Site). xs ++ a ∷ l) (append_assoc below_a beside ys) ∙ sym (append_assoc xs (a ∷ []) (below_a ++ (beside ++ ys)))) in
      let two : Fine ((xs ++ a ∷ []) ++ below_a) = walk s a inner (xs ++ a ∷ []) (beside ++ ys) (in_right a xs (a ∷ []) (inl refl)) (λ w j. j) e2 one in
      let e3 : regions ≡ ((xs ++ a ∷ []) ++ below_a) ++ (beside ++ ys) = e2 ∙ sym (append_assoc (xs ++ a ∷ []) below_a (beside ++ ys)) in
      let three : Fine (((xs ++ a ∷ []) ++ below_a) ++ beside) = walk s y bs ((xs ++ a ∷ []) ++ below_a) ys (in_left y (xs ++ a ∷ []) below_a (in_left y xs (a ∷ []) i)) (λ w j. ws w (inr j)) e3 two in
      subst Fine (append_assoc (xs ++ a ∷ []) below_a beside ∙ append_assoc xs (a ∷ []) (below_a ++ beside)) three
  walk s y (more (Item st n) (grown r inner) bs) xs ys i ws e good =
      let a : Site = root_site (st.path.keys ++ Index n ∷ []) r inner in
      let below_a = sites_below (scope_of (grown r inner)) r.fragments inner in
      let beside = sites_below s y.around bs in
      let e1 : regions ≡ xs ++ a ∷ ((below_a ++ beside) ++ ys) = e in
      let is_y : In y regions = subst (λ (l : List Site). In y l) (sym e1) (in_left y xs (a ∷ ((below_a ++ beside) ++ ys)) i) in
      let is_st = listed_item y.region st n (task_of y is_y (Item st n) (ws (Item st n) (inl refl))) in
      let b = inr (item_of y a st n is_y is_st.0 is_st.1 refl refl) in
      let o = others xs a ((below_a ++ beside) ++ ys) e1 in
      let o' = other_items xs a ((below_a ++ beside) ++ ys) e1 in
      let one : Fine (xs ++ a ∷ []) = (unique_more xs good.0 good.1 a y i b o o', closed_more xs good.0 good.1 a y i b o o') in
      let e2 : regions ≡ (xs ++ a ∷ []) ++ (below_a ++ (beside ++ ys)) = e1 ∙ (ap (λ (l : List Site). xs ++ a ∷ l) (append_assoc below_a beside ys) ∙ sym (append_assoc xs (a ∷ []) (below_a ++ (beside ++ ys)))) in
      let two : Fine ((xs ++ a ∷ []) ++ below_a) = walk (scope_of (grown r inner)) a inner (xs ++ a ∷ []) (beside ++ ys) (in_right a xs (a ∷ []) (inl refl)) (λ w j. j) e2 one in
      let e3 : regions ≡ ((xs ++ a ∷ []) ++ below_a) ++ (beside ++ ys) = e2 ∙ sym (append_assoc (xs ++ a ∷ []) below_a (beside ++ ys)) in
      let three : Fine (((xs ++ a ∷ []) ++ below_a) ++ beside) = walk s y bs ((xs ++ a ∷ []) ++ below_a) ys (in_left y (xs ++ a ∷ []) below_a (in_left y xs (a ∷ []) i)) (λ w j. ws w (inr j)) e3 two in
      subst Fine (append_assoc (xs ++ a ∷ []) below_a beside ∙ append_assoc xs (a ∷ []) (below_a ++ beside)) three

-- no two regions of a forest bring anything to one place
pub all_sites_unique : (r : RegionResult) (bs : Branches) → IsWellFormed (grown r bs) → Unique (sites (grown r bs)) × Closed (sites (grown r bs))
all_sites_unique r bs wf =
    let s = scope_of (grown r bs) in
    let top : Site = root_site [] r bs in
    walk (grown r bs) wf s top bs (top ∷ []) [] (inl refl) (λ w i. i) (ap (λ (l : List Site). top ∷ l) (sym (append-nil (sites_below s r.fragments bs)))) (
      λ x y i j p ox oy. only x i ∙ sym (only y j),
      λ x i. inl (ap (λ (z : Site). z.is_root) (only x i), ap (λ (z : Site). z.at) (only x i)),
    )
  where
    only : (x : Site) → In x (root_site [] r bs ∷ []) → x ≡ root_site [] r bs
    only x (inl e) = e
    only x (inr i) = absurd i
