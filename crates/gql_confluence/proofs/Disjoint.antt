-- No two regions bring anything to one place, but that a group begins at an object of another.
use Rattle.std.proofs.Common.{◌≡◌, ◌⊎◌, inl, inr, ℕ, zero, suc, ◌<◌, ◌≤◌, ◌+◌, ◌-◌, List, [], ◌∷◌, ◌++◌, length, refl, sym, subst, ◌∙◌, ap, Bool, true, false, cond, Option, Some, None, append_assoc, arith}
use Rattle.std.proofs.lemmas.List.{append-nil, append_cancel_left, length-append}
use Rattle.gql_tree.specs.declared.path.Key.{Key}
use Rattle.gql_tree.specs.declared.path.Key.TheVariants.{Name, Index}
use Rattle.gql_tree.specs.Flat.{Mark, object, list, flat}
use Rattle.gql_tree.specs.WellFormed.{Site}
use Rattle.gql_confluence.proofs.Parts.{In, in_left, in_cases, HasAt, Agree}
use Rattle.gql_confluence.proofs.Deciders.{two_prefixes}
use Rattle.gql_confluence.proofs.Values.{flat_above}
use Rattle.gql_confluence.proofs.Lengths.{past_value}
use Rattle.gql_confluence.proofs.Owning.{value_in, part_in, Proper, Owns, IsBelow, IsTop, Unique, IsReady, owns_at}

-- the region of an item of a list that stands in another
pub record IsItemOf (x y : Site) : Type 0 where
  pub root : x.is_root ≡ true
  pub rest : List Key
  pub index : ℕ
  pub first : ℕ
  pub at : x.at ≡ (y.at ++ rest) ++ Index index ∷ []
  pub has : flat (value_in y) rest ≡ Some (list first)
  pub proper : Proper y rest
  -- behind the items that the list has there
  pub behind : first ≤ index

abbrev pub Arises : Site → Site → Type 0
Arises x y = IsBelow x y ⊎ IsItemOf x y

abbrev pub Closed : List Site → Type 0
Closed xs = (x : Site) → In x xs → IsTop x ⊎ ((y : Site) × In y xs × Arises x y)

nil_cons : {X : Type 0} (xs : List X) (x : X) (ys : List X) → [] ≡ xs ++ x ∷ ys → ⊥
nil_cons [] x ys e = cc
nil_cons (z ∷ xs) x ys e = cc

name_same : (m n : List ℕ) → Name m ≡ Name n → m ≡ n
name_same m n e = cc

index_name : (i : ℕ) (k : Key) (n : List ℕ) → Index i ≡ k → k ≡ Name n → ⊥
index_name i k n e f = cc

some_none : (o : Option Mark) (m : Mark) → o ≡ Some m → o ≡ None → ⊥
some_none o m e f = cc

-- the list at which an item stands
abbrev list_of : (x y : Site) → IsItemOf x y → List Key
list_of x y b = y.at ++ b.rest

owns_list : (x y : Site) (b : IsItemOf x y) → Owns y (list_of x y b)
owns_list x y b = record { rest = b.rest; mark = list b.first; at = refl; has = b.has; proper = b.proper }

-- a region higher up comes first; a scope's root before a group at its beginning
abbrev size : Site → ℕ
size x = length x.at + length x.at + cond x.is_root 0 1

size_root : (x : Site) → x.is_root ≡ true → size x ≡ length x.at + length x.at
size_root x e = let f : cond {A = ℕ} x.is_root 0 1 ≡ 0 = ap (λ b. cond b 0 1) e in omega arith

size_other : (x : Site) → x.is_root ≡ false → size x ≡ length x.at + length x.at + 1
size_other x e = let f : cond {A = ℕ} x.is_root 0 1 ≡ 1 = ap (λ b. cond b 0 1) e in omega arith

size_most : (x : Site) → size x ≤ length x.at + length x.at + 1
size_most x = by x.is_root where
  by : (b : Bool) → length x.at + length x.at + cond b 0 1 ≤ length x.at + length x.at + 1
  by true = omega arith
  by false = omega arith

smaller_below : (x y : Site) → IsBelow x y → size y < size x
smaller_below x y b = by b.proper (ap length b.at ∙ length-append y.at b.rest) (size_other x b.no_root) (size_most y) where
  by : Proper y b.rest → length x.at ≡ length y.at + length b.rest → size x ≡ length x.at + length x.at + 1 → size y ≤ length y.at + length y.at + 1 → size y < size x
  by (inl r) e f g = let h = size_root y r in omega arith
  by (inr (k, s, z)) e f g = let h : length b.rest ≡ length (k ∷ s) = ap length z in omega arith

smaller_item : (x y : Site) → IsItemOf x y → size y < size x
smaller_item x y b =
    let e : length x.at ≡ length (y.at ++ b.rest) + length (Index b.index ∷ []) = ap length b.at ∙ length-append (y.at ++ b.rest) (Index b.index ∷ []) in
    let f = length-append y.at b.rest in
    let g = size_root x b.root in
    let h = size_most y in
    omega arith

-- ---- one more region

module _ (xs : List Site) (unique : Unique xs) (closed : Closed xs) (a y : Site) (is_y : In y xs) (arises : Arises a y)
    (other : (b : Site) → In b xs → b.is_root ≡ false → a.is_root ≡ false → b.at ≡ a.at → (n : List ℕ) → In n b.keys → In n a.keys → ⊥)
    (other_root : (b : Site) → In b xs → b.is_root ≡ true → a.is_root ≡ true → b.at ≡ a.at → ⊥) where
  either : (b : Site) (s : List Key) → Proper b s ⊎ ((b.is_root ≡ false) × (s ≡ []))
  either b s = by b.is_root s refl where
    by : (c : Bool) (s : List Key) → b.is_root ≡ c → Proper b s ⊎ ((b.is_root ≡ false) × (s ≡ []))
    by true s e = inl (inl e)
    by false [] e = inr (e, refl)
    by false (k ∷ s) e = inl (inr (k, s, refl))

  -- a group's region brings nothing but its keys
  group_keyed : (b : Site) → b.is_root ≡ false → IsTop b ⊎ ((z : Site) × In z xs × Arises b z) → (k : Key) (r : List Key) (m : Mark) → flat (value_in b) (k ∷ r) ≡ Some m → (n : List ℕ) × (k ≡ Name n) × In n b.keys
  group_keyed b e (inl t) k r m h = let f = t.0 in absurd (cc)
  group_keyed b e (inr (z, iz, inl bz)) k r m h = bz.keyed k r m h
  group_keyed b e (inr (z, iz, inr bz)) k r m h = let f = bz.root in absurd (cc)

  -- a new group, and a region at or above its beginning
  over_group : (is : IsBelow a y) (b : Site) (i : In b xs) (n : List ℕ) (r s : List Key) (m : Mark) → In n a.keys → a.at ≡ b.at ++ s → flat (value_in b) (s ++ Name n ∷ r) ≡ Some m → Proper b s ⊎ ((b.is_root ≡ false) × (s ≡ [])) → ⊥
  over_group is b i n r s m k e h (inl p) =
      let one = flat_above s (Name n ∷ r) (value_in b) m h in
      let same : b ≡ y = unique b y i is_y a.at (record { rest = s; mark = one.0; at = e; has = one.1; proper = p }) (owns_at a y is) in
      let two = flat_above (s ++ Name n ∷ []) r (value_in b) m (ap (flat (value_in b)) (append_assoc s (Name n ∷ []) r) ∙ h) in
      let place : a.at ++ Name n ∷ [] ≡ b.at ++ (s ++ Name n ∷ []) = ap (λ (l : List Key). l ++ Name n ∷ []) e ∙ append_assoc b.at s (Name n ∷ []) in
      is.new n k two.0 (subst (λ (z : Site). HasAt (part_in z) (a.at ++ Name n ∷ []) two.0) same (s ++ Name n ∷ [], place, two.1))
  over_group is b i n r s m k e h (inr (no_root, none)) =
      let here : flat (value_in b) (Name n ∷ r) ≡ Some m = ap (λ (l : List Key). flat (value_in b) (l ++ Name n ∷ r)) (sym none) ∙ h in
      let keyed = group_keyed b no_root (closed b i) (Name n) r m here in
      let same : n ≡ keyed.0 = name_same n keyed.0 keyed.1 in
      other b i no_root is.no_root (sym (e ∙ (ap (λ (l : List Key). b.at ++ l) none ∙ append-nil b.at))) n (subst (λ (l : List ℕ). In l b.keys) (sym same) keyed.2) k

  module _ (b : Site) (i : In b xs) (rec : (z : Site) → In z xs → size z < size b → (q : List Key) → Owns a q → Owns z q → ⊥) where
    -- a new item, and a region at or above it
    over_item : (is : IsItemOf a y) (s : List Key) (m : Mark) → a.at ≡ b.at ++ s → flat (value_in b) s ≡ Some m
        → ((u : List Key) × (list_of a y is ≡ b.at ++ u) × (s ≡ u ++ Index is.index ∷ [])) ⊎ ((k : Key) × (u : List Key) × (b.at ≡ list_of a y is ++ k ∷ u) × (Index is.index ∷ [] ≡ k ∷ (u ++ s))) → ⊥
    over_item is s m e h (inl (u, eu, es)) =
        let here : flat (value_in b) (u ++ Index is.index ∷ []) ≡ Some m = ap (flat (value_in b)) (sym es) ∙ h in
        let one = flat_above u (Index is.index ∷ []) (value_in b) m here in
        by one.0 one.1 here (either b u)
      where
        by : (n : Mark) → flat (value_in b) u ≡ Some n → flat (value_in b) (u ++ Index is.index ∷ []) ≡ Some m → Proper b u ⊎ ((b.is_root ≡ false) × (u ≡ [])) → ⊥
        by n hn here (inl p) =
            let same : b ≡ y = unique b y i is_y (list_of a y is) (record { rest = u; mark = n; at = eu; has = hn; proper = p }) (owns_list a y is) in
            let rests : u ≡ is.rest = append_cancel_left y.at u is.rest (ap (λ (z : Site). z.at ++ u) (sym same) ∙ sym eu) in
            let there : flat (value_in y) (is.rest ++ Index is.index ∷ []) ≡ Some m = (λ j. flat (value_in (sym same j)) (sym rests j ++ Index is.index ∷ [])) ∙ here in
            let far : is.first + (is.index - is.first) ≡ is.index = let l = is.behind in omega arith in
            some_none (flat (value_in y) (is.rest ++ Index is.index ∷ [])) m there (ap (λ k. flat (value_in y) (is.rest ++ Index k ∷ [])) (sym far) ∙ past_value (value_in y) is.rest is.first (is.index - is.first) [] is.has)
        by n hn here (inr (no_root, none)) =
            let first : flat (value_in b) (Index is.index ∷ []) ≡ Some m = ap (λ (l : List Key). flat (value_in b) (l ++ Index is.index ∷ [])) (sym none) ∙ here in
            let keyed = group_keyed b no_root (closed b i) (Index is.index) [] m first in
            index_name is.index (Index is.index) keyed.0 refl keyed.1
    over_item is s m e h (inr (k, u, eb, ek)) = by u s ek eb e where
      by : (u s : List Key) → Index is.index ∷ [] ≡ k ∷ (u ++ s) → b.at ≡ list_of a y is ++ k ∷ u → a.at ≡ b.at ++ s → ⊥
      by [] [] ek eb e =
          let same : b.at ≡ a.at = sym (e ∙ append-nil b.at) in
          root b.is_root refl same
        where
          here : Owns a a.at
          here = record { rest = []; mark = _; at = sym (append-nil a.at); has = refl; proper = inl is.root }

          root : (c : Bool) → b.is_root ≡ c → b.at ≡ a.at → ⊥
          root true f same = other_root b i f is.root same
          root false f same = climb (closed b i) where
            climb : IsTop b ⊎ ((z : Site) × In z xs × Arises b z) → ⊥
            climb (inl t) = let g = t.0 in absurd (cc)
            climb (inr (z, iz, inl bz)) = rec z iz (smaller_below b z bz) a.at here (subst (λ (q : List Key). Owns z q) same (owns_at b z bz))
            climb (inr (z, iz, inr bz)) = let g = bz.root in absurd (cc)
      by [] (l ∷ s) ek eb e = cons_short k l s ek where
        cons_short : (k l : Key) (s : List Key) → Index is.index ∷ [] ≡ k ∷ (l ∷ s) → ⊥
        cons_short k l s f = cc
      by (l ∷ u) s ek eb e = cons_long k l u s ek where
        cons_long : (k l : Key) (u s : List Key) → Index is.index ∷ [] ≡ k ∷ (l ∷ (u ++ s)) → ⊥
        cons_long k l u s f = cc

    -- a region whose beginning the new one owns
    under : (l : Key) (s : List Key) → b.at ≡ a.at ++ l ∷ s → (o : Owns a b.at) → IsTop b ⊎ ((z : Site) × In z xs × Arises b z) → ⊥
    under l s e o (inl t) = nil_cons a.at l s (sym t.1 ∙ e)
    under l s e o (inr (z, iz, inl bz)) = rec z iz (smaller_below b z bz) b.at o (owns_at b z bz)
    under l s e o (inr (z, iz, inr bz)) = by (two_prefixes a.at (list_of b z bz) (l ∷ s) (Index bz.index ∷ []) (sym e ∙ bz.at)) where
      held : flat (value_in a) (l ∷ s) ≡ Some o.mark
      held = ap (flat (value_in a)) (append_cancel_left a.at (l ∷ s) o.rest (sym e ∙ o.at)) ∙ o.has

      not_group : a.is_root ≡ false → l ≡ Index bz.index → ⊥
      not_group nr f = by arises where
        by : Arises a y → ⊥
        by (inl is) = let keyed = is.keyed l s o.mark held in index_name bz.index l keyed.0 (sym f) keyed.1
        by (inr is) = let g = is.root in absurd (cc)

      by : ((u : List Key) × (list_of b z bz ≡ a.at ++ u) × (l ∷ s ≡ u ++ Index bz.index ∷ [])) ⊎ ((k : Key) × (u : List Key) × (a.at ≡ list_of b z bz ++ k ∷ u) × (Index bz.index ∷ [] ≡ k ∷ (u ++ l ∷ s))) → ⊥
      by (inr (k, u, ea, ek)) = short k u ek where
        short : (k : Key) (u : List Key) → Index bz.index ∷ [] ≡ k ∷ (u ++ l ∷ s) → ⊥
        short k [] f = cc
        short k (v ∷ u) f = cc
      by (inl (u, eu, es)) =
          let up = flat_above u (Index bz.index ∷ []) (value_in a) o.mark (ap (flat (value_in a)) (sym es) ∙ held) in
          pick up.0 up.1 (either a u)
        where
          pick : (n : Mark) → flat (value_in a) u ≡ Some n → Proper a u ⊎ ((a.is_root ≡ false) × (u ≡ [])) → ⊥
          pick n h (inl p) = rec z iz (smaller_item b z bz) (list_of b z bz) (record { rest = u; mark = n; at = eu; has = h; proper = p }) (owns_list b z bz)
          pick n h (inr (nr, none)) = not_group nr (head l (Index bz.index) s [] (es ∙ ap (λ (q : List Key). q ++ Index bz.index ∷ []) none)) where
            head : (j k : Key) (p q : List Key) → j ∷ p ≡ k ∷ q → j ≡ k
            head j k p q f = cc

    apart_by : (p : List Key) → Owns a p → Owns b p → ⊥
    apart_by p oa ob = by (two_prefixes b.at a.at ob.rest oa.rest (sym ob.at ∙ oa.at)) where
      over : Arises a y → (s : List Key) → a.at ≡ b.at ++ s → ob.rest ≡ s ++ oa.rest → ⊥
      over (inr is) s e f =
          let h = flat_above s oa.rest (value_in b) ob.mark (ap (flat (value_in b)) (sym f) ∙ ob.has) in
          over_item is s h.0 e h.1 (two_prefixes b.at (list_of a y is) s (Index is.index ∷ []) (sym e ∙ is.at))
      over (inl is) s e f = first oa.proper where
        first : Proper a oa.rest → ⊥
        first (inl root) = let g = is.no_root in absurd (cc)
        first (inr (k, r, g)) =
            let keyed = is.keyed k r oa.mark (ap (flat (value_in a)) (sym g) ∙ oa.has) in
            over_group is b i keyed.0 r s ob.mark keyed.2 e (ap (flat (value_in b)) (sym (f ∙ (λ j. s ++ (g ∙ ap (λ (q : Key). q ∷ r) keyed.1) j))) ∙ ob.has) (either b s)

      by : ((s : List Key) × (a.at ≡ b.at ++ s) × (ob.rest ≡ s ++ oa.rest)) ⊎ ((l : Key) × (s : List Key) × (b.at ≡ a.at ++ l ∷ s) × (oa.rest ≡ l ∷ (s ++ ob.rest))) → ⊥
      by (inl (s, e, f)) = over arises s e f
      by (inr (l, s, e, f)) =
          let up = flat_above (l ∷ s) ob.rest (value_in a) oa.mark (ap (flat (value_in a)) (sym f) ∙ oa.has) in
          under l s e (record { rest = l ∷ s; mark = up.0; at = e; has = up.1; proper = inr (l, s, refl) }) (closed b i)

  apart : (fuel : ℕ) (b : Site) → In b xs → size b ≤ fuel → (p : List Key) → Owns a p → Owns b p → ⊥
  apart zero b i le p oa ob = apart_by b i (λ z iz lt q o w. absurd (omega arith)) p oa ob
  apart (suc fuel) b i le p oa ob = apart_by b i (λ z iz lt q o w. apart fuel z iz (omega arith) q o w) p oa ob

  unique_by : (x z : Site) → In x xs ⊎ In x (a ∷ []) → In z xs ⊎ In z (a ∷ []) → (p : List Key) → Owns x p → Owns z p → x ≡ z
  unique_by x z (inl i) (inl j) p ox oz = unique x z i j p ox oz
  unique_by x z (inl i) (inr (inl e)) p ox oz = absurd (apart (size x) x i (omega arith) p (subst (λ (w : Site). Owns w p) e oz) ox)
  unique_by x z (inl i) (inr (inr j)) p ox oz = absurd j
  unique_by x z (inr (inl e)) (inl j) p ox oz = absurd (apart (size z) z j (omega arith) p (subst (λ (w : Site). Owns w p) e ox) oz)
  unique_by x z (inr (inl e)) (inr (inl f)) p ox oz = e ∙ sym f
  unique_by x z (inr (inl e)) (inr (inr j)) p ox oz = absurd j
  unique_by x z (inr (inr i)) j p ox oz = absurd i

  pub unique_more : Unique (xs ++ a ∷ [])
  unique_more x z i j p ox oz = unique_by x z (in_cases x xs (a ∷ []) i) (in_cases z xs (a ∷ []) j) p ox oz

  wider : (x : Site) → IsTop x ⊎ ((z : Site) × In z xs × Arises x z) → IsTop x ⊎ ((z : Site) × In z (xs ++ a ∷ []) × Arises x z)
  wider x (inl t) = inl t
  wider x (inr (z, i, b)) = inr (z, in_left z xs (a ∷ []) i, b)

  closed_by : (x : Site) → In x xs ⊎ In x (a ∷ []) → IsTop x ⊎ ((z : Site) × In z (xs ++ a ∷ []) × Arises x z)
  closed_by x (inl i) = wider x (closed x i)
  closed_by x (inr (inl e)) = inr (y, in_left y xs (a ∷ []) is_y, subst (λ (w : Site). Arises w y) (sym e) arises)
  closed_by x (inr (inr i)) = absurd i

  pub closed_more : Closed (xs ++ a ∷ [])
  closed_more x i = closed_by x (in_cases x xs (a ∷ []) i)

-- ---- regions agree

module _ (xs : List Site) (unique : Unique xs) (closed : Closed xs) where
  some_same : (m n : Mark) → Some m ≡ Some n → m ≡ n
  some_same m n e = cc

  one_part : (x y : Site) → x ≡ y → (p : List Key) (m n : Mark) → HasAt (part_in x) p m → HasAt (part_in y) p n → m ≡ n
  one_part x y e p m n h k =
      let same : h.0 ≡ k.0 = append_cancel_left y.at h.0 k.0 (sym (h.1 ∙ ap (λ (z : Site). z.at ++ h.0) e) ∙ k.1) in
      let a : Some m ≡ flat (value_in y) k.0 = sym h.2 ∙ (λ i. flat (value_in (e i)) (same i)) in
      some_same m n (a ∙ k.2)

  -- it is owned, or stands where a group begins
  pub owned_or : (x : Site) (p : List Key) (m : Mark) → HasAt (part_in x) p m → Owns x p ⊎ ((x.is_root ≡ false) × (p ≡ x.at) × (flat (value_in x) [] ≡ Some m))
  owned_or x p m (rest, at, has) = by x.is_root rest refl at has where
    by : (c : Bool) (rest : List Key) → x.is_root ≡ c → p ≡ x.at ++ rest → flat (value_in x) rest ≡ Some m → Owns x p ⊎ ((x.is_root ≡ false) × (p ≡ x.at) × (flat (value_in x) [] ≡ Some m))
    by true rest e at has = inl (record { rest = rest; mark = m; at = at; has = has; proper = inl e })
    by false [] e at has = inr (e, at ∙ append-nil x.at, has)
    by false (k ∷ rest) e at has = inl (record { rest = k ∷ rest; mark = m; at = at; has = has; proper = inr (k, rest, refl) })

  mark_same : (m n : Mark) (o : Option Mark) → o ≡ Some m → o ≡ Some n → m ≡ n
  mark_same m n o e f = cc

  -- what another region has where a group begins is an object
  begun_by : (x y : Site) → In x xs → In y xs → x.is_root ≡ false → (n : Mark) → HasAt (part_in y) x.at n → Owns y x.at → n ≡ object
  begun_by x y i j e n h o = by (closed x i) where
    by : IsTop x ⊎ ((z : Site) × In z xs × Arises x z) → n ≡ object
    by (inl t) = let f = t.0 in absurd (cc)
    by (inr (z, iz, inl b)) = one_part y z (unique y z j iz x.at o (owns_at x z b)) x.at n object h (b.rest, b.at, b.has)
    by (inr (z, iz, inr b)) = let f = b.root in absurd (cc)

  agree_by : (x y : Site) → In x xs → In y xs → IsReady x → IsReady y → (p : List Key) (m n : Mark) → HasAt (part_in x) p m → HasAt (part_in y) p n
      → Owns x p ⊎ ((x.is_root ≡ false) × (p ≡ x.at) × (flat (value_in x) [] ≡ Some m)) → Owns y p ⊎ ((y.is_root ≡ false) × (p ≡ y.at) × (flat (value_in y) [] ≡ Some n)) → m ≡ n
  agree_by x y i j rx ry p m n h k (inl a) (inl b) = one_part x y (unique x y i j p a b) p m n h k
  agree_by x y i j rx ry p m n h k (inl a) (inr (e, f, g)) =
      begun_by y x j i e m (subst (λ (q : List Key). HasAt (part_in x) q m) f h) (subst (λ (q : List Key). Owns x q) f a) ∙ mark_same object n (flat (value_in y) []) (ry e) g
  agree_by x y i j rx ry p m n h k (inr (e, f, g)) (inl b) =
      mark_same m object (flat (value_in x) []) g (rx e) ∙ sym (begun_by x y i j e n (subst (λ (q : List Key). HasAt (part_in y) q n) f k) (subst (λ (q : List Key). Owns y q) f b))
  agree_by x y i j rx ry p m n h k (inr (e, f, g)) (inr (e', f', g')) = mark_same m object (flat (value_in x) []) g (rx e) ∙ mark_same object n (flat (value_in y) []) (ry e') g'

  pub regions_agree : (x y : Site) → In x xs → In y xs → IsReady x → IsReady y → Agree (part_in x) (part_in y)
  regions_agree x y i j rx ry p m n h k = agree_by x y i j rx ry p m n h k (owned_or x p m h) (owned_or y p n k)
