-- Lists in which no two elements meet a test.
use Rattle.std.proofs.Common.{◌≡◌, ◌⊎◌, inl, inr, List, [], ◌∷◌, ◌++◌, map, refl, sym, subst, ◌∙◌, ap, Bool, true, false, cond}
use Rattle.std.specs.Prelude.{filter, not, flat_map}
use Rattle.std.specs.List.{list_any}
use Rattle.gql_tree.specs.WellFormed.{no_two}
use Rattle.gql_confluence.proofs.Parts.{In, in_left, in_right, in_cases}
use Rattle.gql_confluence.proofs.Lists.{and_left, in_filter, in_map, to_map, to_flat, to_any}

pub not_any : {X : Type 0} (p : X → Bool) (xs : List X) → not (list_any p xs) ≡ true → (x : X) → In x xs → p x ≡ false
not_any p xs h x i = by (p x) refl where
  by : (b : Bool) → p x ≡ b → p x ≡ false
  by true e = let f : list_any p xs ≡ true = to_any p xs x i e in absurd (cc)
  by false e = e

to_not_any : {X : Type 0} (p : X → Bool) (xs : List X) → ((x : X) → In x xs → p x ≡ false) → not (list_any p xs) ≡ true
to_not_any p [] h = refl
to_not_any p (x ∷ xs) h = rw (h x (inl refl)) (to_not_any p xs (λ y i. h y (inr i)))

module _ {Y : Type 0} (t : Y → Y → Bool) where
  pub no_two_right : (xs ys : List Y) → no_two t (xs ++ ys) ≡ true → no_two t ys ≡ true
  no_two_right [] ys h = h
  no_two_right (x ∷ xs) ys h = no_two_right xs ys (and_left _ (no_two t (xs ++ ys)) h).1

  pub no_two_left : (xs ys : List Y) → no_two t (xs ++ ys) ≡ true → no_two t xs ≡ true
  no_two_left [] ys h = refl
  no_two_left (x ∷ xs) ys h =
      let k = and_left (not (list_any (t x) (xs ++ ys))) (no_two t (xs ++ ys)) h in
      let here : not (list_any (t x) xs) ≡ true = to_not_any (t x) xs (λ y i. not_any (t x) (xs ++ ys) k.0 y (in_left y xs ys i)) in
      rw (here, no_two_left xs ys k.1) refl

  -- one of the first list and one of the second
  pub no_two_cross : (xs ys : List Y) → no_two t (xs ++ ys) ≡ true → (x y : Y) → In x xs → In y ys → t x y ≡ false
  no_two_cross [] ys h x y i j = absurd i
  no_two_cross (z ∷ xs) ys h x y (inl e) j =
      let k = and_left (not (list_any (t z) (xs ++ ys))) (no_two t (xs ++ ys)) h in
      ap (λ w. t w y) e ∙ not_any (t z) (xs ++ ys) k.0 y (in_right y xs ys j)
  no_two_cross (z ∷ xs) ys h x y (inr i) j = no_two_cross xs ys (and_left _ (no_two t (xs ++ ys)) h).1 x y i j

  -- without a part in the middle
  pub no_two_drop : (xs ys zs : List Y) → no_two t (xs ++ (ys ++ zs)) ≡ true → no_two t (xs ++ zs) ≡ true
  no_two_drop [] ys zs h = no_two_right ys zs h
  no_two_drop (x ∷ xs) ys zs h =
      let k = and_left (not (list_any (t x) (xs ++ (ys ++ zs)))) (no_two t (xs ++ (ys ++ zs))) h in
      let here : not (list_any (t x) (xs ++ zs)) ≡ true = to_not_any (t x) (xs ++ zs) (λ y i. not_any (t x) (xs ++ (ys ++ zs)) k.0 y (wider y (in_cases y xs zs i))) in
      rw (here, no_two_drop xs ys zs k.1) refl
    where
      wider : (y : Y) → In y xs ⊎ In y zs → In y (xs ++ (ys ++ zs))
      wider y (inl i) = in_left y xs (ys ++ zs) i
      wider y (inr i) = in_right y xs (ys ++ zs) (in_right y ys zs i)

  pub no_two_join : (xs ys : List Y) → no_two t xs ≡ true → no_two t ys ≡ true → ((x y : Y) → In x xs → In y ys → t x y ≡ false) → no_two t (xs ++ ys) ≡ true
  no_two_join [] ys h k cross = k
  no_two_join (x ∷ xs) ys h k cross =
      let a = and_left (not (list_any (t x) xs)) (no_two t xs) h in
      let here : not (list_any (t x) (xs ++ ys)) ≡ true = to_not_any (t x) (xs ++ ys) (λ y i. by y (in_cases y xs ys i) a.0) in
      rw (here, no_two_join xs ys a.1 k (λ z y i j. cross z y (inr i) j)) refl
    where
      by : (y : Y) → In y xs ⊎ In y ys → not (list_any (t x) xs) ≡ true → t x y ≡ false
      by y (inl i) n = not_any (t x) xs n y i
      by y (inr i) n = cross x y (inl refl) i

  -- the images of elements that differ by another test
  pub no_two_mapped : {X : Type 0} (g : X → Y) (u : X → X → Bool) (xs : List X) → ((x y : X) → t (g x) (g y) ≡ u x y) → no_two u xs ≡ true → no_two t (map g xs) ≡ true
  no_two_mapped g u [] e h = refl
  no_two_mapped g u (x ∷ xs) e h =
      let a = and_left (not (list_any (u x) xs)) (no_two u xs) h in
      let here : not (list_any (t (g x)) (map g xs)) ≡ true = to_not_any (t (g x)) (map g xs) (λ y i. let m = in_map g y xs i in ap (t (g x)) m.2 ∙ (e x m.0 ∙ not_any (u x) xs a.0 m.0 m.1)) in
      rw (here, no_two_mapped g u xs e a.1) refl

  pub no_two_none : (xs : List Y) → ((x y : Y) → In x xs → t x y ≡ false) → no_two t xs ≡ true
  no_two_none [] h = refl
  no_two_none (x ∷ xs) h = rw (to_not_any (t x) xs (λ y i. h x y (inl refl)), no_two_none xs (λ z y i. h z y (inr i))) refl

  pub no_two_filter : (p : Y → Bool) (xs : List Y) → no_two t xs ≡ true → no_two t (filter p xs) ≡ true
  no_two_filter p [] h = refl
  no_two_filter p (x ∷ xs) h =
      let a = and_left (not (list_any (t x) xs)) (no_two t xs) h in
      by (p x) (no_two_filter p xs a.1) (to_not_any (t x) (filter p xs) (λ y i. not_any (t x) xs a.0 y (in_filter p y xs i).0))
    where
      by : (b : Bool) → no_two t (filter p xs) ≡ true → not (list_any (t x) (filter p xs)) ≡ true → no_two t (cond b (x ∷ filter p xs) (filter p xs)) ≡ true
      by true k n = rw (n, k) refl
      by false k n = k

  clash : (a b : Y) → t a b ≡ true → t a b ≡ false → ⊥
  clash a b e f = cc

  module _ {X : Type 0} where
    -- two elements whose images meet the test are one
    pub one_mapped : (g : X → Y) (xs : List X) → no_two t (map g xs) ≡ true → (x y : X) → In x xs → In y xs → t (g x) (g y) ≡ true → t (g y) (g x) ≡ true → x ≡ y
    one_mapped g [] h x y i j e f = absurd i
    one_mapped g (z ∷ xs) h x y (inl a) (inl b) e f = a ∙ sym b
    one_mapped g (z ∷ xs) h x y (inl a) (inr j) e f =
        let k = and_left (not (list_any (t (g z)) (map g xs))) (no_two t (map g xs)) h in
        absurd (clash (g x) (g y) e (ap (λ w. t (g w) (g y)) a ∙ not_any (t (g z)) (map g xs) k.0 (g y) (to_map g y xs j)))
    one_mapped g (z ∷ xs) h x y (inr i) (inl b) e f =
        let k = and_left (not (list_any (t (g z)) (map g xs))) (no_two t (map g xs)) h in
        absurd (clash (g y) (g x) f (ap (λ w. t (g w) (g x)) b ∙ not_any (t (g z)) (map g xs) k.0 (g x) (to_map g x xs i)))
    one_mapped g (z ∷ xs) h x y (inr i) (inr j) e f = one_mapped g xs (and_left _ (no_two t (map g xs)) h).1 x y i j e f

    -- two lists of which elements meet the test are of one element
    pub one_flat : (g : X → List Y) (xs : List X) → no_two t (flat_map g xs) ≡ true → (x z : X) (y w : Y) → In x xs → In z xs → In y (g x) → In w (g z) → t y w ≡ true → t w y ≡ true → x ≡ z
    one_flat g [] h x z y w i j k l e f = absurd i
    one_flat g (v ∷ xs) h x z y w (inl a) (inl b) k l e f = a ∙ sym b
    one_flat g (v ∷ xs) h x z y w (inl a) (inr j) k l e f =
        absurd (clash y w e (no_two_cross (g v) (flat_map g xs) h y w (subst (λ (u : X). In y (g u)) a k) (to_flat g w z xs j l)))
    one_flat g (v ∷ xs) h x z y w (inr i) (inl b) k l e f =
        absurd (clash w y f (no_two_cross (g v) (flat_map g xs) h w y (subst (λ (u : X). In w (g u)) b l) (to_flat g y x xs i k)))
    one_flat g (v ∷ xs) h x z y w (inr i) (inr j) k l e f = one_flat g xs (no_two_right (g v) (flat_map g xs) h) x z y w i j k l e f

    pub no_two_at : (g : X → List Y) (xs : List X) → no_two t (flat_map g xs) ≡ true → (x : X) → In x xs → no_two t (g x) ≡ true
    no_two_at g [] h x i = absurd i
    no_two_at g (v ∷ xs) h x (inl e) = ap (λ (u : X). no_two t (g u)) e ∙ no_two_left (g v) (flat_map g xs) h
    no_two_at g (v ∷ xs) h x (inr i) = no_two_at g xs (no_two_right (g v) (flat_map g xs) h) x i

map_itself : {X : Type 0} (xs : List X) → map (λ (x : X). x) xs ≡ xs
map_itself [] = refl
map_itself (x ∷ xs) = ap (λ l. x ∷ l) (map_itself xs)

pub one_element : {X : Type 0} (t : X → X → Bool) (xs : List X) → no_two t xs ≡ true → (x y : X) → In x xs → In y xs → t x y ≡ true → t y x ≡ true → x ≡ y
one_element t xs h = one_mapped t (λ x. x) xs (ap (no_two t) (map_itself xs) ∙ h)

pub flat_mapped : {X Y Z : Type 0} (g : Y → List Z) (k : X → Y) (xs : List X) → flat_map g (map k xs) ≡ flat_map (λ (x : X). g (k x)) xs
flat_mapped g k [] = refl
flat_mapped g k (x ∷ xs) = ap (λ l. g (k x) ++ l) (flat_mapped g k xs)
