-- What holds of each element of a list, by recursion on the list.
use Rattle.std.proofs.Common.{Bool, true, false, cond, List, [], ◌∷◌, ◌++◌, map}
use Rattle.std.specs.Prelude.{filter, flat_map}
use Rattle.std.specs.List.{AllByRecursion as Each}

pub each_append : {A : Type 0} (P : A → Type 0) (xs ys : List A) → Each P xs → Each P ys → Each P (xs ++ ys)
each_append P [] ys h k = k
each_append P (x ∷ xs) ys h k = (h.0, each_append P xs ys h.1 k)

pub each_flat : {A B : Type 0} (P : B → Type 0) (Q : A → Type 0) (f : A → List B) → ((a : A) → Q a → Each P (f a)) → (xs : List A) → Each Q xs → Each P (flat_map f xs)
each_flat P Q f g [] h = tt
each_flat P Q f g (x ∷ xs) h = each_append P (f x) (flat_map f xs) (g x h.0) (each_flat P Q f g xs h.1)

each_cond : {A : Type 0} (P : A → Type 0) (b : Bool) (x : A) (xs : List A) → P x → Each P xs → Each P (cond b (x ∷ xs) xs)
each_cond P true x xs h k = (h, k)
each_cond P false x xs h k = k

pub each_filter : {A : Type 0} (P : A → Type 0) (test : A → Bool) (xs : List A) → Each P xs → Each P (filter test xs)
each_filter P test [] h = tt
each_filter P test (x ∷ xs) h = each_cond P (test x) x (filter test xs) h.0 (each_filter P test xs h.1)

pub each_map : {A B : Type 0} (P : B → Type 0) (Q : A → Type 0) (f : A → B) → ((a : A) → Q a → P (f a)) → (xs : List A) → Each Q xs → Each P (map f xs)
each_map P Q f g [] h = tt
each_map P Q f g (x ∷ xs) h = (g x h.0, each_map P Q f g xs h.1)

pub each_weaker : {A : Type 0} (P Q : A → Type 0) → ((a : A) → P a → Q a) → (xs : List A) → Each P xs → Each Q xs
each_weaker P Q g [] h = tt
each_weaker P Q g (x ∷ xs) h = (g x h.0, each_weaker P Q g xs h.1)

pub each_always : {A : Type 0} (P : A → Type 0) → ((a : A) → P a) → (xs : List A) → Each P xs
each_always P g [] = tt
each_always P g (x ∷ xs) = (g x, each_always P g xs)
