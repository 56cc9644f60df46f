-- What holds of each element of a list, by recursion on the list.
use Rattle.std.proofs.Common.{◌≡◌, refl, Bool, true, false, cond, List, [], ◌∷◌, ◌++◌, map}
use Rattle.std.specs.Prelude.{filter, flat_map}
use Rattle.std.specs.List.{AllByRecursion as Each}
use Rattle.std.specs.declared.cmp.Ordering.{Ordering}
use Rattle.std.specs.declared.cmp.Ordering.TheVariants.{Less, Equal, Greater}
use Rattle.std.specs.Ordering.{match_ordering}
use Rattle.gql_tree.specs.Ordered.{placed, ordered}
use Rattle.gql_model.specs.Lists.{firsts, under, gathered}

pub each_append : {A : Type 0} (P : A → Type 0) (xs ys : List A) → Each P xs → Each P ys → Each P (xs ++ ys)
each_append P [] ys h k = k
each_append P (x ∷ xs) ys h k = (h.0, each_append P xs ys h.1 k)

pub each_flat : {A B : Type 0} (P : B → Type 0) (Q : A → Type 0) (f : A → List B) → ((a : A) → Q a → Each P (f a)) → (xs : List A) → Each Q xs → Each P (flat_map f xs)
each_flat P Q f g [] h = tt
each_flat P Q f g (x ∷ xs) h = each_append P (f x) (flat_map f xs) (g x h.0) (each_flat P Q f g xs h.1)

each_cond : {A : Type 0} (P : A → Type 0) (b : Bool) (x : A) (xs : List A) → P x → Each P xs → Each P (cond b (x ∷ xs) xs)
each_cond P true x xs h k = (h, k)
each_cond P false x xs h k = k

pub each_filter : {A : Type 0} (P : A → Type 0) (test : A → Bool) (xs : List A) → Each P xs → Each P (filter test xs)
each_filter P test [] h = tt
each_filter P test (x ∷ xs) h = each_cond P (test x) x (filter test xs) h.0 (each_filter P test xs h.1)

pub each_map : {A B : Type 0} (P : B → Type 0) (Q : A → Type 0) (f : A → B) → ((a : A) → Q a → P (f a)) → (xs : List A) → Each Q xs → Each P (map f xs)
each_map P Q f g [] h = tt
each_map P Q f g (x ∷ xs) h = (g x h.0, each_map P Q f g xs h.1)

pub each_weaker : {A : Type 0} (P Q : A → Type 0) → ((a : A) → P a → Q a) → (xs : List A) → Each P xs → Each Q xs
each_weaker P Q g [] h = tt
each_weaker P Q g (x ∷ xs) h = (g x h.0, each_weaker P Q g xs h.1)

pub each_always : {A : Type 0} (P : A → Type 0) → ((a : A) → P a) → (xs : List A) → Each P xs
each_always P g [] = tt
each_always P g (x ∷ xs) = (g x, each_always P g xs)

pub each_under : {K A : Type 0} (P : A → Type 0) (same : K → K → Bool) (k : K) (xs : List (K × A)) → Each (λ x. P x.1) xs → Each P (under same k xs)
each_under P same k [] h = tt
each_under P same k (x ∷ xs) h = each_cond P (same k x.0) x.1 (under same k xs) h.0 (each_under P same k xs h.1)

pub each_gathered : {K A : Type 0} (P : A → Type 0) (same : K → K → Bool) (xs : List (K × A)) → Each (λ x. P x.1) xs → Each (λ g. Each P g.1) (gathered same xs)
each_gathered {K} {A} P same xs h = each_map {A = K} {B = K × List A} (λ g. Each P g.1) (λ k. Unit {0}) (λ k. (k, under same k xs)) (λ k u. each_under P same k xs h) (firsts same (map (λ (x : K × A). x.0) xs)) (each_always (λ (k : K). Unit {0}) (λ k. tt) (firsts same (map (λ (x : K × A). x.0) xs)))

each_placed_by : {A : Type 0} (P : A → Type 0) (o : Ordering) (x y : A) (ys zs : List A) → P x → P y → Each P ys → Each P zs → Each P (match_ordering o (x ∷ y ∷ ys) (x ∷ y ∷ ys) (y ∷ zs))
each_placed_by P Less x y ys zs h k hs ks = (h, (k, hs))
each_placed_by P Equal x y ys zs h k hs ks = (h, (k, hs))
each_placed_by P Greater x y ys zs h k hs ks = (k, ks)

each_placed : {A : Type 0} (P : A → Type 0) (cmp : A → A → Ordering) (x : A) (ys : List A) → P x → Each P ys → Each P (placed cmp x ys)
each_placed P cmp x [] h hs = (h, tt)
each_placed P cmp x (y ∷ ys) h hs = each_placed_by P (cmp x y) x y ys (placed cmp x ys) h hs.0 hs.1 (each_placed P cmp x ys h hs.1)

pub each_ordered : {A : Type 0} (P : A → Type 0) (cmp : A → A → Ordering) (xs : List A) → Each P xs → Each P (ordered cmp xs)
each_ordered P cmp [] h = tt
each_ordered P cmp (x ∷ xs) h = each_placed P cmp x (ordered cmp xs) h.0 (each_ordered P cmp xs h.1)

pub map_each : {A B : Type 0} (f g : A → B) (xs : List A) → Each (λ x. f x ≡ g x) xs → map f xs ≡ map g xs
map_each f g [] h = refl
map_each f g (x ∷ xs) h = rw (h.0, map_each f g xs h.1) refl

pub each_none : {A : Type 0} (xs : List A) → Each (λ x. ⊥) xs → xs ≡ []
each_none [] h = refl
each_none (x ∷ xs) h = absurd h.0

pub flat_alike : {A B : Type 0} (f g : A → List B) (xs : List A) → Each (λ x. f x ≡ g x) xs → flat_map f xs ≡ flat_map g xs
flat_alike f g [] h = refl
flat_alike f g (x ∷ xs) h = rw (h.0, flat_alike f g xs h.1) refl
