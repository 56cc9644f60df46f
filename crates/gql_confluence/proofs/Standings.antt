-- What an entry brings, and the farthest of several ids.
use Rattle.std.proofs.Common.{◌≡◌, inl, inr, List, [], ◌∷◌, ◌++◌, length, refl, ◌∙◌, ap, Bool, true, false, cond, Option, Some, None}
use Rattle.std.specs.Prelude.{flat_map, nat_lt}
use Rattle.gql_tree.specs.declared.value.Value.{Value}
use Rattle.gql_tree.specs.declared.value.Value.TheVariants as v
use Rattle.gql_tree.specs.declared.delivery.Content.{Content}
use Rattle.gql_tree.specs.declared.delivery.Content.TheVariants.{Fields, Items}
use Rattle.gql_tree.specs.Merged.{Part}
use Rattle.gql_tree.specs.Payloads.{Known, farthest, Standing}
use Rattle.gql_confluence.proofs.Parts.{In}

-- the fields that an entry brings
abbrev pub fields_of : Content → Value
fields_of (Fields x) = x
fields_of (Items xs) = v.Null

-- the part that it brings
abbrev pub part_at : Standing → Part
part_at z = record { at = z.at; value = fields_of z.entry.content; errors = z.entry.errors }

-- ---- the farthest owner

far_by : (b : Bool) (k l m : Known) (ks : List Known) → In l (m ∷ ks) → (o : Known) × In o (k ∷ m ∷ ks) × (cond b (Some l) (Some k) ≡ Some o)
far_by true k l m ks i = (l, inr i, refl)
far_by false k l m ks i = (k, inl refl, refl)

pub far : (k : Known) (ks : List Known) → (l : Known) × In l (k ∷ ks) × (farthest (k ∷ ks) ≡ Some l)
far k [] = (k, inl refl, refl)
far k (m ∷ ks) =
    let r = far m ks in
    let f = far_by (nat_lt (length k.awaited.path.keys) (length r.0.awaited.path.keys)) k r.0 m ks r.1 in
    (f.0, f.1, ap (λ (o : Option Known). elim o [ None ↦ Some k | Some l ↦ cond (nat_lt (length k.awaited.path.keys) (length l.awaited.path.keys)) (Some l) (Some k) ]) r.2 ∙ f.2)

-- ---- lists that give nothing

pub flat_none : {X Y : Type 0} (f : X → List Y) (xs : List X) → ((x : X) → In x xs → f x ≡ []) → flat_map f xs ≡ []
flat_none f [] h = refl
flat_none f (x ∷ xs) h = λ i. h x (inl refl) i ++ flat_none f xs (λ y k. h y (inr k)) i
