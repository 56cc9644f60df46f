-- What stands in the value of a hero into which further leaves are put.
use Rattle.std.proofs.Common.{◌≡◌, ◌↔◌, refl, sym, ap, ◌∙◌, inl, inr, ℕ, Bool, true, false, cond, List, [], ◌∷◌, ◌++◌, Option, Some, None}
use Rattle.std.specs.Prelude.{◌⊎◌, codes}
use Rattle.std.specs.Str.{bytes_eq}
use Rattle.gql_tree.specs.declared.Key.{Key}
use Rattle.gql_tree.specs.declared.Key.TheVariants.{Name as Named_key, Index}
use Rattle.gql_tree.specs.declared.Value.TheVariants as v
use Rattle.gql_tree.specs.Names.{named}
use Rattle.gql_tree.specs.Flat.{Mark, flat}
use Rattle.gql_tree.specs.Union.{IsUnion, moved}
use Rattle.gql_tool.specs.hero.Hero.{hero_path, hero_object}
use Rattle.gql_tool.proofs.hero_lemmas.Flat.{gone, Members, NamesApart, at_path, flat-here, flat-index, flat-name, flat-hero}

abbrev Holds : Mark → Option Mark → Option Mark → Option Mark → Type 0
Holds m whole a b = (whole ≡ Some m) ↔ ((a ≡ Some m) ⊎ (b ≡ Some m))

of_first : (m : Mark) (whole a b : Option Mark) → whole ≡ a → b ≡ None → Holds m whole a b
of_first m whole a b e f = (λ x. inl (sym e ∙ x), λ s. elim s [ inl x ↦ e ∙ x | inr x ↦ gone b m f x ])

of_second : (m : Mark) (whole a b : Option Mark) → whole ≡ b → a ≡ None → Holds m whole a b
of_second m whole a b e f = (λ x. inr (sym e ∙ x), λ s. elim s [ inl x ↦ gone a m f x | inr x ↦ e ∙ x ])

of_both : (m : Mark) (whole a b : Option Mark) → whole ≡ a → whole ≡ b → Holds m whole a b
of_both m whole a b e f = (λ x. inl (sym e ∙ x), λ s. elim s [ inl x ↦ e ∙ x | inr x ↦ f ∙ x ])

named-left : (s : List ℕ) (ms ns : Members) → named s ns ≡ None → named s (ms ++ ns) ≡ named s ms
named-left s [] ns h = h
named-left s (x ∷ ms) ns h = ap (λ o. cond (bytes_eq x.name s) (Some x.value) o) (named-left s ms ns h)

named-right : (s : List ℕ) (ms ns : Members) → named s ms ≡ None → named s (ms ++ ns) ≡ named s ns
named-right s [] ns h = refl
named-right s (x ∷ ms) ns h = by_test (bytes_eq x.name s) h (named-right s ms ns)
  where
    by_test : (b : Bool) → cond b (Some x.value) (named s ms) ≡ None → (named s ms ≡ None → named s (ms ++ ns) ≡ named s ns) → cond b (Some x.value) (named s (ms ++ ns)) ≡ named s ns
    by_test true h k = absurd (cc)
    by_test false h k = k h

fields_union : (ms ns : Members) → NamesApart ms ns → (rest : List Key) (m : Mark) → Holds m (flat (v.Object (ms ++ ns)) rest) (flat (v.Object ms) rest) (flat (v.Object ns) rest)
fields_union ms ns apart [] m = of_both m _ _ _ (flat-here (ms ++ ns) ∙ sym (flat-here ms)) (flat-here (ms ++ ns) ∙ sym (flat-here ns))
fields_union ms ns apart (Index i ∷ rest) m = of_first m _ _ _ (flat-index (ms ++ ns) i rest ∙ sym (flat-index ms i rest)) (flat-index ns i rest)
fields_union ms ns apart (Named_key s ∷ rest) m = elim (apart s) [
  | inl gap ↦ of_second m _ _ _ (flat-name (ms ++ ns) s rest ∙ (ap (at_path rest) (named-right s ms ns gap) ∙ sym (flat-name ns s rest))) (flat-name ms s rest ∙ ap (at_path rest) gap)
  | inr gap ↦ of_first m _ _ _ (flat-name (ms ++ ns) s rest ∙ (ap (at_path rest) (named-left s ms ns gap) ∙ sym (flat-name ms s rest))) (flat-name ns s rest ∙ ap (at_path rest) gap)
]

hero_union_by : (b : Bool) (ms ns : Members) → NamesApart ms ns → (rest : List Key) (m : Mark) → Holds m (at_path rest (cond b (Some (v.Object (ms ++ ns))) None)) (at_path rest (cond b (Some (v.Object ms)) None)) (cond b (flat (v.Object ns) rest) None)
hero_union_by true ms ns apart rest m = fields_union ms ns apart rest m
hero_union_by false ms ns apart rest m = of_first m _ _ _ refl refl

same_holds : (m : Mark) (w a b x y : Option Mark) → w ≡ x → a ≡ y → Holds m x y b → Holds m w a b
same_holds m w a b x y e f h = rw (e, f) h

pub hero_union : (ms ns : Members) → NamesApart ms ns → IsUnion (flat (hero_object (v.Object (ms ++ ns)))) (flat (hero_object (v.Object ms))) (moved hero_path (flat (v.Object ns)))
hero_union ms ns apart [] m = of_first m _ _ _ (flat-here _ ∙ sym (flat-here _)) refl
hero_union ms ns apart (Index i ∷ rest) m = of_first m _ _ _ (flat-index _ i rest ∙ sym (flat-index _ i rest)) refl
hero_union ms ns apart (Named_key s ∷ rest) m = same_holds m _ _ _ _ _ (flat-hero (v.Object (ms ++ ns)) s rest) (flat-hero (v.Object ms) s rest) (hero_union_by (bytes_eq (codes "hero") s) ms ns apart rest m)
