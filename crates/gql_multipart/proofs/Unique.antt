-- Bytes are read in one way.
use Rattle.std.proofs.Common.{◌≡◌, ℕ, ◌<◌, List, [], ◌∷◌, ◌++◌, length, get_or, Ok, refl, sym, ap, ◌∙◌, subst, arith, append_assoc, ext_get_or, nat_lt, ltb-true, ltb-false}
use Rattle.std.proofs.lemmas.List.{get_or_at}
use Rattle.gql_multipart.specs.declared.read.Stop.TheVariants.{Ended}
use Rattle.gql_multipart.specs.Body.{dashes, Begins, Body, Complete}
use Rattle.gql_multipart.specs.inner.Reading.{content_of}
use Rattle.gql_multipart.proofs.Lists.{NoCr}
use Rattle.gql_multipart.proofs.Places.{sought}
use Rattle.gql_multipart.proofs.PartLists.{parts_split, at_place}
use Rattle.gql_multipart.proofs.Answering.{next_found, few_ended, further_found, stop_not_found, one_of}

module _ (boundary : List ℕ) (q : NoCr boundary) (bytes : List ℕ) where
  -- the part at one place is one
  pub content_one : (before others : List (List ℕ)) (content other : List ℕ) → Complete boundary bytes (before ++ content ∷ []) → Complete boundary bytes (others ++ other ∷ []) → length before ≡ length others → content ≡ other
  content_one before others content other (rest, a) (rest', b) e =
      let f = next_found boundary q (length before) bytes before content rest refl a in
      let g = next_found boundary q (length before) bytes others other rest' (sym e) b in
      let both_found : Ok f.0 ≡ Ok g.0 = sym f.1 ∙ g.1 in
      let same : f.0 ≡ g.0 = cc in
      sym f.2 ∙ (ap (λ z. content_of (sought boundary) bytes z) same ∙ g.2)

  -- fewer parts
  complete_front : (before behind : List (List ℕ)) (content : List ℕ) → Complete boundary bytes (before ++ content ∷ behind) → Complete boundary bytes (before ++ content ∷ [])
  complete_front before behind content (rest, begins) =
      let moved : Begins boundary ((before ++ content ∷ []) ++ behind) rest bytes = subst (λ z. Begins boundary z rest bytes) (sym (append_assoc before (content ∷ []) behind)) begins in
      let cut = parts_split boundary (before ++ content ∷ []) behind rest moved.1 moved.3 in
      (cut.0, (moved.0, moved.1, moved.2, cut.1, moved.4))

  complete_at : (contents : List (List ℕ)) (i : ℕ) → Complete boundary bytes contents → i < length contents → (before : List (List ℕ)) × (length before ≡ i) × Complete boundary bytes (before ++ get_or contents i [] ∷ [])
  complete_at contents i c l = from_place (at_place contents i l)
    where
      from_place : (before : List (List ℕ)) × (content : List ℕ) × (behind : List (List ℕ)) × (contents ≡ before ++ content ∷ behind) × (length before ≡ i) → (before : List (List ℕ)) × (length before ≡ i) × Complete boundary bytes (before ++ get_or contents i [] ∷ [])
      from_place (before, content, behind, e, len) =
          let is : content ≡ get_or contents i [] = sym (ap (λ z. get_or z i []) e ∙ get_or_at before content behind [] i len) in
          let P : List ℕ → Type 0 = λ z. Complete boundary bytes (before ++ z ∷ []) in
          let Q : List (List ℕ) → Type 0 = λ z. Complete boundary bytes z in
          (before, len, subst P is (complete_front before behind content (subst Q e c)))

  pub parts_one : (contents others : List (List ℕ)) → Complete boundary bytes contents → Complete boundary bytes others → length contents ≡ length others → contents ≡ others
  parts_one contents others c d e =
      ext_get_or [] contents others e (λ i l.
      let a = complete_at contents i c l in
      let b = complete_at others i d (omega arith) in
      content_one a.0 b.0 (get_or contents i []) (get_or others i []) a.2 b.2 (a.1 ∙ sym b.1))

  no_longer : (contents others : List (List ℕ)) → Body boundary bytes contents → Body boundary bytes others → length contents < length others → ⊥
  no_longer contents others (some, any, begins) (some', any', begins') l =
      stop_not_found boundary q (length contents) bytes Ended
      (few_ended boundary q (length contents) bytes any contents some begins (omega arith))
      (further_found boundary q (length contents) bytes others (dashes ++ any', begins') l)

  pub bodies_one : (contents others : List (List ℕ)) → Body boundary bytes contents → Body boundary bytes others → contents ≡ others
  bodies_one contents others b d =
      let e : length contents ≡ length others =
      one_of (nat_lt (length contents) (length others))
      (λ t. absurd (no_longer contents others b d (ltb-true (length contents) (length others) t)))
      (λ t. one_of (nat_lt (length others) (length contents))
      (λ u. absurd (no_longer others contents d b (ltb-true (length others) (length contents) u)))
      (λ u. omega (arith, ltb-false (length contents) (length others) t, ltb-false (length others) (length contents) u))) in
      parts_one contents others (dashes ++ b.1, b.2) (dashes ++ d.1, d.2) e
