-- Parts that are complete in bytes, in a front of them, and in more bytes.
use Rattle.std.proofs.Common.{◌≡◌, ◌≢◌, ℕ, ◌≤◌, nat_le, List, [], ◌++◌, length, take, drop, refl, sym, ap, ◌∙◌, subst, arith, append_assoc, length-append, take-append-drop, leb-true, leb-false}
use Rattle.std.proofs.lemmas.List.{length-take-le, take-append-le}
use Rattle.gql_multipart.specs.Body.{dashes, IsBoundary, Parts, Begins, Body, Complete, IsOpen}
use Rattle.gql_multipart.specs.Past.{IsLeastShut}
use Rattle.gql_multipart.proofs.Lists.{cut}
use Rattle.gql_multipart.proofs.PartLists.{parts_front, parts_split, begins_more}
use Rattle.gql_multipart.proofs.Answering.{one_of}
use Rattle.gql_multipart.proofs.Standing.{quiet}
use Rattle.gql_multipart.proofs.Unique.{parts_one}
use Rattle.gql_multipart.proofs.Sayings.{take_open}

module _ (boundary : List ℕ) where
  -- parts stay complete as more bytes come
  pub complete_more : (bytes more : List ℕ) (contents : List (List ℕ)) → Complete boundary bytes contents → Complete boundary (bytes ++ more) contents
  complete_more bytes more contents (rest, begins) = (rest ++ more, begins_more boundary contents rest bytes more begins)

  -- the first of complete parts are complete
  pub complete_first : (bytes : List ℕ) (before behind : List (List ℕ)) → Complete boundary bytes (before ++ behind) → Complete boundary bytes before
  complete_first bytes before behind (rest, (o, after, opening, parts, is)) =
      let split = parts_split boundary before behind rest after parts in
      (split.0, (o, after, opening, split.1, is))

  -- of two lists of complete parts the shorter one is the front of the other
  pub complete_front : (bytes : List ℕ) (contents others : List (List ℕ)) → IsBoundary boundary → Complete boundary bytes contents → Complete boundary bytes others → length contents ≤ length others → (behind : List (List ℕ)) × (others ≡ contents ++ behind)
  complete_front bytes contents others valid c d less =
      let n : ℕ = length contents in
      let whole : take n others ++ drop n others ≡ others = take-append-drop n others in
      let first : Complete boundary bytes (take n others) = complete_first bytes (take n others) (drop n others) (subst (Complete boundary bytes) (sym whole) d) in
      let same : contents ≡ take n others = parts_one boundary (quiet boundary valid) bytes contents (take n others) c first (sym (length-take-le n others less)) in
      (drop n others, sym whole ∙ ap (λ (z : List (List ℕ)). z ++ drop n others) (sym same))

  -- parts that are complete behind a front with which no body begins are complete in the front
  pub complete_within : (front more : List ℕ) (contents : List (List ℕ)) → contents ≢ [] → (IsOpen boundary front → ⊥) → Complete boundary (front ++ more) contents → Complete boundary front contents
  complete_within front more contents some shut (rest, (o, after, opening, parts, is)) = from_front (parts_front boundary contents rest after parts)
    where
      from_front : (s : List ℕ) × (after ≡ s ++ rest) × Parts boundary contents [] s → Complete boundary front contents
      from_front (s, e, parts') =
          let begins : Begins boundary contents [] (o ++ s) = (o, s, opening, parts', refl) in
          let whole : front ++ more ≡ (o ++ s) ++ rest = is ∙ (ap (λ z. o ++ z) e ∙ sym (append_assoc o s rest)) in
          one_of (nat_le (length (o ++ s)) (length front))
          (λ t. let r = cut (o ++ s) front more rest whole (leb-true (length (o ++ s)) (length front) t) in
          let P : List ℕ → Type 0 = λ z. Complete boundary z contents in
          subst P (sym r.1) (r.0, begins_more boundary contents [] (o ++ s) r.0 begins))
          (λ t. let less : length front ≤ length (o ++ s) = omega (arith, leb-false (length (o ++ s)) (length front) t) in
          let r = cut front (o ++ s) rest more (sym whole) less in
          let body : Body boundary ((o ++ s) ++ dashes) contents = (some, [], begins_more boundary contents [] (o ++ s) dashes begins) in
          let P : List ℕ → Type 0 = λ z. Body boundary z contents in
          absurd (shut (r.0 ++ dashes, contents, subst P (ap (λ z. z ++ dashes) r.1 ∙ append_assoc front r.0 dashes) body)))

  -- the least length stays as more bytes come
  pub shut_more : (bytes more : List ℕ) (byte : ℕ) → IsLeastShut boundary bytes byte → IsLeastShut boundary (bytes ++ more) byte
  shut_more bytes more byte s = record {
    within = omega (arith, s.within, length-append bytes more);
    shut = λ opens. s.shut (subst (IsOpen boundary) (take-append-le byte bytes more s.within) opens);
    least = λ k less. subst (IsOpen boundary) (sym (take-append-le k bytes more (omega (arith, less, s.within)))) (s.least k less);
  }

  -- no body begins with the bytes
  pub shut_whole : (bytes : List ℕ) (byte : ℕ) → IsLeastShut boundary bytes byte → IsOpen boundary bytes → ⊥
  shut_whole bytes byte s opens = s.shut (take_open boundary bytes byte opens)
