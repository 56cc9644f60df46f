-- Parts one after another.
use Rattle.std.proofs.Common.{◌≡◌, ℕ, zero, suc, ◌<◌, ◌≤◌, List, [], ◌∷◌, ◌++◌, length, refl, sym, ap, ◌∙◌, arith, append_assoc, append-nil, length-append}
use Rattle.gql_multipart.specs.Body.{IsPart, Parts, IsOpening, Begins}

module _ (boundary : List ℕ) where
  pub parts_push : (contents : List (List ℕ)) (content s p : List ℕ) → Parts boundary contents [] s → IsPart boundary content p → Parts boundary (contents ++ content ∷ []) [] (s ++ p)
  parts_push [] content s p h part = (p, [], part, refl, ap (λ z. z ++ p) h ∙ sym (append-nil p))
  parts_push (c ∷ contents) content s p (x, y, first, parts, cut) part =
      (x, y ++ p, first, parts_push contents content y p parts part, ap (λ z. z ++ p) cut ∙ append_assoc x y p)

  -- more bytes behind
  pub parts_more : (contents : List (List ℕ)) (mid a rest : List ℕ) → Parts boundary contents mid a → Parts boundary contents (mid ++ rest) (a ++ rest)
  parts_more [] mid a rest h = ap (λ z. z ++ rest) h
  parts_more (c ∷ contents) mid a rest (x, y, first, parts, cut) =
      (x, y ++ rest, first, parts_more contents mid y rest parts, ap (λ z. z ++ rest) cut ∙ append_assoc x y rest)

  -- what stands before the rest
  pub parts_front : (contents : List (List ℕ)) (rest a : List ℕ) → Parts boundary contents rest a → (s : List ℕ) × (a ≡ s ++ rest) × Parts boundary contents [] s
  parts_front [] rest a h = ([], h, refl)
  parts_front (c ∷ contents) rest a (x, y, first, parts, cut) =
      let r = parts_front contents rest y parts in
      (x ++ r.0, cut ∙ (ap (λ z. x ++ z) r.1 ∙ sym (append_assoc x r.0 rest)), (x, r.0, first, r.2, refl))

  pub parts_split : (before behind : List (List ℕ)) (rest a : List ℕ) → Parts boundary (before ++ behind) rest a → (mid : List ℕ) × Parts boundary before mid a × Parts boundary behind rest mid
  parts_split [] behind rest a h = (a, refl, h)
  parts_split (c ∷ before) behind rest a (x, y, first, parts, cut) =
      let r = parts_split before behind rest y parts in
      (r.0, (x, y, first, r.1, cut), r.2)

  pub begins_more : (contents : List (List ℕ)) (mid a rest : List ℕ) → Begins boundary contents mid a → Begins boundary contents (mid ++ rest) (a ++ rest)
  begins_more contents mid a rest (o, y, opening, parts, cut) =
      (o, y ++ rest, opening, parts_more contents mid y rest parts, ap (λ z. z ++ rest) cut ∙ append_assoc o y rest)

  -- an opening, parts and one more part
  pub begins_push : (contents : List (List ℕ)) (content o s p a rest : List ℕ) → IsOpening boundary o → Parts boundary contents [] s → IsPart boundary content p → a ≡ o ++ (s ++ p) → Begins boundary (contents ++ content ∷ []) rest (a ++ rest)
  begins_push contents content o s p a rest opening parts part cut =
      begins_more (contents ++ content ∷ []) [] a rest (o, s ++ p, opening, parts_push contents content s p parts part, cut)

  -- each part has bytes
  parts-length : (contents : List (List ℕ)) (rest a : List ℕ) → Parts boundary contents rest a → length contents ≤ length a
  parts-length [] rest a h = omega arith
  parts-length (c ∷ contents) rest a (x, y, (end, header, r, l, h, ct, cut'), parts, cut) =
      omega (
        arith,
        parts-length contents rest y parts,
        ap length cut,
        length-append x y,
        ap length cut',
        length-append end (header ++ r),
        ap length l.3,
        length-append l.0 (13 ∷ 10 ∷ []),
      )

  pub begins-length : (contents : List (List ℕ)) (rest a : List ℕ) → Begins boundary contents rest a → length contents ≤ length a
  begins-length contents rest a (o, y, opening, parts, cut) = omega (arith, parts-length contents rest y parts, ap length cut, length-append o y)

-- the list at a place in it
pub at_place : (contents : List (List ℕ)) (n : ℕ) → n < length contents → (before : List (List ℕ)) × (content : List ℕ) × (behind : List (List ℕ)) × (contents ≡ before ++ content ∷ behind) × (length before ≡ n)
at_place [] n l = absurd (omega arith)
at_place (c ∷ contents) zero l = ([], c, contents, refl, refl)
at_place (c ∷ contents) (suc n) l =
    let r = at_place contents n (omega arith) in
    (c ∷ r.0, r.1, r.2, ap (λ z. c ∷ z) r.3, ap suc r.4)
