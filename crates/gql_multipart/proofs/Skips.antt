-- So many parts, and the part behind them, are read as their relation says.
use Rattle.std.proofs.Common.{◌≡◌, ◌≢◌, ℕ, zero, suc, ◌+◌, ◌<◌, inl, inr, Bool, true, false, ◌==◌, List, [], ◌∷◌, ◌++◌, length, Ok, refl, sym, ap, ◌∙◌, arith, length-append}
use Rattle.gql_multipart.specs.Frame.{crlf}
use Rattle.gql_multipart.specs.declared.refusal.FrameKind.{FrameKind}
use Rattle.gql_multipart.specs.declared.refusal.FrameKind.TheVariants.{BadPreamble}
use Rattle.gql_multipart.specs.declared.place.Place.TheVariants.{Mark}
use Rattle.gql_multipart.specs.declared.read.Found.{Found}
use Rattle.gql_multipart.specs.Body.{dashes, mark, IsOpening, IsPart, Parts}
use Rattle.gql_multipart.specs.inner.Reading.{region, part_end, part_next, skip, seek}
use Rattle.gql_multipart.proofs.Lists.{NoCr}
use Rattle.gql_multipart.proofs.Places.{sought}
use Rattle.gql_multipart.proofs.Readers.{Reader, Reads, EndOf, Nothing, Within, in_row, RowWhole, RowEnd, RowWithin, row_reads}
use Rattle.gql_multipart.proofs.ReaderMaps.{MapWhole, map_reads, in_words}
use Rattle.gql_multipart.proofs.MarkEnds.{Closes}
use Rattle.gql_multipart.proofs.RegionTexts.{some_content, some_header}
use Rattle.gql_multipart.proofs.Seeks.{opening_reads, PartFound, InPart, part_reads}

-- whether the part behind these is the first
abbrev pub still_first : Bool → List (List ℕ) → Bool
still_first first [] = first
still_first first (c ∷ contents) = false

module _ (boundary : List ℕ) (q : NoCr boundary) where
  abbrev SomePart : List ℕ → Type 0
  SomePart a = (content : List ℕ) × IsPart boundary content a

  abbrev pub Skipped : ℕ → List ℕ → Type 0
  Skipped n a = (contents : List (List ℕ)) × (length contents ≡ n) × Parts boundary contents [] a

  -- fewer parts, and the dashes of the end mark
  abbrev pub SkipEnd : ℕ → Bool → List ℕ → Type 0
  SkipEnd n first a = (contents : List (List ℕ)) × (length contents < n) × (first ≡ true → contents ≢ []) × Parts boundary contents dashes a

  -- fewer parts, and the beginning of a part
  abbrev pub SkipIn : ℕ → Bool → FrameKind → List ℕ → Type 0
  SkipIn n first kind a = (contents : List (List ℕ)) × (rest : List ℕ) × Parts boundary contents rest a × InPart boundary q (still_first first contents) kind rest

  next_reads : (first : Bool) → Reads (part_next (sought boundary) first) (EndOf SomePart) (Closes first) (InPart boundary q first)
  next_reads first = in_words (part_next (sought boundary) first) (MapWhole (part_end (sought boundary) first) (PartFound boundary q) (Closes first) (InPart boundary q first) next_of (part_reads boundary q first)) (EndOf SomePart) (Closes first) (Closes first) (InPart boundary q first) (InPart boundary q first)
      (map_reads (part_end (sought boundary) first) (PartFound boundary q) (Closes first) (InPart boundary q first) next_of (part_reads boundary q first))
      to_end from_end (λ a h. h) (λ a h. h) (λ kind a h. h)
    where
      next_of : ℕ → Found → ℕ
      next_of at found = found.next

      to_end : (n : ℕ) (a : List ℕ) (r : ℕ) → ((s : Found) × PartFound boundary q n a s × (r ≡ s.next)) → EndOf SomePart n a r
      to_end n a r (s, (content, end, header, rest, l, h, c, cut, found), e) =
          (e ∙ (ap (λ f. f.next) found ∙ omega (arith, ap length cut, length-append end (header ++ rest), length-append header rest)), (content, (end, header, rest, l, h, c, cut)))

      from_end : (n : ℕ) (a : List ℕ) (r : ℕ) → EndOf SomePart n a r → (s : Found) × PartFound boundary q n a s × (r ≡ s.next)
      from_end n a r (e, (content, (end, header, rest, l, h, c, cut))) = (
        record { content = (n + length end) + length header; next = ((n + length end) + length header) + length rest },
        (content, end, header, rest, l, h, c, cut, refl),
        e ∙ omega (arith, ap length cut, length-append end (header ++ rest), length-append header rest),
      )

  -- there are as many parts as one likes
  some_parts : (n : ℕ) → (y : List ℕ) × Skipped n y
  some_parts zero = ([], ([], refl, refl))
  some_parts (suc n) =
      let r = some_parts n in
      let part : List ℕ = crlf ++ (crlf ++ mark boundary) in
      (part ++ r.0, ([] ∷ r.1.0, ap suc r.1.1, (part, r.0, (crlf, crlf, mark boundary, ([], tt, omega arith, refl), some_header boundary, some_content boundary, refl), r.1.2, refl)))

  not_first : (first : Bool) → (first ≡ true → ◌≢◌ {A = List (List ℕ)} [] []) → first ≡ false
  not_first true h = absurd (h refl refl)
  not_first false h = refl

  first_only : (first : Bool) → first ≡ false → first ≡ true → ⊥
  first_only first f t = let e : true ≡ false = sym t ∙ f in cc

  pub skip_reads : (n : ℕ) (first : Bool) → Reads (skip (sought boundary) n first) (EndOf (Skipped n)) (SkipEnd n first) (SkipIn n first)
  unfolding skip
  skip_reads zero first = record {
    reads = λ pre a c r h. no_parts pre a c r h.0 h.1.0 h.1.1 h.1.2;
    ends = λ pre a c h. absurd (omega (arith, h.1));
    tells = λ pre w. ([], w, refl, (omega arith, ([], refl, refl)));
  }
    where
      no_parts : (pre a c : List ℕ) (r : ℕ) → r ≡ length pre + length a → (contents : List (List ℕ)) → length contents ≡ 0 → Parts boundary contents [] a → skip (sought boundary) zero first (pre ++ (a ++ c)) (length pre) ≡ Ok r
      no_parts pre a c r e [] l parts = ap (λ i. Ok i) (omega (arith, ap length parts))
      no_parts pre a c r e (x ∷ contents) l parts = absurd (omega arith)
  skip_reads (suc n) first = in_words (skip (sought boundary) (suc n) first) (RowWhole SomePart (EndOf (Skipped n))) (EndOf (Skipped (suc n))) (RowEnd (Closes first) SomePart (SkipEnd n false)) (SkipEnd (suc n) first) (RowWithin (InPart boundary q first) SomePart (SkipIn n false)) (SkipIn (suc n) first)
      (row_reads (part_next (sought boundary) first) SomePart (Closes first) (InPart boundary q first) (skip (sought boundary) n false) (EndOf (Skipped n)) (SkipEnd n false) (SkipIn n false) (next_reads first) (skip_reads n false) (λ i. (let y = some_parts n in (y.0, i + length y.0, (refl, y.1)))))
      to_whole from_whole to_end from_end to_in
    where
      to_whole : (i : ℕ) (a : List ℕ) (r : ℕ) → RowWhole SomePart (EndOf (Skipped n)) i a r → EndOf (Skipped (suc n)) i a r
      to_whole i a r (x, y, cut, (content, part), (e, (contents, l, parts))) =
          (e ∙ omega (arith, ap length cut, length-append x y), (content ∷ contents, ap suc l, (x, y, part, parts, cut)))

      from_whole : (i : ℕ) (a : List ℕ) (r : ℕ) → EndOf (Skipped (suc n)) i a r → RowWhole SomePart (EndOf (Skipped n)) i a r
      from_whole i a r (e, ([], l, parts)) = absurd (omega arith)
      from_whole i a r (e, (content ∷ contents, l, (x, y, part, parts, cut))) =
          (x, y, cut, (content, part), (e ∙ omega (arith, ap length cut, length-append x y), (contents, omega arith, parts)))

      to_end : (a : List ℕ) → RowEnd (Closes first) SomePart (SkipEnd n false) a → SkipEnd (suc n) first a
      to_end a (inl (f, e)) = ([], omega arith, (λ t _. first_only first f t), e)
      to_end a (inr (x, y, cut, (content, part), (contents, l, ne, parts))) =
          (content ∷ contents, omega arith, (λ t p. absurd cc), (x, y, part, parts, cut))

      from_end : (a : List ℕ) → SkipEnd (suc n) first a → RowEnd (Closes first) SomePart (SkipEnd n false) a
      from_end a ([], l, ne, parts) = inl (not_first first ne, parts)
      from_end a (content ∷ contents, l, ne, (x, y, part, parts, cut)) = inr (x, y, cut, (content, part), (contents, omega arith, (λ t. absurd cc), parts))

      to_in : (kind : FrameKind) (a : List ℕ) → RowWithin (InPart boundary q first) SomePart (SkipIn n false) kind a → SkipIn (suc n) first kind a
      to_in kind a (inl h) = ([], a, refl, h)
      to_in kind a (inr (x, y, cut, (content, part), ([], rest, parts, h))) = (content ∷ [], rest, (x, y, part, parts, cut), h)
      to_in kind a (inr (x, y, cut, (content, part), (c ∷ contents, rest, parts, h))) = (content ∷ c ∷ contents, rest, (x, y, part, parts, cut), h)

  -- ---- the whole

  abbrev pub seeker : ℕ → Reader Found
  seeker given = in_row (region (sought boundary) BadPreamble (Mark 16384 2)) (in_row (skip (sought boundary) given true) (part_end (sought boundary) (given == 0)))

  abbrev pub SeekWhole : ℕ → ℕ → List ℕ → Found → Type 0
  SeekWhole given = RowWhole (IsOpening boundary) (RowWhole (Skipped given) (PartFound boundary q))

  abbrev pub SeekEnd : ℕ → List ℕ → Type 0
  SeekEnd given = RowEnd Nothing (IsOpening boundary) (RowEnd (SkipEnd given true) (Skipped given) (Closes (given == 0)))

  abbrev pub SeekIn : ℕ → FrameKind → List ℕ → Type 0
  SeekIn given = RowWithin (Within BadPreamble (IsOpening boundary)) (IsOpening boundary) (RowWithin (SkipIn given true) (Skipped given) (InPart boundary q (given == 0)))

  some_found : (i : ℕ) → (y : List ℕ) × (r : Found) × PartFound boundary q i y r
  some_found i = (
    crlf ++ (crlf ++ mark boundary),
    record { content = (i + 2) + 2; next = ((i + 2) + 2) + length (mark boundary) },
    ([], crlf, crlf, mark boundary, ([], tt, omega arith, refl), some_header boundary, some_content boundary, refl, refl),
  )

  pub seek_reads : (given : ℕ) → Reads (seeker given) (SeekWhole given) (SeekEnd given) (SeekIn given)
  seek_reads given =
      row_reads (region (sought boundary) BadPreamble (Mark 16384 2)) (IsOpening boundary) Nothing (Within BadPreamble (IsOpening boundary)) (in_row (skip (sought boundary) given true) (part_end (sought boundary) (given == 0))) (RowWhole (Skipped given) (PartFound boundary q)) (RowEnd (SkipEnd given true) (Skipped given) (Closes (given == 0))) (RowWithin (SkipIn given true) (Skipped given) (InPart boundary q (given == 0)))
      (opening_reads boundary q)
      (row_reads (skip (sought boundary) given true) (Skipped given) (SkipEnd given true) (SkipIn given true) (part_end (sought boundary) (given == 0)) (PartFound boundary q) (Closes (given == 0)) (InPart boundary q (given == 0)) (skip_reads given true) (part_reads boundary q (given == 0)) some_found)
      (λ i. (let y = some_parts given in let p = some_found (i + length y.0) in (y.0 ++ p.0, p.1, (y.0, p.0, refl, y.1, p.2))))

  pub seek_is : (bytes : List ℕ) (given : ℕ) → seek (sought boundary) bytes given ≡ seeker given bytes 0
  unfolding seek
  seek_is bytes given = refl
