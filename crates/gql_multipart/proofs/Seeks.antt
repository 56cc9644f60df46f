-- Parts in a row are read as their relation says.
use Rattle.std.proofs.Common.{◌≡◌, ℕ, ◌+◌, ◌⊎◌, inl, inr, Bool, List, [], ◌++◌, length, Ok, refl, ap, ◌∙◌, arith}
use Rattle.gql_multipart.specs.Frame.{crlf}
use Rattle.gql_multipart.specs.declared.refusal.FrameKind.{FrameKind}
use Rattle.gql_multipart.specs.declared.refusal.FrameKind.TheVariants.{BadPreamble, BadHeader, PartTooLong}
use Rattle.gql_multipart.specs.declared.place.Place.TheVariants.{Mark, Line}
use Rattle.gql_multipart.specs.declared.read.Found.{Found}
use Rattle.gql_multipart.specs.Body.{mark, IsLineEnd, IsHeader, IsContent, IsOpening}
use Rattle.gql_multipart.specs.Regions.{Inside, IsSomeContent}
use Rattle.gql_multipart.specs.inner.Reading.{region, mark_end, part_end, ◌>>=◌}
use Rattle.gql_multipart.proofs.Lists.{NoCr}
use Rattle.gql_multipart.proofs.Places.{sought, Completes}
use Rattle.gql_multipart.proofs.Readers.{Reader, Reads, EndOf, Nothing, Within, in_row, RowWhole, RowEnd, RowWithin, region_reads, row_reads}
use Rattle.gql_multipart.proofs.ReaderMaps.{map_reads, in_words}
use Rattle.gql_multipart.proofs.MarkEnds.{Closes, InMarkEnd, mark_end_reads}
use Rattle.gql_multipart.proofs.RegionTexts.{opening_on, opening_back, content_on, content_back, header_on, header_back, some_content, some_header}

inside_as : (P Q : List ℕ → Type 0) → ((a : List ℕ) → P a → Q a) → (a : List ℕ) → Inside P a → Inside Q a
inside_as P Q f a (more, some, h) = (more, some, f (a ++ more) h)

module _ (boundary : List ℕ) (q : NoCr boundary) where
  -- ---- one part

  abbrev Header : List ℕ → Type 0
  Header = IsHeader boundary

  abbrev Content : List ℕ → Type 0
  Content = IsSomeContent boundary

  abbrev pub some_end : Reader ℕ
  some_end = region (sought boundary) PartTooLong (Mark 67108866 2)

  pub opening_reads : Reads (region (sought boundary) BadPreamble (Mark 16384 2)) (EndOf (IsOpening boundary)) Nothing (Within BadPreamble (IsOpening boundary))
  opening_reads = in_words (region (sought boundary) BadPreamble (Mark 16384 2)) (EndOf (Completes boundary (Mark 16384 2))) (EndOf (IsOpening boundary)) Nothing Nothing (Within BadPreamble (Completes boundary (Mark 16384 2))) (Within BadPreamble (IsOpening boundary))
      (region_reads boundary q BadPreamble (Mark 16384 2) (omega arith))
      (λ n a r h. (h.0, opening_back boundary a h.1))
      (λ n a r h. (h.0, opening_on boundary a q h.1))
      (λ a h. h) (λ a h. h)
      (λ kind a h. (h.0, inside_as (Completes boundary (Mark 16384 2)) (IsOpening boundary) (opening_back boundary) a h.1))

  pub header_reads : Reads (region (sought boundary) BadHeader (Line 16384)) (EndOf Header) Nothing (Within BadHeader Header)
  header_reads = in_words (region (sought boundary) BadHeader (Line 16384)) (EndOf (Completes boundary (Line 16384))) (EndOf Header) Nothing Nothing (Within BadHeader (Completes boundary (Line 16384))) (Within BadHeader Header)
      (region_reads boundary q BadHeader (Line 16384) tt)
      (λ n a r h. (h.0, header_back boundary a h.1))
      (λ n a r h. (h.0, header_on boundary a h.1))
      (λ a h. h) (λ a h. h)
      (λ kind a h. (h.0, inside_as (Completes boundary (Line 16384)) Header (header_back boundary) a h.1))

  pub content_reads : Reads (region (sought boundary) PartTooLong (Mark 67108866 2)) (EndOf Content) Nothing (Within PartTooLong Content)
  content_reads = in_words (region (sought boundary) PartTooLong (Mark 67108866 2)) (EndOf (Completes boundary (Mark 67108866 2))) (EndOf Content) Nothing Nothing (Within PartTooLong (Completes boundary (Mark 67108866 2))) (Within PartTooLong Content)
      (region_reads boundary q PartTooLong (Mark 67108866 2) (omega arith))
      (λ n a r h. (h.0, content_back boundary a h.1))
      (λ n a r h. (h.0, content_on boundary h.1.0 a q h.1.1))
      (λ a h. h) (λ a h. h)
      (λ kind a h. (h.0, inside_as (Completes boundary (Mark 67108866 2)) Content (content_back boundary) a h.1))

  -- where a content begins, and where its mark ends
  abbrev found_at : ℕ → ℕ → Found
  found_at at next = record { content = at; next = next }

  abbrev filled : Reader Found
  filled bytes at = region (sought boundary) PartTooLong (Mark 67108866 2) bytes at >>= (λ r. Ok (found_at at r))

  abbrev Filled : ℕ → List ℕ → Found → Type 0
  Filled n a r = (s : ℕ) × EndOf Content n a s × (r ≡ found_at n s)

  filled_reads : Reads filled Filled Nothing (Within PartTooLong Content)
  filled_reads = map_reads (region (sought boundary) PartTooLong (Mark 67108866 2)) (EndOf Content) Nothing (Within PartTooLong Content) found_at content_reads

  abbrev Text : ℕ → List ℕ → Found → Type 0
  Text = RowWhole Header Filled

  text_reads : Reads (in_row (region (sought boundary) BadHeader (Line 16384)) filled) Text (RowEnd Nothing Header Nothing) (RowWithin (Within BadHeader Header) Header (Within PartTooLong Content))
  text_reads = row_reads (region (sought boundary) BadHeader (Line 16384)) Header Nothing (Within BadHeader Header) filled Filled Nothing (Within PartTooLong Content) header_reads filled_reads
      (λ n. (mark boundary, found_at n (n + length (mark boundary)), (n + length (mark boundary), (refl, ([], some_content boundary)), refl)))

  -- a part, where its content begins and where its mark ends
  abbrev pub PartFound : ℕ → List ℕ → Found → Type 0
  PartFound n a r = (content end header rest : List ℕ) × IsLineEnd end × IsHeader boundary header × IsContent boundary content rest × (a ≡ end ++ (header ++ rest)) × (r ≡ record { content = (n + length end) + length header; next = ((n + length end) + length header) + length rest })

  -- the region in which the byte behind a part's first bytes stands
  abbrev pub InPart : Bool → FrameKind → List ℕ → Type 0
  InPart first kind a = InMarkEnd first kind a
      ⊎ (((kind ≡ BadHeader) × (end rest : List ℕ) × (a ≡ end ++ rest) × IsLineEnd end × Inside (IsHeader boundary) rest)
      ⊎ ((kind ≡ PartTooLong) × (end header rest : List ℕ) × (a ≡ end ++ (header ++ rest)) × IsLineEnd end × IsHeader boundary header × Inside (IsSomeContent boundary) rest))

  pub part_reads : (first : Bool) → Reads (part_end (sought boundary) first) PartFound (Closes first) (InPart first)
  unfolding part_end
  part_reads first = in_words (part_end (sought boundary) first) (RowWhole IsLineEnd Text) PartFound
      (RowEnd (Closes first) IsLineEnd (RowEnd Nothing Header Nothing)) (Closes first)
      (RowWithin (InMarkEnd first) IsLineEnd (RowWithin (Within BadHeader Header) Header (Within PartTooLong Content))) (InPart first)
      (row_reads (mark_end (sought boundary) first) IsLineEnd (Closes first) (InMarkEnd first) (in_row (region (sought boundary) BadHeader (Line 16384)) filled) Text (RowEnd Nothing Header Nothing) (RowWithin (Within BadHeader Header) Header (Within PartTooLong Content)) (mark_end_reads boundary q first) text_reads
      (λ n. (crlf ++ mark boundary, found_at (n + 2) ((n + 2) + length (mark boundary)), (crlf, mark boundary, refl, some_header boundary, ((n + 2) + length (mark boundary), (refl, ([], some_content boundary)), refl)))))
      to_part from_part to_end (λ a h. inl h) to_in
    where
      to_part : (n : ℕ) (a : List ℕ) (r : Found) → RowWhole IsLineEnd Text n a r → PartFound n a r
      to_part n a r (end, y, cut, l, (header, rest, cut', h, (s, (e, (content, c)), found))) =
          (content, end, header, rest, l, h, c, cut ∙ ap (λ z. end ++ z) cut', found ∙ ap (λ k. found_at ((n + length end) + length header) k) e)

      from_part : (n : ℕ) (a : List ℕ) (r : Found) → PartFound n a r → RowWhole IsLineEnd Text n a r
      from_part n a r (content, end, header, rest, l, h, c, cut, found) =
          (end, header ++ rest, cut, l, (header, rest, refl, h, (((n + length end) + length header) + length rest, (refl, (content, c)), found)))

      to_end : (a : List ℕ) → RowEnd (Closes first) IsLineEnd (RowEnd Nothing Header Nothing) a → Closes first a
      to_end a (inl h) = h
      to_end a (inr (x, y, cut, l, inl h)) = absurd h
      to_end a (inr (x, y, cut, l, inr (u, v, cut', k, h))) = absurd h

      to_in : (kind : FrameKind) (a : List ℕ) → RowWithin (InMarkEnd first) IsLineEnd (RowWithin (Within BadHeader Header) Header (Within PartTooLong Content)) kind a → InPart first kind a
      to_in kind a (inl h) = inl h
      to_in kind a (inr (end, y, cut, l, inl (k, h))) = inr (inl (k, end, y, cut, l, h))
      to_in kind a (inr (end, y, cut, l, inr (header, rest, cut', h, (k, i)))) = inr (inr (k, end, header, rest, cut ∙ ap (λ z. end ++ z) cut', l, h, i))
