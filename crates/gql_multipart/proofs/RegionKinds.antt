-- A byte stands in one region, and a past has one answer.
use Rattle.std.proofs.Common.{◌≡◌, ◌≢◌, ℕ, zero, suc, ◌+◌, ◌≤◌, ◌⊎◌, inl, inr, Bool, true, false, List, [], ◌∷◌, ◌++◌, length, Option, Some, None, Result, Ok, Err, refl, sym, ap, ◌∙◌, arith, append_assoc, append-nil, length-append}
use Rattle.gql_multipart.specs.declared.refusal.FrameKind.{FrameKind}
use Rattle.gql_multipart.specs.declared.refusal.FrameKind.TheVariants.{BadBoundary, BadPreamble, BadDelimiter, BadHeader, PartTooLong, Truncated}
use Rattle.gql_multipart.specs.declared.place.Place.TheVariants.{Mark, Line}
use Rattle.gql_multipart.specs.declared.read.Stop.{Stop}
use Rattle.gql_multipart.specs.declared.read.Stop.TheVariants.{Ended}
use Rattle.gql_multipart.specs.Body.{IsLineEnd, IsHeader, IsContent, IsOpening, IsPart, Parts, Begins}
use Rattle.gql_multipart.specs.Regions.{Inside, IsMarkEnd, IsSomeContent, StandsIn}
use Rattle.gql_multipart.specs.inner.Reading.{region, mark_end}
use Rattle.gql_multipart.proofs.Lists.{NoCr}
use Rattle.gql_multipart.proofs.Places.{sought}
use Rattle.gql_multipart.proofs.Readers.{Reader, Told, Reads, EndOf, Nothing, Within}
use Rattle.gql_multipart.proofs.MarkEnds.{Closes, BehindMark, InMarkEnd, mark_end_reads}
use Rattle.gql_multipart.proofs.Seeks.{opening_reads, header_reads, content_reads}
use Rattle.gql_multipart.proofs.Skips.{still_first}

-- ---- a text that goes on isn't read to its end

module _ (f : Reader ℕ) (L E : List ℕ → Type 0) (R : FrameKind → List ℕ → Type 0) (hf : Reads f (EndOf L) E R) where
  not_read : (pre a more : List ℕ) → more ≢ [] → (L (a ++ more) ⊎ E (a ++ more)) → (k : ℕ) → Told f (EndOf L) E R pre a (Ok k) → ⊥
  not_read pre a more some (inl l) k (front, c, cut, (count, h)) =
      let whole : f (pre ++ ((a ++ more) ++ [])) (length pre) ≡ Ok (length pre + length (a ++ more)) = hf.reads pre (a ++ more) [] (length pre + length (a ++ more)) (refl, l) in
      let part : f (pre ++ (front ++ (c ++ more))) (length pre) ≡ Ok (length pre + length front) = hf.reads pre front (c ++ more) (length pre + length front) (refl, h) in
      let same : front ++ (c ++ more) ≡ (a ++ more) ++ [] = sym (append_assoc front c more) ∙ (ap (λ z. z ++ more) (sym cut) ∙ sym (append-nil (a ++ more))) in
      let both : Ok (length pre + length front) ≡ Ok (length pre + length (a ++ more)) = sym part ∙ (ap (λ z. f (pre ++ z) (length pre)) same ∙ whole) in
      let counts : length pre + length front ≡ length pre + length (a ++ more) = cc in
      longer more some (omega (arith, ap length cut, length-append front c, length-append a more))
    where
      longer : (xs : List ℕ) → xs ≢ [] → length xs ≤ 0 → ⊥
      longer [] some l = some refl
      longer (x ∷ xs) some l = omega arith
  not_read pre a more some (inr e) k (front, c, cut, (count, h)) =
      let end : f (pre ++ ((a ++ more) ++ [])) (length pre) ≡ Err Ended = hf.ends pre (a ++ more) [] e in
      let part : f (pre ++ (front ++ (c ++ more))) (length pre) ≡ Ok (length pre + length front) = hf.reads pre front (c ++ more) (length pre + length front) (refl, h) in
      let same : front ++ (c ++ more) ≡ (a ++ more) ++ [] = sym (append_assoc front c more) ∙ (ap (λ z. z ++ more) (sym cut) ∙ sym (append-nil (a ++ more))) in
      let both : Ok (length pre + length front) ≡ Err Ended = sym part ∙ (ap (λ z. f (pre ++ z) (length pre)) same ∙ end) in
      cc

  stops_inside : (pre a : List ℕ) → Inside (λ t. L t ⊎ E t) a → (s : Stop) × (f (pre ++ a) (length pre) ≡ Err s)
  stops_inside pre a (more, some, h) = by_result (f (pre ++ a) (length pre)) refl (hf.tells pre a)
    where
      by_result : (r : Result ℕ Stop) → f (pre ++ a) (length pre) ≡ r → Told f (EndOf L) E R pre a r → (s : Stop) × (f (pre ++ a) (length pre) ≡ Err s)
      by_result (Ok k) e t = absurd (not_read pre a more some h k t)
      by_result (Err s) e t = (s, e)

-- ---- the region in which the next byte stands, by reading, over at most so many parts

abbrev seen : FrameKind → Result ℕ Stop → (ℕ → Option FrameKind) → Option FrameKind
seen kind (Ok k) go_on = go_on k
seen kind (Err s) go_on = Some kind

abbrev kind_from : List ℕ → ℕ → Bool → List ℕ → ℕ → Option FrameKind
kind_from m zero first bytes at = None
kind_from m (suc n) first bytes at =
    seen BadDelimiter (mark_end m first bytes at) (λ header.
    seen BadHeader (region m BadHeader (Line 16384) bytes header) (λ content.
    seen PartTooLong (region m PartTooLong (Mark 67108866 2) bytes content) (λ next.
    kind_from m n false bytes next)))

abbrev kind_of : List ℕ → ℕ → List ℕ → Option FrameKind
kind_of m n bytes = seen BadPreamble (region m BadPreamble (Mark 16384 2) bytes 0) (λ at. kind_from m n true bytes at)

stop_seen : (kind : FrameKind) (r : Result ℕ Stop) (go_on : ℕ → Option FrameKind) → ((s : Stop) × (r ≡ Err s)) → seen kind r go_on ≡ Some kind
stop_seen kind r go_on (s, e) = ap (λ z. seen kind z go_on) e

module _ (boundary : List ℕ) (q : NoCr boundary) where
  -- ---- on over whole texts

  over_line : (n : ℕ) (first : Bool) (pre end rest : List ℕ) → IsLineEnd end → kind_from (sought boundary) (suc n) first (pre ++ (end ++ rest)) (length pre) ≡ seen BadHeader (region (sought boundary) BadHeader (Line 16384) ((pre ++ end) ++ rest) (length (pre ++ end))) (λ content. seen PartTooLong (region (sought boundary) PartTooLong (Mark 67108866 2) ((pre ++ end) ++ rest) content) (λ next. kind_from (sought boundary) n false ((pre ++ end) ++ rest) next))
  over_line n first pre end rest l =
      ap (λ r. seen BadDelimiter r (λ header. seen BadHeader (region (sought boundary) BadHeader (Line 16384) (pre ++ (end ++ rest)) header) (λ content. seen PartTooLong (region (sought boundary) PartTooLong (Mark 67108866 2) (pre ++ (end ++ rest)) content) (λ next. kind_from (sought boundary) n false (pre ++ (end ++ rest)) next)))) ((mark_end_reads boundary q first).reads pre end rest (length (pre ++ end)) (length-append pre end, l))
      ∙ ap (λ z. seen BadHeader (region (sought boundary) BadHeader (Line 16384) z (length (pre ++ end))) (λ content. seen PartTooLong (region (sought boundary) PartTooLong (Mark 67108866 2) z content) (λ next. kind_from (sought boundary) n false z next))) (sym (append_assoc pre end rest))

  over_header : (n : ℕ) (pre header rest : List ℕ) → IsHeader boundary header → seen BadHeader (region (sought boundary) BadHeader (Line 16384) (pre ++ (header ++ rest)) (length pre)) (λ content. seen PartTooLong (region (sought boundary) PartTooLong (Mark 67108866 2) (pre ++ (header ++ rest)) content) (λ next. kind_from (sought boundary) n false (pre ++ (header ++ rest)) next)) ≡ seen PartTooLong (region (sought boundary) PartTooLong (Mark 67108866 2) ((pre ++ header) ++ rest) (length (pre ++ header))) (λ next. kind_from (sought boundary) n false ((pre ++ header) ++ rest) next)
  over_header n pre header rest h =
      ap (λ r. seen BadHeader r (λ content. seen PartTooLong (region (sought boundary) PartTooLong (Mark 67108866 2) (pre ++ (header ++ rest)) content) (λ next. kind_from (sought boundary) n false (pre ++ (header ++ rest)) next))) ((header_reads boundary q).reads pre header rest (length (pre ++ header)) (length-append pre header, h))
      ∙ ap (λ z. seen PartTooLong (region (sought boundary) PartTooLong (Mark 67108866 2) z (length (pre ++ header))) (λ next. kind_from (sought boundary) n false z next)) (sym (append_assoc pre header rest))

  over_content : (n : ℕ) (pre content text rest : List ℕ) → IsContent boundary content text → seen PartTooLong (region (sought boundary) PartTooLong (Mark 67108866 2) (pre ++ (text ++ rest)) (length pre)) (λ next. kind_from (sought boundary) n false (pre ++ (text ++ rest)) next) ≡ kind_from (sought boundary) n false ((pre ++ text) ++ rest) (length (pre ++ text))
  over_content n pre content text rest c =
      ap (λ r. seen PartTooLong r (λ next. kind_from (sought boundary) n false (pre ++ (text ++ rest)) next)) ((content_reads boundary q).reads pre text rest (length (pre ++ text)) (length-append pre text, (content, c)))
      ∙ ap (λ z. kind_from (sought boundary) n false z (length (pre ++ text))) (sym (append_assoc pre text rest))

  over_part : (n : ℕ) (first : Bool) (pre content part rest : List ℕ) → IsPart boundary content part → (pre' : List ℕ) × (kind_from (sought boundary) (suc n) first (pre ++ (part ++ rest)) (length pre) ≡ kind_from (sought boundary) n false (pre' ++ rest) (length pre'))
  over_part n first pre content part rest (end, header, text, l, h, c, cut) =
      let regrouped : part ++ rest ≡ end ++ (header ++ (text ++ rest)) = ap (λ z. z ++ rest) cut ∙ (append_assoc end (header ++ text) rest ∙ ap (λ z. end ++ z) (append_assoc header text rest)) in (
        ((pre ++ end) ++ header) ++ text,
        ap (λ z. kind_from (sought boundary) (suc n) first (pre ++ z) (length pre)) regrouped
            ∙ (over_line n first pre end (header ++ (text ++ rest)) l
            ∙ (over_header n (pre ++ end) header (text ++ rest) h
            ∙ over_content n ((pre ++ end) ++ header) content text rest c)),
      )

  over_parts : (n : ℕ) (first : Bool) (contents : List (List ℕ)) (pre rest a : List ℕ) → Parts boundary contents rest a → (pre' : List ℕ) × (kind_from (sought boundary) (length contents + suc n) first (pre ++ a) (length pre) ≡ kind_from (sought boundary) (suc n) (still_first first contents) (pre' ++ rest) (length pre'))
  over_parts n first [] pre rest a h =
      let none : 0 + suc n ≡ suc n = omega arith in
      (pre, ap (λ k. kind_from (sought boundary) k first (pre ++ a) (length pre)) none ∙ ap (λ z. kind_from (sought boundary) (suc n) first (pre ++ z) (length pre)) h)
  over_parts n first (c ∷ contents) pre rest a (part, after, is_part, parts, cut) =
      let one = over_part (length contents + suc n) first pre c part after is_part in
      let more = over_parts n false contents one.0 rest after parts in
      let count : suc (length contents) + suc n ≡ suc (length contents + suc n) = omega arith in (
        more.0,
        ap (λ k. kind_from (sought boundary) k first (pre ++ a) (length pre)) count
            ∙ (ap (λ z. kind_from (sought boundary) (suc (length contents + suc n)) first (pre ++ z) (length pre)) cut
            ∙ (one.1 ∙ (more.1 ∙ later contents more.0))),
      )
    where
      later : (cs : List (List ℕ)) (p : List ℕ) → kind_from (sought boundary) (suc n) (still_first false cs) (p ++ rest) (length p) ≡ kind_from (sought boundary) (suc n) false (p ++ rest) (length p)
      later [] p = refl
      later (d ∷ cs) p = refl

  over_begun : (n : ℕ) (contents : List (List ℕ)) (rest a : List ℕ) → Begins boundary contents rest a → (pre : List ℕ) × (kind_of (sought boundary) (length contents + suc n) a ≡ kind_from (sought boundary) (suc n) (still_first true contents) (pre ++ rest) (length pre))
  over_begun n contents rest a (o, after, opening, parts, cut) =
      let r = over_parts n true contents o rest after parts in (
        r.0,
        ap (λ z. kind_of (sought boundary) (length contents + suc n) z) cut
            ∙ (ap (λ s. seen BadPreamble s (λ at. kind_from (sought boundary) (length contents + suc n) true (o ++ after) at)) ((opening_reads boundary q).reads [] o after (length o) (omega arith, opening)) ∙ r.1),
      )

  -- ---- the region is the one that reading comes to

  in_mark_end : (contents : List (List ℕ)) (a : List ℕ) → Inside (IsMarkEnd contents) a → Inside (BehindMark (still_first true contents)) a
  in_mark_end [] a (more, some, h) = (more, some, inl h)
  in_mark_end (c ∷ contents) a (more, some, inl h) = (more, some, inl h)
  in_mark_end (c ∷ contents) a (more, some, inr h) = (more, some, inr (refl, h))

  or_nothing : (L : List ℕ → Type 0) (a : List ℕ) → Inside L a → Inside (λ t. L t ⊎ Nothing t) a
  or_nothing L a (more, some, h) = (more, some, inl h)

  is_kind : (kind : FrameKind) (a : List ℕ) → StandsIn boundary kind a → (c : ℕ) × ((n : ℕ) → kind_of (sought boundary) (c + suc n) a ≡ Some kind)
  is_kind BadPreamble a h = (
    0,
    λ n. stop_seen BadPreamble (region (sought boundary) BadPreamble (Mark 16384 2) a 0) (λ at. kind_from (sought boundary) (0 + suc n) true a at)
        (stops_inside (region (sought boundary) BadPreamble (Mark 16384 2)) (IsOpening boundary) Nothing (Within BadPreamble (IsOpening boundary)) (opening_reads boundary q) [] a (or_nothing (IsOpening boundary) a h)),
  )
  is_kind BadDelimiter a (contents, rest, begins, inside) = (
    length contents,
    λ n. (let r = over_begun n contents rest a begins in
        r.1 ∙ stop_seen BadDelimiter (mark_end (sought boundary) (still_first true contents) (r.0 ++ rest) (length r.0)) _
        (stops_inside (mark_end (sought boundary) (still_first true contents)) IsLineEnd (Closes (still_first true contents)) (InMarkEnd (still_first true contents)) (mark_end_reads boundary q (still_first true contents)) r.0 rest (in_mark_end contents rest inside))),
  )
  is_kind BadHeader a (contents, end, rest, begins, l, inside) = (
    length contents,
    λ n. (let r = over_begun n contents (end ++ rest) a begins in
        r.1 ∙ (over_line n (still_first true contents) r.0 end rest l
        ∙ stop_seen BadHeader (region (sought boundary) BadHeader (Line 16384) ((r.0 ++ end) ++ rest) (length (r.0 ++ end))) _
        (stops_inside (region (sought boundary) BadHeader (Line 16384)) (IsHeader boundary) Nothing (Within BadHeader (IsHeader boundary)) (header_reads boundary q) (r.0 ++ end) rest (or_nothing (IsHeader boundary) rest inside)))),
  )
  is_kind PartTooLong a (contents, end, header, rest, begins, l, h, inside) = (
    length contents,
    λ n. (let r = over_begun n contents (end ++ (header ++ rest)) a begins in
        r.1 ∙ (over_line n (still_first true contents) r.0 end (header ++ rest) l
        ∙ (over_header n (r.0 ++ end) header rest h
        ∙ stop_seen PartTooLong (region (sought boundary) PartTooLong (Mark 67108866 2) (((r.0 ++ end) ++ header) ++ rest) (length ((r.0 ++ end) ++ header))) _
        (stops_inside (region (sought boundary) PartTooLong (Mark 67108866 2)) (IsSomeContent boundary) Nothing (Within PartTooLong (IsSomeContent boundary)) (content_reads boundary q) ((r.0 ++ end) ++ header) rest (or_nothing (IsSomeContent boundary) rest inside))))),
  )
  is_kind BadBoundary a h = absurd h
  is_kind Truncated a h = absurd h

  pub kind_one : (kind other : FrameKind) (a : List ℕ) → StandsIn boundary kind a → StandsIn boundary other a → kind ≡ other
  kind_one kind other a h g =
      let x = is_kind kind a h in
      let y = is_kind other a g in
      let count : x.0 + suc y.0 ≡ y.0 + suc x.0 = omega arith in
      let both : Some kind ≡ Some other = sym (x.1 y.0) ∙ (ap (λ n. kind_of (sought boundary) n a) count ∙ y.1 x.0) in
      cc
