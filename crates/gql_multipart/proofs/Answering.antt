-- What is found behind so many parts is the answer.
use Rattle.std.proofs.Common.{◌≡◌, ◌≢◌, ℕ, suc, ◌+◌, ◌-◌, ◌<◌, ◌≤◌, ◌⊎◌, inl, inr, Bool, true, false, ◌==◌, nat_le, List, [], ◌∷◌, ◌++◌, length, take, drop, Result, Ok, Err, refl, sym, ap, ◌∙◌, subst, arith, append_assoc, append-nil, length-append, take-append-drop, take_at, drop_at, leb-true, leb-false, eq-eqb, ne_eqb, eqb-true}
use Rattle.std.proofs.lemmas.List.{take-append-le}
use Rattle.std.proofs.lemmas.Bool.{eqb-false}
use Rattle.gql_multipart.specs.declared.refusal.FrameKind.{FrameKind}
use Rattle.gql_multipart.specs.declared.read.Stop.{Stop}
use Rattle.gql_multipart.specs.declared.read.Stop.TheVariants.{More, Ended, Refused}
use Rattle.gql_multipart.specs.declared.read.Found.{Found}
use Rattle.gql_multipart.specs.Body.{dashes, IsLineEnd, IsHeader, IsContent, IsOpening, IsPart, Parts, Begins, Body, Complete, IsOpen}
use Rattle.gql_multipart.specs.Regions.{IsMarkEnd, StandsIn}
use Rattle.gql_multipart.specs.Past.{IsLeastShut}
use Rattle.gql_multipart.specs.inner.Reading.{seek, content_of}
use Rattle.gql_multipart.proofs.Lists.{NoCr}
use Rattle.gql_multipart.proofs.Places.{sought}
use Rattle.gql_multipart.proofs.Readers.{Told, RowEnd}
use Rattle.gql_multipart.proofs.MarkEnds.{Closes, BehindMark}
use Rattle.gql_multipart.proofs.RegionTexts.{content_is}
use Rattle.gql_multipart.proofs.Seeks.{InPart}
use Rattle.gql_multipart.proofs.PartLists.{parts_more, parts_front, parts_split, begins_more, begins_push, at_place}
use Rattle.gql_multipart.proofs.Skips.{still_first, SkipEnd, Skipped, seeker, SeekWhole, SeekEnd, SeekIn, seek_reads, seek_is}

pub one_of : {R : Type 0} (t : Bool) → (t ≡ true → R) → (t ≡ false → R) → R
one_of true f g = f refl
one_of false f g = g refl

regroup : (o s end header r rest : List ℕ) → (o ++ (s ++ (end ++ (header ++ r)))) ++ rest ≡ (o ++ (s ++ (end ++ header))) ++ (r ++ rest)
regroup o s end header r rest = simp append_assoc

module _ (boundary : List ℕ) (q : NoCr boundary) (given : ℕ) where
  abbrev reader : List ℕ → Result Found Stop
  reader bytes = seek (sought boundary) bytes given

  -- ---- what is there is found

  content_at : (content o s end header r rest a : List ℕ) (found : Found) → a ≡ o ++ (s ++ (end ++ (header ++ r))) → found ≡ record { content = (((0 + length o) + length s) + length end) + length header; next = ((((0 + length o) + length s) + length end) + length header) + length r } → IsContent boundary content r → content_of (sought boundary) (a ++ rest) found ≡ content
  content_at content o s end header r rest a found cut e ct =
      let c : ℕ = (((0 + length o) + length s) + length end) + length header in
      let front : List ℕ = o ++ (s ++ (end ++ header)) in
      let len : length front ≡ c = omega (arith, length-append o (s ++ (end ++ header)), length-append s (end ++ header), length-append end header) in
      ap (λ f. content_of (sought boundary) (a ++ rest) f) e
      ∙ (ap (λ z. take (((c + length r) - length (sought boundary)) - c) (drop c z)) (ap (λ z. z ++ rest) cut ∙ regroup o s end header r rest)
      ∙ (ap (λ z. take (((c + length r) - length (sought boundary)) - c) z) (drop_at front (r ++ rest) c len)
      ∙ content_is boundary content r rest c (c + length r) refl ct))

  whole_found : (o s end header r c bytes content : List ℕ) (contents : List (List ℕ)) → IsOpening boundary o → length contents ≡ given → Parts boundary contents [] s → IsLineEnd end → IsHeader boundary header → IsContent boundary content r → bytes ≡ (o ++ (s ++ (end ++ (header ++ r)))) ++ c → (found : Found) × (reader bytes ≡ Ok found) × (content_of (sought boundary) bytes found ≡ content)
  whole_found o s end header r c bytes content contents opening len parts l h ct cut =
      let n : ℕ = (0 + length o) + length s in
      let found : Found = record { content = (n + length end) + length header; next = ((n + length end) + length header) + length r } in (
        found,
        seek_is boundary q bytes given ∙ (ap (λ z. seeker boundary q given z 0) cut
            ∙ (seek_reads boundary q given).reads [] (o ++ (s ++ (end ++ (header ++ r)))) c found
            (o, s ++ (end ++ (header ++ r)), refl, opening, (s, end ++ (header ++ r), refl, (contents, len, parts), (content, end, header, r, l, h, ct, refl, refl)))),
        ap (λ z. content_of (sought boundary) z found) cut ∙ content_at content o s end header r c (o ++ (s ++ (end ++ (header ++ r)))) found refl refl ct,
      )

  pub next_found : (bytes : List ℕ) (contents : List (List ℕ)) (content rest : List ℕ) → length contents ≡ given → Begins boundary (contents ++ content ∷ []) rest bytes → (found : Found) × (reader bytes ≡ Ok found) × (content_of (sought boundary) bytes found ≡ content)
  next_found bytes contents content rest len (o, after, opening, parts, cut) =
      from_split (parts_split boundary contents (content ∷ []) rest after parts)
    where
      from_front : (p y : List ℕ) → IsPart boundary content p → (s : List ℕ) × (after ≡ s ++ (p ++ y)) × Parts boundary contents [] s → (found : Found) × (reader bytes ≡ Ok found) × (content_of (sought boundary) bytes found ≡ content)
      from_front p y (end, header, r, l, h, ct, cut') (s, e, parts') =
          whole_found o s end header r y bytes content contents opening len parts' l h ct
          (cut ∙ (ap (λ z. o ++ z) (e ∙ (ap (λ z. s ++ (z ++ y)) cut' ∙ sym (append_assoc s (end ++ (header ++ r)) y))) ∙ sym (append_assoc o (s ++ (end ++ (header ++ r))) y)))

      from_split : (mid : List ℕ) × Parts boundary contents mid after × Parts boundary (content ∷ []) rest mid → (found : Found) × (reader bytes ≡ Ok found) × (content_of (sought boundary) bytes found ≡ content)
      from_split (mid, before, (p, y, part, e, cut')) =
          from_front p y part (parts_front boundary contents (p ++ y) after (subst (λ z. Parts boundary contents z after) cut' before))

  pub further_found : (bytes : List ℕ) (contents : List (List ℕ)) → Complete boundary bytes contents → given < length contents → (found : Found) × (reader bytes ≡ Ok found)
  further_found bytes contents (rest, begins) l = from_place (at_place contents given l)
    where
      from_place : (before : List (List ℕ)) × (content : List ℕ) × (behind : List (List ℕ)) × (contents ≡ before ++ content ∷ behind) × (length before ≡ given) → (found : Found) × (reader bytes ≡ Ok found)
      from_place (before, content, behind, e, len) =
          let moved : Begins boundary ((before ++ content ∷ []) ++ behind) rest bytes = subst (λ z. Begins boundary z rest bytes) (e ∙ sym (append_assoc before (content ∷ []) behind)) begins in
          let cut = parts_split boundary (before ++ content ∷ []) behind rest moved.1 moved.3 in
          let next = next_found bytes before content cut.0 len (moved.0, moved.1, moved.2, cut.1, moved.4) in
          (next.0, next.1)

  -- ---- where no part is found

  pub stop_not_found : (bytes : List ℕ) (stop : Stop) → reader bytes ≡ Err stop → (found : Found) × (reader bytes ≡ Ok found) → ⊥
  stop_not_found bytes stop e (found, f) = let bad : Err stop ≡ Ok found = sym e ∙ f in cc

  pub all_given : (bytes : List ℕ) (stop : Stop) → reader bytes ≡ Err stop → (contents : List (List ℕ)) → Complete boundary bytes contents → length contents ≤ given
  all_given bytes stop e contents complete =
      one_of (nat_le (length contents) given)
      (λ t. leb-true (length contents) given t)
      (λ t. absurd (stop_not_found bytes stop e (further_found bytes contents complete (leb-false (length contents) given t))))

  pub few_ended : (bytes any : List ℕ) (contents : List (List ℕ)) → contents ≢ [] → Begins boundary contents (dashes ++ any) bytes → length contents ≤ given → reader bytes ≡ Err Ended
  few_ended bytes any contents some (o, after, opening, parts, cut) l =
      let f = parts_front boundary contents (dashes ++ any) after parts in
      let whole : bytes ≡ (o ++ (f.0 ++ dashes)) ++ any = cut ∙ (ap (λ z. o ++ z) (f.1 ∙ sym (append_assoc f.0 dashes any)) ∙ sym (append_assoc o (f.0 ++ dashes) any)) in
      seek_is boundary q bytes given ∙ (ap (λ z. seeker boundary q given z 0) whole
      ∙ (seek_reads boundary q given).ends [] (o ++ (f.0 ++ dashes)) any (inr (o, f.0 ++ dashes, refl, opening, at_end f.0 f.2)))
    where
      apart : (cs : List (List ℕ)) → cs ≢ [] → length cs ≡ given → (given == 0) ≡ false
      apart [] some e = absurd (some refl)
      apart (c ∷ cs) some e = ne_eqb given 0 (λ z. omega arith)

      at_end : (s : List ℕ) → Parts boundary contents [] s → RowEnd (SkipEnd boundary q given true) (Skipped boundary q given) (Closes (given == 0)) (s ++ dashes)
      at_end s parts' =
          one_of (length contents == given)
          (λ t. inr (s, dashes, refl, (contents, eqb-true (length contents) given t, parts'), (apart contents some (eqb-true (length contents) given t), refl)))
          (λ t. let other : length contents ≡ given → ⊥ = eqb-false (length contents) given t in
          inl (contents, omega arith, (λ _. some), parts_more boundary contents [] s dashes parts'))

  pub body_read : (bytes : List ℕ) (contents : List (List ℕ)) → Body boundary bytes contents → (reader bytes ≡ Err Ended) ⊎ ((found : Found) × (reader bytes ≡ Ok found))
  body_read bytes contents (some, any, begins) =
      one_of (nat_le (length contents) given)
      (λ t. inl (few_ended bytes any contents some begins (leb-true (length contents) given t)))
      (λ t. inr (further_found bytes contents (dashes ++ any, begins) (leb-false (length contents) given t)))

  -- a stop that isn't the end stands in no body
  pub no_body : (bytes : List ℕ) (stop : Stop) → (stop ≡ Ended → ⊥) → reader bytes ≡ Err stop → (contents : List (List ℕ)) → Body boundary bytes contents → ⊥
  no_body bytes stop other e contents body = by_read (body_read bytes contents body)
    where
      by_read : (reader bytes ≡ Err Ended) ⊎ ((found : Found) × (reader bytes ≡ Ok found)) → ⊥
      by_read (inl f) = other (let same : Err stop ≡ Err Ended = sym e ∙ f in cc)
      by_read (inr f) = stop_not_found bytes stop e f

  -- ---- what is found is there

  told : (bytes : List ℕ) (r : Result Found Stop) → reader bytes ≡ r → Told (seeker boundary q given) (SeekWhole boundary q given) (SeekEnd boundary q given) (SeekIn boundary q given) [] bytes r
  told bytes r e = subst (Told (seeker boundary q given) (SeekWhole boundary q given) (SeekEnd boundary q given) (SeekIn boundary q given) [] bytes) (sym (seek_is boundary q bytes given) ∙ e) ((seek_reads boundary q given).tells [] bytes)

  whole_begins : (a rest : List ℕ) (found : Found) → SeekWhole boundary q given 0 a found → (contents : List (List ℕ)) × (content : List ℕ) × (length contents ≡ given) × Begins boundary (contents ++ content ∷ []) rest (a ++ rest) × (content_of (sought boundary) (a ++ rest) found ≡ content)
  whole_begins a rest found (o, y, cut, opening, (s, p, cut', (contents, len, parts), (content, end, header, r, l, h, ct, cut'', e))) = (
    contents,
    content,
    len,
    begins_push boundary contents content o s p a rest opening parts (end, header, r, l, h, ct, cut'') (cut ∙ ap (λ z. o ++ z) cut'),
    content_at content o s end header r rest a found (cut ∙ (ap (λ z. o ++ z) (cut' ∙ ap (λ z. s ++ z) cut''))) e ct,
  )

  end_body : (a rest : List ℕ) → SeekEnd boundary q given a → (contents : List (List ℕ)) × Body boundary (a ++ rest) contents
  end_body a rest (inl h) = absurd h
  end_body a rest (inr (o, y, cut, opening, inl (contents, l, some, parts))) =
      (contents, (some refl, rest, begins_more boundary contents dashes a rest (o, y, opening, parts, cut)))
  end_body a rest (inr (o, y, cut, opening, inr (s, d, cut', (contents, len, parts), (f, e)))) = (
    contents,
    (
      some_contents contents len,
      rest,
      begins_more boundary contents dashes a rest
          (o, s ++ dashes, opening, parts_more boundary contents [] s dashes parts, cut ∙ ap (λ z. o ++ z) (cut' ∙ ap (λ z. s ++ z) e)),
    ),
  )
    where
      some_contents : (cs : List (List ℕ)) → length cs ≡ given → cs ≢ []
      some_contents cs len' none =
          let zero_given : given ≡ 0 = sym len' ∙ ap length none in
          let bad : true ≡ false = sym (eq-eqb given 0 zero_given) ∙ f in cc

  pub more_open : (bytes : List ℕ) → reader bytes ≡ Err More → IsOpen boundary bytes
  more_open bytes e = from_told (told bytes (Err More) e)
    where
      from_whole : (x : List ℕ) → (contents : List (List ℕ)) × (content : List ℕ) × (length contents ≡ given) × Begins boundary (contents ++ content ∷ []) dashes ((bytes ++ x) ++ dashes) × Unit {0} → IsOpen boundary bytes
      from_whole x (contents, content, len, begins, u) =
          (x ++ dashes, contents ++ content ∷ [], (not_nil contents content, [], subst (Begins boundary (contents ++ content ∷ []) dashes) (append_assoc bytes x dashes) begins))
        where
          not_nil : (cs : List (List ℕ)) (c : List ℕ) → (cs ++ c ∷ []) ≢ []
          not_nil [] c p = cc
          not_nil (d ∷ cs) c p = cc

      from_end : (x : List ℕ) → (contents : List (List ℕ)) × Body boundary ((bytes ++ x) ++ []) contents → IsOpen boundary bytes
      from_end x (contents, body) = (x, contents, subst (λ z. Body boundary z contents) (append-nil (bytes ++ x)) body)

      from_told : Told (seeker boundary q given) (SeekWhole boundary q given) (SeekEnd boundary q given) (SeekIn boundary q given) [] bytes (Err More) → IsOpen boundary bytes
      from_told (x, inl (found, w)) =
          let b = whole_begins (bytes ++ x) dashes found w in
          from_whole x (b.0, b.1, b.2, b.3, tt)
      from_told (x, inr h) = from_end x (end_body (bytes ++ x) [] h)

  -- ---- the answers

  pub part_given : (bytes : List ℕ) (found : Found) → reader bytes ≡ Ok found → (contents : List (List ℕ)) × Complete boundary bytes (contents ++ content_of (sought boundary) bytes found ∷ []) × (length contents ≡ given)
  part_given bytes found e = from_told (told bytes (Ok found) e)
    where
      from_told : Told (seeker boundary q given) (SeekWhole boundary q given) (SeekEnd boundary q given) (SeekIn boundary q given) [] bytes (Ok found) → (contents : List (List ℕ)) × Complete boundary bytes (contents ++ content_of (sought boundary) bytes found ∷ []) × (length contents ≡ given)
      from_told (a, c, cut, w) =
          let b = whole_begins a c found w in
          let is : content_of (sought boundary) bytes found ≡ b.1 = ap (λ z. content_of (sought boundary) z found) cut ∙ b.4 in
          let P : List ℕ → Type 0 = λ z. Begins boundary (b.0 ++ b.1 ∷ []) c z in
          let Q : List ℕ → Type 0 = λ z. Begins boundary (b.0 ++ z ∷ []) c bytes in
          (b.0, (c, subst Q (sym is) (subst P (sym cut) b.3)), b.2)

  pub ended_body : (bytes : List ℕ) → reader bytes ≡ Err Ended → (contents : List (List ℕ)) × Body boundary bytes contents
  ended_body bytes e = from_told (told bytes (Err Ended) e)
    where
      from_told : Told (seeker boundary q given) (SeekWhole boundary q given) (SeekEnd boundary q given) (SeekIn boundary q given) [] bytes (Err Ended) → (contents : List (List ℕ)) × Body boundary bytes contents
      from_told (a, c, cut, h) =
          let b = end_body a c h in
          (b.0, subst (λ z. Body boundary z b.0) (sym cut) b.1)

  -- ---- refusals

  open_front : (x y : List ℕ) → IsOpen boundary (x ++ y) → IsOpen boundary x
  open_front x y (rest, contents, body) = (y ++ rest, contents, subst (λ z. Body boundary z contents) (append_assoc x y rest) body)

  in_part_stands : (contents : List (List ℕ)) (kind : FrameKind) (rest a : List ℕ) → Begins boundary contents rest a → InPart boundary q (still_first true contents) kind rest → StandsIn boundary kind a
  in_part_stands contents kind rest a begins (inl (k, (more, some, h))) =
      subst (λ z. StandsIn boundary z a) (sym k) (contents, rest, begins, (more, some, behind contents (rest ++ more) h))
    where
      behind : (cs : List (List ℕ)) (t : List ℕ) → BehindMark (still_first true cs) t → IsMarkEnd cs t
      behind [] t (inl l) = l
      behind [] t (inr (f, e)) = absurd cc
      behind (c ∷ cs) t (inl l) = inl l
      behind (c ∷ cs) t (inr (f, e)) = inr e
  in_part_stands contents kind rest a begins (inr (inl (k, end, rest', cut, l, inside))) =
      subst (λ z. StandsIn boundary z a) (sym k) (contents, end, rest', subst (λ z. Begins boundary contents z a) cut begins, l, inside)
  in_part_stands contents kind rest a begins (inr (inr (k, end, header, rest', cut, l, h, inside))) =
      subst (λ z. StandsIn boundary z a) (sym k) (contents, end, header, rest', subst (λ z. Begins boundary contents z a) cut begins, l, h, inside)

  stands_in : (kind : FrameKind) (a : List ℕ) → SeekIn boundary q given kind a → StandsIn boundary kind a
  stands_in kind a (inl (k, inside)) = subst (λ z. StandsIn boundary z a) (sym k) inside
  stands_in kind a (inr (o, y, cut, opening, inl (contents, rest, parts, h))) = in_part_stands contents kind rest a (o, y, opening, parts, cut) h
  stands_in kind a (inr (o, y, cut, opening, inr (s, z, cut', (contents, len, parts), h))) =
      in_part_stands contents kind z a (o, s ++ z, opening, parts_more boundary contents [] s z parts, cut ∙ ap (λ x. o ++ x) cut')
      (subst (λ t. InPart boundary q t kind z) (first_is contents len) h)
    where
      first_is : (cs : List (List ℕ)) → length cs ≡ given → (given == 0) ≡ still_first true cs
      first_is [] e = eq-eqb given 0 (sym e)
      first_is (c ∷ cs) e = ne_eqb given 0 (λ p. omega arith)

  pub refused : (bytes : List ℕ) (kind : FrameKind) (k : ℕ) → reader bytes ≡ Err (Refused kind k) → IsLeastShut boundary bytes k × StandsIn boundary kind (take (k - 1) bytes)
  refused bytes kind k e = from_told (told bytes (Err (Refused kind k)) e)
    where
      from_cut : (a c : List ℕ) (b : ℕ) → bytes ≡ a ++ (b ∷ c) → k ≡ suc (length a) → SeekIn boundary q given kind a → reader a ≡ Err More → ((x : List ℕ) → reader (a ++ (b ∷ x)) ≡ Err (Refused kind k)) → IsLeastShut boundary bytes k × StandsIn boundary kind (take (k - 1) bytes)
      from_cut a c b cut count stands before behind =
          let front : take k bytes ≡ a ++ (b ∷ []) = ap (λ z. take k z) (cut ∙ sym (append_assoc a (b ∷ []) c)) ∙ take_at (a ++ (b ∷ [])) c k (omega (arith, length-append a (b ∷ []))) in
          let less : take (k - 1) bytes ≡ a = ap (λ z. take (k - 1) z) cut ∙ take_at a (b ∷ c) (k - 1) (omega arith) in (
            record {
              within = omega (arith, ap length cut, length-append a (b ∷ c));
              shut = λ opens. (let P : List ℕ → Type 0 = λ z. IsOpen boundary z in
                  shut_by (subst P front opens));
              least = λ j l. subst (IsOpen boundary) (sym (ap (λ z. take j z) cut ∙ take-append-le j a (b ∷ c) (omega arith)))
                  (open_front (take j a) (drop j a) (subst (IsOpen boundary) (sym (take-append-drop j a)) (more_open a before)));
            },
            subst (StandsIn boundary kind) (sym less) (stands_in kind a stands),
          )
        where
          shut_by : IsOpen boundary (a ++ (b ∷ [])) → ⊥
          shut_by (rest, contents, body) = no_body (a ++ (b ∷ rest)) (Refused kind k) (λ p. cc) (behind rest) contents (subst (λ z. Body boundary z contents) (append_assoc a (b ∷ []) rest) body)

      from_told : Told (seeker boundary q given) (SeekWhole boundary q given) (SeekEnd boundary q given) (SeekIn boundary q given) [] bytes (Err (Refused kind k)) → IsLeastShut boundary bytes k × StandsIn boundary kind (take (k - 1) bytes)
      from_told (a, b, c, cut, count, stands, before, behind) =
          from_cut a c b cut (omega arith) stands (seek_is boundary q a given ∙ before) (λ x. seek_is boundary q (a ++ (b ∷ x)) given ∙ behind x)
