-- Fronts of frames are open, and their parts are a front of the texts; with a text that is too long they are shut.
use Rattle.std.proofs.Common.{◌≡◌, ◌≢◌, ℕ, inl, inr, true, IsTrue, List, [], ◌∷◌, ◌++◌, length, refl, sym, ap, ◌∙◌, subst, arith, append_assoc, append-nil, codes}
use Rattle.std.proofs.lemmas.List.Elements.{All-nil}
use Rattle.std.specs.List.{AllByRecursion as Each, flat_map}
use Rattle.std.proofs.lemmas.List.Concat.{flat_map-append}
use Rattle.gql_multipart.specs.Frame.{crlf, piece, frame, delimiter}
use Rattle.gql_multipart.specs.Framed.{so_far, IsFramable, IsLine, IsLongLine, AreFirst}
use Rattle.gql_multipart.specs.Body.{blank_byte, dashes, IsOpening, Parts, Begins, Body, Complete, IsOpen}
use Rattle.gql_multipart.proofs.Frames.{pieces_end, frame_is_body}
use Rattle.gql_multipart.proofs.Lines.{other_heads, begins_marked, piece_ended}
use Rattle.gql_multipart.proofs.PartLists.{begins_more, begins-length}

framable_lines : (ts : List (List ℕ)) → Each IsFramable ts → Each IsLine ts
framable_lines [] each = tt
framable_lines (t ∷ ts) each = (each.0.line, framable_lines ts each.1)

-- ---- parts behind a mark

opening_ended : (o x y : List ℕ) → IsOpening (codes "-") o → o ++ x ≡ delimiter ++ y → x ≡ y
opening_ended o x y (preamble, inl none, is) e = let f : delimiter ++ x ≡ delimiter ++ y = ap (λ z. (z ++ delimiter) ++ x) (sym none) ∙ (ap (λ z. z ++ x) (sym is) ∙ e) in cc
opening_ended o x y (preamble, inr (text, ends, most, none), is) e =
    let whole : text ++ 13 ∷ (10 ∷ (delimiter ++ x)) ≡ delimiter ++ y =
    sym (ap (λ z. (z ++ delimiter) ++ x) ends ∙ (append_assoc (text ++ crlf) delimiter x ∙ append_assoc text crlf (delimiter ++ x))) ∙ (ap (λ z. z ++ x) (sym is) ∙ e) in
    let m = begins_marked text y (10 ∷ (delimiter ++ x)) (sym whole) in
    absurd (none [] (m.0 ++ crlf) (ap (λ z. crlf ++ z) (ends ∙ ap (λ z. z ++ crlf) m.1)))

-- what begins no part
abbrev IsTail : List ℕ → Type 0
IsTail tail = (content : List ℕ) (contents : List (List ℕ)) (rest : List ℕ) → Parts (codes "-") (content ∷ contents) rest tail → ⊥

module _ (tail : List ℕ) (none : IsTail tail) where
  -- the texts that are no parts yet, and the rest begins with their pieces
  abbrev Left : List (List ℕ) → List (List ℕ) → List ℕ → Type 0
  Left ts contents rest = (more : List (List ℕ)) × (contents ++ more ≡ ts) × (rest ≡ flat_map piece more ++ tail)

  left_of : (contents ts : List (List ℕ)) (rest : List ℕ) → Each IsLine ts → Parts (codes "-") contents rest (flat_map piece ts ++ tail) → Left ts contents rest
  left_of [] ts rest each h = (ts, refl, sym h)
  left_of (c ∷ contents) [] rest each h = absurd (none c contents rest h)
  left_of (c ∷ contents) (t ∷ ts) rest each (part, after, is, parts, cut) =
      let p = piece_ended t c part after (flat_map piece ts ++ tail) each.0 is (sym cut ∙ append_assoc (piece t) (flat_map piece ts) tail) in
      let l = left_of contents ts rest each.1 (subst (Parts (codes "-") contents rest) p.1 parts) in
      (l.0, (λ i. p.0 i ∷ l.1 i), l.2)

  left_behind : (ts contents : List (List ℕ)) (rest : List ℕ) → Each IsLine ts → Begins (codes "-") contents rest (delimiter ++ (flat_map piece ts ++ tail)) → Left ts contents rest
  left_behind ts contents rest each (o, after, opening, parts, cut) =
      left_of contents ts rest each (subst (Parts (codes "-") contents rest) (opening_ended o after (flat_map piece ts ++ tail) opening (sym cut)) parts)

  front_left : (ts contents : List (List ℕ)) (front back : List ℕ) → Each IsLine ts → front ++ back ≡ delimiter ++ (flat_map piece ts ++ tail) → Complete (codes "-") front contents → AreFirst contents ts
  front_left ts contents front back each e (rest, begins) =
      let l = left_behind ts contents (rest ++ back) each (subst (Begins (codes "-") contents (rest ++ back)) e (begins_more (codes "-") contents rest front back begins)) in
      (l.0, l.1)

-- ---- frames

-- no line's end begins with a dash
dash_first : (blanks x y : List ℕ) → Each (λ b. IsTrue (blank_byte b)) blanks → 45 ∷ x ≡ blanks ++ 13 ∷ y → ⊥
dash_first [] x y each e = other_heads 45 13 _ _ refl e
dash_first (b ∷ blanks) x y each e =
    let same : 45 ≡ b = cc in
    let bad : blank_byte 45 ≡ true = ap blank_byte same ∙ each.0 in
    cc

no_part : (x : List ℕ) → IsTail (45 ∷ x)
no_part x content contents rest (part, after, (end, head, r, (blanks, each, most, ends), is_header, is_content, is), parts, cut) =
    dash_first blanks x (10 ∷ ((head ++ r) ++ after)) each
    (cut ∙ (ap (λ z. z ++ after) (is ∙ ap (λ z. z ++ (head ++ r)) ends) ∙ (append_assoc (blanks ++ crlf) (head ++ r) after ∙ append_assoc blanks crlf ((head ++ r) ++ after))))

frame_split : (ts : List (List ℕ)) → frame ts ≡ delimiter ++ (flat_map piece ts ++ (dashes ++ crlf))
frame_split ts = ap (λ z. delimiter ++ z) (pieces_end ts)

pub front_open : (t : List ℕ) (ts : List (List ℕ)) (front back : List ℕ) → Each IsFramable (t ∷ ts) → front ++ back ≡ frame (t ∷ ts) → IsOpen (codes "-") front
front_open t ts front back each e = (back, t ∷ ts, subst (λ z. Body (codes "-") z (t ∷ ts)) (sym e) (frame_is_body t ts each))

pub front_parts : (t : List ℕ) (ts : List (List ℕ)) (front back : List ℕ) (contents : List (List ℕ)) → Each IsFramable (t ∷ ts) → front ++ back ≡ frame (t ∷ ts) → Complete (codes "-") front contents → AreFirst contents (t ∷ ts)
front_parts t ts front back contents each e complete =
    front_left (dashes ++ crlf) (no_part (45 ∷ crlf)) (t ∷ ts) contents front back (framable_lines (t ∷ ts) each) (e ∙ frame_split (t ∷ ts)) complete

-- a front of what was sent so far is one of the frame
front_so_far : (t : List ℕ) (ts : List (List ℕ)) (front back : List ℕ) → front ++ back ≡ so_far (t ∷ ts) → front ++ (back ++ (dashes ++ crlf)) ≡ frame (t ∷ ts)
front_so_far t ts front back e =
    sym (append_assoc front back (dashes ++ crlf)) ∙ (ap (λ z. z ++ (dashes ++ crlf)) e ∙ (append_assoc delimiter (flat_map piece (t ∷ ts)) (dashes ++ crlf) ∙ sym (frame_split (t ∷ ts))))

-- the empty front
nothing_in : (front back : List ℕ) → front ++ back ≡ [] → front ≡ []
nothing_in [] back e = refl
nothing_in (x ∷ front) back e = absurd (cc)

empty_framable : IsFramable []
empty_framable = record { line = record { one_line = All-nil (λ b. b ≢ 13); unmarked = λ rest e. absurd (cc) }; most = omega arith }

empty_open : IsOpen (codes "-") []
empty_open = front_open [] [] [] (frame ([] ∷ [])) (empty_framable, tt) refl

empty_parts : (contents : List (List ℕ)) → Complete (codes "-") [] contents → AreFirst contents []
empty_parts [] complete = ([], refl)
empty_parts (c ∷ contents) (rest, begins) = absurd (omega (arith, begins-length (codes "-") (c ∷ contents) rest [] begins))

pub so_far_open : (ts : List (List ℕ)) (front back : List ℕ) → Each IsFramable ts → front ++ back ≡ so_far ts → IsOpen (codes "-") front
so_far_open [] front back each e = subst (IsOpen (codes "-")) (sym (nothing_in front back e)) empty_open
so_far_open (t ∷ ts) front back each e = front_open t ts front (back ++ (dashes ++ crlf)) each (front_so_far t ts front back e)

pub so_far_parts : (ts : List (List ℕ)) (front back : List ℕ) (contents : List (List ℕ)) → Each IsFramable ts → front ++ back ≡ so_far ts → Complete (codes "-") front contents → AreFirst contents ts
so_far_parts [] front back contents each e complete = empty_parts contents (subst (λ z. Complete (codes "-") z contents) (nothing_in front back e) complete)
so_far_parts (t ∷ ts) front back contents each e complete = front_parts t ts front (back ++ (dashes ++ crlf)) contents each (front_so_far t ts front back e) complete

-- ---- with a line that is too long

so_far_more : (ts : List (List ℕ)) (t : List ℕ) → so_far (ts ++ t ∷ []) ≡ delimiter ++ flat_map piece (ts ++ t ∷ [])
so_far_more [] t = refl
so_far_more (s ∷ ts) t = refl

joined : (a b c : List ℕ) → (a ++ (b ++ [])) ++ c ≡ a ++ (b ++ c)
joined a b c = simp (append-nil, append_assoc)

regrouped : (a b c d : List ℕ) → (a ++ (b ++ c)) ++ d ≡ a ++ (b ++ (c ++ d))
regrouped a b c d = simp append_assoc

-- pieces don't begin with dashes
no_end : (ts : List (List ℕ)) (t any x : List ℕ) → dashes ++ any ≡ flat_map piece ts ++ (piece t ++ x) → ⊥
no_end [] t any x e = other_heads 45 13 _ _ refl e
no_end (s ∷ ts) t any x e = other_heads 45 13 _ _ refl e

module _ (ts : List (List ℕ)) (t : List ℕ) (each : Each IsFramable ts) (long : IsLongLine t) where
  long_tail : (x : List ℕ) → IsTail (piece t ++ x)
  long_tail x content contents rest (part, after, is, parts, cut) =
      let p = piece_ended t content part after x long.line is (sym cut) in
      omega (arith, is.5.0, ap length p.0, long.more)

  so_far_long : so_far (ts ++ t ∷ []) ≡ delimiter ++ (flat_map piece ts ++ (piece t ++ []))
  so_far_long = so_far_more ts t ∙ ap (λ z. delimiter ++ z) (flat_map-append piece ts (t ∷ []))

  frame_long : frame (ts ++ t ∷ []) ≡ delimiter ++ (flat_map piece ts ++ (piece t ++ (dashes ++ crlf)))
  frame_long = frame_split (ts ++ t ∷ []) ∙ ap (λ z. delimiter ++ z) (ap (λ z. z ++ (dashes ++ crlf)) (flat_map-append piece ts (t ∷ [])) ∙ joined (flat_map piece ts) (piece t) (dashes ++ crlf))

  shut : (x : List ℕ) → IsOpen (codes "-") (delimiter ++ (flat_map piece ts ++ (piece t ++ x))) → ⊥
  shut x (more, contents, (some, any, begins)) =
      let whole : (delimiter ++ (flat_map piece ts ++ (piece t ++ x))) ++ more ≡ delimiter ++ (flat_map piece ts ++ (piece t ++ (x ++ more))) = ap (λ z. delimiter ++ z) (regrouped (flat_map piece ts) (piece t) x more) in
      let l = left_behind (piece t ++ (x ++ more)) (long_tail (x ++ more)) ts contents (dashes ++ any) (framable_lines ts each) (subst (Begins (codes "-") contents (dashes ++ any)) whole begins) in
      no_end l.0 t any (x ++ more) l.2

  pub so_far_shut : IsOpen (codes "-") (so_far (ts ++ t ∷ [])) → ⊥
  so_far_shut h = shut [] (subst (IsOpen (codes "-")) so_far_long h)

  pub frame_shut : IsOpen (codes "-") (frame (ts ++ t ∷ [])) → ⊥
  frame_shut h = shut (dashes ++ crlf) (subst (IsOpen (codes "-")) frame_long h)

  module _ (front back : List ℕ) (contents : List (List ℕ)) where
    pub so_far_before : front ++ back ≡ so_far (ts ++ t ∷ []) → Complete (codes "-") front contents → AreFirst contents ts
    so_far_before e complete = front_left (piece t ++ []) (long_tail []) ts contents front back (framable_lines ts each) (e ∙ so_far_long) complete

    pub frame_before : front ++ back ≡ frame (ts ++ t ∷ []) → Complete (codes "-") front contents → AreFirst contents ts
    frame_before e complete = front_left (piece t ++ (dashes ++ crlf)) (long_tail (dashes ++ crlf)) ts contents front back (framable_lines ts each) (e ∙ frame_long) complete
