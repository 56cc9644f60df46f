-- Bodies of lines, as they are sent piece by piece, and which of these lines fit.
use Rattle.std.proofs.Common.{◌≡◌, refl, sym, ap, ◌∙◌, subst, inl, inr, ℕ, ◌<◌, nat_lt, nat_eq, arith, append_assoc, append-nil, Bool, true, false, List, [], ◌∷◌, ◌++◌, length, map}
use Rattle.std.specs.Prelude.{◌⊎◌, ◌≢◌, flat_map}
use Rattle.std.specs.List.{AllByRecursion as Each}
use Rattle.std.proofs.lemmas.Bool.{eqb-false}
use Rattle.std.proofs.lemmas.Bool.Decides.{nat_tests}
use Rattle.std.proofs.lemmas.List.Concat.{flat_map-append}
use Rattle.std.proofs.lemmas.List.Elements.{All-weaker}
use Rattle.gql_tree.specs.declared.Payload.{Payload}
use Rattle.gql_payload.specs.PayloadText.{payload_text}
use Rattle.gql_multipart.specs.Frame.{crlf, delimiter, piece, frame}
use Rattle.gql_payload.proofs.Line.{IsOneLine-payload_text}
use Rattle.gql_multipart.specs.Body.{IsOpen, Body, dashes}
use Rattle.gql_multipart.specs.Framed.{closing, so_far, IsLine, IsFramable}
use Rattle.gql_multipart.proofs.Frames.{pieces_end}
use Rattle.gql_multipart.proofs.Fronts.{so_far_shut}
use Rattle.gql_tool.specs.Local.{part_limit, Fits, at_last, up_to}
use Rattle.gql_tool.specs.LocalClient.{dash}

-- ---- lists

pub each-front : {X : Type 0} (P : X → Type 0) (xs ys : List X) → Each P (xs ++ ys) → Each P xs
each-front P [] ys h = tt
each-front P (x ∷ xs) ys h = (h.0, each-front P xs ys h.1)

pub each-snoc : {X : Type 0} (P : X → Type 0) (xs : List X) (y : X) → Each P xs → P y → Each P (xs ++ y ∷ [])
each-snoc P [] y h k = (k, tt)
each-snoc P (x ∷ xs) y h k = (h.0, each-snoc P xs y h.1 k)

pub each-join : {X : Type 0} (P : X → Type 0) (xs ys : List X) → Each P xs → Each P ys → Each P (xs ++ ys)
each-join P [] ys h k = k
each-join P (x ∷ xs) ys h k = (h.0, each-join P xs ys h.1 k)

-- a list with one behind the others has a first one
pub some_first : {X : Type 0} (xs : List X) (y : X) → (first : X) × (rest : List X) × (xs ++ y ∷ [] ≡ first ∷ rest)
some_first [] y = (y, [], refl)
some_first (x ∷ xs) y = (x, xs ++ y ∷ [], refl)

-- one behind the others, and what follows it
pub snoc : {X : Type 0} (xs : List X) (y : X) (ys : List X) → xs ++ y ∷ ys ≡ (xs ++ y ∷ []) ++ ys
snoc xs y ys = sym (append_assoc xs (y ∷ []) ys)

-- ---- the texts of payloads

pub payload_line : (p : Payload) → IsLine (payload_text p)
payload_line p = record {
  one_line = All-weaker (λ b. (b ≢ 13) × (b ≢ 10)) (λ b. b ≢ 13) (λ b h. h.0) (payload_text p) (IsOneLine-payload_text p);
  unmarked = λ rest is. other_heads 123 45 _ _ refl is;
}
  where
    other_heads : (x y : ℕ) (xs ys : List ℕ) → (nat_eq x y) ≡ false → x ∷ xs ≡ y ∷ ys → ⊥
    other_heads x y xs ys n e = let same : x ≡ y = cc in eqb-false x y n same

pub payload_lines : (ps : List Payload) → Each IsLine (map payload_text ps)
payload_lines [] = tt
payload_lines (p ∷ ps) = (payload_line p, payload_lines ps)

framable : (t : List ℕ) → IsLine t → Fits t → IsFramable t
framable t line fits = record { line = line; most = fits }

pub all_framable : (ts : List (List ℕ)) → Each IsLine ts → Each Fits ts → Each IsFramable ts
all_framable [] lines fit = tt
all_framable (t ∷ ts) lines fit = (framable t lines.0 fit.0, all_framable ts lines.1 fit.1)

pub fits_or : (t : List ℕ) → Fits t ⊎ (part_limit < length t)
fits_or t = by (nat_lt part_limit (length t)) refl
  where
    by : (b : Bool) → nat_lt part_limit (length t) ≡ b → Fits t ⊎ (part_limit < length t)
    by true is = inr (grind (arith, nat_tests, is))
    by false is = inl (grind (arith, nat_tests, is))

-- ---- bytes

-- texts that were sent, and then these bytes
abbrev pub sent : List (List ℕ) → List ℕ → List ℕ
sent ts rest = delimiter ++ (flat_map piece ts ++ rest)

pub sent-frame : (ts : List (List ℕ)) → frame ts ≡ sent ts (dashes ++ crlf)
sent-frame ts = ap (λ xs. delimiter ++ xs) (pieces_end ts)

pub sent-more : (ts : List (List ℕ)) (xs ys : List ℕ) → sent ts (xs ++ ys) ≡ sent ts xs ++ ys
sent-more ts xs ys = ap (λ zs. delimiter ++ zs) (sym (append_assoc (flat_map piece ts) xs ys)) ∙ sym (append_assoc delimiter (flat_map piece ts ++ xs) ys)

pub sent-append : (ts us : List (List ℕ)) (rest : List ℕ) → sent (ts ++ us) rest ≡ sent ts (flat_map piece us ++ rest)
sent-append ts us rest = ap (λ zs. delimiter ++ zs) (ap (λ zs. zs ++ rest) (flat_map-append piece ts us) ∙ append_assoc (flat_map piece ts) (flat_map piece us) rest)

so_far-some : (t : List ℕ) (ts : List (List ℕ)) → so_far (t ∷ ts) ≡ sent (t ∷ ts) []
so_far-some t ts = ap (λ zs. delimiter ++ zs) (sym (append-nil (flat_map piece (t ∷ ts))))

pub sent-so_far : (before : List (List ℕ)) (t : List ℕ) → so_far (before ++ t ∷ []) ≡ sent (before ++ t ∷ []) []
sent-so_far [] t = so_far-some t []
sent-so_far (b ∷ before) t = so_far-some b (before ++ t ∷ [])

closed : (b : Bool) (t : List ℕ) → piece t ++ closing b ≡ flat_map piece (t ∷ []) ++ closing b
closed b t = ap (λ zs. zs ++ closing b) (sym (append-nil (piece t)))

pub sent-up_to : (before : List (List ℕ)) (t : List ℕ) (after : List (List ℕ)) → up_to before t after ≡ sent (before ++ t ∷ []) (closing (at_last after))
sent-up_to [] t after = ap (λ zs. delimiter ++ zs) (closed (at_last after) t)
sent-up_to (b ∷ before) t after =
    let end = closing (at_last after) in
    append_assoc delimiter (flat_map piece (b ∷ before)) (piece t ++ end)
    ∙ (ap (λ zs. delimiter ++ (flat_map piece (b ∷ before) ++ zs)) (closed (at_last after) t)
    ∙ sym (sent-append (b ∷ before) (t ∷ []) end))

-- ---- fronts

pub open_front : (boundary xs ys : List ℕ) → IsOpen boundary (xs ++ ys) → IsOpen boundary xs
open_front boundary xs ys (rest, contents, body) = (ys ++ rest, contents, subst (λ zs. Body boundary zs contents) (append_assoc xs ys rest) body)

-- what is sent up to a text is a front of the whole
pub up_to-frame : (before : List (List ℕ)) (t : List ℕ) (after : List (List ℕ)) → (rest : List ℕ) × (frame (before ++ t ∷ after) ≡ up_to before t after ++ rest)
up_to-frame before t [] = ([], sent-frame (before ++ t ∷ []) ∙ (sym (sent-up_to before t []) ∙ sym (append-nil (up_to before t []))))
up_to-frame before t (u ∷ after) =
    let rest = flat_map piece (u ∷ after) ++ (dashes ++ crlf) in (
      rest,
      sent-frame (before ++ t ∷ u ∷ after)
          ∙ (ap (λ ts. sent ts (dashes ++ crlf)) (snoc before t (u ∷ after))
          ∙ (sent-append (before ++ t ∷ []) (u ∷ after) (dashes ++ crlf)
          ∙ (sent-more (before ++ t ∷ []) [] rest
          ∙ ap (λ zs. zs ++ rest) (sym (sent-up_to before t (u ∷ after)))))),
    )

-- and of the body that ends with the text
pub up_to-single : (before : List (List ℕ)) (t : List ℕ) (after : List (List ℕ)) → (rest : List ℕ) × (frame (before ++ t ∷ []) ≡ up_to before t after ++ rest)
up_to-single before t [] = up_to-frame before t []
up_to-single before t (u ∷ after) = (
  dashes ++ crlf,
  sent-frame (before ++ t ∷ [])
      ∙ (sent-more (before ++ t ∷ []) [] (dashes ++ crlf)
      ∙ ap (λ zs. zs ++ (dashes ++ crlf)) (sym (sent-up_to before t (u ∷ after)))),
)

-- and of what is sent up to a later one
pub up_to-later : (before : List (List ℕ)) (t : List ℕ) (mid : List (List ℕ)) (u : List ℕ) (after : List (List ℕ)) → (rest : List ℕ) × (up_to (before ++ t ∷ mid) u after ≡ up_to before t (mid ++ u ∷ after) ++ rest)
up_to-later before t mid u after =
    let end = closing (at_last after) in
    let rest = flat_map piece (mid ++ u ∷ []) ++ end in (
      rest,
      sent-up_to (before ++ t ∷ mid) u after
          ∙ (ap (λ ts. sent ts end) (append_assoc before (t ∷ mid) (u ∷ []) ∙ snoc before t (mid ++ u ∷ []))
          ∙ (sent-append (before ++ t ∷ []) (mid ++ u ∷ []) end
          ∙ (sent-more (before ++ t ∷ []) [] rest
          ∙ ap (λ zs. zs ++ rest) (ap (λ b. sent (before ++ t ∷ []) (closing b)) (sym (not_last mid)) ∙ sym (sent-up_to before t (mid ++ u ∷ after)))))),
    )
  where
    not_last : (ms : List (List ℕ)) → at_last (ms ++ u ∷ after) ≡ false
    not_last [] = refl
    not_last (m ∷ ms) = refl

-- ---- which texts fit

-- a text that some body goes on with fits
open_fits_here : (before : List (List ℕ)) (t : List ℕ) (ts : List (List ℕ)) (rest : List ℕ) → Each IsLine before → Each Fits before → IsLine t → IsOpen dash (sent (before ++ t ∷ ts) rest) → Fits t
open_fits_here before t ts rest lines fit line is_open = by (fits_or t)
  where
    here : sent (before ++ t ∷ ts) rest ≡ so_far (before ++ t ∷ []) ++ (flat_map piece ts ++ rest)
    here =
        ap (λ us. sent us rest) (snoc before t ts)
        ∙ (sent-append (before ++ t ∷ []) ts rest
        ∙ (sent-more (before ++ t ∷ []) [] (flat_map piece ts ++ rest)
        ∙ ap (λ zs. zs ++ (flat_map piece ts ++ rest)) (sym (sent-so_far before t))))

    by : Fits t ⊎ (part_limit < length t) → Fits t
    by (inl fits) = fits
    by (inr long) =
        absurd (so_far_shut before t (all_framable before lines fit) (record { line = line; more = long })
        (open_front dash (so_far (before ++ t ∷ [])) (flat_map piece ts ++ rest) (subst (IsOpen dash) here is_open)))

-- of lines that some body begins with, each fits
pub open_fits : (before ts : List (List ℕ)) (rest : List ℕ) → Each IsLine before → Each Fits before → Each IsLine ts → IsOpen dash (sent (before ++ ts) rest) → Each Fits ts
open_fits before [] rest lines fit more is_open = tt
open_fits before (t ∷ ts) rest lines fit (line, more) is_open =
    let this = open_fits_here before t ts rest lines fit line is_open in (
      this,
      open_fits (before ++ t ∷ []) ts rest (each-snoc IsLine before t lines line) (each-snoc Fits before t fit this) more (subst (λ us. IsOpen dash (sent us rest)) (snoc before t ts) is_open),
    )

pub frame_fits : (ts : List (List ℕ)) → Each IsLine ts → IsOpen dash (frame ts) → Each Fits ts
frame_fits ts lines is_open = open_fits [] ts (dashes ++ crlf) tt tt lines (subst (IsOpen dash) (sent-frame ts) is_open)

pub so_far_fits : (ts : List (List ℕ)) → Each IsLine ts → IsOpen dash (so_far ts) → Each Fits ts
so_far_fits [] lines is_open = tt
so_far_fits (t ∷ ts) lines is_open = open_fits [] (t ∷ ts) [] tt tt lines (subst (IsOpen dash) (so_far-some t ts) is_open)

-- all fit, or there is a first one that doesn't
pub record TooLong (ts : List (List ℕ)) : Type 0 where
  pub before : List (List ℕ)
  pub text : List ℕ
  pub after : List (List ℕ)
  pub all : ts ≡ before ++ text ∷ after
  pub fit : Each Fits before
  pub long : part_limit < length text

pub all_fit_or : (ts : List (List ℕ)) → Each Fits ts ⊎ TooLong ts
all_fit_or [] = inl tt
all_fit_or (t ∷ ts) = by (fits_or t) (all_fit_or ts)
  where
    by : Fits t ⊎ (part_limit < length t) → Each Fits ts ⊎ TooLong ts → Each Fits (t ∷ ts) ⊎ TooLong (t ∷ ts)
    by (inr long) rest = inr (record { before = []; text = t; after = ts; all = refl; fit = tt; long = long })
    by (inl fits) (inl rest) = inl (fits, rest)
    by (inl fits) (inr rest) = inr (record { before = t ∷ rest.before; text = rest.text; after = rest.after; all = ap (λ us. t ∷ us) rest.all; fit = (fits, rest.fit); long = rest.long })
