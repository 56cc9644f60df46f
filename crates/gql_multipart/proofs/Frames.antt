-- What frames hold is read back.
use Rattle.std.proofs.Common.{◌≡◌, ℕ, inl, inr, IsTrue, Bool, true, List, [], ◌∷◌, ◌++◌, length, refl, sym, ap, ◌∙◌, subst, arith, append_assoc, append-nil, codes, length-append, lit≤}
use Rattle.std.proofs.lemmas.Bool.{eqb-false}
use Rattle.std.proofs.lemmas.List.Elements.{recursion_from_All}
use Rattle.std.specs.List.{AllByRecursion as Each, flat_map, list_all}
use Rattle.gql_multipart.specs.Frame.{crlf, header, piece, pieces, frame, delimiter}
use Rattle.gql_multipart.specs.Framed.{so_far, IsFramable}
use Rattle.gql_multipart.specs.Body.{dashes, boundary_byte, token_byte, value_byte, HoldsNoMark, IsBoundary, IsHeader, IsPart, Parts, Body, Complete}
use Rattle.gql_multipart.proofs.Lists.{NoCr}
use Rattle.gql_multipart.proofs.PlaceLines.{both}
use Rattle.gql_multipart.proofs.Standing.{quiet}
use Rattle.gql_multipart.proofs.Unique.{bodies_one}

head_at : (x y : ℕ) (xs ys : List ℕ) → x ∷ xs ≡ y ∷ ys → x ≡ y
head_at x y xs ys e = cc

dash_not_space : (front : List ℕ) → 45 ∷ [] ≡ front ++ 32 ∷ [] → ⊥
dash_not_space [] e = eqb-false 45 32 refl (head_at 45 32 [] [] e)
dash_not_space (x ∷ front) e = omega (arith, ap length e, length-append front (32 ∷ []))

dash_byte : boundary_byte 45 ≡ true
dash_byte = refl

-- the boundary of frames
pub dash_boundary : IsBoundary (codes "-")
dash_boundary = record { least = lit≤ tt; most = lit≤ tt; bytes = (dash_byte, tt); end = dash_not_space }

-- no mark stands in a line
holds_none : (text : List ℕ) → NoCr text → ((rest : List ℕ) → text ≡ delimiter ++ rest → ⊥) → HoldsNoMark (codes "-") text
holds_none text n apart [] back e = let tails : text ≡ delimiter ++ back = cc in apart back tails
holds_none text n apart (x ∷ []) back e = cc
holds_none text n apart (x ∷ y ∷ front) back e = let tails : text ≡ front ++ (crlf ++ (delimiter ++ back)) = cc in no_cr_inside text front (10 ∷ (delimiter ++ back)) n tails
  where
    no_cr_inside : (text front back : List ℕ) → NoCr text → text ≡ front ++ (13 ∷ back) → ⊥
    no_cr_inside [] [] back n e = cc
    no_cr_inside [] (z ∷ front) back n e = cc
    no_cr_inside (b ∷ text) [] back n e = let first : b ≡ 13 = cc in n.0 first
    no_cr_inside (b ∷ text) (z ∷ front) back n e = let tails : text ≡ front ++ (13 ∷ back) = cc in no_cr_inside text front back n.1 tails

-- a test that computes
pub each_test : (test : ℕ → Bool) (xs : List ℕ) → list_all test xs ≡ true → Each (λ b. IsTrue (test b)) xs
each_test test [] e = tt
each_test test (x ∷ xs) e = let h = both (test x) (list_all test xs) e in (h.0, each_test test xs h.1)

capital : (xs rest : List ℕ) → 67 ∷ xs ≡ 45 ∷ rest → ⊥
capital xs rest e = eqb-false 67 45 refl (head_at 67 45 xs rest e)

-- the header of frames
framed_header : IsHeader (codes "-") (header ++ (crlf ++ crlf))
framed_header = ((header ++ crlf) ∷ [], ((codes "Content-Type", codes " application/json; charset=utf-8", (λ e. absurd cc), tokens, values, refl, (λ rest e. capital _ _ e)), tt), omega arith, refl)
  where
    tokens : Each (λ b. IsTrue (token_byte b)) (codes "Content-Type")
    tokens = each_test token_byte (codes "Content-Type") refl

    values : Each (λ b. IsTrue (value_byte b)) (codes " application/json; charset=utf-8")
    values = each_test value_byte (codes " application/json; charset=utf-8") refl

piece_is : (t : List ℕ) → IsFramable t → IsPart (codes "-") t (piece t)
piece_is t f = (crlf, header ++ (crlf ++ crlf), t ++ (crlf ++ delimiter), ([], tt, omega arith, refl), framed_header, (f.most, inr (holds_none t (recursion_from_All _ t f.line.one_line) f.line.unmarked, refl)), refl)

pieces_are : (ts : List (List ℕ)) (rest : List ℕ) → Each IsFramable ts → Parts (codes "-") ts rest (flat_map piece ts ++ rest)
pieces_are [] rest each = refl
pieces_are (t ∷ ts) rest each = (piece t, flat_map piece ts ++ rest, piece_is t each.0, pieces_are ts rest each.1, append_assoc (piece t) (flat_map piece ts) rest)

pub pieces_end : (ts : List (List ℕ)) → pieces ts ≡ flat_map piece ts ++ (dashes ++ crlf)
pieces_end [] = refl
pieces_end (t ∷ ts) = ap (λ z. piece t ++ z) (pieces_end ts) ∙ sym (append_assoc (piece t) (flat_map piece ts) (dashes ++ crlf))

pub frame_is_body : (t : List ℕ) (ts : List (List ℕ)) → Each IsFramable (t ∷ ts) → Body (codes "-") (frame (t ∷ ts)) (t ∷ ts)
frame_is_body t ts each = (
  (λ e. absurd cc),
  crlf,
  (
    delimiter,
    pieces (t ∷ ts),
    ([], inl refl, refl),
    subst (λ z. Parts (codes "-") (t ∷ ts) (dashes ++ crlf) z) (sym (pieces_end (t ∷ ts))) (pieces_are (t ∷ ts) (dashes ++ crlf) each),
    refl,
  ),
)

pub frame_only : (t : List ℕ) (ts contents : List (List ℕ)) → Each IsFramable (t ∷ ts) → Body (codes "-") (frame (t ∷ ts)) contents → contents ≡ t ∷ ts
frame_only t ts contents each b = bodies_one (codes "-") (quiet (codes "-") dash_boundary) (frame (t ∷ ts)) contents (t ∷ ts) b (frame_is_body t ts each)

pub so_far_complete : (t : List ℕ) (ts : List (List ℕ)) → Each IsFramable (t ∷ ts) → Complete (codes "-") (so_far (t ∷ ts)) (t ∷ ts)
so_far_complete t ts each = (
  [],
  (
    delimiter,
    flat_map piece (t ∷ ts),
    ([], inl refl, refl),
    subst (λ z. Parts (codes "-") (t ∷ ts) [] z) (append-nil (flat_map piece (t ∷ ts))) (pieces_are (t ∷ ts) [] each),
    refl,
  ),
)
