-- A part where a line's piece stands is this line, and ends where the piece ends.
use Rattle.std.proofs.Common.{◌≡◌, ℕ, inl, inr, IsTrue, Bool, true, false, not, ◌==◌, List, [], ◌∷◌, ◌++◌, refl, sym, ap, ◌∙◌, append_assoc, codes}
use Rattle.std.proofs.lemmas.Bool.{eqb-false}
use Rattle.std.proofs.lemmas.List.Elements.{recursion_from_All}
use Rattle.std.specs.List.{AllByRecursion as Each, concat}
use Rattle.gql_multipart.specs.Frame.{crlf, header, piece, delimiter}
use Rattle.gql_multipart.specs.Framed.{IsLine}
use Rattle.gql_multipart.specs.Body.{blank_byte, token_byte, value_byte, IsLineEnd, IsHeaderLine, IsHeader, IsContent, IsPart}
use Rattle.gql_multipart.proofs.Lists.{NoCr}
use Rattle.gql_multipart.proofs.Frames.{each_test}

-- ---- bytes before the first CR

pub other_heads : (x y : ℕ) (xs ys : List ℕ) → (x == y) ≡ false → x ∷ xs ≡ y ∷ ys → ⊥
other_heads x y xs ys n e = let same : x ≡ y = cc in eqb-false x y n same

passes_no_cr : (test : ℕ → Bool) → test 13 ≡ false → (xs : List ℕ) → Each (λ b. IsTrue (test b)) xs → NoCr xs
passes_no_cr test n [] h = tt
passes_no_cr test n (b ∷ xs) h = ((λ e. let bad : test 13 ≡ true = ap test (sym e) ∙ h.0 in cc), passes_no_cr test n xs h.1)

no_cr_append : (a b : List ℕ) → NoCr a → NoCr b → NoCr (a ++ b)
no_cr_append [] b h g = g
no_cr_append (x ∷ a) b h g = (h.0, no_cr_append a b h.1 g)

cut_cr : (a b x y : List ℕ) → NoCr a → NoCr b → a ++ 13 ∷ x ≡ b ++ 13 ∷ y → (a ≡ b) × (x ≡ y)
cut_cr [] [] x y h g e = (refl, cc)
cut_cr [] (c ∷ b) x y h g e = absurd (let same : c ≡ 13 = cc in g.0 same)
cut_cr (c ∷ a) [] x y h g e = absurd (let same : c ≡ 13 = cc in h.0 same)
cut_cr (c ∷ a) (d ∷ b) x y h g e =
    let tails : a ++ 13 ∷ x ≡ b ++ 13 ∷ y = cc in
    let r = cut_cr a b x y h.1 g.1 tails in
    let same : c ≡ d = cc in
    ((λ i. same i ∷ r.0 i), r.1)

-- ---- the end of the mark's line

line_ended : (end x y : List ℕ) → IsLineEnd end → end ++ x ≡ crlf ++ y → x ≡ y
line_ended end x y (blanks, each, most, is) e =
    let whole : blanks ++ 13 ∷ (10 ∷ x) ≡ [] ++ 13 ∷ (10 ∷ y) = sym (ap (λ z. z ++ x) is ∙ append_assoc blanks crlf x) ∙ e in
    let r = cut_cr blanks [] (10 ∷ x) (10 ∷ y) (passes_no_cr blank_byte refl blanks each) tt whole in
    let tails : 10 ∷ x ≡ 10 ∷ y = r.1 in
    cc

-- ---- the header

header_no_cr : NoCr header
header_no_cr = passes_no_cr (λ b. not (b == 13)) refl header (each_test (λ b. not (b == 13)) header refl)

-- a header line, up to its CR
line_text : (line : List ℕ) → IsHeaderLine (codes "-") line → (text : List ℕ) × NoCr text × (line ≡ text ++ crlf)
line_text line (name, value, some, tokens, values, is, apart) = (
  name ++ (codes ":" ++ value),
  no_cr_append name (codes ":" ++ value) (passes_no_cr token_byte refl name tokens) ((λ e. eqb-false 58 13 refl e), passes_no_cr value_byte refl value values),
  is ∙ sym (append_assoc name (codes ":" ++ value) crlf),
)

-- a header line doesn't begin with CR
line_head : (line x y : List ℕ) → IsHeaderLine (codes "-") line → line ++ x ≡ 13 ∷ y → ⊥
line_head line x y ([], value, some, tokens, values, is, apart) e = some refl
line_head line x y (b ∷ name, value, some, tokens, values, is, apart) e =
    let whole : b ∷ (name ++ (codes ":" ++ (value ++ crlf))) ++ x ≡ 13 ∷ y = ap (λ z. z ++ x) (sym is) ∙ e in
    let same : b ≡ 13 = cc in
    (passes_no_cr token_byte refl (b ∷ name) tokens).0 same

-- no line is left
lines_end : (lines : List (List ℕ)) (x w : List ℕ) → Each (IsHeaderLine (codes "-")) lines → concat lines ++ (crlf ++ x) ≡ crlf ++ w → x ≡ w
lines_end [] x w each e = cc
lines_end (line ∷ lines) x w each e = absurd (line_head line (concat lines ++ (crlf ++ x)) (10 ∷ w) each.0 (sym (append_assoc line (concat lines) (crlf ++ x)) ∙ e))

lines_ended : (lines : List (List ℕ)) (x w : List ℕ) → Each (IsHeaderLine (codes "-")) lines → concat lines ++ (crlf ++ x) ≡ header ++ (crlf ++ (crlf ++ w)) → x ≡ w
lines_ended [] x w each e = absurd (other_heads 13 67 _ _ refl e)
lines_ended (line ∷ lines) x w each e =
    let t = line_text line each.0 in
    let rest = concat lines ++ (crlf ++ x) in
    let whole : t.0 ++ 13 ∷ (10 ∷ rest) ≡ header ++ 13 ∷ (10 ∷ (crlf ++ w)) =
    sym (append_assoc t.0 crlf rest) ∙ (ap (λ z. z ++ rest) (sym t.2) ∙ (sym (append_assoc line (concat lines) (crlf ++ x)) ∙ e)) in
    let r = cut_cr t.0 header (10 ∷ rest) (10 ∷ (crlf ++ w)) t.1 header_no_cr whole in
    let tails : 10 ∷ rest ≡ 10 ∷ (crlf ++ w) = r.1 in
    lines_end lines x w each.1 cc

header_ended : (h x w : List ℕ) → IsHeader (codes "-") h → h ++ x ≡ header ++ (crlf ++ (crlf ++ w)) → x ≡ w
header_ended h x w (lines, each, most, is) e = lines_ended lines x w each (sym (append_assoc (concat lines) crlf x) ∙ (ap (λ z. z ++ x) (sym is) ∙ e))

-- ---- the content

abbrev marked : List ℕ → List ℕ
marked x = crlf ++ (delimiter ++ x)

-- the mark behind a line is the first in it
first_mark : (u c x y : List ℕ) → NoCr u → ((front back : List ℕ) → c ≡ front ++ marked back → ⊥) → c ++ marked x ≡ u ++ marked y → (c ≡ u) × (x ≡ y)
first_mark [] [] x y n none e = (refl, cc)
first_mark [] (a ∷ []) x y n none e = absurd (let f : 13 ∷ (10 ∷ (delimiter ++ x)) ≡ 10 ∷ (delimiter ++ y) = cc in other_heads 13 10 _ _ refl f)
first_mark [] (a ∷ b ∷ []) x y n none e = absurd (let f : 13 ∷ (10 ∷ (delimiter ++ x)) ≡ delimiter ++ y = cc in other_heads 13 45 _ _ refl f)
first_mark [] (a ∷ b ∷ d ∷ []) x y n none e = absurd (let f : 13 ∷ (10 ∷ (delimiter ++ x)) ≡ 45 ∷ 45 ∷ y = cc in other_heads 13 45 _ _ refl f)
first_mark [] (a ∷ b ∷ d ∷ f ∷ []) x y n none e = absurd (let g : 13 ∷ (10 ∷ (delimiter ++ x)) ≡ 45 ∷ y = cc in other_heads 13 45 _ _ refl g)
first_mark [] (a ∷ b ∷ d ∷ f ∷ g ∷ c) x y n none e = absurd (none [] c (let h : a ≡ 13 = cc in let i : b ≡ 10 = cc in let j : d ≡ 45 = cc in let k : f ≡ 45 = cc in let l : g ≡ 45 = cc in cc))
first_mark (b ∷ u) [] x y n none e = absurd (let same : b ≡ 13 = cc in n.0 same)
first_mark (b ∷ u) (a ∷ c) x y n none e =
    let tails : c ++ marked x ≡ u ++ marked y = cc in
    let r = first_mark u c x y n.1 (λ front back f. none (a ∷ front) back (ap (λ z. a ∷ z) f)) tails in
    let same : a ≡ b = cc in
    ((λ i. same i ∷ r.0 i), r.1)

-- a line that is followed by CRLF begins with a mark itself
pub begins_marked : (u x y : List ℕ) → delimiter ++ x ≡ u ++ 13 ∷ y → (rest : List ℕ) × (u ≡ delimiter ++ rest)
begins_marked [] x y e = absurd (other_heads 45 13 _ _ refl e)
begins_marked (a ∷ []) x y e = absurd (let f : 45 ∷ 45 ∷ x ≡ 13 ∷ y = cc in other_heads 45 13 _ _ refl f)
begins_marked (a ∷ b ∷ []) x y e = absurd (let f : 45 ∷ x ≡ 13 ∷ y = cc in other_heads 45 13 _ _ refl f)
begins_marked (a ∷ b ∷ c ∷ u) x y e = (u, let h : a ≡ 45 = cc in let i : b ≡ 45 = cc in let j : c ≡ 45 = cc in cc)

content_ended : (u c r x y : List ℕ) → IsLine u → IsContent (codes "-") c r → r ++ x ≡ u ++ marked y → (c ≡ u) × (x ≡ y)
content_ended u c r x y line (most, inl (none, is)) e =
    let m = begins_marked u x (10 ∷ (delimiter ++ y)) (ap (λ z. z ++ x) (sym is) ∙ e) in
    absurd (line.unmarked m.0 m.1)
content_ended u c r x y line (most, inr (none, is)) e =
    first_mark u c x y (recursion_from_All _ u line.one_line) (λ front back f. none (crlf ++ front) back (ap (λ z. crlf ++ z) f))
    (sym (append_assoc c (crlf ++ delimiter) x) ∙ (ap (λ z. z ++ x) (sym is) ∙ e))

-- ---- the part

pub piece_ended : (u c part x y : List ℕ) → IsLine u → IsPart (codes "-") c part → part ++ x ≡ piece u ++ y → (c ≡ u) × (x ≡ y)
piece_ended u c part x y line (end, head, r, ends, is_header, content, is) e =
    let whole : end ++ (head ++ (r ++ x)) ≡ crlf ++ (header ++ (crlf ++ (crlf ++ (u ++ marked y)))) =
    sym (ap (λ z. z ++ x) is ∙ (append_assoc end (head ++ r) x ∙ ap (λ z. end ++ z) (append_assoc head r x))) ∙ (e ∙ ap (λ z. crlf ++ (header ++ (crlf ++ (crlf ++ z)))) (append_assoc u (crlf ++ delimiter) y)) in
    let lines = line_ended end (head ++ (r ++ x)) (header ++ (crlf ++ (crlf ++ (u ++ marked y)))) ends whole in
    content_ended u c r x y line content (header_ended head (r ++ x) (u ++ marked y) is_header lines)
