-- The block strings that the lexer finds are those of the standard, and each has one raw text.
use Rattle.std.proofs.Common.{◌≡◌, ℕ, zero, suc, ◌+◌, ◌<◌, ◌≤◌, ◌==◌, inl, inr, Bool, true, false, ◌&&◌, not, List, [], ◌∷◌, ◌++◌, length, take, drop, Some, refl, ap, sym, ◌∙◌, subst, append_assoc, length-append, arith}
use Rattle.std.specs.Prelude.{nat_eq, if◌then◌else◌}
use Rattle.std.specs.List.{starts_with}
use Rattle.std.proofs.lemmas.Bool.{cond-true, cond-false, eq-eqb, not-true, not_from_false}
use Rattle.std.proofs.lemmas.List.{drop_at, take_at, take_all, take-append-le, take-append-drop, append-nil, append_cancel_left, append_cancel_right}
use Rattle.gql_lex.specs.declared.run.Pieces.TheVariants.{BlockItems}
use Rattle.gql_lex.specs.declared.scan.Found.{Found}
use Rattle.gql_lex.specs.declared.scan.Found.TheVariants.{Token, Wrong}
use Rattle.gql_lex.specs.declared.scan.Fault.TheVariants as fault
use Rattle.gql_lex.specs.declared.token.TokenKind.TheVariants as kind
use Rattle.gql_lex.specs.Classes.{is_forbidden}
use Rattle.gql_lex.specs.Longest.{Each}
use Rattle.gql_lex.specs.Runs.{block_item, run_len}
use Rattle.gql_lex.specs.Strings.{allowed_len, closed_block}
use Rattle.gql_lex.specs.Front.{front}
use Rattle.gql_lex.specs.StringTexts.{Piece, texts, values, three_quotes, escaped_quotes, begins_quotes, IsBlockPiece, AreBlockPieces, IsBlockContent, IsBlock}
use Rattle.gql_lex.proofs.Found.{starts_split}
use Rattle.gql_lex.proofs.Longest.{prefix_len-Each, Each-prefix_len}
use Rattle.gql_lex.proofs.Runs.{run_len-none}
use Rattle.gql_lex.proofs.QuotedTexts.{run_len-piece, same_front}

block_run : List ℕ → ℕ
block_run text = run_len BlockItems 0 text

-- what a text begins with is seen in its first bytes
starts_with-front : (front xs ys : List ℕ) → length front ≤ length xs → starts_with nat_eq (xs ++ ys) front ≡ starts_with nat_eq xs front
starts_with-front [] xs ys fits = refl
starts_with-front (c ∷ front) [] ys fits = absurd (omega arith)
starts_with-front (c ∷ front) (x ∷ xs) ys fits = ap (λ b. nat_eq c x && b) (starts_with-front front xs ys (omega arith))

long_enough : (byte : ℕ) (xs : List ℕ) → 4 ≤ length (byte ∷ (xs ++ three_quotes))
long_enough byte xs = omega (arith, length-append xs three_quotes)

quotes_seen : (byte : ℕ) (xs tail : List ℕ) → begins_quotes (byte ∷ ((xs ++ three_quotes) ++ tail)) ≡ begins_quotes (byte ∷ (xs ++ three_quotes))
quotes_seen byte xs tail = (let long = long_enough byte xs in starts_with-front three_quotes (byte ∷ (xs ++ three_quotes)) tail (omega arith))

escape_seen : (byte : ℕ) (xs tail : List ℕ) → starts_with nat_eq (byte ∷ ((xs ++ three_quotes) ++ tail)) escaped_quotes ≡ starts_with nat_eq (byte ∷ (xs ++ three_quotes)) escaped_quotes
escape_seen byte xs tail = (let long = long_enough byte xs in starts_with-front escaped_quotes (byte ∷ (xs ++ three_quotes)) tail (omega arith))

-- ---- pieces are passed

record IsFound (text rest : List ℕ) : Type 0 where
  pub more : ℕ
  pub found : block_item (text ++ rest) ≡ Some more
  pub long : length text ≡ suc more

block_found : (p : Piece) (xs tail : List ℕ) → IsBlockPiece p (xs ++ three_quotes) → IsFound p.text ((xs ++ three_quotes) ++ tail)
block_found p xs tail (inl is) = record { more = 3; found = ap (λ (ys : List ℕ). block_item (ys ++ ((xs ++ three_quotes) ++ tail))) is.0; long = ap length is.0 }
block_found p xs tail (inr is) =
    let byte = is.0 in
    record {
      more = 0;
      found =
          ap (λ (ys : List ℕ). block_item (ys ++ ((xs ++ three_quotes) ++ tail))) is.2.0
          ∙ cond-false (begins_quotes (byte ∷ ((xs ++ three_quotes) ++ tail))) _ _ (quotes_seen byte xs tail ∙ is.1.no_quotes)
          ∙ cond-false (starts_with nat_eq (byte ∷ ((xs ++ three_quotes) ++ tail)) escaped_quotes) _ _ (escape_seen byte xs tail ∙ is.1.no_escape);
      long = ap length is.2.0;
    }

block_passes : (p : Piece) (xs tail : List ℕ) → IsBlockPiece p (xs ++ three_quotes) → block_run (p.text ++ ((xs ++ three_quotes) ++ tail)) ≡ length p.text + block_run ((xs ++ three_quotes) ++ tail)
unfolding block_run
block_passes p xs tail is = (let f = block_found p xs tail is in run_len-piece BlockItems p.text ((xs ++ three_quotes) ++ tail) f.more f.found f.long)

-- a text with three quotes behind it, and then more
closed : (p : Piece) (xs tail : List ℕ) → ((p.text ++ xs) ++ three_quotes) ++ tail ≡ p.text ++ ((xs ++ three_quotes) ++ tail)
closed p xs tail = ap (λ (ys : List ℕ). ys ++ tail) (append_assoc p.text xs three_quotes) ∙ append_assoc p.text (xs ++ three_quotes) tail

-- all pieces are counted, up to three quotes
pieces_pass : (pieces : List Piece) (tail : List ℕ) → AreBlockPieces pieces → block_run ((texts pieces ++ three_quotes) ++ tail) ≡ length (texts pieces)
unfolding block_run
pieces_pass [] tail are = refl
pieces_pass (p ∷ ps) tail are =
    let first = block_passes p (texts ps) tail are.0 in
    let more = pieces_pass ps tail are.1 in
    ap block_run (closed p (texts ps) tail) ∙ first ∙ omega (arith, more, length-append p.text (texts ps))

abbrev allowed : ℕ → Bool
allowed byte = not (is_forbidden byte)

piece_allowed : (p : Piece) (rest behind : List ℕ) → IsBlockPiece p behind → Each allowed rest → Each allowed (p.text ++ rest)
piece_allowed p rest behind (inl is) others = subst (λ (xs : List ℕ). Each allowed (xs ++ rest)) (sym is.0) (refl, (refl, (refl, (refl, others))))
piece_allowed p rest behind (inr is) others = subst (λ (xs : List ℕ). Each allowed (xs ++ rest)) (sym is.2.0) (not_from_false (is_forbidden is.0) is.1.allowed, others)

pieces_allowed : (pieces : List Piece) → AreBlockPieces pieces → Each allowed (texts pieces)
pieces_allowed [] are = tt
pieces_allowed (p ∷ ps) are = piece_allowed p (texts ps) (texts ps ++ three_quotes) are.0 (pieces_allowed ps are.1)

all_allowed : (xs : List ℕ) → Each allowed xs → allowed_len xs ≡ length xs
all_allowed xs each = ap allowed_len (sym (append-nil xs)) ∙ prefix_len-Each allowed xs [] each ∙ omega arith

-- ---- the whole string

block_of : List ℕ → ℕ → Found
block_of text n = if starts_with nat_eq (drop n text) (34 ∷ 34 ∷ 34 ∷ []) then closed_block (take n text) else Wrong fault.Open 0

front-block : (content tail : List ℕ) → block_run ((content ++ three_quotes) ++ tail) ≡ length content → allowed_len content ≡ length content
    → front (three_quotes ++ ((content ++ three_quotes) ++ tail)) ≡ Some (Token kind.Block (length content + 6))
unfolding block_of block_run
front-block content tail goes sound =
    let text = (content ++ three_quotes) ++ tail in
    let whole : text ≡ content ++ (three_quotes ++ tail) = append_assoc content three_quotes tail in
    let behind : drop (length content) text ≡ three_quotes ++ tail = ap (drop (length content)) whole ∙ drop_at content (three_quotes ++ tail) (length content) refl in
    let inside : take (length content) text ≡ content = ap (take (length content)) whole ∙ take_at content (three_quotes ++ tail) (length content) refl in
    ap Some (
    ap (block_of text) goes
    ∙ ap (λ (xs : List ℕ). if starts_with nat_eq xs (34 ∷ 34 ∷ 34 ∷ []) then closed_block (take (length content) text) else Wrong fault.Open 0) behind
    ∙ ap closed_block inside
    ∙ cond-true (allowed_len content == length content) _ _ (eq-eqb (allowed_len content) (length content) sound))

-- a block string at the front is found
pub front-block_text : (token rest raw : List ℕ) → IsBlock token raw → front (token ++ rest) ≡ Some (Token kind.Block (length token))
front-block_text token rest raw is =
    let content = is.content in
    let m = is.means in
    let whole : token ++ rest ≡ three_quotes ++ ((content ++ three_quotes) ++ rest) = ap (λ (xs : List ℕ). xs ++ rest) is.token_is in
    let goes : block_run ((content ++ three_quotes) ++ rest) ≡ length content =
    ap (λ (xs : List ℕ). block_run ((xs ++ three_quotes) ++ rest)) m.content_is ∙ pieces_pass m.pieces rest m.right ∙ ap length (sym m.content_is) in
    let sound : allowed_len content ≡ length content = all_allowed content (subst (Each allowed) (sym m.content_is) (pieces_allowed m.pieces m.right)) in
    let long : length content + 6 ≡ length token = (let at = ap length is.token_is in omega (arith, at, length-append content three_quotes)) in
    ap front whole ∙ front-block content rest goes sound ∙ ap (λ n. Some (Token kind.Block n)) long

-- ---- what is passed are pieces

-- the next piece of a content, which three quotes follow, and what is left of the content
record HasPiece (content : List ℕ) : Type 0 where
  pub piece : Piece
  pub left : List ℕ
  pub is : IsBlockPiece piece (left ++ three_quotes)
  pub whole : content ≡ piece.text ++ left
  pub some : 0 < length piece.text

-- four bytes that are counted at once
escape_piece : (content tail : List ℕ) → starts_with nat_eq ((content ++ three_quotes) ++ tail) escaped_quotes ≡ true → 4 ≤ length content → HasPiece content
escape_piece content tail begins long =
    let text = (content ++ three_quotes) ++ tail in
    let same : take 4 text ≡ escaped_quotes = ap (take 4) (starts_split escaped_quotes text begins) in
    let within : 4 ≤ length (content ++ three_quotes) = omega (arith, long, length-append content three_quotes) in
    let first : take 4 content ≡ escaped_quotes = sym (take-append-le 4 (content ++ three_quotes) tail within ∙ take-append-le 4 content three_quotes long) ∙ same in
    record {
      piece = record { text = escaped_quotes; value = three_quotes };
      left = drop 4 content;
      is = inl (refl, refl);
      whole = sym (take-append-drop 4 content) ∙ ap (λ (xs : List ℕ). xs ++ drop 4 content) first;
      some = omega arith;
    }

byte_piece : (byte : ℕ) (rest tail : List ℕ) → begins_quotes (byte ∷ ((rest ++ three_quotes) ++ tail)) ≡ false → starts_with nat_eq (byte ∷ ((rest ++ three_quotes) ++ tail)) escaped_quotes ≡ false → allowed byte ≡ true → HasPiece (byte ∷ rest)
byte_piece byte rest tail no_quotes no_escape may = record {
  piece = record { text = byte ∷ []; value = byte ∷ [] };
  left = rest;
  is = inr (byte, record { allowed = not-true (is_forbidden byte) may; no_quotes = sym (quotes_seen byte rest tail) ∙ no_quotes; no_escape = sym (escape_seen byte rest tail) ∙ no_escape }, (refl, refl));
  whole = refl;
  some = omega arith;
}

four_counted : (byte n : ℕ) (rest : List ℕ) → begins_quotes (byte ∷ rest) ≡ false → starts_with nat_eq (byte ∷ rest) escaped_quotes ≡ true → block_run (byte ∷ rest) ≡ n → 4 ≤ n
unfolding block_run
four_counted byte n rest no_quotes begins counted =
    let is : block_item (byte ∷ rest) ≡ Some 3 = cond-false (begins_quotes (byte ∷ rest)) _ _ no_quotes ∙ cond-true (starts_with nat_eq (byte ∷ rest) escaped_quotes) _ _ begins in
    let split = starts_split escaped_quotes (byte ∷ rest) begins in
    let four = ap block_run split ∙ run_len-piece BlockItems escaped_quotes (drop 4 (byte ∷ rest)) 3 (sym (ap block_item split) ∙ is) refl in
    omega (arith, four, counted)

next_piece : (byte : ℕ) (rest tail : List ℕ) (quotes escapes : Bool) → begins_quotes (byte ∷ ((rest ++ three_quotes) ++ tail)) ≡ quotes → starts_with nat_eq (byte ∷ ((rest ++ three_quotes) ++ tail)) escaped_quotes ≡ escapes
    → block_run (byte ∷ ((rest ++ three_quotes) ++ tail)) ≡ suc (length rest) → allowed byte ≡ true → HasPiece (byte ∷ rest)
unfolding block_run
next_piece byte rest tail true escapes is_quotes is_escape counted may =
    let none = run_len-none BlockItems (byte ∷ ((rest ++ three_quotes) ++ tail)) (cond-true (begins_quotes (byte ∷ ((rest ++ three_quotes) ++ tail))) _ _ is_quotes) in
    absurd (omega (arith, none, counted))
next_piece byte rest tail false true is_quotes is_escape counted may = escape_piece (byte ∷ rest) tail is_escape (four_counted byte (suc (length rest)) ((rest ++ three_quotes) ++ tail) is_quotes is_escape counted)
next_piece byte rest tail false false is_quotes is_escape counted may = byte_piece byte rest tail is_quotes is_escape may

abbrev HasPieces : List ℕ → Type 0
HasPieces content = (pieces : List Piece) × AreBlockPieces pieces × (content ≡ texts pieces)

Each-behind : (test : ℕ → Bool) (xs ys : List ℕ) → Each test (xs ++ ys) → Each test ys
Each-behind test [] ys each = each
Each-behind test (x ∷ xs) ys each = Each-behind test xs ys each.1

-- the lexer counts the content, up to three quotes, and all of it may stand
record IsCounted (content tail : List ℕ) : Type 0 where
  pub goes : block_run ((content ++ three_quotes) ++ tail) ≡ length content
  pub each : Each allowed content

-- so it does what is left of it behind a piece
behind_piece : (content left tail : List ℕ) (p : Piece) → IsBlockPiece p (left ++ three_quotes) → content ≡ p.text ++ left → 0 < length p.text → IsCounted content tail → IsCounted left tail × (length left < length content)
behind_piece content left tail p is whole some counted =
    let goes = counted.goes in
    let long = ap length whole in
    let parts = length-append p.text left in
    let first = ap (λ (xs : List ℕ). block_run ((xs ++ three_quotes) ++ tail)) whole ∙ ap block_run (closed p left tail) ∙ block_passes p left tail is in
    (record { goes = omega (arith, goes, first, long, parts); each = Each-behind allowed p.text left (subst (Each allowed) whole counted.each) }, omega (arith, some, long, parts))

abbrev Later : List ℕ → List ℕ → Type 0
Later content tail = (left : List ℕ) → length left < length content → IsCounted left tail → HasPieces left

more_pieces : (content tail : List ℕ) → HasPiece content → IsCounted content tail → Later content tail → HasPieces content
more_pieces content tail one counted later =
    let behind = behind_piece content one.left tail one.piece one.is one.whole one.some counted in
    let others = later one.left behind.1 behind.0 in
    (one.piece ∷ others.0, (subst (λ (xs : List ℕ). IsBlockPiece one.piece (xs ++ three_quotes)) others.2 one.is, others.1), one.whole ∙ ap (λ (xs : List ℕ). one.piece.text ++ xs) others.2)

has_pieces : (bound : ℕ) (content tail : List ℕ) → length content ≤ bound → IsCounted content tail → HasPieces content
has_pieces bound [] tail within counted = ([], tt, refl)
has_pieces zero (byte ∷ rest) tail within counted = absurd (omega arith)
has_pieces (suc bound) (byte ∷ rest) tail within counted =
    more_pieces (byte ∷ rest) tail (next_piece byte rest tail _ _ refl refl counted.goes counted.each.0) counted (λ left shorter. has_pieces bound left tail (omega (arith, shorter, within)))

counted_allowed : (xs : List ℕ) → allowed_len xs ≡ length xs → Each allowed xs
counted_allowed xs is = subst (Each allowed) (ap (λ n. take n xs) is ∙ take_all (length xs) xs (omega arith)) (Each-prefix_len allowed xs)

-- what is allowed, and goes on to three quotes, is a content
pub block_content-is : (content tail : List ℕ) → run_len BlockItems 0 ((content ++ three_quotes) ++ tail) ≡ length content → allowed_len content ≡ length content → (raw : List ℕ) × IsBlockContent content raw
unfolding block_run
block_content-is content tail goes sound =
    let p = has_pieces (length content) content tail (omega arith) (record { goes = goes; each = counted_allowed content sound }) in
    (values p.0, record { pieces = p.0; right = p.1; content_is = p.2; raw_is = refl })

-- ---- one raw text

raw_of : List ℕ → List ℕ
raw_of (x ∷ []) = x ∷ []
raw_of _ = three_quotes

piece_raw : (p : Piece) (behind : List ℕ) → IsBlockPiece p behind → p.value ≡ raw_of p.text
unfolding raw_of
piece_raw p behind (inl is) = is.1 ∙ sym (ap raw_of is.0)
piece_raw p behind (inr is) = is.2.1 ∙ sym (ap raw_of is.2.0)

same_values : (ps qs : List Piece) → AreBlockPieces ps → AreBlockPieces qs → texts ps ≡ texts qs → values ps ≡ values qs
same_values [] [] are these same = refl
same_values [] (q ∷ qs) are these same = (let f = block_found q (texts qs) [] these.0 in let some = f.long in let long = ap length same in absurd (omega (arith, some, long, length-append q.text (texts qs))))
same_values (p ∷ ps) [] are these same = (let f = block_found p (texts ps) [] are.0 in let some = f.long in let long = ap length same in absurd (omega (arith, some, long, length-append p.text (texts ps))))
same_values (p ∷ ps) (q ∷ qs) are these same =
    let f = block_found p (texts ps) [] are.0 in
    let g = block_found q (texts qs) [] these.0 in
    let found = sym f.found ∙ ap block_item (sym (closed p (texts ps) []) ∙ ap (λ (xs : List ℕ). (xs ++ three_quotes) ++ []) same ∙ closed q (texts qs) []) ∙ g.found in
    let counts : f.more ≡ g.more = cc in
    let first_long = f.long in
    let second_long = g.long in
    let both = same_front p.text q.text (texts ps) (texts qs) (omega (arith, counts, first_long, second_long)) same in
    (λ i. (piece_raw p _ are.0 ∙ ap raw_of both.0 ∙ sym (piece_raw q _ these.0)) i ++ same_values ps qs are.1 these.1 both.1 i)

-- a block string has one raw text
pub block-one : (token v w : List ℕ) → IsBlock token v → IsBlock token w → v ≡ w
block-one token v w a b =
    let inner : a.content ++ three_quotes ≡ b.content ++ three_quotes = append_cancel_left three_quotes _ _ (sym a.token_is ∙ b.token_is) in
    let m = a.means in
    let n = b.means in
    m.raw_is ∙ same_values m.pieces n.pieces m.right n.right (sym m.content_is ∙ append_cancel_right a.content b.content three_quotes inner ∙ n.content_is) ∙ sym n.raw_is
