-- The quoted strings that the lexer finds are those of the standard, and each means one value.
use Rattle.std.proofs.Common.{◌≡◌, ℕ, zero, suc, ◌+◌, ◌<◌, ◌≤◌, ◌==◌, inl, inr, Bool, true, false, ◌&&◌, ◌||◌, List, [], ◌∷◌, ◌++◌, length, take, drop, Option, Some, None, refl, ap, sym, ◌∙◌, subst, append_assoc, length-append, arith}
use Rattle.std.specs.Prelude.{if◌then◌else◌}
use Rattle.std.specs.List.{AllByRecursion}
use Rattle.std.specs.Char.{is_ascii_hexdigit, encode_utf8}
use Rattle.std.specs.Char.Utf16.{surrogate_pair_char}
use Rattle.std.specs.Option.{unwrap_or}
use Rattle.std.proofs.lemmas.Bool.{cond-true, cond-false, not-true, not_from_false, or_parts, or_from, eqb-true}
use Rattle.std.proofs.lemmas.List.{drop_at, take_at, take-append-drop, append-nil, append_cancel_right}
use Rattle.gql_lex.specs.declared.run.Pieces.{Pieces}
use Rattle.gql_lex.specs.declared.run.Pieces.TheVariants.{QuotedItems, SoundItems}
use Rattle.gql_lex.specs.declared.scan.Found.TheVariants.{Token}
use Rattle.gql_lex.specs.declared.token.TokenKind.TheVariants as kind
use Rattle.gql_lex.specs.Classes.{is_line_end, is_forbidden}
use Rattle.gql_lex.specs.Longest.{Each}
use Rattle.gql_lex.specs.Runs.{goes_on_in_line, escape, sound_item, piece, run_len}
use Rattle.gql_lex.specs.Front.{front}
use Rattle.gql_lex.specs.StringTexts.{simple_escape, spelled, Spells, IsEscape, Piece, texts, values, is_plain, IsQuotedPiece, IsQuotedContent, IsQuoted, begins_quotes}
use Rattle.gql_lex.proofs.Contents.{quoted_run, sound_run, front-quoted}
use Rattle.gql_lex.proofs.Escapes.{by_simple, at_digits, escape-passes, escape-is}
use Rattle.gql_lex.proofs.Runs.{run_len-more, run_len-none}

-- a piece at the front is counted, and then what follows it
pub run_len-piece : (pieces : Pieces) (xs rest : List ℕ) (more : ℕ) → piece pieces (xs ++ rest) ≡ Some more → length xs ≡ suc more → run_len pieces 0 (xs ++ rest) ≡ length xs + run_len pieces 0 rest
run_len-piece pieces xs rest more is long =
    let same : length xs ≡ more + 1 = omega (arith, long) in
    run_len-more pieces (xs ++ rest) more is (omega (arith, long, length-append xs rest))
    ∙ ap (λ (ys : List ℕ). (more + 1) + run_len pieces 0 ys) (drop_at xs rest (more + 1) same)
    ∙ ap (λ n. n + run_len pieces 0 rest) (sym same)

-- ---- pieces are passed

pub record IsPlainByte (byte : ℕ) : Type 0 where
  pub no_quote : (byte == 34) ≡ false
  pub no_backslash : (byte == 92) ≡ false
  pub no_line_end : is_line_end byte ≡ false
  pub allowed : is_forbidden byte ≡ false

pub plain_byte : (byte : ℕ) → is_plain byte ≡ true → IsPlainByte byte
plain_byte byte is =
    let one = or_parts (byte == 34) _ (not-true _ is) in
    let two = or_parts (byte == 92) _ one.1 in
    let three = or_parts (is_line_end byte) (is_forbidden byte) two.1 in
    record { no_quote = one.0; no_backslash = two.0; no_line_end = three.0; allowed = three.1 }

-- right pieces, as the lexer passes them
record IsFound (text rest : List ℕ) : Type 0 where
  pub more : ℕ
  pub found : sound_item (text ++ rest) ≡ Some more
  pub long : length text ≡ suc more

sound_found : (p : Piece) (rest : List ℕ) → IsQuotedPiece p → IsFound p.text rest
sound_found p rest (inl is) =
    let byte = is.0 in
    let plain = plain_byte byte is.1 in
    record {
      more = 0;
      found = ap (λ (xs : List ℕ). sound_item (xs ++ rest)) is.2.0 ∙ cond-false (byte == 92) _ _ plain.no_backslash ∙ cond-false (is_forbidden byte) _ _ plain.allowed;
      long = ap length is.2.0;
    }
sound_found p rest (inr is) =
    let passes = escape-passes p.text rest is.0 is.1 in
    record { more = length passes.behind; found = ap (λ (xs : List ℕ). sound_item (xs ++ rest)) passes.text_is ∙ passes.passes; long = ap length passes.text_is }

sound_passes : (p : Piece) (rest : List ℕ) → IsQuotedPiece p → sound_run (p.text ++ rest) ≡ length p.text + sound_run rest
sound_passes p rest is = (let f = sound_found p rest is in run_len-piece SoundItems p.text rest f.more f.found f.long)

plain_passes : (byte : ℕ) (rest : List ℕ) → is_plain byte ≡ true → quoted_run (byte ∷ rest) ≡ 1 + quoted_run rest
plain_passes byte rest is =
    let plain = plain_byte byte is in
    let stays : byte == 92 && goes_on_in_line rest ≡ false = ap (λ b. b && goes_on_in_line rest) plain.no_backslash in
    run_len-piece QuotedItems (byte ∷ []) rest 0 (cond-false (byte == 34 || is_line_end byte) _ _ (or_from _ _ plain.no_quote plain.no_line_end) ∙ cond-false (byte == 92 && goes_on_in_line rest) _ _ stays) refl

digit_plain : (x : ℕ) → is_ascii_hexdigit x ≡ true → is_plain x ≡ true
digit_plain = at_digits is_plain (λ x. true) refl

digits_pass : (digits rest : List ℕ) (n : ℕ) → Spells digits n → quoted_run (digits ++ rest) ≡ length digits + quoted_run rest
digits_pass digits rest n is =
    let are = subst (Each is_ascii_hexdigit) is.text_is is.digits in
    let first = plain_passes is.a (is.b ∷ is.c ∷ is.d ∷ rest) (digit_plain is.a are.0) in
    let second = plain_passes is.b (is.c ∷ is.d ∷ rest) (digit_plain is.b are.1.0) in
    let third = plain_passes is.c (is.d ∷ rest) (digit_plain is.c are.1.1.0) in
    let fourth = plain_passes is.d rest (digit_plain is.d are.1.1.1.0) in
    ap (λ (xs : List ℕ). quoted_run (xs ++ rest)) is.text_is
    ∙ (let e : quoted_run (is.a ∷ is.b ∷ is.c ∷ is.d ∷ rest) ≡ 4 + quoted_run rest = omega (arith, first, second, third, fourth) in e)
    ∙ ap (λ (xs : List ℕ). length xs + quoted_run rest) (sym is.text_is)

simple_runs : (byte c : ℕ) → simple_escape byte ≡ Some c → (rest : List ℕ) → quoted_run (92 ∷ byte ∷ rest) ≡ 2 + quoted_run rest
simple_runs = by_simple (λ byte c. (rest : List ℕ) → quoted_run (92 ∷ byte ∷ rest) ≡ 2 + quoted_run rest)
    (λ rest. omega arith) (λ rest. omega arith) (λ rest. omega arith) (λ rest. omega arith) (λ rest. omega arith) (λ rest. omega arith) (λ rest. omega arith) (λ rest. omega arith)

unicode_runs : (rest : List ℕ) → quoted_run (92 ∷ 117 ∷ rest) ≡ 2 + quoted_run rest
unicode_runs rest = omega arith

escape_runs : (text rest : List ℕ) (c : ℕ) → IsEscape text c → quoted_run (text ++ rest) ≡ length text + quoted_run rest
escape_runs text rest c (inl is) =
    ap (λ (xs : List ℕ). quoted_run (xs ++ rest)) is.text_is ∙ simple_runs is.byte c is.character_is rest ∙ ap (λ (xs : List ℕ). length xs + quoted_run rest) (sym is.text_is)
escape_runs text rest c (inr (inl is)) =
    let first = unicode_runs (is.digits ++ rest) in
    let second = digits_pass is.digits rest c is.spells in
    ap (λ (xs : List ℕ). quoted_run (xs ++ rest)) is.text_is
    ∙ (let e : quoted_run (92 ∷ 117 ∷ (is.digits ++ rest)) ≡ length (92 ∷ 117 ∷ is.digits) + quoted_run rest = omega (arith, first, second) in e)
    ∙ ap (λ (xs : List ℕ). length xs + quoted_run rest) (sym is.text_is)
escape_runs text rest c (inr (inr is)) =
    let low_text = 92 ∷ 117 ∷ (is.more_digits ++ rest) in
    let first = unicode_runs (is.digits ++ low_text) in
    let second = digits_pass is.digits low_text is.high is.spells_high in
    let third = unicode_runs (is.more_digits ++ rest) in
    let fourth = digits_pass is.more_digits rest is.low is.spells_low in
    ap (λ (xs : List ℕ). quoted_run (xs ++ rest)) is.text_is
    ∙ ap (λ (xs : List ℕ). quoted_run (92 ∷ 117 ∷ xs)) (append_assoc is.digits (92 ∷ 117 ∷ is.more_digits) rest)
    ∙ (let e : quoted_run (92 ∷ 117 ∷ (is.digits ++ low_text)) ≡ length (92 ∷ 117 ∷ (is.digits ++ 92 ∷ 117 ∷ is.more_digits)) + quoted_run rest =
    omega (arith, first, second, third, fourth, length-append is.digits (92 ∷ 117 ∷ is.more_digits)) in e)
    ∙ ap (λ (xs : List ℕ). length xs + quoted_run rest) (sym is.text_is)

quoted_passes : (p : Piece) (rest : List ℕ) → IsQuotedPiece p → quoted_run (p.text ++ rest) ≡ length p.text + quoted_run rest
quoted_passes p rest (inl is) = ap (λ (xs : List ℕ). quoted_run (xs ++ rest)) is.2.0 ∙ plain_passes is.0 rest is.1 ∙ ap (λ (xs : List ℕ). length xs + quoted_run rest) (sym is.2.0)
quoted_passes p rest (inr is) = escape_runs p.text rest is.0 is.1

-- all pieces are counted, where each is
pieces_pass : (run : List ℕ → ℕ) → ((p : Piece) (rest : List ℕ) → IsQuotedPiece p → run (p.text ++ rest) ≡ length p.text + run rest)
    → (pieces : List Piece) (rest : List ℕ) → AllByRecursion IsQuotedPiece pieces → run (texts pieces ++ rest) ≡ length (texts pieces) + run rest
pieces_pass run passes [] rest are = omega arith
pieces_pass run passes (p ∷ ps) rest are =
    let first = passes p (texts ps ++ rest) are.0 in
    let more = pieces_pass run passes ps rest are.1 in
    ap run (append_assoc p.text (texts ps) rest) ∙ omega (arith, first, more, length-append p.text (texts ps))

-- a quoted string at the front is found, where it isn't the front of three quotes
pub front-quoted_text : (token rest value : List ℕ) → IsQuoted token value → begins_quotes (token ++ rest) ≡ false → front (token ++ rest) ≡ Some (Token kind.Quoted (length token))
front-quoted_text token rest value is single =
    let content = is.content in
    let m = is.means in
    let text = content ++ 34 ∷ rest in
    let whole : token ++ rest ≡ 34 ∷ text = ap (λ (xs : List ℕ). xs ++ rest) is.token_is ∙ ap (λ (xs : List ℕ). 34 ∷ xs) (append_assoc content (34 ∷ []) rest) in
    let goes : quoted_run text ≡ length content =
    ap (λ (xs : List ℕ). quoted_run (xs ++ 34 ∷ rest)) m.content_is ∙ pieces_pass quoted_run quoted_passes m.pieces (34 ∷ rest) m.right
    ∙ ap (λ (xs : List ℕ). length xs + quoted_run (34 ∷ rest)) (sym m.content_is) ∙ omega arith in
    let sound : sound_run content ≡ length content =
    ap sound_run (m.content_is ∙ sym (append-nil (texts m.pieces))) ∙ pieces_pass sound_run sound_passes m.pieces [] m.right
    ∙ ap (λ (xs : List ℕ). length xs + 0) (sym m.content_is) ∙ omega arith in
    let long : length content + 2 ≡ length token = (let at = ap length is.token_is in omega (arith, at, length-append content (34 ∷ []))) in
    ap front whole
    ∙ front-quoted content rest goes sound (sym (ap begins_quotes whole) ∙ single)
    ∙ ap (λ n. Some (Token kind.Quoted n)) long

-- ---- what is passed are pieces

-- a piece at the front of a text
record HasPiece (text : List ℕ) (more : ℕ) : Type 0 where
  pub piece : Piece
  pub is : IsQuotedPiece piece
  pub text_is : piece.text ≡ take (suc more) text

plain_from : (byte : ℕ) → byte == 34 || is_line_end byte ≡ false → (byte == 92) ≡ false → is_forbidden byte ≡ false → is_plain byte ≡ true
plain_from byte inside no_backslash allowed =
    let one = or_parts (byte == 34) (is_line_end byte) inside in
    not_from_false _ (or_from _ _ one.0 (or_from _ _ no_backslash (or_from _ _ one.1 allowed)))

plain_piece : (byte : ℕ) (rest : List ℕ) (more : ℕ) → byte == 34 || is_line_end byte ≡ false → (byte == 92) ≡ false → (b : Bool) → is_forbidden byte ≡ b → (if b then None else Some 0) ≡ Some more → HasPiece (byte ∷ rest) more
plain_piece byte rest more inside no_backslash true e is = absurd (cc)
plain_piece byte rest more inside no_backslash false e is =
    subst (HasPiece (byte ∷ rest)) (let same : 0 ≡ more = cc in same) (record {
      piece = record { text = byte ∷ []; value = byte ∷ [] };
      is = inl (byte, plain_from byte inside no_backslash e, (refl, refl));
      text_is = refl;
    })

has_piece : (byte : ℕ) (rest : List ℕ) (more : ℕ) → byte == 34 || is_line_end byte ≡ false → (b : Bool) → (byte == 92) ≡ b → (if b then escape rest else (if is_forbidden byte then None else Some 0)) ≡ Some more → HasPiece (byte ∷ rest) more
has_piece byte rest more inside false e is = plain_piece byte rest more inside e (is_forbidden byte) refl is
has_piece byte rest more inside true e is =
    let one = escape-is rest more is in
    record {
      piece = record { text = 92 ∷ take more rest; value = encode_utf8 one.character };
      is = inr (one.character, one.is_escape, refl);
      text_is = ap (λ x. x ∷ take more rest) (sym (eqb-true byte 92 e));
    }

-- a content in which something is counted begins with no quote and no line end
inside_by : (byte n : ℕ) (rest : List ℕ) (b : Bool) → byte == 34 || is_line_end byte ≡ b → quoted_run (byte ∷ rest) ≡ suc n → b ≡ false
inside_by byte n rest false e counted = refl
inside_by byte n rest true e counted = (let none = run_len-none QuotedItems (byte ∷ rest) (cond-true (byte == 34 || is_line_end byte) _ _ e) in absurd (omega (arith, none, counted)))

abbrev HasPieces : List ℕ → Type 0
HasPieces content = (pieces : List Piece) × AllByRecursion IsQuotedPiece pieces × (content ≡ texts pieces)

-- the lexer counts the content, up to a quote, and finds all of it right
record IsCounted (content tail : List ℕ) : Type 0 where
  pub goes : quoted_run (content ++ 34 ∷ tail) ≡ length content
  pub sound : sound_run content ≡ length content

-- so it does what is left of it behind a piece
behind_piece : (content left tail : List ℕ) (p : Piece) → IsQuotedPiece p → content ≡ p.text ++ left → IsCounted content tail → IsCounted left tail × (length left < length content)
behind_piece content left tail p is whole counted =
    let goes = counted.goes in
    let sound = counted.sound in
    let some = (sound_found p left is).long in
    let long = ap length whole in
    let parts = length-append p.text left in
    let sound_first = ap sound_run whole ∙ sound_passes p left is in
    let goes_first = ap (λ (xs : List ℕ). quoted_run (xs ++ 34 ∷ tail)) whole ∙ ap quoted_run (append_assoc p.text left (34 ∷ tail)) ∙ quoted_passes p (left ++ 34 ∷ tail) is in
    (record { goes = omega (arith, goes, goes_first, long, parts); sound = omega (arith, sound, sound_first, long, parts) }, omega (arith, some, long, parts))

abbrev Later : List ℕ → List ℕ → Type 0
Later content tail = (left : List ℕ) → length left < length content → IsCounted left tail → HasPieces left

more_pieces : (content left tail : List ℕ) (p : Piece) → IsQuotedPiece p → content ≡ p.text ++ left → IsCounted content tail → Later content tail → HasPieces content
more_pieces content left tail p is whole counted later =
    let behind = behind_piece content left tail p is whole counted in
    let others = later left behind.1 behind.0 in
    (p ∷ others.0, (is, others.1), whole ∙ ap (λ (xs : List ℕ). p.text ++ xs) others.2)

after_piece : (content tail : List ℕ) (more : ℕ) → HasPiece content more → IsCounted content tail → Later content tail → HasPieces content
after_piece content tail more one counted later =
    let left = drop (suc more) content in
    more_pieces content left tail one.piece one.is (sym (ap (λ (xs : List ℕ). xs ++ left) one.text_is ∙ take-append-drop (suc more) content)) counted later

by_item : (byte : ℕ) (rest tail : List ℕ) (item : Option ℕ) → sound_item (byte ∷ rest) ≡ item → IsCounted (byte ∷ rest) tail → Later (byte ∷ rest) tail → HasPieces (byte ∷ rest)
by_item byte rest tail None is counted later = (let none = run_len-none SoundItems (byte ∷ rest) is in let sound = counted.sound in absurd (omega (arith, none, sound)))
by_item byte rest tail (Some more) is counted later =
    let inside = inside_by byte (length rest) (rest ++ 34 ∷ tail) (byte == 34 || is_line_end byte) refl counted.goes in
    after_piece (byte ∷ rest) tail more (has_piece byte rest more inside (byte == 92) refl is) counted later

has_pieces : (bound : ℕ) (content tail : List ℕ) → length content ≤ bound → IsCounted content tail → HasPieces content
has_pieces bound [] tail within counted = ([], tt, refl)
has_pieces zero (byte ∷ rest) tail within counted = absurd (omega arith)
has_pieces (suc bound) (byte ∷ rest) tail within counted = by_item byte rest tail (sound_item (byte ∷ rest)) refl counted (λ left shorter. has_pieces bound left tail (omega (arith, shorter, within)))

-- what is right, and goes on to a quote, is a content
pub quoted_content-is : (content tail : List ℕ) → quoted_run (content ++ 34 ∷ tail) ≡ length content → sound_run content ≡ length content → (value : List ℕ) × IsQuotedContent content value
quoted_content-is content tail goes sound =
    let p = has_pieces (length content) content tail (omega arith) (record { goes = goes; sound = sound }) in
    (values p.0, record { pieces = p.0; right = p.1; content_is = p.2; value_is = refl })

-- ---- one value

meaning : List ℕ → List ℕ
meaning (x ∷ []) = x ∷ []
meaning (x ∷ y ∷ []) = encode_utf8 (unwrap_or (simple_escape y) 0)
meaning (x ∷ y ∷ a ∷ b ∷ c ∷ d ∷ []) = encode_utf8 (spelled a b c d)
meaning (x ∷ y ∷ a ∷ b ∷ c ∷ d ∷ z ∷ w ∷ e ∷ f ∷ g ∷ h ∷ []) = encode_utf8 (surrogate_pair_char (spelled a b c d) (spelled e f g h))
meaning _ = []

escape_meaning : (text : List ℕ) (c : ℕ) → IsEscape text c → encode_utf8 c ≡ meaning text
unfolding meaning
escape_meaning text c (inl is) = sym (ap meaning is.text_is ∙ ap (λ (o : Option ℕ). encode_utf8 (unwrap_or o 0)) is.character_is)
escape_meaning text c (inr (inl is)) = sym (ap meaning (is.text_is ∙ ap (λ (xs : List ℕ). 92 ∷ 117 ∷ xs) is.spells.text_is) ∙ ap encode_utf8 (sym is.spells.number_is))
escape_meaning text c (inr (inr is)) =
    let s = is.spells_high in
    let t = is.spells_low in
    sym (ap meaning (is.text_is ∙ (λ i. 92 ∷ 117 ∷ (s.text_is i ++ 92 ∷ 117 ∷ t.text_is i)))
    ∙ (λ i. encode_utf8 (surrogate_pair_char (sym s.number_is i) (sym t.number_is i)))
    ∙ ap encode_utf8 (sym is.character_is))

piece_meaning : (p : Piece) → IsQuotedPiece p → p.value ≡ meaning p.text
unfolding meaning
piece_meaning p (inl is) = is.2.1 ∙ sym (ap meaning is.2.0)
piece_meaning p (inr is) = is.2 ∙ escape_meaning p.text is.0 is.1

-- two fronts of a text that are as long are one
pub same_front : (xs ys vs ws : List ℕ) → length xs ≡ length ys → xs ++ vs ≡ ys ++ ws → (xs ≡ ys) × (vs ≡ ws)
same_front xs ys vs ws long same = (
  sym (take_at xs vs (length xs) refl) ∙ ap (take (length xs)) same ∙ take_at ys ws (length xs) (sym long),
  sym (drop_at xs vs (length xs) refl) ∙ ap (drop (length xs)) same ∙ drop_at ys ws (length xs) (sym long),
)

same_values : (ps qs : List Piece) → AllByRecursion IsQuotedPiece ps → AllByRecursion IsQuotedPiece qs → texts ps ≡ texts qs → values ps ≡ values qs
same_values [] [] are these same = refl
same_values [] (q ∷ qs) are these same = (let f = sound_found q (texts qs) these.0 in let some = f.long in let long = ap length same in absurd (omega (arith, some, long, length-append q.text (texts qs))))
same_values (p ∷ ps) [] are these same = (let f = sound_found p (texts ps) are.0 in let some = f.long in let long = ap length same in absurd (omega (arith, some, long, length-append p.text (texts ps))))
same_values (p ∷ ps) (q ∷ qs) are these same =
    let f = sound_found p (texts ps) are.0 in
    let g = sound_found q (texts qs) these.0 in
    let found = sym f.found ∙ ap sound_item same ∙ g.found in
    let counts : f.more ≡ g.more = cc in
    let first_long = f.long in
    let second_long = g.long in
    let both = same_front p.text q.text (texts ps) (texts qs) (omega (arith, counts, first_long, second_long)) same in
    (λ i. (piece_meaning p are.0 ∙ ap meaning both.0 ∙ sym (piece_meaning q these.0)) i ++ same_values ps qs are.1 these.1 both.1 i)

-- a quoted string means one value
pub quoted-one : (token v w : List ℕ) → IsQuoted token v → IsQuoted token w → v ≡ w
quoted-one token v w a b =
    let closed : a.content ++ 34 ∷ [] ≡ b.content ++ 34 ∷ [] = (let e = sym a.token_is ∙ b.token_is in cc) in
    let m = a.means in
    let n = b.means in
    m.value_is ∙ same_values m.pieces n.pieces m.right n.right (sym m.content_is ∙ append_cancel_right a.content b.content (34 ∷ []) closed ∙ n.content_is) ∙ sym n.value_is
