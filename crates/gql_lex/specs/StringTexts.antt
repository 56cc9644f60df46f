-- Strings as texts, and what they mean, by the standard's rules.
use Rattle.std.specs.Prelude.{◌≡◌, ℕ, ◌+◌, ◌*◌, ◌==◌, nat_eq, ◌||◌, ◌⊎◌, not, if◌then◌else◌, Bool, true, false, List, [], ◌∷◌, ◌++◌, flat_map, Option, Some, None}
use Rattle.std.specs.List.{AllByRecursion, starts_with}
use Rattle.std.specs.Char.{is_ascii_hexdigit, digit_value, encode_utf8}
use Rattle.std.specs.Char.Utf16.{is_high_surrogate, is_low_surrogate, surrogate_pair_char}
use Rattle.gql_lex.specs.Classes.{is_line_end, is_forbidden}
use Rattle.gql_lex.specs.Longest.{Each}

-- ---- escapes

-- `"` `\` `/` `b` `f` `n` `r` `t` behind a backslash, and the character that each stands for
abbrev pub simple_escape : ℕ → Option ℕ
simple_escape byte =
    if byte == 34 then Some 34
    else (if byte == 92 then Some 92
    else (if byte == 47 then Some 47
    else (if byte == 98 then Some 8
    else (if byte == 102 then Some 12
    else (if byte == 110 then Some 10
    else (if byte == 114 then Some 13
    else (if byte == 116 then Some 9
    else None)))))))

-- the number that four hexadecimal digits spell
abbrev pub spelled : ℕ → ℕ → ℕ → ℕ → ℕ
spelled a b c d = ((digit_value a * 16 + digit_value b) * 16 + digit_value c) * 16 + digit_value d

-- four hexadecimal digits, and the number that they spell
pub record Spells (text : List ℕ) (number : ℕ) : Type 0 where
  pub a : ℕ
  pub b : ℕ
  pub c : ℕ
  pub d : ℕ
  pub text_is : text ≡ a ∷ b ∷ c ∷ d ∷ []
  pub digits : Each is_ascii_hexdigit text
  pub number_is : number ≡ spelled a b c d

-- a backslash and one of the eight
pub record IsSimpleEscape (text : List ℕ) (character : ℕ) : Type 0 where
  pub byte : ℕ
  pub text_is : text ≡ 92 ∷ byte ∷ []
  pub character_is : simple_escape byte ≡ Some character

-- `\u` and four digits that spell a character, which is no surrogate
pub record IsUnicodeEscape (text : List ℕ) (character : ℕ) : Type 0 where
  pub digits : List ℕ
  pub text_is : text ≡ 92 ∷ 117 ∷ digits
  pub spells : Spells digits character
  pub no_high : is_high_surrogate character ≡ false
  pub no_low : is_low_surrogate character ≡ false

-- `\u` and four digits that spell a high surrogate, directly followed by `\u` and those of a low one: the character of the pair
pub record IsPairEscape (text : List ℕ) (character : ℕ) : Type 0 where
  pub digits : List ℕ
  pub more_digits : List ℕ
  pub high : ℕ
  pub low : ℕ
  pub text_is : text ≡ 92 ∷ 117 ∷ (digits ++ 92 ∷ 117 ∷ more_digits)
  pub spells_high : Spells digits high
  pub is_high : is_high_surrogate high ≡ true
  pub spells_low : Spells more_digits low
  pub is_low : is_low_surrogate low ≡ true
  pub character_is : character ≡ surrogate_pair_char high low

-- an escape, and the character that it stands for
abbrev pub IsEscape : List ℕ → ℕ → Type 0
IsEscape text character = IsSimpleEscape text character ⊎ (IsUnicodeEscape text character ⊎ IsPairEscape text character)

-- ---- pieces

-- a piece of what stands in a string, and the bytes that it means
pub record Piece : Type 0 where
  pub text : List ℕ
  pub value : List ℕ

-- the texts of pieces, one after another
abbrev pub texts : List Piece → List ℕ
texts pieces = flat_map (λ (piece : Piece). piece.text) pieces

-- what they mean, one after another
abbrev pub values : List Piece → List ℕ
values pieces = flat_map (λ (piece : Piece). piece.value) pieces

-- the piece is this byte, and means it
abbrev pub IsItself : Piece → ℕ → Type 0
IsItself piece byte = (piece.text ≡ byte ∷ []) × (piece.value ≡ byte ∷ [])

-- ---- quoted strings

-- what stands for itself in a quoted string: no quote, no backslash, no line end, and no control character that stands nowhere
abbrev pub is_plain : ℕ → Bool
is_plain byte = not (byte == 34 || (byte == 92 || (is_line_end byte || is_forbidden byte)))

-- a byte that stands for itself, or an escape, which means the UTF-8 of its character
abbrev pub IsQuotedPiece : Piece → Type 0
IsQuotedPiece piece =
    ((byte : ℕ) × (is_plain byte ≡ true) × IsItself piece byte)
    ⊎ ((character : ℕ) × IsEscape piece.text character × (piece.value ≡ encode_utf8 character))

-- what stands between the quotes of a quoted string, and the bytes that it means
pub record IsQuotedContent (content value : List ℕ) : Type 0 where
  pub pieces : List Piece
  pub right : AllByRecursion IsQuotedPiece pieces
  pub content_is : content ≡ texts pieces
  pub value_is : value ≡ values pieces

-- a quoted string, and the bytes that it means: `"`, a content and `"`
pub record IsQuoted (token value : List ℕ) : Type 0 where
  pub content : List ℕ
  pub token_is : token ≡ 34 ∷ (content ++ 34 ∷ [])
  pub means : IsQuotedContent content value

-- ---- block strings

-- `"""`
abbrev pub three_quotes : List ℕ
three_quotes = 34 ∷ 34 ∷ 34 ∷ []

-- `\"""`
abbrev pub escaped_quotes : List ℕ
escaped_quotes = 92 ∷ three_quotes

-- three quotes begin a text
abbrev pub begins_quotes : List ℕ → Bool
begins_quotes text = starts_with nat_eq text three_quotes

-- the byte, which `behind` follows, stands for itself in a block string: neither `"""` nor `\"""` begins with it, and it may stand
pub record IsBlockByte (byte : ℕ) (behind : List ℕ) : Type 0 where
  pub allowed : is_forbidden byte ≡ false
  pub no_quotes : begins_quotes (byte ∷ behind) ≡ false
  pub no_escape : starts_with nat_eq (byte ∷ behind) escaped_quotes ≡ false

-- `\"""`, which stands for `"""`, or a byte that stands for itself; `behind` follows it
abbrev pub IsBlockPiece : Piece → List ℕ → Type 0
IsBlockPiece piece behind =
    ((piece.text ≡ escaped_quotes) × (piece.value ≡ three_quotes))
    ⊎ ((byte : ℕ) × IsBlockByte byte behind × IsItself piece byte)

-- each is a piece of a block string, where the others and then `"""` follow it
abbrev pub AreBlockPieces : List Piece → Type 0
AreBlockPieces [] = Unit {0}
AreBlockPieces (piece ∷ pieces) = IsBlockPiece piece (texts pieces ++ three_quotes) × AreBlockPieces pieces

-- what stands between `"""` and `"""`, and the text with `"""` for each `\"""`
pub record IsBlockContent (content raw : List ℕ) : Type 0 where
  pub pieces : List Piece
  pub right : AreBlockPieces pieces
  pub content_is : content ≡ texts pieces
  pub raw_is : raw ≡ values pieces

-- a block string, and the text between its quotes with `"""` for each `\"""`
pub record IsBlock (token raw : List ℕ) : Type 0 where
  pub content : List ℕ
  pub token_is : token ≡ three_quotes ++ (content ++ three_quotes)
  pub means : IsBlockContent content raw
