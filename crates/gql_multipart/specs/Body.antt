-- Multipart bodies, by cases on their bytes.
-- Source: multipart bodies of RFC 2046, section 5.1.1, as a profile: header lines are not unfolded, a
-- part needs no header line, and each region of a body has a limit. Limits are counted in bytes.
use Rattle.std.specs.Prelude.{◌≡◌, ◌≢◌, ℕ, ◌≤◌, List, [], ◌∷◌, ◌++◌, length, codes, Bool, ◌||◌, ◌==◌, not, IsTrue, ◌⊎◌}
use Rattle.std.specs.List.{AllByRecursion as Each, concat, list_any}
use Rattle.std.specs.Char.{is_ascii_alphanumeric}
use Rattle.gql_multipart.specs.Frame.{crlf}

-- ---- boundaries and marks

-- letters, digits, and the signs of RFC 2046's `bchars`
abbrev pub boundary_byte : ℕ → Bool
boundary_byte b = is_ascii_alphanumeric b || list_any (λ c. c == b) (codes "'()+_,-./:=? ")

-- 1 to 70 such bytes that don't end in a space
pub record IsBoundary (text : List ℕ) : Type 0 where
  pub least : 1 ≤ length text
  pub most : length text ≤ 70
  pub bytes : Each (λ b. IsTrue (boundary_byte b)) text
  pub end : (front : List ℕ) → text ≡ front ++ codes " " → ⊥

abbrev pub dashes : List ℕ
dashes = codes "--"

abbrev pub mark : List ℕ → List ℕ
mark boundary = dashes ++ boundary

-- The bytes stand at the beginning of the body or directly after CRLF. With that CRLF before them, no
-- split of them has a mark directly after CRLF.
abbrev pub HoldsNoMark : List ℕ → List ℕ → Type 0
HoldsNoMark boundary bytes = (front back : List ℕ) → crlf ++ bytes ≡ front ++ (crlf ++ (mark boundary ++ back)) → ⊥

-- ---- the regions of a body, each to the end of what ends it

-- nothing, or bytes that end in CRLF and hold no mark
abbrev pub IsPreamble : List ℕ → List ℕ → Type 0
IsPreamble boundary bytes = (bytes ≡ []) ⊎ ((text : List ℕ) × (bytes ≡ text ++ crlf) × (length bytes ≤ 16384) × HoldsNoMark boundary bytes)

-- a preamble, and the first mark
abbrev pub IsOpening : List ℕ → List ℕ → Type 0
IsOpening boundary bytes = (preamble : List ℕ) × IsPreamble boundary preamble × (bytes ≡ preamble ++ mark boundary)

abbrev pub blank_byte : ℕ → Bool
blank_byte b = (b == 32) || (b == 9)

-- what stands behind the mark of a delimiter line: at most 64 spaces and tabs, and CRLF
abbrev pub IsLineEnd : List ℕ → Type 0
IsLineEnd bytes = (blanks : List ℕ) × Each (λ b. IsTrue (blank_byte b)) blanks × (length blanks ≤ 64) × (bytes ≡ blanks ++ crlf)

-- a byte of a token (RFC 9110, section 5.6.2)
abbrev pub token_byte : ℕ → Bool
token_byte b = is_ascii_alphanumeric b || list_any (λ c. c == b) (codes "!#$%&'*+-.^_|~`")

-- any byte but CR, LF and NUL
abbrev pub value_byte : ℕ → Bool
value_byte b = not ((b == 13) || ((b == 10) || (b == 0)))

-- a token, a colon, a value and CRLF; the line doesn't begin with a mark
abbrev pub IsHeaderLine : List ℕ → List ℕ → Type 0
IsHeaderLine boundary line = (name value : List ℕ)
    × (name ≢ [])
    × Each (λ b. IsTrue (token_byte b)) name
    × Each (λ b. IsTrue (value_byte b)) value
    × (line ≡ name ++ (codes ":" ++ (value ++ crlf)))
    × ((rest : List ℕ) → line ≡ mark boundary ++ rest → ⊥)

-- header lines, perhaps none, and the empty line behind them
abbrev pub IsHeader : List ℕ → List ℕ → Type 0
IsHeader boundary bytes = (lines : List (List ℕ)) × Each (IsHeaderLine boundary) lines × (length (concat lines) ≤ 16384) × (bytes ≡ concat lines ++ crlf)

-- A part's content, and the mark behind it with the CRLF that belongs to this mark. Where the mark
-- stands directly after the empty line, that line's CRLF is the mark's and the content is empty.
abbrev pub IsContent : List ℕ → List ℕ → List ℕ → Type 0
IsContent boundary content bytes = (length content ≤ 67108864)
    × (((content ≡ []) × (bytes ≡ mark boundary)) ⊎ (HoldsNoMark boundary content × (bytes ≡ content ++ (crlf ++ mark boundary))))

-- ---- bodies

-- a part with this content, from behind the mark before it to the end of the mark behind it
abbrev pub IsPart : List ℕ → List ℕ → List ℕ → Type 0
IsPart boundary content bytes = (end header rest : List ℕ) × IsLineEnd end × IsHeader boundary header × IsContent boundary content rest × (bytes ≡ end ++ (header ++ rest))

-- parts with these contents, one after another, and the rest
abbrev pub Parts : List ℕ → List (List ℕ) → List ℕ → List ℕ → Type 0
Parts boundary [] rest bytes = bytes ≡ rest
Parts boundary (content ∷ contents) rest bytes = (part after : List ℕ) × IsPart boundary content part × Parts boundary contents rest after × (bytes ≡ part ++ after)

-- the bytes begin a body: a preamble, a mark, and parts with these contents; the rest stands behind the last mark
abbrev pub Begins : List ℕ → List (List ℕ) → List ℕ → List ℕ → Type 0
Begins boundary contents rest bytes = (opening after : List ℕ) × IsOpening boundary opening × Parts boundary contents rest after × (bytes ≡ opening ++ after)

-- a body of one or more parts: the last mark is the end mark, with two dashes behind it, and then come any bytes
abbrev pub Body : List ℕ → List ℕ → List (List ℕ) → Type 0
Body boundary bytes contents = (contents ≢ []) × (any : List ℕ) × Begins boundary contents (dashes ++ any) bytes

-- ---- fronts of bodies

-- these parts are complete: each one's next mark is whole
abbrev pub Complete : List ℕ → List ℕ → List (List ℕ) → Type 0
Complete boundary bytes contents = (rest : List ℕ) × Begins boundary contents rest bytes

-- some body begins with these bytes
abbrev pub IsOpen : List ℕ → List ℕ → Type 0
IsOpen boundary bytes = (rest : List ℕ) × (contents : List (List ℕ)) × Body boundary (bytes ++ rest) contents
