-- The multipart body of a list of texts.
-- Source: multipart bodies of RFC 2046, section 5.1, as a profile: the boundary is `-`, nothing
-- stands before the first delimiter or after the last, and each part has one header field.
use Rattle.std.specs.Prelude.{ℕ, List, [], ◌∷◌, ◌++◌, codes}

-- the end of a line
abbrev pub crlf : List ℕ
crlf = 13 ∷ 10 ∷ []

-- the delimiter: two dashes and the boundary
abbrev pub delimiter : List ℕ
delimiter = codes "---"

-- the header field of a part
abbrev pub header : List ℕ
header = codes "Content-Type: application/json; charset=utf-8"

-- what stands from one delimiter to the end of the next: a header, an empty line, and the text
abbrev pub piece : List ℕ → List ℕ
piece t = crlf ++ (header ++ (crlf ++ (crlf ++ (t ++ (crlf ++ delimiter)))))

-- a piece for each text; the last delimiter is closed by two dashes
abbrev pub pieces : List (List ℕ) → List ℕ
pieces [] = codes "--" ++ crlf
pieces (t ∷ ts) = piece t ++ pieces ts

-- the body
abbrev pub frame : List (List ℕ) → List ℕ
frame ts = delimiter ++ pieces ts
