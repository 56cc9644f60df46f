-- The piece of one text in a multipart body, and the pieces of a whole body.
use Rattle.std.specs.Prelude.{ℕ, List, [], ◌∷◌, ◌++◌, flat_map, Bool, true, false, codes, ◌≡◌, ◌≢◌, ◌<◌, ◌≤◌, All, length}
use Rattle.gql_multipart.specs.Frame.{delimiter, piece, crlf}

-- what stands before the first piece
abbrev pub opening : Bool → List ℕ
opening true = delimiter
opening false = []

-- what closes the delimiter of the last piece
abbrev pub closing : Bool → List ℕ
closing true = codes "--" ++ crlf
closing false = []

-- one piece: a delimiter comes before it where it is the first, its own delimiter is closed where it is the last
abbrev pub framed : Bool → Bool → List ℕ → List ℕ
framed first last text = opening first ++ (piece text ++ closing last)

-- the pieces of texts in their order, the last text last
abbrev pub pieces_of : Bool → List (List ℕ) → List (List ℕ)
pieces_of first [] = []
pieces_of first (t ∷ []) = framed first true t ∷ []
pieces_of first (t ∷ u ∷ ts) = framed first false t ∷ pieces_of false (u ∷ ts)

-- ---- a body that grows, a piece at a time

-- whether the next piece is the first
abbrev pub at_first : List (List ℕ) → Bool
at_first [] = true
at_first (t ∷ ts) = false

-- what has been sent where these texts were sent and more will come
abbrev pub so_far : List (List ℕ) → List ℕ
so_far [] = []
so_far (t ∷ ts) = delimiter ++ flat_map piece (t ∷ ts)

-- a text that is one line and doesn't begin with a delimiter, however long it is
pub record IsLine (text : List ℕ) : Type 0 where
  pub one_line : All (λ b. b ≢ 13) text
  pub unmarked : (rest : List ℕ) → text ≡ delimiter ++ rest → ⊥

-- such a text that isn't too long: a reader finds it again
pub record IsFramable (text : List ℕ) : Type 0 where
  pub line : IsLine text
  pub most : length text ≤ 67108864

-- such a text that is too long to be framed
pub record IsLongLine (text : List ℕ) : Type 0 where
  pub line : IsLine text
  pub more : 67108864 < length text

-- these are the first of the texts, in their order
abbrev pub AreFirst : List (List ℕ) → List (List ℕ) → Type 0
AreFirst contents texts = (more : List (List ℕ)) × (contents ++ more ≡ texts)
