-- Pieces that are put one after the other.
use Rattle.std.proofs.lemmas.List.{take_all}
use Rattle.std.proofs.Common.{◌≡◌, append-nil, arith, length, sym, ap, ◌∙◌, ℕ, List, [], ◌∷◌, ◌++◌, Option, true, false, subst, append_assoc}
use Rattle.std.specs.Io.KnownBytes.{Appends}
use Rattle.std.proofs.KnownBytes.{Appends-nil}
use Rattle.gql_io.specs.Told.{AppendsPrefix}
use Rattle.gql_multipart.specs.Frame.{frame, piece, delimiter}
use Rattle.gql_multipart.specs.Framed.{framed, closing}

-- nothing is a prefix
pub Prefix-nothing : (a : Option (List ℕ)) (bytes : List ℕ) → AppendsPrefix a a bytes
Prefix-nothing a bytes = (0, Appends-nil a)

-- all of it is a prefix
pub Prefix-all : (a b : Option (List ℕ)) (bytes : List ℕ) → Appends a b bytes → AppendsPrefix a b bytes
Prefix-all a b bytes sent = (length bytes, subst (Appends a b) (sym (take_all (length bytes) bytes (omega arith))) sent)

-- the two pieces of a body
pub frame-two : (s t : List ℕ) → framed true false s ++ framed false true t ≡ frame (s ∷ t ∷ [])
frame-two s t =
    ap (λ xs. (delimiter ++ xs) ++ (piece t ++ closing true)) (append-nil (piece s))
    ∙ (append_assoc delimiter (piece s) (piece t ++ closing true))
