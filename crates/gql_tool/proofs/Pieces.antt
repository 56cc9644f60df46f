-- Pieces that are sent one after the other.
use Rattle.std.proofs.Common.{◌≡◌, ℕ, List, ◌++◌, Option, Result, Ok, Err, IsErr, subst, sym}
use Rattle.std.specs.Io.KnownBytes.{Appends}
use Rattle.gql_io.specs.Told.{AppendsPrefix, Puts}
use Rattle.gql_io.proofs.Told.{Prefix-after, Prefix-within}

module _ {T E : Type 0} where
  pub Puts-err : (a b : Option (List ℕ)) (whole : List ℕ) (r : Result T E) → IsErr r → AppendsPrefix a b whole → Puts a b whole r
  Puts-err a b whole (Ok x) err some = absurd (cc err)
  Puts-err a b whole (Err e) err some = some

  -- a prefix of the first piece, where more pieces follow
  pub Puts-first : (a b : Option (List ℕ)) (front rest : List ℕ) (r : Result T E) → IsErr r → AppendsPrefix a b front → Puts a b (front ++ rest) r
  Puts-first a b front rest r err some = Puts-err a b (front ++ rest) r err (Prefix-within a b front rest some)

  -- a prefix of the next piece, where more pieces follow
  pub Puts-between : (a b c : Option (List ℕ)) (front next rest whole : List ℕ) (r : Result T E) → whole ≡ front ++ (next ++ rest) → IsErr r → Appends a b front
      → AppendsPrefix b c next → Puts a c whole r
  Puts-between a b c front next rest whole r is err sent more =
      Puts-err a c whole r err (subst (AppendsPrefix a c) (sym is) (Prefix-after a b c front (next ++ rest) sent (Prefix-within b c next rest more)))
