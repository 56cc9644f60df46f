-- What the tests of a word say.
use Rattle.std.proofs.Common.{◌≡◌, Bool, true, false, refl}
use Rattle.std.specs.Prelude.{◌&&◌, ◌||◌, codes}
use Rattle.std.specs.Str.{bytes_eq}
use Rattle.gql_lex.specs.Tokens.{Lexeme}
use Rattle.gql_doc.specs.Terminals.{is_name, is_operation_type}

pub and_left : (a b : Bool) → a && b ≡ true → a ≡ true
and_left true b h = refl
and_left false b h = h

pub and_right : (a b : Bool) → a && b ≡ true → b ≡ true
and_right true b h = h
and_right false b h = absurd (cc)

of_three : (b x y z : Bool) → (b && x) || ((b && y) || (b && z)) ≡ true → b ≡ true
of_three true x y z h = refl
of_three false x y z h = h

-- the type of an operation is a name
pub operation_type_named : (t : Lexeme) → is_operation_type t ≡ true → is_name t ≡ true
operation_type_named t h = of_three (is_name t) (bytes_eq t.text (codes "query")) (bytes_eq t.text (codes "mutation")) (bytes_eq t.text (codes "subscription")) h
