-- What stands at the front of a text that no blank begins: a token, or what is no token.
use Rattle.std.specs.Prelude.{ℕ, ◌+◌, ◌==◌, nat_eq, ◌||◌, if◌then◌else◌, List, [], ◌∷◌, Option, Some, None}
use Rattle.std.specs.List.{starts_with, prefix_len}
use Rattle.std.specs.Char.{is_ascii_digit}
use Rattle.gql_lex.specs.Classes.{begins_name, continues_name, is_punctuator}
use Rattle.gql_lex.specs.Numbers.{number}
use Rattle.gql_lex.specs.Strings.{string}
use Rattle.gql_lex.specs.declared.scan.Found.{Found}
use Rattle.gql_lex.specs.declared.scan.Found.TheVariants.{Token, Wrong}
use Rattle.gql_lex.specs.declared.scan.Fault.TheVariants as fault
use Rattle.gql_lex.specs.declared.token.TokenKind.TheVariants as kind

-- a token with how many bytes it takes, or a fault with how many bytes stand before its place; nothing at the end of the text
abbrev pub front : List ℕ → Option Found
front [] = None
front (byte ∷ rest) =
    if begins_name byte then Some (Token kind.Name (1 + prefix_len continues_name rest))
    else (if is_punctuator byte then Some (Token kind.Punctuator 1)
    else (if starts_with nat_eq (byte ∷ rest) (46 ∷ 46 ∷ 46 ∷ []) then Some (Token kind.Punctuator 3)
    else (if byte == 45 || is_ascii_digit byte then Some (number (byte ∷ rest))
    else (if byte == 34 then Some (string rest)
    else Some (Wrong fault.Character 0)))))
