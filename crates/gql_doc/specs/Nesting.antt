-- How deep braces and brackets stand in one another.
use Rattle.std.specs.Prelude.{ℕ, zero, suc, if◌then◌else◌, List, [], ◌∷◌, Option, Some, None, option_and_then, IsSome}
use Rattle.gql_lex.specs.Tokens.{Lexeme}
use Rattle.gql_doc.specs.Terminals.{is_opening, is_closing}

-- one may be opened less; none where none may be
abbrev pub taken : ℕ → Option ℕ
taken zero = None
taken (suc room) = Some room

-- how many may be opened behind a token, where `room` may be opened before it
abbrev pub room_behind : ℕ → Lexeme → Option ℕ
room_behind room token = if is_opening token then taken room else (if is_closing token then Some (suc room) else Some room)

-- how many may be opened behind these tokens; none where one of them is opened and none may be
abbrev pub room_after : ℕ → List Lexeme → Option ℕ
room_after room [] = Some room
room_after room (token ∷ tokens) = option_and_then (λ left. room_after left tokens) (room_behind room token)

-- at most this many are open at once
abbrev pub limit : ℕ
limit = 128

abbrev pub IsWithin : List Lexeme → Type 0
IsWithin tokens = IsSome (room_after limit tokens)
