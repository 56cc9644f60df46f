-- Classes of bytes. A text is the bytes of its UTF-8; all that the lexical rules name, but for the byte order mark, is ASCII.
use Rattle.std.specs.Prelude.{ℕ, ◌==◌, nat_lt, ◌||◌, ◌&&◌, not, Bool, List, [], ◌∷◌}
use Rattle.std.specs.Char.{is_ascii_alphabetic, is_ascii_alphanumeric}

-- LF and CR
abbrev pub is_line_end : ℕ → Bool
is_line_end byte = byte == 10 || byte == 13

-- the control characters that stand nowhere: those below U+0020 but for tab, LF and CR
abbrev pub is_forbidden : ℕ → Bool
is_forbidden byte = nat_lt byte 32 && not (byte == 9 || is_line_end byte)

-- tab, LF, CR, space and comma
abbrev pub is_blank : ℕ → Bool
is_blank byte = byte == 9 || (is_line_end byte || (byte == 32 || byte == 44))

-- what a comment has: no line end, and no character that stands nowhere
abbrev pub is_commentary : ℕ → Bool
is_commentary byte = not (is_line_end byte || is_forbidden byte)

-- U+FEFF, the byte order mark
abbrev pub byte_order_mark : List ℕ
byte_order_mark = 239 ∷ 187 ∷ 191 ∷ []

-- [_A-Za-z]
abbrev pub begins_name : ℕ → Bool
begins_name byte = byte == 95 || is_ascii_alphabetic byte

-- [_0-9A-Za-z]
abbrev pub continues_name : ℕ → Bool
continues_name byte = byte == 95 || is_ascii_alphanumeric byte

-- the punctuators of one byte: ! $ & ( ) : = @ [ ] { | }
abbrev pub is_punctuator : ℕ → Bool
is_punctuator byte =
    byte == 33 || (byte == 36 || (byte == 38 || (byte == 40 || (byte == 41 || (byte == 58 || (byte == 61
    || (byte == 64 || (byte == 91 || (byte == 93 || (byte == 123 || (byte == 124 || byte == 125)))))))))))
