-- How a body is read, byte by byte: what private clauses say. That this is the relation of Body is proved.
use Rattle.std.specs.Prelude.{ℕ, suc, zero, ◌+◌, ◌-◌, ◌<◌, ◌≤◌, List, [], ◌∷◌, length, get_or, take, drop, Bool, true, false, ◌&&◌, ◌==◌, nat_le, if◌then◌else◌, Option, Some, None, Result, Ok, Err}
use Rattle.gql_multipart.specs.declared.refusal.FrameKind.{FrameKind}
use Rattle.gql_multipart.specs.declared.refusal.FrameKind.TheVariants.{BadPreamble, BadDelimiter, BadHeader, PartTooLong}
use Rattle.gql_multipart.specs.declared.place.Place.{Place}
use Rattle.gql_multipart.specs.declared.place.Place.TheVariants.{Mark, Blanks, Line, Name, Value, FieldFeed, LastFeed}
use Rattle.gql_multipart.specs.declared.place.Moved.{Moved}
use Rattle.gql_multipart.specs.declared.place.Moved.TheVariants.{Go, Whole, Bad}
use Rattle.gql_multipart.specs.declared.read.Stop.{Stop}
use Rattle.gql_multipart.specs.declared.read.Stop.TheVariants.{More, Ended, Refused}
use Rattle.gql_multipart.specs.declared.read.Found.{Found}
use Rattle.gql_multipart.specs.Past.{Said, more, ended, refuses}
use Rattle.gql_multipart.specs.Body.{blank_byte, token_byte, value_byte}

-- ---- one byte; m is CRLF and the mark

-- where bytes of m are counted, not all have come
abbrev pub IsShort : List ℕ → Option ℕ → Type 0
IsShort m None = Unit {0}
IsShort m (Some k) = k < length m

-- n bytes of the room are used up
abbrev pub missed : ℕ → ℕ → ℕ → Moved
missed room n matched = if nat_le n room then Go (Mark (room - n) matched) else Bad

abbrev pub matched_step : List ℕ → ℕ → ℕ → Moved
matched_step m room matched = if matched + 1 == length m then Whole else Go (Mark room (matched + 1))

abbrev pub mark_step : List ℕ → ℕ → ℕ → ℕ → Moved
mark_step m room matched b = if get_or m matched 0 == b then matched_step m room matched else (if b == 13 then missed room matched 1 else missed room (matched + 1) 0)

-- a step that leaves at least so much room
abbrev pub spend : ℕ → ℕ → (ℕ → Place) → Moved
spend room need place = if nat_le (need + 1) room then Go (place (room - 1)) else Bad

abbrev pub blank_step : ℕ → ℕ → Moved
blank_step room b = if b == 13 then Go LastFeed else (if blank_byte b then spend room 0 Blanks else Bad)

-- how much of m a line has that begins as the mark does
abbrev pub bar : List ℕ → Option ℕ → ℕ → Option ℕ
bar m None b = None
bar m (Some k) b = if get_or m k 0 == b then Some (k + 1) else None

abbrev pub clashes : List ℕ → Option ℕ → Bool
clashes m None = false
clashes m (Some k) = k == length m

-- what a name needs at least behind it: a colon and CRLF, and a letter where the colon would make a mark
abbrev pub name_need : List ℕ → Option ℕ → ℕ
name_need m None = 3
name_need m (Some k) = if (k + 1 == length m) && (get_or m k 0 == 58) then 4 else 3

abbrev pub named : List ℕ → ℕ → Option ℕ → Moved
named m room barred = if clashes m barred then Bad else spend room (name_need m barred) (λ r. Name r barred)

abbrev pub valued : List ℕ → ℕ → Option ℕ → Moved
valued m room barred = if clashes m barred then Bad else spend room 2 (λ r. Value r barred)

abbrev pub line_step : List ℕ → ℕ → ℕ → Moved
line_step m room b = if b == 13 then Go LastFeed else (if token_byte b then named m room (bar m (Some 2) b) else Bad)

abbrev pub name_step : List ℕ → ℕ → Option ℕ → ℕ → Moved
name_step m room barred b = if b == 58 then valued m room (bar m barred b) else (if token_byte b then named m room (bar m barred b) else Bad)

abbrev pub value_step : List ℕ → ℕ → Option ℕ → ℕ → Moved
value_step m room barred b = if b == 13 then spend room 1 FieldFeed else (if value_byte b then valued m room (bar m barred b) else Bad)

abbrev pub feed_step : ℕ → ℕ → Moved
feed_step room b = if b == 10 then spend room 0 Line else Bad

abbrev pub step : List ℕ → Place → ℕ → Moved
step m (Mark room matched) b = mark_step m room matched b
step m (Blanks room) b = blank_step room b
step m (Line room) b = line_step m room b
step m (Name room barred) b = name_step m room barred b
step m (Value room barred) b = value_step m room barred b
step m (FieldFeed room) b = feed_step room b
step m LastFeed b = if b == 10 then Whole else Bad

-- from the place on the region can still be completed
abbrev pub IsAlive : List ℕ → Place → Type 0
IsAlive m (Mark room matched) = matched < length m
IsAlive m (Blanks room) = Unit {0}
IsAlive m (Line room) = Unit {0}
IsAlive m (Name room barred) = IsShort m barred × (name_need m barred ≤ room)
IsAlive m (Value room barred) = IsShort m barred × (2 ≤ room)
IsAlive m (FieldFeed room) = 1 ≤ room
IsAlive m LastFeed = Unit {0}

-- ---- regions; n is how many bytes stand before

abbrev pub went : FrameKind → ℕ → Moved → (Place → Result ℕ Stop) → Result ℕ Stop
went kind n (Go next) go_on = go_on next
went kind n Whole go_on = Ok n
went kind n Bad go_on = Err (Refused kind n)

abbrev pub scan : List ℕ → FrameKind → Place → ℕ → List ℕ → Result ℕ Stop
scan m kind place n [] = Err More
scan m kind place n (b ∷ bs) = went kind (n + 1) (step m place b) (λ next. scan m kind next (n + 1) bs)

abbrev pub region : List ℕ → FrameKind → Place → List ℕ → ℕ → Result ℕ Stop
region m kind place bytes at = scan m kind place at (drop at bytes)

infixl 10 ◌>>=◌
abbrev pub ◌>>=◌ : {A B : Type 0} → Result A Stop → (A → Result B Stop) → Result B Stop
(Ok x) >>= f = f x
(Err e) >>= f = Err e

-- what stands behind one dash behind a mark
abbrev pub second_dash : ℕ → List ℕ → Stop
second_dash n [] = More
second_dash n (b ∷ bs) = if b == 45 then Ended else Refused BadDelimiter (n + 1)

-- whether a dash stands behind a mark that may be the end mark
abbrev pub is_dash : Bool → List ℕ → Bool
is_dash true rest = false
is_dash false [] = false
is_dash false (b ∷ bs) = b == 45

unfoldable pub mark_end : List ℕ → Bool → List ℕ → ℕ → Result ℕ Stop
mark_end m first bytes at = if is_dash first (drop at bytes) then Err (second_dash (at + 1) (drop (at + 1) bytes)) else region m BadDelimiter (Blanks 64) bytes at

unfoldable pub part_end : List ℕ → Bool → List ℕ → ℕ → Result Found Stop
part_end m first bytes at =
    mark_end m first bytes at
    >>= λ header. region m BadHeader (Line 16384) bytes header
    >>= λ content. region m PartTooLong (Mark 67108866 2) bytes content
    >>= λ next. Ok (record { content = content; next = next })

abbrev pub part_next : List ℕ → Bool → List ℕ → ℕ → Result ℕ Stop
part_next m first bytes at = part_end m first bytes at >>= λ found. Ok found.next

-- so many parts, from behind a mark
unfoldable pub skip : List ℕ → ℕ → Bool → List ℕ → ℕ → Result ℕ Stop
skip m zero first bytes at = Ok at
skip m (suc n) first bytes at = part_next m first bytes at >>= λ next. skip m n false bytes next

-- the part behind so many parts
unfoldable pub seek : List ℕ → List ℕ → ℕ → Result Found Stop
seek m bytes given =
    region m BadPreamble (Mark 16384 2) bytes 0
    >>= λ at. skip m given true bytes at
    >>= λ at. part_end m (given == 0) bytes at

abbrev pub content_of : List ℕ → List ℕ → Found → List ℕ
content_of m bytes found = take ((found.next - length m) - found.content) (drop found.content bytes)

-- ---- what a reader says

abbrev pub stop_says : Stop → Said
stop_says More = more
stop_says Ended = ended
stop_says (Refused kind byte) = refuses kind byte

abbrev pub has_ended : Result Found Stop → Bool
has_ended (Ok found) = false
has_ended (Err More) = false
has_ended (Err Ended) = true
has_ended (Err (Refused kind byte)) = false
