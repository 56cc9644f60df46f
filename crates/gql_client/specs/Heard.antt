-- A client beside what it heard.
use Rattle.std.specs.Prelude.{◌≡◌, ℕ, List, [], ◌++◌, length, Option, None, Some}
use Rattle.gql_multipart.specs.declared.refusal.FrameRefusal.{FrameRefusal}
use Rattle.gql_multipart.specs.declared.refusal.FrameRefusal.TheVariants.{At, NoMemory as OutOfMemory}
use Rattle.gql_multipart.specs.Body.{IsOpen}
use Rattle.gql_multipart.specs.Past.{Past, Stands as ReaderStands}
use Rattle.gql_merge.specs.Apply.{fresh}
use Rattle.gql_client.specs.declared.client.Client.{Client}
use Rattle.gql_client.specs.declared.stop.ClientRefusal.{ClientRefusal}
use Rattle.gql_client.specs.declared.stop.ClientRefusal.TheVariants as answer
use Rattle.gql_client.specs.declared.stop.Stop.{Stop}
use Rattle.gql_client.specs.declared.stop.Stop.TheVariants.{Refused, NoMemory}
use Rattle.gql_client.specs.Client.{counted, at_byte, AreComplete, AreAll, Follows, Refuses, RefusesEnd}

-- the boundary, and the bytes fed so far
pub record Heard : Type 0 where
  pub boundary : List ℕ
  pub bytes : List ℕ

abbrev pub nothing_heard : List ℕ → Heard
nothing_heard boundary = record { boundary = boundary; bytes = [] }

abbrev pub heard : Heard → List ℕ → Heard
heard h piece = record h { bytes = h.bytes ++ piece }

-- the reader's past, behind so many parts
abbrev pub past_of : Heard → ℕ → Past
past_of h given = record { boundary = h.boundary; bytes = h.bytes; given = given }

-- these parts are complete and were taken
pub record Took (c : Client) (h : Heard) (contents : List (List ℕ)) : Type 0 where
  pub reader : ReaderStands c.reader (past_of h (length contents))
  pub complete : AreComplete h.boundary h.bytes contents
  pub follows : Follows 0 contents fresh c.merger.state None
  pub counted : c.payloads ≡ counted (length contents)

-- it took all parts that are complete in what it heard, and goes on
pub record Stands (c : Client) (h : Heard) : Type 0 where
  pub going : c.stop ≡ None
  pub contents : List (List ℕ)
  pub took : Took c h contents
  pub all : AreAll h.boundary h.bytes contents
  pub is_open : IsOpen h.boundary h.bytes

-- it stopped for the reason that the bytes have
abbrev pub IsRefused : Client → List ℕ → List ℕ → Type 0
IsRefused c boundary bytes = (why : List ℕ) × (c.stop ≡ Some (Refused why)) × Refuses boundary bytes c.merger.state why

-- it stopped for the reason that the end of the input has
abbrev pub IsRefusedAtEnd : Client → List ℕ → List ℕ → Type 0
IsRefusedAtEnd c boundary bytes = (why : List ℕ) × (c.stop ≡ Some (Refused why)) × RefusesEnd boundary bytes c.merger.state why

-- the reason that a reader's refusal gives
abbrev pub IsMisframedBy : FrameRefusal → List ℕ → Type 0
IsMisframedBy (At kind byte) why = why ≡ at_byte byte kind
IsMisframedBy OutOfMemory why = ⊥

-- the answer that a client gives for good
abbrev pub answer_of : Stop → ClientRefusal
answer_of (Refused why) = answer.Refused
answer_of NoMemory = answer.NoMemory

-- it has stopped, and this is the answer that it gives for good
abbrev pub StopsFor : Client → ClientRefusal → Type 0
StopsFor c refusal = (stop : Stop) × (c.stop ≡ Some stop) × (refusal ≡ answer_of stop)

-- where and why, if it refused
abbrev pub reason_of : Option Stop → Option (List ℕ)
reason_of None = None
reason_of (Some (Refused why)) = Some why
reason_of (Some NoMemory) = None
