-- The client that the command `local` feeds: what it was, and what it is in the end.
use Rattle.std.specs.Prelude.{◌≡◌, ◌⊎◌, ℕ, ◌+◌, ◌-◌, ◌/◌, true, List, ◌++◌, length, sum_by, Option, None, Some, codes}
use Rattle.std.specs.Io.KnownBytes.{Appends}
use Rattle.gql_multipart.specs.Framed.{pieces_of}
use Rattle.gql_tree.specs.Forest.{Forest}
use Rattle.gql_io.specs.Files.{Files}
use Rattle.gql_tool.specs.declared.status.Status.{Status}
use Rattle.gql_tool.specs.declared.status.Status.TheVariants.{Done, WriteFault, NoMemory, StreamRefused}
use Rattle.gql_client.specs.declared.client.Client.{Client}
use Rattle.gql_client.specs.Client.{counted}
use Rattle.gql_client.specs.Heard.{Stands, nothing_heard, IsRefused}
use Rattle.gql_tool.specs.Judged.{Executed, Judged}
use Rattle.gql_tool.specs.Local.{body, texts}
use Rattle.gql_tool.specs.Replay.{merged_line}
use Rattle.gql_tool.specs.Words.{Names, Form, LocalForm}

-- the boundary of the bodies that are written
abbrev pub dash : List ℕ
dash = codes "-"

-- as it is made for this boundary: it was fed nothing
pub record IsNew (c : Client) : Type 0 where
  pub stands : Stands c (nothing_heard dash)
  pub uncut : c.cuts ≡ 0

-- the client took these bytes, and goes on
abbrev pub StandsFor : Client → List ℕ → Type 0
StandsFor c bytes = Stands c (record { boundary = dash; bytes = bytes })

-- how many cuts of at most so many bytes a piece has
abbrev pub cuts_in : ℕ → List ℕ → ℕ
cuts_in cut piece = (length piece + (cut - 1)) / cut

-- each piece is cut by itself
abbrev pub cuts_of : ℕ → List (List ℕ) → ℕ
cuts_of cut texts = sum_by (cuts_in cut) (pieces_of true texts)

-- the request of the files has these regions, as far as the shelf tells
abbrev pub Asks : Option Files → Names → Forest → Type 0
Asks None names f = Unit {0}
Asks (Some files) names f = (s b c : List ℕ) × (files names.schema ≡ Some s) × (files names.tables ≡ Some b) × (files names.document ≡ Some c) × Judged names.vars s b c (Executed f)

-- it was fed the body in cuts, and took all of it; behind the body the line of what it merged was written
pub record TookBody (f : Forest) (cut : ℕ) (c : Client) (sent_before sent : Option (List ℕ)) : Type 0 where
  pub stands : StandsFor c (body f)
  pub cuts : c.cuts ≡ counted (cuts_of cut (texts f))
  pub line : Appends sent_before sent (body f ++ merged_line c.merger.state)

-- it took a front of the body
pub record TookFront (f : Forest) (c : Client) : Type 0 where
  pub front : List ℕ
  pub back : List ℕ
  pub cut : body f ≡ front ++ back
  pub stands : StandsFor c front

-- it refused in the body
pub record RefusedBody (f : Forest) (c : Client) : Type 0 where
  pub front : List ℕ
  pub back : List ℕ
  pub cut : body f ≡ front ++ back
  pub refused : IsRefused c dash front

-- What the client is by the status, and that the line behind the body is its own: at the end it stands for the body, and in
-- a fault of the output for a front of it. Where nothing was executed it is what it was. Want of memory alone is free.
abbrev pub ClientEnds : (Forest → Type 0) → ℕ → Client → Client → Option (List ℕ) → Option (List ℕ) → Status → Type 0
ClientEnds Asked cut old new sent_before sent Done = (f : Forest) × Asked f × TookBody f cut new sent_before sent
ClientEnds Asked cut old new sent_before sent WriteFault = (new ≡ old) ⊎ ((f : Forest) × Asked f × TookFront f new)
ClientEnds Asked cut old new sent_before sent StreamRefused = (f : Forest) × Asked f × RefusedBody f new
ClientEnds Asked cut old new sent_before sent NoMemory = Unit {0}
ClientEnds Asked cut old new sent_before sent _ = new ≡ old

-- every other command leaves it unchanged
abbrev pub ClientOf : Option Files → Option Form → Client → Client → Option (List ℕ) → Option (List ℕ) → Status → Type 0
ClientOf told (Some (LocalForm names workers cut)) old new sent_before sent status = ClientEnds (Asks told names) cut old new sent_before sent status
ClientOf told _ old new sent_before sent status = new ≡ old
