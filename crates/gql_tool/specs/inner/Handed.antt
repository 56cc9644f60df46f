-- Payloads that were put and fed to the client, for private clauses.
use Rattle.std.specs.Prelude.{◌≡◌, ℕ, ◌+◌, ◌≤◌, List, [], ◌∷◌, ◌++◌, map, Option, Result, Ok, Err}
use Rattle.std.specs.List.{AllByRecursion as Each}
use Rattle.std.specs.Io.KnownBytes.{Appends, Keeps}
use Rattle.serde_json.specs.Data.{depth}
use Rattle.gql_tree.specs.declared.Payload.{Payload}
use Rattle.gql_tree.specs.Sound.{IsSound, SamePayload}
use Rattle.gql_payload.specs.PayloadText.{payload_data, payload_text}
use Rattle.gql_multipart.specs.Frame.{frame}
use Rattle.gql_payload.specs.Reading.{Decodes}
use Rattle.gql_multipart.specs.Body.{IsOpen}
use Rattle.gql_multipart.specs.Framed.{so_far}
use Rattle.gql_merge.specs.declared.state.State.{State}
use Rattle.gql_merge.specs.Same.{IsTypedState}
use Rattle.gql_io.specs.Told.{AppendsPrefix}
use Rattle.gql_tool.specs.declared.status.Status.{Status}
use Rattle.gql_tool.specs.declared.status.Status.TheVariants.{WriteFault, NoMemory, StreamRefused}
use Rattle.gql_client.specs.declared.client.Client.{Client}
use Rattle.gql_client.specs.Client.{counted}
use Rattle.gql_client.specs.Heard.{Heard, Stands, heard, IsRefused}
use Rattle.gql_tool.specs.Local.{up_to}
use Rattle.gql_tool.specs.LocalClient.{cuts_in, cuts_of}
use Rattle.gql_tool.specs.Replay.{merged_line}

-- a payload whose text was written: it is read as the same payload, if it makes sense
abbrev pub IsWritten : Payload → Type 0
IsWritten p = IsSound p → depth (payload_data p) ≤ 127 → (again : Payload) × Decodes (payload_text p) again × SamePayload p again

-- ---- the client

-- it took all of the bytes
abbrev pub Hears : Client → Client → List ℕ → Type 0
Hears old new bytes = (h : Heard) → Stands old h → Stands new (heard h bytes)

-- it refused in the bytes
abbrev pub StopsIn : Client → Client → List ℕ → Type 0
StopsIn old new bytes = (h : Heard) → Stands old h → (front back : List ℕ) × (bytes ≡ front ++ back) × IsRefused new h.boundary (h.bytes ++ front)

-- it took a front of the bytes
abbrev pub HearsFront : Client → Client → List ℕ → Type 0
HearsFront old new bytes = (front back : List ℕ) × (bytes ≡ front ++ back) × Hears old new front

-- a front of a body begins with the bytes that it took
abbrev pub Goes : Client → List ℕ → Type 0
Goes old bytes = (h : Heard) → Stands old h → IsOpen h.boundary (h.bytes ++ bytes)

-- whatever it had counted, it counted so many cuts more
abbrev pub CountsOn : Client → Client → ℕ → Type 0
CountsOn old new more = (before : ℕ) → old.cuts ≡ counted before → new.cuts ≡ counted (before + more)

-- ---- one piece

abbrev pub Handed : Payload → List ℕ → ℕ → Option (List ℕ) → Option (List ℕ) → Client → Client → Result (Unit {0}) Status → Type 0
Handed p piece cut old new c d (Ok done) = IsWritten p × Appends old new piece × Hears c d piece × CountsOn c d (cuts_in cut piece)
Handed p piece cut old new c d (Err StreamRefused) = IsWritten p × Appends old new piece × StopsIn c d piece
Handed p piece cut old new c d (Err WriteFault) = AppendsPrefix old new piece × (d ≡ c)
Handed p piece cut old new c d (Err NoMemory) = AppendsPrefix old new piece
Handed p piece cut old new c d (Err _) = ⊥

-- ---- the line of what it merged

-- the line is put, or a front of it, where the client's state is one that can exist; nothing where there is no memory
abbrev pub PutsLine : State → Option (List ℕ) → Option (List ℕ) → Result (Unit {0}) Status → Type 0
PutsLine t old new (Ok done) = IsTypedState t × Appends old new (merged_line t)
PutsLine t old new (Err WriteFault) = IsTypedState t × AppendsPrefix old new (merged_line t)
PutsLine t old new (Err NoMemory) = Keeps old new
PutsLine t old new (Err _) = ⊥

-- ---- all payloads of a response

-- nothing was put behind a payload's piece, with these before it, which the client took, and these behind it
pub record Reached (ps : List Payload) (old new : Option (List ℕ)) (c : Client) : Type 0 where
  pub before : List Payload
  pub payload : Payload
  pub after : List Payload
  pub all : ps ≡ before ++ payload ∷ after
  pub put : AppendsPrefix old new (up_to (map payload_text before) (payload_text payload) (map payload_text after))
  pub goes : Goes c (so_far (map payload_text before))

-- the client refused in the piece of a payload with these before it and behind it
pub record Stopped (ps : List Payload) (old new : Option (List ℕ)) (c d : Client) : Type 0 where
  pub before : List Payload
  pub payload : Payload
  pub after : List Payload
  pub all : ps ≡ before ++ payload ∷ after
  pub written : Each IsWritten (before ++ payload ∷ [])
  pub put : Appends old new (up_to (map payload_text before) (payload_text payload) (map payload_text after))
  pub goes : Goes c (so_far (map payload_text before))
  pub stops : StopsIn c d (up_to (map payload_text before) (payload_text payload) (map payload_text after))

abbrev pub HandedAll : List Payload → ℕ → Option (List ℕ) → Option (List ℕ) → Client → Client → Result (Unit {0}) Status → Type 0
HandedAll ps cut old new c d (Ok done) = Each IsWritten ps × Appends old new (frame (map payload_text ps)) × Hears c d (frame (map payload_text ps)) × CountsOn c d (cuts_of cut (map payload_text ps))
HandedAll ps cut old new c d (Err StreamRefused) = Stopped ps old new c d
HandedAll ps cut old new c d (Err WriteFault) = Reached ps old new c × HearsFront c d (frame (map payload_text ps))
HandedAll ps cut old new c d (Err NoMemory) = Reached ps old new c
HandedAll ps cut old new c d (Err _) = ⊥
