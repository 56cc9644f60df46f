-- What a client makes of the bytes of a body, in any cutting: the parts that are complete are decoded and merged one
-- after another, up to the first refusal. A refusal of the body's form stands behind all parts before it.
use Rattle.std.specs.Prelude.{◌≡◌, ◌⊎◌, ℕ, ◌+◌, ◌-◌, ◌^◌, ◌≤◌, min, List, [], ◌∷◌, ◌++◌, length, take, Option, None, Some, Result, Ok, Err, codes, decimal, IsUtf8, true, false}
use Rattle.serde_json.specs.Data.{Data}
use Rattle.serde_json.specs.Find.{as_object}
use Rattle.serde_json.specs.Read.{read}
use Rattle.gql_tree.specs.declared.delivery.Payload.{Payload}
use Rattle.gql_payload.specs.declared.refusal.PayloadRefusal.{PayloadRefusal}
use Rattle.gql_payload.specs.declared.refusal.PayloadRefusal.TheVariants.{NotJson, NotAnObject, Wrong, NoMemory}
use Rattle.gql_payload.specs.Refusals.{payload_name}
use Rattle.gql_payload.specs.Reading.{IsJson, IsJsonObject, wrong_member, Decodes}
use Rattle.gql_multipart.specs.declared.refusal.FrameKind.{FrameKind}
use Rattle.gql_multipart.specs.Refusals.{frame_name}
use Rattle.gql_multipart.specs.Body.{Body, Complete, IsOpen}
use Rattle.gql_multipart.specs.Regions.{StandsIn}
use Rattle.gql_multipart.specs.Past.{IsLeastShut}
use Rattle.gql_merge.specs.declared.state.State.{State}
use Rattle.gql_merge.specs.declared.refusal.MergeRefusal.{MergeRefusal}
use Rattle.gql_merge.specs.Refusals.{merge_name}
use Rattle.gql_merge.specs.Apply.{Apply, fresh}

-- ---- reasons: where, a colon, and the refusal's name

abbrev pub at_byte : ℕ → FrameKind → List ℕ
at_byte byte kind = codes "byte " ++ (decimal byte ++ (codes ": " ++ frame_name kind))

-- payloads are counted from 0, and a count stays at the greatest number of its type
abbrev pub counted : ℕ → ℕ
counted number = min number (2 ^ 64 - 1)

abbrev pub at_payload : ℕ → List ℕ → List ℕ
at_payload number name = codes "payload " ++ (decimal number ++ (codes ": " ++ name))

abbrev pub at_end : List ℕ → List ℕ
at_end name = codes "end: " ++ name

-- ---- parts

-- the text of a part is no payload, for this reason
abbrev pub Undecoded : List ℕ → PayloadRefusal → Type 0
Undecoded text NotJson = IsUtf8 text → read text ≡ None
Undecoded text NotAnObject = (d : Data) × IsJson text d × (as_object d ≡ None)
Undecoded text (Wrong member) = (d : Data) × IsJsonObject text d × (wrong_member d ≡ Some member)
Undecoded text NoMemory = ⊥

-- the part of this number: the state behind it, or the reason why it is refused
abbrev pub Takes : ℕ → List ℕ → State → Result State (List ℕ) → Type 0
Takes number text s (Ok t) = (p : Payload) × Decodes text p × Apply p s (Ok t)
Takes number text s (Err why) =
    ((e : PayloadRefusal) × Undecoded text e × (why ≡ at_payload number (payload_name e)))
    ⊎ ((p : Payload) × (e : MergeRefusal) × Decodes text p × Apply p s (Err e) × (why ≡ at_payload number (merge_name e)))

-- parts one after another, the first of this number, up to the first refusal
abbrev pub Follows : ℕ → List (List ℕ) → State → State → Option (List ℕ) → Type 0
Follows number [] s t stop = (t ≡ s) × (stop ≡ None)
Follows number (c ∷ cs) s t stop =
    ((m : State) × Takes (counted number) c s (Ok m) × Follows (number + 1) cs m t stop)
    ⊎ ((why : List ℕ) × Takes (counted number) c s (Err why) × (t ≡ s) × (stop ≡ Some why))

-- ---- the client

-- parts that are complete in the bytes, the first ones in order
abbrev pub AreComplete : List ℕ → List ℕ → List (List ℕ) → Type 0
AreComplete boundary bytes contents = (contents ≡ []) ⊎ Complete boundary bytes contents

-- no more parts are complete
abbrev pub AreAll : List ℕ → List ℕ → List (List ℕ) → Type 0
AreAll boundary bytes contents = (others : List (List ℕ)) → Complete boundary bytes others → length others ≤ length contents

-- the bytes are no front of a body, and this is the reason
abbrev pub IsMisframed : List ℕ → List ℕ → List ℕ → Type 0
IsMisframed boundary bytes why = (kind : FrameKind) × (byte : ℕ) × IsLeastShut boundary bytes byte × StandsIn boundary kind (take (byte - 1) bytes) × (why ≡ at_byte byte kind)

-- The state of a client that was given these bytes of a body with this boundary, all of whose complete parts it took.
-- No cutting of the bytes occurs in it.
abbrev pub Merges : List ℕ → List ℕ → State → Type 0
Merges boundary bytes t = (contents : List (List ℕ)) × AreComplete boundary bytes contents × AreAll boundary bytes contents × Follows 0 contents fresh t None

-- the bytes are taken
abbrev pub Accepts : List ℕ → List ℕ → State → Type 0
Accepts boundary bytes t = Merges boundary bytes t × IsOpen boundary bytes

-- the bytes are refused for this reason: at the first part that is refused, or else at their form
abbrev pub Refuses : List ℕ → List ℕ → State → List ℕ → Type 0
Refuses boundary bytes t why =
    ((contents : List (List ℕ)) × AreComplete boundary bytes contents × Follows 0 contents fresh t (Some why))
    ⊎ (Merges boundary bytes t × IsMisframed boundary bytes why)

-- the end of the input is taken: the bytes are a body, and the last payload said that no more comes
abbrev pub AcceptsEnd : List ℕ → List ℕ → State → Type 0
AcceptsEnd boundary bytes t = (contents : List (List ℕ)) × Body boundary bytes contents × (t.ended ≡ true)

-- or the bytes are no body, or the last payload said that more comes
abbrev pub RefusesEnd : List ℕ → List ℕ → State → List ℕ → Type 0
RefusesEnd boundary bytes t why =
    (((contents : List (List ℕ)) → Body boundary bytes contents → ⊥) × (why ≡ at_end (codes "Truncated")))
    ⊎ ((contents : List (List ℕ)) × Body boundary bytes contents × (t.ended ≡ false) × (why ≡ at_end (codes "NotFinished")))
