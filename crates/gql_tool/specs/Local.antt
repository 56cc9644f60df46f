-- What the command `local` writes: the right outcomes over its three files.
use Rattle.std.specs.Prelude.{◌≡◌, ◌⊎◌, ℕ, ◌<◌, ◌≤◌, Bool, true, false, List, [], ◌∷◌, ◌++◌, length, map, Option, None, Some, codes}
use Rattle.std.specs.List.{AllByRecursion as Each}
use Rattle.gql_tree.specs.declared.Spot.{Spot}
use Rattle.gql_tree.specs.declared.Value.{Value}
use Rattle.gql_tree.specs.declared.Fault.{Fault}
use Rattle.gql_tree.specs.declared.Failure.{Failure}
use Rattle.gql_tree.specs.declared.Payload.{Payload}
use Rattle.gql_tree.specs.Forest.{Forest}
use Rattle.gql_tree.specs.Inline.{inline_payloads}
use Rattle.gql_tree.specs.Merged.{IsMerged}
use Rattle.gql_payload.specs.PayloadText.{payload_text}
use Rattle.gql_payload.specs.ReportText.{report_text}
use Rattle.gql_multipart.specs.Frame.{frame}
use Rattle.gql_multipart.specs.Framed.{framed, at_first, so_far}
use Rattle.gql_doc.specs.declared.refusal.ParseRefusal.{ParseRefusal}
use Rattle.gql_doc.specs.Refusals.{parse_name, parse_spot}
use Rattle.gql_io.specs.Files.{Files}
use Rattle.gql_tool.specs.declared.status.Status.TheVariants.{Done, Refused, StreamRefused}
use Rattle.gql_tool.specs.Outcome.{Outcome, Ways, AfterFile}
use Rattle.gql_tool.specs.Words.{Names}
use Rattle.gql_tool.specs.Judged.{Judgement, NoText, NoDocument, NotBuilt, Executed, Judged}

-- ---- a request that is refused

-- an error that has no place has line and column 0
abbrev pub spot_or_zero : Option Spot → Spot
spot_or_zero None = record { line = 0; column = 0 }
spot_or_zero (Some spot) = spot

-- its one error
abbrev pub refusal_at : List ℕ → Spot → Payload
refusal_at message spot = record { initial = None; errors = record { message = message; line = spot.line; column = spot.column; path = None } ∷ []; pending = []; incremental = []; completed = []; has_next = None }

-- a body of one part says why and where
abbrev pub refused : List ℕ → Option Spot → Outcome
refused message spot = record { status = Refused; bytes = frame (payload_text (refusal_at message (spot_or_zero spot)) ∷ []) }

-- what is said of a text that is no document
abbrev pub syntax_message : ParseRefusal → List ℕ
syntax_message refusal = codes "Syntax: " ++ parse_name refusal

-- ---- a request that is executed

-- the texts of its payloads: tasks are run one after another
abbrev pub texts : Forest → List (List ℕ)
texts f = map payload_text (inline_payloads f)

-- the multipart body of these texts
abbrev pub body : Forest → List ℕ
body f = frame (texts f)

-- the line that reports the defined response
pub record IsMergedLine (f : Forest) (line : List ℕ) : Type 0 where
  pub value : Value
  pub errors : List Fault
  pub failures : List Failure
  pub merged : IsMerged f value errors failures
  pub is_line : line ≡ codes "merged " ++ (report_text value errors failures ++ 10 ∷ [])

-- the most bytes that a part of a body may have
abbrev pub part_limit : ℕ
part_limit = 67108864

abbrev pub Fits : List ℕ → Type 0
Fits text = length text ≤ part_limit

-- The client took the body: it is written whole, and then the line of the defined response.
pub record IsDelivered (f : Forest) (o : Outcome) : Type 0 where
  pub fit : Each Fits (texts f)
  pub line : List ℕ
  pub is_merged : IsMergedLine f line
  pub is : o ≡ record { status = Done; bytes = body f ++ line }

-- whether nothing comes behind these texts
abbrev pub at_last : List (List ℕ) → Bool
at_last [] = true
at_last (t ∷ ts) = false

-- what is written up to a text's piece, with so many texts before it and behind it
abbrev pub up_to : List (List ℕ) → List ℕ → List (List ℕ) → List ℕ
up_to before text after = so_far before ++ framed (at_first before) (at_last after) text

-- The client refused a text that is longer than a part may be: nothing is written behind its piece.
pub record IsCutOff (texts : List (List ℕ)) (o : Outcome) : Type 0 where
  pub before : List (List ℕ)
  pub text : List ℕ
  pub after : List (List ℕ)
  pub all : texts ≡ before ++ text ∷ after
  pub fit : Each Fits before
  pub too_long : part_limit < length text
  pub is : o ≡ record { status = StreamRefused; bytes = up_to before text after }

-- ---- the right outcomes

-- those of a request that is judged so
abbrev pub Answered : Judgement → Ways
Answered NoText o = o ≡ refused (codes "Document is not UTF-8") None
Answered (NoDocument refusal) o = o ≡ refused (syntax_message refusal) (parse_spot refusal)
Answered NotBuilt o = o ≡ refused (codes "NotBuilt") None
Answered (Executed f) o = IsDelivered f o ⊎ IsCutOff (texts f) o

-- the request is judged, and answered
abbrev pub RequestWays : (vars schema tables document : List ℕ) → Ways
RequestWays vars schema tables document o = (is : Judgement) × Judged vars schema tables document is × Answered is o

-- SCHEMA, TABLES and DOC are read in this order, and then the request is judged
abbrev pub LocalWays : Names → Files → Ways
LocalWays names files = AfterFile (files names.schema) names.schema (λ s. AfterFile (files names.tables) names.tables (λ t. AfterFile (files names.document) names.document (λ d. RequestWays names.vars s t d)))
