-- What serving asks of the regions of a request, for private clauses: the one thing that the proofs of a command need of
-- what is executed.
use Rattle.std.specs.Prelude.{◌≡◌, ◌≤◌, true}
use Rattle.std.specs.List.{AllByRecursion as Each}
use Rattle.serde_json.specs.Data.{depth}
use Rattle.gql_tree.specs.declared.Payload.{Payload}
use Rattle.gql_tree.specs.Sound.{IsSound, SamePayload}
use Rattle.gql_tree.specs.Forest.{Forest}
use Rattle.gql_tree.specs.Typed.{IsTypedPayload}
use Rattle.gql_tree.specs.Numbering.{is_complete, inline_order}
use Rattle.gql_tree.specs.Inline.{inline_times, inline_payloads}
use Rattle.gql_tree.specs.WellFormed.{IsWellFormed}
use Rattle.gql_payload.specs.PayloadText.{payload_data, payload_text}
use Rattle.gql_payload.specs.Reading.{Decodes}
use Rattle.gql_confluence.specs.Confluence.{HasFewIds}

-- a payload that makes sense and isn't deep
abbrev pub IsReadable : Payload → Type 0
IsReadable p = IsSound p × (depth (payload_data p) ≤ 127)

-- a payload whose text is read as the same payload
abbrev pub IsReadBack : Payload → Type 0
IsReadBack p = (again : Payload) × Decodes (payload_text p) again × SamePayload p again

-- regions as execution makes them, whose tasks end in the inline order; payloads that can exist and are read back
pub record CanBeServed (f : Forest) : Type 0 where
  pub well_formed : IsWellFormed f
  pub complete : is_complete f (inline_order f) ≡ true
  pub few : HasFewIds f (inline_times f)
  pub typed : Each IsTypedPayload (inline_payloads f)
  pub readable : Each IsReadable (inline_payloads f)
  pub read_back : Each IsReadBack (inline_payloads f)
