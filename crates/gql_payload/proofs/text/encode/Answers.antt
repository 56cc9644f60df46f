use Rattle.std.proofs.Common.{ℕ, Vec, Global, List, ◌∙◌, ap, sym, subst, IsUtf8, ◌≡◌}
use Rattle.std.proofs.lemmas.Str.{IsUtf8-string_bytes}
use Rattle.serde_json.specs.Written.{has_float, compact_text}
use Rattle.gql_tree.specs.declared.delivery.Payload.{Payload}
use Rattle.gql_payload.specs.PayloadText.{payload_text}
use Rattle.gql_tree.specs.Sound.{SamePayload}
use Rattle.gql_payload.specs.Reading.{Decodes}
use Rattle.gql_payload.proofs.Plain.{payload_plain}
use Rattle.gql_payload.proofs.Back.{text_back}
use Rattle.gql_payload.proofs.text.encode.Goals as goal

pub returns-clause-text : goal.returns-clause-text
returns-clause-text c =
    c.from_vec.ensures
    ∙ (ap (λ (v : Vec ℕ Global). v.items) c.into_bytes.ensures.value
    ∙ (c.in_ok-to_string.ensures.text (ap has_float c.in_ok-json.ensures.json ∙ payload_plain c.args.payload.now)
    ∙ ap compact_text c.in_ok-json.ensures.json))

pub returns-clause-back : goal.returns-clause-back
returns-clause-back c = λ sound deep.
    let p = c.args.payload.now in
    let text : c.from_vec.result ≡ payload_text p = returns-clause-text c in
    let written = c.in_ok-to_string.ensures.text (ap has_float c.in_ok-json.ensures.json ∙ payload_plain p) ∙ ap compact_text c.in_ok-json.ensures.json in
    let utf8 : IsUtf8 (payload_text p) = subst IsUtf8 written (IsUtf8-string_bytes c.in_ok-to_string.field-0) in
    subst (λ (bytes : List ℕ). (again : Payload) × Decodes bytes again × SamePayload p again) (sym text) (text_back p sound c.in_ok-json.ensures.typed utf8 deep)
