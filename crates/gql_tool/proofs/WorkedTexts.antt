-- The texts of worked operations, by computing.
use Rattle.std.specs.Prelude.{◌≡◌, refl, true, false, List, [], ◌∷◌, map, length, Some, None, codes}
use Rattle.std.proofs.Common.{ap, ◌∙◌, arith}
use Rattle.std.proofs.lemmas.Fmt.{decimal_digit}
use Rattle.std.specs.Fmt.{digits}
use Rattle.std.specs.Prelude.{decimal}
use Rattle.json.specs.Print.{escape_byte}
use Rattle.gql_multipart.specs.Frame.{frame}
use Rattle.gql_tree.specs.declared.Key.TheVariants.{Name as Named_key}
use Rattle.gql_tree.specs.declared.Fault.{Fault}
use Rattle.gql_tree.specs.declared.Value.TheVariants as v
use Rattle.gql_tree.specs.declared.Content.TheVariants.{Fields}
use Rattle.gql_tree.specs.declared.Entry.{Entry}
use Rattle.gql_tree.specs.declared.Payload.{Payload}
use Rattle.gql_tree.specs.Inline.{inline_payloads}
use Rattle.gql_payload.specs.PayloadText.{payload_text}
use Rattle.gql_tree.proofs.Json.{data_Null, data_Text, data_Object}
use Rattle.gql_model.specs.Sample.{one_field, one_deferred, bubbling, null_item, failing}
use Rattle.gql_model.specs.Worked.{regions}
use Rattle.gql_tool.specs.Local.{texts, body}

decimal-0 : decimal 0 ≡ 48 ∷ []
decimal-0 = decimal_digit 0 (omega arith)

decimal-1 : decimal 1 ≡ 49 ∷ []
decimal-1 = decimal_digit 1 (omega arith)

decimal-2 : decimal 2 ≡ 50 ∷ []
decimal-2 = decimal_digit 2 (omega arith)

decimal-10 : decimal 10 ≡ 49 ∷ 48 ∷ []
unfolding digits
decimal-10 = refl

decimal-13 : decimal 13 ≡ 49 ∷ 51 ∷ []
unfolding digits
decimal-13 = refl

decimal-37 : decimal 37 ≡ 51 ∷ 55 ∷ []
unfolding digits
decimal-37 = refl

pub texts-plain : texts (regions one_field) ≡ codes "{\"data\":{\"hero\":{\"id\":\"1\"}}}" ∷ []
unfolding escape_byte
texts-plain = simp (data_Object, data_Text) refl

-- the payload that announces the deferred piece, and the one that completes it
abbrev announcing : Payload
announcing = record {
  initial = Some (v.Object (record { name = codes "hero"; value = v.Object (record { name = codes "id"; value = v.Text (codes "1") } ∷ []) } ∷ []));
  errors = [];
  pending = record { id = decimal 0; path = record { keys = Named_key (codes "hero") ∷ [] }; label = Some (codes "D") } ∷ [];
  incremental = [];
  completed = [];
  has_next = Some true;
}

abbrev completing : List Entry → List Fault → Payload
completing entries errors = record { initial = None; errors = []; pending = []; incremental = entries; completed = record { id = decimal 0; errors = errors } ∷ []; has_next = Some false }

abbrev named : Entry
named = record { id = decimal 0; sub_path = record { keys = [] }; content = Fields (v.Object (record { name = codes "name"; value = v.Text (codes "Luke") } ∷ [])); errors = [] }

abbrev failed : Fault
failed = record { message = codes "bang"; line = 1; column = 37; path = Some (record { keys = Named_key (codes "hero") ∷ Named_key (codes "boom") ∷ [] }) }

payloads-one_deferred : inline_payloads (regions one_deferred) ≡ announcing ∷ completing (named ∷ []) [] ∷ []
payloads-one_deferred = refl

payloads-failing : inline_payloads (regions failing) ≡ announcing ∷ completing [] (failed ∷ []) ∷ []
payloads-failing = refl

texts_one : map payload_text (announcing ∷ completing (named ∷ []) [] ∷ []) ≡ codes "{\"data\":{\"hero\":{\"id\":\"1\"}},\"hasNext\":true,\"pending\":[{\"id\":\"0\",\"label\":\"D\",\"path\":[\"hero\"]}]}" ∷ codes "{\"completed\":[{\"id\":\"0\"}],\"hasNext\":false,\"incremental\":[{\"data\":{\"name\":\"Luke\"},\"id\":\"0\"}]}" ∷ []
unfolding escape_byte
texts_one = simp (data_Object, data_Text, decimal-0) refl

pub texts-one_deferred : texts (regions one_deferred) ≡ codes "{\"data\":{\"hero\":{\"id\":\"1\"}},\"hasNext\":true,\"pending\":[{\"id\":\"0\",\"label\":\"D\",\"path\":[\"hero\"]}]}" ∷ codes "{\"completed\":[{\"id\":\"0\"}],\"hasNext\":false,\"incremental\":[{\"data\":{\"name\":\"Luke\"},\"id\":\"0\"}]}" ∷ []
texts-one_deferred = ap (map payload_text) payloads-one_deferred ∙ texts_one

pub length-one_deferred : length (body (regions one_deferred)) ≡ 305
length-one_deferred = ap (λ ts. length (frame ts)) texts-one_deferred

pub texts-bubbling : texts (regions bubbling) ≡ codes "{\"data\":{\"hero\":null},\"errors\":[{\"locations\":[{\"column\":13,\"line\":1}],\"message\":\"bang\",\"path\":[\"hero\",\"boom\"]}]}" ∷ []
unfolding escape_byte
texts-bubbling = simp (data_Object, data_Null, decimal-1, decimal-13) refl

pub texts-null_item : texts (regions null_item) ≡ codes "{\"data\":{\"crew\":null},\"errors\":[{\"locations\":[{\"column\":10,\"line\":1}],\"message\":\"Null in a non-null position\",\"path\":[\"crew\",2,\"name\"]}]}" ∷ []
unfolding escape_byte
texts-null_item = simp (data_Object, data_Null, decimal-1, decimal-2, decimal-10) refl

texts_failed : map payload_text (announcing ∷ completing [] (failed ∷ []) ∷ []) ≡ codes "{\"data\":{\"hero\":{\"id\":\"1\"}},\"hasNext\":true,\"pending\":[{\"id\":\"0\",\"label\":\"D\",\"path\":[\"hero\"]}]}" ∷ codes "{\"completed\":[{\"errors\":[{\"locations\":[{\"column\":37,\"line\":1}],\"message\":\"bang\",\"path\":[\"hero\",\"boom\"]}],\"id\":\"0\"}],\"hasNext\":false}" ∷ []
unfolding escape_byte
texts_failed = simp (data_Object, data_Text, decimal-0, decimal-1, decimal-37) refl

pub texts-failing : texts (regions failing) ≡ codes "{\"data\":{\"hero\":{\"id\":\"1\"}},\"hasNext\":true,\"pending\":[{\"id\":\"0\",\"label\":\"D\",\"path\":[\"hero\"]}]}" ∷ codes "{\"completed\":[{\"errors\":[{\"locations\":[{\"column\":37,\"line\":1}],\"message\":\"bang\",\"path\":[\"hero\",\"boom\"]}],\"id\":\"0\"}],\"hasNext\":false}" ∷ []
texts-failing = ap (map payload_text) payloads-failing ∙ texts_failed
