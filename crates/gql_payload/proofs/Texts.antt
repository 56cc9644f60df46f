-- The texts of the sample payloads.
use Rattle.std.proofs.Common.{◌≡◌, [], ◌∷◌, refl, arith}
use Rattle.std.specs.Prelude.{codes, decimal}
use Rattle.std.specs.Fmt.{digits}
use Rattle.std.proofs.lemmas.Fmt.{decimal_digit}
use Rattle.json.specs.Print.{escape_byte}
use Rattle.gql_payload.specs.PayloadText.{payload_text}
use Rattle.gql_payload.specs.Samples.{announced, delivered, failed, continued}
use Rattle.gql_tree.proofs.Json.{data_Null, data_Text, data_Object}

pub text_announced : payload_text announced ≡ codes "{\"data\":{\"hero\":{\"id\":\"1\"}},\"hasNext\":true,\"pending\":[{\"id\":\"0\",\"label\":\"D\",\"path\":[\"hero\"]}]}"
unfolding escape_byte
text_announced = simp (data_Object, data_Text) refl

pub text_delivered : payload_text delivered ≡ codes "{\"completed\":[{\"id\":\"0\"}],\"hasNext\":false,\"incremental\":[{\"data\":{\"name\":\"Luke\"},\"id\":\"0\"}]}"
unfolding escape_byte
text_delivered = simp (data_Object, data_Text) refl

decimal-13 : decimal 13 ≡ 49 ∷ 51 ∷ []
unfolding digits
decimal-13 = refl

pub text_failed : payload_text failed ≡ codes "{\"data\":{\"hero\":null},\"errors\":[{\"locations\":[{\"column\":13,\"line\":1}],\"message\":\"bang\",\"path\":[\"hero\",\"boom\"]}]}"
unfolding escape_byte
text_failed = simp (data_Object, data_Null, decimal_digit 1 (omega arith), decimal-13) refl

pub text_continued : payload_text continued ≡ codes "{\"hasNext\":true,\"incremental\":[{\"data\":{\"name\":\"Luke\"},\"id\":\"0\",\"subPath\":[\"hero\"]},{\"id\":\"1\",\"items\":[]}]}"
unfolding escape_byte
text_continued = simp (data_Object, data_Text) refl
