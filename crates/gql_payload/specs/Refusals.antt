-- The names of refusals, as they are shown to a user.
use Rattle.std.specs.Prelude.{ℕ, List, ◌++◌, codes}
use Rattle.gql_payload.specs.declared.refusal.PayloadRefusal.{PayloadRefusal}
use Rattle.gql_payload.specs.declared.refusal.PayloadRefusal.TheVariants.{NotJson, NotAnObject, Wrong, NoMemory}

-- a wrong member is named
abbrev pub payload_name : PayloadRefusal → List ℕ
payload_name NotJson = codes "NotJson"
payload_name NotAnObject = codes "NotAnObject"
payload_name (Wrong member) = codes "Wrong " ++ member
payload_name NoMemory = codes "NoMemory"
