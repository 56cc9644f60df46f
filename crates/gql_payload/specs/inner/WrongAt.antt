-- A refusal that names a member, for private clauses.
use Rattle.std.specs.Prelude.{ℕ, List}
use Rattle.gql_payload.specs.declared.refusal.PayloadRefusal.{PayloadRefusal}
use Rattle.gql_payload.specs.declared.refusal.PayloadRefusal.TheVariants.{NotJson, NotAnObject, Wrong, NoMemory}

-- a wrong member is one of these, and no other refusal comes but want of memory
abbrev pub WrongAt : (List ℕ → Type 0) → PayloadRefusal → Type 0
WrongAt P NotJson = ⊥
WrongAt P NotAnObject = ⊥
WrongAt P (Wrong member) = P member
WrongAt P NoMemory = Unit
