-- The calls of something in memory, which fails at those that it is told to fail.
use Rattle.std.specs.Prelude.{◌≡◌, ℕ, ◌+◌, ◌-◌, ◌^◌, min, List, Contains}
use Rattle.gql_io.specs.declared.calls.Calls.{Calls}

-- no call was made, and these fail
abbrev pub IsFresh : {F : Type 0} → Calls F → List F → Type 0
IsFresh calls failing = (calls.failing.items ≡ failing) × (calls.made ≡ 0) × (calls.faults ≡ 0)

-- one call later: the same calls fail, and one more is past
abbrev pub IsNext : {F : Type 0} → Calls F → Calls F → Type 0
IsNext old new = (new.failing.items ≡ old.failing.items) × (new.made ≡ min (old.made + 1) (2 ^ 64 - 1))

-- the number of the next call is one of those that fail
abbrev pub FailsNext : Calls ℕ → Type 0
FailsNext calls = Contains calls.failing.items calls.made
