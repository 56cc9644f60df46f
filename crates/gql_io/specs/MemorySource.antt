-- A source in memory, as its callers see it.
use Rattle.std.specs.Prelude.{ℕ, min, max, List, length, drop, Option, Some}
use Rattle.gql_io.specs.declared.calls.Calls.{Calls}
use Rattle.gql_io.specs.declared.memory_source.MemorySource.{MemorySource}

-- the bytes that are left
abbrev pub rest_of : MemorySource → List ℕ
rest_of source = drop source.at source.bytes.items

-- which it always tells
abbrev pub left_of : MemorySource → Option (List ℕ)
left_of source = Some (rest_of source)

-- the most bytes that a call gives
abbrev pub step_of : MemorySource → ℕ
step_of source = source.step

-- its calls, by number
abbrev pub calls_of : MemorySource → Calls ℕ
calls_of source = source.calls

-- how often it has failed
abbrev pub faults_of : MemorySource → ℕ
faults_of source = source.calls.faults

-- how many bytes a call gives that doesn't fail, with so much room
abbrev pub count_next : MemorySource → ℕ → ℕ
count_next source room = min (min (length (rest_of source)) room) (max (step_of source) 1)
