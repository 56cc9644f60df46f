-- A sink in memory, as its callers see it.
use Rattle.std.specs.Prelude.{◌≡◌, ℕ, List, ◌++◌, length, take, Option, Some, option_map, unwrap_or, find, ◌==◌, Result, IsErr, ◌⊎◌}
use Rattle.gql_io.specs.declared.calls.Calls.{Calls}
use Rattle.gql_io.specs.declared.memory_sink.MemorySink.{MemorySink}
use Rattle.gql_io.specs.declared.memory_sink.SinkFault.{SinkFault}

-- the bytes that were sent, which it always tells
abbrev pub sent_of : MemorySink → Option (List ℕ)
sent_of sink = Some sink.sent.items

-- its calls, with what those that fail still take
abbrev pub calls_of : MemorySink → Calls SinkFault
calls_of sink = sink.calls

-- how often it has failed
abbrev pub faults_of : MemorySink → ℕ
faults_of sink = sink.calls.faults

-- how many bytes its next call takes, where that is one that fails
abbrev pub taken_next : MemorySink → Option ℕ
taken_next sink = option_map (λ fault. fault.taken) (find (λ fault. fault.call == sink.calls.made) sink.calls.failing.items)

-- what its next call takes of a piece
abbrev pub share_of : MemorySink → List ℕ → List ℕ
share_of sink piece = take (unwrap_or (taken_next sink) (length piece)) piece

-- a share was sent, or none of it in a call that failed
abbrev pub TakesOrFails : {T E : Type 0} → MemorySink → MemorySink → List ℕ → Result T E → Type 0
TakesOrFails old new share result = (new.sent.items ≡ old.sent.items ++ share) ⊎ (IsErr result × (new.sent.items ≡ old.sent.items))
