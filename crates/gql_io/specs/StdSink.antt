-- A sink over a writer, as its callers see it.
use Rattle.std.specs.Prelude.{ℕ}
use Rattle.gql_io.specs.declared.std_sink.StdSink.{StdSink}

-- the writer, which tells what was sent where it tells anything
abbrev pub writer_of : {W : Type 0} → StdSink W → W
writer_of sink = sink.writer

-- how often it has failed
abbrev pub faults_of : {W : Type 0} → StdSink W → ℕ
faults_of sink = sink.faults
