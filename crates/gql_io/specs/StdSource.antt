-- A source over a reader, as its callers see it.
use Rattle.std.specs.Prelude.{ℕ}
use Rattle.gql_io.specs.declared.std_source.StdSource.{StdSource}

-- the reader, which tells what is left where it tells anything
abbrev pub reader_of : {R : Type 0} → StdSource R → R
reader_of source = source.reader

-- how often it has failed
abbrev pub faults_of : {R : Type 0} → StdSource R → ℕ
faults_of source = source.faults
