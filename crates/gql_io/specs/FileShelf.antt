-- A shelf of real files, as its callers see it.
use Rattle.std.specs.Prelude.{ℕ}
use Rattle.gql_io.specs.declared.file_shelf.FileShelf.{FileShelf}

-- how often it has failed
abbrev pub faults_of : {R : Type 0} → FileShelf R → ℕ
faults_of shelf = shelf.faults
