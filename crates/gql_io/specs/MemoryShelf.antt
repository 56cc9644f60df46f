-- A shelf in memory, as its callers see it.
use Rattle.std.specs.Prelude.{ℕ, List, Option, Some, option_map, find, bytes_eq}
use Rattle.gql_io.specs.Files.{Files}
use Rattle.gql_io.specs.declared.calls.Calls.{Calls}
use Rattle.gql_io.specs.declared.memory_shelf.MemoryShelf.{MemoryShelf}
use Rattle.gql_io.specs.declared.memory_shelf.ShelfFile.{ShelfFile}

-- the bytes of the first file of a name
abbrev pub bytes_under : List ShelfFile → Files
bytes_under files name = option_map (λ file. file.bytes) (find (λ file. bytes_eq file.name name) files)

-- the files that it tells of
abbrev pub files_of : MemoryShelf → Option Files
files_of shelf = Some (bytes_under shelf.files.items)

-- its calls, by number
abbrev pub calls_of : MemoryShelf → Calls ℕ
calls_of shelf = shelf.calls

-- how often it has failed
abbrev pub faults_of : MemoryShelf → ℕ
faults_of shelf = shelf.calls.faults
