-- That a value is a finite map.
use Rattle.std.specs.Prelude.{List, Contains, IsSome}
use Rattle.gql_tree.specs.declared.path.Key.{Key}
use Rattle.gql_tree.specs.declared.value.Value.{Value}
use Rattle.gql_tree.specs.Flat.{flat}

-- a list of paths has each path at which the value has a mark
abbrev pub IsFinite : Value → Type 0
IsFinite v = (paths : List (List Key)) × ((path : List Key) → IsSome (flat v path) → Contains paths path)
