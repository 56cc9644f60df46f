-- The first place where a rule is broken.
use Rattle.std.specs.Prelude.{List, [], ◌∷◌, Option, Some, None}
use Rattle.gql_tree.specs.declared.Spot.{Spot}

abbrev pub first_place : List Spot → Option Spot
first_place [] = None
first_place (s ∷ ss) = Some s
