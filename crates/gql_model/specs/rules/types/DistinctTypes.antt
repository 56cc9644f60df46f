-- Type names are distinct and are no built-in scalar's name (section 3.3 of the standard). At fault is the first that repeats
-- one. Definitions of scalars count too.
use Rattle.std.specs.Prelude.{List, map}
use Rattle.gql_tree.specs.declared.Spot.{Spot}
use Rattle.gql_model.specs.rules.Places.{repeats_after}
use Rattle.gql_model.specs.rules.TypeParts.{Defined, built_in}

abbrev pub repeated_types : List Defined → List Spot
repeated_types ts = repeats_after built_in (map (λ d. d.name) ts)
