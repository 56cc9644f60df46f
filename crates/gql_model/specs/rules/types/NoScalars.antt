-- There is no definition of a scalar. The standard has them (section 3.5); this service has the built-in ones alone.
use Rattle.std.specs.Prelude.{List, flat_map}
use Rattle.gql_tree.specs.declared.Spot.{Spot}
use Rattle.gql_model.specs.rules.Places.{place_if}
use Rattle.gql_model.specs.rules.TypeParts.{Defined, is_scalar}

abbrev pub scalar_definitions : List Defined → List Spot
scalar_definitions ts = flat_map (λ d. place_if (is_scalar d.kind) d.name.spot) ts
