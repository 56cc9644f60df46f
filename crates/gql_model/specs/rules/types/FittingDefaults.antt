-- A default fits its type (sections 3.6.1 and 3.10 of the standard). At fault is the innermost literal that doesn't fit by itself, the
-- name of an unknown field or of one that is given twice, or the object literal that lacks a required field.
use Rattle.std.specs.Prelude.{List, [], flat_map, Some, None}
use Rattle.gql_tree.specs.declared.Spot.{Spot}
use Rattle.gql_model.specs.rules.TypeParts.{Input, Defined, inputs_in}
use Rattle.gql_model.specs.rules.Fitting.{misfits}

module _ (ts : List Defined) where
  abbrev pub default_places : Input → List Spot
  default_places i = elim i.default [ None ↦ [] | Some w ↦ misfits ts w i.type ]

  abbrev pub misfitting_defaults : List Spot
  misfitting_defaults = flat_map (λ d. flat_map default_places (inputs_in d)) ts
