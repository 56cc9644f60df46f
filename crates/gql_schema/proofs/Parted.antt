-- The places of a type's relations to its interfaces, and of its defaults, in two parts.
use Rattle.std.proofs.Common.{◌≡◌, ◌∙◌, ap, List, map, flat_map}
use Rattle.std.specs.Str.{bytes_eq}
use Rattle.std.specs.Option.{option_or}
use Rattle.std.proofs.lemmas.List.Concat.{flat_map-append}
use Rattle.std.proofs.lemmas.List.Folds.{flat_map-map}
use Rattle.gql_tree.specs.declared.Spot.{Spot}
use Rattle.gql_model.specs.rules.Places.{place_if, faults}
use Rattle.gql_model.specs.rules.TypeParts as parts
use Rattle.gql_model.specs.rules.TypeParts.{Input, Field, input_of, field_of, inputs_in}
use Rattle.gql_model.specs.rules.types.InheritedInterfaces.{lacks_interface, missing_interfaces_of}
use Rattle.gql_model.specs.rules.types.ImplementedFields.{lacks_field, faulty_field, unimplemented_in}
use Rattle.gql_schema.specs.declared.defined.Defined.{Defined}
use Rattle.gql_schema.specs.Seen.{defined}
use Rattle.gql_schema.specs.FirstPlace.{first_place}
use Rattle.gql_schema.proofs.Walking.{first_place-append, flat_map-flat_map}

module _ (ts : List parts.Defined) where
  pub interfaces_parted : (of : Defined) → first_place (missing_interfaces_of ts (defined of)) ≡ option_or (first_place (place_if (lacks_interface ts (defined of)) of.name.now.spot)) (first_place (flat_map (λ i. place_if (bytes_eq i.name of.name.now.name) i.spot) of.implements.now))
  interfaces_parted of = first_place-append (place_if (lacks_interface ts (defined of)) of.name.now.spot) (faults (λ i. bytes_eq i.name of.name.now.name) of.implements.now)

  pub fields_parted : (of : Defined) → first_place (unimplemented_in ts (defined of)) ≡ option_or (first_place (place_if (lacks_field ts (defined of)) of.name.now.spot)) (first_place (flat_map (λ g. faulty_field ts (defined of) (field_of g)) of.fields.now))
  fields_parted of =
      first_place-append (place_if (lacks_field ts (defined of)) of.name.now.spot) (flat_map (faulty_field ts (defined of)) (map field_of of.fields.now))
      ∙ ap (λ ps. option_or (first_place (place_if (lacks_field ts (defined of)) of.name.now.spot)) (first_place ps)) (flat_map-map (faulty_field ts (defined of)) field_of of.fields.now)

  pub inputs_parted : (P : Input → List Spot) (of : Defined) → first_place (flat_map P (inputs_in (defined of))) ≡ option_or (first_place (flat_map (λ f. flat_map P (map input_of f.arguments)) of.fields.now)) (first_place (flat_map (λ i. P (input_of i)) of.inputs.now))
  inputs_parted P of =
      let args = flat_map (λ (f : Field). f.arguments) (map field_of of.fields.now) in
      ap first_place (flat_map-append P args (map input_of of.inputs.now))
      ∙ first_place-append (flat_map P args) (flat_map P (map input_of of.inputs.now))
      ∙ ap (λ ps. option_or (first_place ps) (first_place (flat_map P (map input_of of.inputs.now)))) (flat_map-flat_map P (λ (f : Field). f.arguments) (map field_of of.fields.now) ∙ flat_map-map (λ (f : Field). flat_map P f.arguments) field_of of.fields.now)
      ∙ ap (λ ps. option_or (first_place (flat_map (λ f. flat_map P (map input_of f.arguments)) of.fields.now)) (first_place ps)) (flat_map-map P input_of of.inputs.now)
