-- Names that are repeated in the lists of a type.
use Rattle.std.proofs.Common.{◌≡◌, sym, ◌∙◌, ap, Bool, List, [], ◌++◌, map}
use Rattle.std.specs.Option.{option_or}
use Rattle.gql_tree.specs.declared.Spot.{Spot}
use Rattle.gql_model.specs.declared.type_syntax.NameAt.{NameAt}
use Rattle.gql_model.specs.declared.type_syntax.InputSyntax.{InputSyntax}
use Rattle.gql_model.specs.declared.type_syntax.FieldSyntax.{FieldSyntax}
use Rattle.gql_model.specs.rules.Places.{place_if, in_turn, repeats}
use Rattle.gql_model.specs.rules.TypeParts.{Input, Field, input_of, field_of, named_input}
use Rattle.gql_model.specs.rules.types.DistinctNames.{repeated_at_field, repeated_in}
use Rattle.gql_schema.specs.declared.defined.Defined.{Defined}
use Rattle.gql_schema.specs.Seen.{defined}
use Rattle.gql_schema.specs.FirstPlace.{first_place}
use Rattle.gql_schema.proofs.Walking.{first_place-append, or_assoc}
use Rattle.gql_schema.proofs.InTurn.{in_turn-map}

abbrev at_name : Bool → NameAt → List Spot
at_name again n = place_if again n.spot

input_repeats : (is : List InputSyntax) → repeats (map named_input (map input_of is)) ≡ in_turn (λ i. i.name.name) (λ again i. place_if again i.name.spot) [] is
input_repeats is =
    in_turn-map (λ (n : NameAt). n.name) at_name named_input [] (map input_of is)
    ∙ in_turn-map (λ (i : Input). i.name.name) (λ again (i : Input). at_name again i.name) input_of [] is

pub field_repeats : (again : Bool) (f : FieldSyntax) → first_place (repeated_at_field again (field_of f)) ≡ option_or (first_place (place_if again f.name.spot)) (first_place (in_turn (λ i. i.name.name) (λ again i. place_if again i.name.spot) [] f.arguments))
field_repeats again f =
    first_place-append (place_if again f.name.spot) (repeats (map named_input (map input_of f.arguments)))
    ∙ ap (λ ps. option_or (first_place (place_if again f.name.spot)) (first_place ps)) (input_repeats f.arguments)

pub type_repeats : (of : Defined) → first_place (repeated_in (defined of)) ≡ option_or (option_or (first_place (in_turn (λ f. f.name.name) (λ again f. repeated_at_field again (field_of f)) [] of.fields.now)) (first_place (in_turn (λ i. i.name.name) (λ again i. place_if again i.name.spot) [] of.inputs.now))) (first_place (in_turn (λ n. n.name) (λ again n. place_if again n.spot) [] of.values.now))
type_repeats of =
    let fs = in_turn (λ (f : Field). f.name.name) repeated_at_field [] (map field_of of.fields.now) in
    let is = repeats (map named_input (map input_of of.inputs.now)) in
    let vs = repeats of.values.now in
    first_place-append fs (is ++ vs)
    ∙ ap (λ o. option_or (first_place fs) o) (first_place-append is vs)
    ∙ sym (or_assoc (first_place fs) (first_place is) (first_place vs))
    ∙ ap (λ ps. option_or (option_or (first_place ps) (first_place is)) (first_place vs)) (in_turn-map (λ (f : Field). f.name.name) repeated_at_field field_of [] of.fields.now)
    ∙ ap (λ ps. option_or (option_or (first_place (in_turn (λ f. f.name.name) (λ again f. repeated_at_field again (field_of f)) [] of.fields.now)) (first_place ps)) (first_place vs)) (input_repeats of.inputs.now)
