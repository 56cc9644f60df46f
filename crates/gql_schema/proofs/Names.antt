-- The faults of names that are put together of others.
use Rattle.std.proofs.Common.{◌≡◌, sym, ◌∙◌, ap, Bool, List, [], ◌∷◌, ◌++◌, map, flat_map}
use Rattle.std.specs.Option.{option_or}
use Rattle.std.proofs.lemmas.List.Concat.{flat_map-append}
use Rattle.std.proofs.lemmas.List.Folds.{flat_map-map}
use Rattle.gql_tree.specs.declared.Spot.{Spot}
use Rattle.gql_model.specs.declared.type_syntax.NameAt.{NameAt}
use Rattle.gql_model.specs.declared.type_syntax.InputSyntax.{InputSyntax}
use Rattle.gql_model.specs.declared.type_syntax.FieldSyntax.{FieldSyntax}
use Rattle.gql_model.specs.rules.Places.{place_if, faults}
use Rattle.gql_model.specs.rules.References.{reference, innermost}
use Rattle.gql_model.specs.rules.TypeParts.{Input, Field, input_of, field_of, named_input}
use Rattle.gql_model.specs.rules.types.ReservedNames.{names_in, names_in_field}
use Rattle.gql_schema.specs.declared.defined.Defined.{Defined}
use Rattle.std.proofs.lemmas.List.{append-nil}
use Rattle.gql_model.specs.declared.type_syntax.RootSyntax.{RootSyntax}
use Rattle.gql_model.specs.rules.types.KnownTypes.{used_by_input, used_by_field}
use Rattle.gql_schema.specs.Seen.{defined, used_by_type}
use Rattle.gql_schema.specs.FirstPlace.{first_place}
use Rattle.gql_schema.proofs.Walking.{first_place-append, or_assoc, flat_map-flat_map}

module _ (test : NameAt → Bool) where
  abbrev at : NameAt → List Spot
  at n = place_if (test n) n.spot

  -- ---- names of arguments and of input fields

  pub input_names : (is : List InputSyntax) → faults test (map named_input (map input_of is)) ≡ flat_map (λ i. place_if (test i.name) i.name.spot) is
  input_names is = flat_map-map at named_input (map input_of is) ∙ flat_map-map (λ i. at i.name) input_of is

  pub field_names : (f : FieldSyntax) → first_place (faults test (names_in_field (field_of f))) ≡ option_or (first_place (place_if (test f.name) f.name.spot)) (first_place (flat_map (λ i. place_if (test i.name) i.name.spot) f.arguments))
  field_names f = first_place-append (at f.name) (faults test (map named_input (map input_of f.arguments))) ∙ ap (λ ps. option_or (first_place (at f.name)) (first_place ps)) (input_names f.arguments)

  pub type_names : (of : Defined) → first_place (faults test (names_in (defined of))) ≡ option_or (option_or (option_or (first_place (place_if (test of.name.now) of.name.now.spot)) (first_place (flat_map (λ f. faults test (names_in_field (field_of f))) of.fields.now))) (first_place (flat_map (λ i. place_if (test i.name) i.name.spot) of.inputs.now))) (first_place (flat_map (λ n. place_if (test n) n.spot) of.values.now))
  type_names of =
      let n = at of.name.now in
      let fs = flat_map names_in_field (map field_of of.fields.now) in
      let is = map named_input (map input_of of.inputs.now) in
      let vs = of.values.now in
      let fields : faults test fs ≡ flat_map (λ f. faults test (names_in_field (field_of f))) of.fields.now = flat_map-flat_map at names_in_field (map field_of of.fields.now) ∙ flat_map-map (λ f. faults test (names_in_field f)) field_of of.fields.now in
      first_place-append n (faults test (fs ++ (is ++ vs)))
      ∙ ap (λ o. option_or (first_place n) o) (ap first_place (flat_map-append at fs (is ++ vs)) ∙ first_place-append (faults test fs) (faults test (is ++ vs)) ∙ ap (λ o. option_or (first_place (faults test fs)) o) (ap first_place (flat_map-append at is vs) ∙ first_place-append (faults test is) (faults test vs)))
      ∙ sym (or_assoc (first_place n) (first_place (faults test fs)) (option_or (first_place (faults test is)) (first_place (faults test vs))))
      ∙ sym (or_assoc (option_or (first_place n) (first_place (faults test fs))) (first_place (faults test is)) (first_place (faults test vs)))
      ∙ ap (λ ps. option_or (option_or (option_or (first_place n) (first_place ps)) (first_place (faults test is))) (first_place (faults test vs))) fields
      ∙ ap (λ ps. option_or (option_or (option_or (first_place n) (first_place (flat_map (λ f. faults test (names_in_field (field_of f))) of.fields.now))) (first_place ps)) (first_place (faults test vs))) (input_names of.inputs.now)

  -- ---- types that arguments and input fields have

  abbrev at_input : Input → List Spot
  at_input i = at (innermost i.type)

  pub input_types : (is : List InputSyntax) → faults test (map (λ i. innermost i.type) (map input_of is)) ≡ flat_map (λ i. place_if (test (innermost (reference i.kind))) (innermost (reference i.kind)).spot) is
  input_types is = flat_map-map at (λ i. innermost i.type) (map input_of is) ∙ flat_map-map at_input input_of is

  pub all_input_types : (fs : List FieldSyntax) (is : List InputSyntax) → first_place (faults test (map (λ i. innermost i.type) (flat_map (λ f. f.arguments) (map field_of fs) ++ map input_of is))) ≡ option_or (first_place (flat_map (λ f. faults test (map (λ i. innermost i.type) (map input_of f.arguments))) fs)) (first_place (flat_map (λ i. place_if (test (innermost (reference i.kind))) (innermost (reference i.kind)).spot) is))
  all_input_types fs is =
      let args = flat_map (λ (f : Field). f.arguments) (map field_of fs) in
      ap first_place (flat_map-map at (λ i. innermost i.type) (args ++ map input_of is) ∙ flat_map-append at_input args (map input_of is))
      ∙ first_place-append (flat_map at_input args) (flat_map at_input (map input_of is))
      ∙ ap (λ ps. option_or (first_place ps) (first_place (flat_map at_input (map input_of is)))) (flat_map-flat_map at_input (λ f. f.arguments) (map field_of fs) ∙ flat_map-map (λ f. flat_map at_input f.arguments) field_of fs ∙ ap (λ (h : FieldSyntax → List Spot). flat_map h fs) (λ i f. sym (flat_map-map at (λ i. innermost i.type) (map input_of f.arguments)) i))
      ∙ ap (λ ps. option_or (first_place (flat_map (λ f. faults test (map (λ i. innermost i.type) (map input_of f.arguments))) fs)) (first_place ps)) (flat_map-map at_input input_of is)

  -- ---- types that fields have

  pub field_types : (fs : List FieldSyntax) → faults test (map (λ f. innermost f.type) (map field_of fs)) ≡ flat_map (λ f. place_if (test (innermost (reference f.kind))) (innermost (reference f.kind)).spot) fs
  field_types fs = flat_map-map at (λ f. innermost f.type) (map field_of fs) ∙ flat_map-map (λ f. at (innermost f.type)) field_of fs

  -- ---- names that a type uses

  pub used_by_fields : (f : FieldSyntax) → first_place (faults test (used_by_field (field_of f))) ≡ option_or (first_place (flat_map (λ i. place_if (test (innermost (reference i.kind))) (innermost (reference i.kind)).spot) f.arguments)) (first_place (place_if (test (innermost (reference f.kind))) (innermost (reference f.kind)).spot))
  used_by_fields f =
      let is = map used_by_input (map input_of f.arguments) in
      ap first_place (flat_map-append at is (innermost (reference f.kind) ∷ []))
      ∙ first_place-append (faults test is) (at (innermost (reference f.kind)) ++ [])
      ∙ ap (λ ps. option_or (first_place ps) (first_place (at (innermost (reference f.kind)) ++ []))) (input_types f.arguments)
      ∙ ap (λ ps. option_or (first_place (flat_map (λ i. place_if (test (innermost (reference i.kind))) (innermost (reference i.kind)).spot) f.arguments)) (first_place ps)) (append-nil (at (innermost (reference f.kind))))

  pub used_by_types : (of : Defined) → first_place (faults test (used_by_type (defined of))) ≡ option_or (option_or (option_or (first_place (flat_map (λ n. place_if (test n) n.spot) of.implements.now)) (first_place (flat_map (λ f. faults test (used_by_field (field_of f))) of.fields.now))) (first_place (flat_map (λ n. place_if (test n) n.spot) of.members.now))) (first_place (flat_map (λ i. place_if (test (innermost (reference i.kind))) (innermost (reference i.kind)).spot) of.inputs.now))
  used_by_types of =
      let n = of.implements.now in
      let fs = flat_map used_by_field (map field_of of.fields.now) in
      let ms = of.members.now in
      let is = map used_by_input (map input_of of.inputs.now) in
      let fields : faults test fs ≡ flat_map (λ f. faults test (used_by_field (field_of f))) of.fields.now = flat_map-flat_map at used_by_field (map field_of of.fields.now) ∙ flat_map-map (λ f. faults test (used_by_field f)) field_of of.fields.now in
      ap first_place (flat_map-append at n (fs ++ (ms ++ is)))
      ∙ first_place-append (faults test n) (faults test (fs ++ (ms ++ is)))
      ∙ ap (λ o. option_or (first_place (faults test n)) o) (ap first_place (flat_map-append at fs (ms ++ is)) ∙ first_place-append (faults test fs) (faults test (ms ++ is)) ∙ ap (λ o. option_or (first_place (faults test fs)) o) (ap first_place (flat_map-append at ms is) ∙ first_place-append (faults test ms) (faults test is)))
      ∙ sym (or_assoc (first_place (faults test n)) (first_place (faults test fs)) (option_or (first_place (faults test ms)) (first_place (faults test is))))
      ∙ sym (or_assoc (option_or (first_place (faults test n)) (first_place (faults test fs))) (first_place (faults test ms)) (first_place (faults test is)))
      ∙ ap (λ ps. option_or (option_or (option_or (first_place (faults test n)) (first_place ps)) (first_place (faults test ms))) (first_place (faults test is))) fields
      ∙ ap (λ ps. option_or (option_or (option_or (first_place (faults test n)) (first_place (flat_map (λ f. faults test (used_by_field (field_of f))) of.fields.now))) (first_place (faults test ms))) (first_place ps)) (input_types of.inputs.now)

  pub root_names : (rs : List RootSyntax) → faults test (map (λ r. r.name) rs) ≡ flat_map (λ r. place_if (test r.name) r.name.spot) rs
  root_names rs = flat_map-map at (λ (r : RootSyntax). r.name) rs
