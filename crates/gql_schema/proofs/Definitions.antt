-- Going through the definitions of a document.
use Rattle.std.proofs.Common.{◌≡◌, refl, sym, ◌∙◌, ap, ℕ, ◌+◌, ◌<◌, List, [], ◌∷◌, ◌++◌, map, filter_map, take, length, get_or, Option, Some, None}
use Rattle.std.specs.List.{cons_option}
use Rattle.std.specs.Option.{option_and_then, option_to_list}
use Rattle.std.proofs.lemmas.List.{take_more, map_push, append-nil}
use Rattle.std.proofs.lemmas.List.Elements.{filter_map-append}
use Rattle.gql_model.specs.declared.type_syntax.TypeSyntax.{TypeSyntax}
use Rattle.gql_model.specs.rules.TypeParts.{Definition, definition_of, type_in, types}
use Rattle.gql_schema.specs.declared.defined.Defined.{Defined}
use Rattle.gql_schema.specs.Seen.{defined}

pub one : {A : Type 0} (o : Option A) → cons_option o [] ≡ option_to_list o
one None = refl
one (Some x) = refl

one_said : (o : Option Definition) → types (cons_option o []) ≡ option_to_list (option_and_then type_in o)
one_said None = refl
one_said (Some d) = one (type_in d)

module _ (xs : List TypeSyntax) (i : ℕ) (x : TypeSyntax) (at : x ≡ get_or xs i x) (lt : i < length xs) where
  said_more : types (filter_map definition_of (take (i + 1) xs)) ≡ types (filter_map definition_of (take i xs)) ++ option_to_list (option_and_then type_in (definition_of x))
  said_more =
      ap (λ ys. types (filter_map definition_of ys)) (take_more xs i x lt ∙ ap (λ y. take i xs ++ y ∷ []) (sym at))
      ∙ ap types (filter_map-append definition_of (take i xs) (x ∷ []))
      ∙ filter_map-append type_in (filter_map definition_of (take i xs)) (filter_map definition_of (x ∷ []))
      ∙ ap (λ ys. types (filter_map definition_of (take i xs)) ++ ys) (one_said (definition_of x))

  module _ (before after : List Defined) (kept : map defined before ≡ types (filter_map definition_of (take i xs))) where
    -- a definition of a type
    pub type_more : (of : Defined) → Some (defined of) ≡ option_and_then type_in (definition_of x) → after ≡ before ++ of ∷ [] → map defined after ≡ types (filter_map definition_of (take (i + 1) xs))
    type_more of said grown =
        ap (map defined) grown
        ∙ map_push defined before of
        ∙ ap (λ ys. ys ++ defined of ∷ []) kept
        ∙ ap (λ o. types (filter_map definition_of (take i xs)) ++ option_to_list o) said
        ∙ sym said_more

    -- another
    pub no_type_more : None ≡ option_and_then type_in (definition_of x) → after ≡ before → map defined after ≡ types (filter_map definition_of (take (i + 1) xs))
    no_type_more said same =
        ap (map defined) same
        ∙ kept
        ∙ sym (append-nil (types (filter_map definition_of (take i xs))))
        ∙ ap (λ o. types (filter_map definition_of (take i xs)) ++ option_to_list o) said
        ∙ sym said_more
