-- What literals give where defaults need a chain of at most so many others.
use Rattle.std.specs.Prelude.{ℕ, List, map, Option}
use Rattle.gql_tree.specs.declared.Value.{Value}
use Rattle.gql_tree.specs.declared.Value.TheVariants as v
use Rattle.gql_tree.specs.declared.Named.{Named}
use Rattle.gql_model.specs.declared.syntax.Argument.{Argument}
use Rattle.gql_model.specs.Coercing.{coerced, coerced_members, default_within, member_of, value_at}
use Rattle.gql_model.specs.Lists.{keyed}
use Rattle.gql_model.specs.rules.Literals.{Written, members_of, given}
use Rattle.gql_model.specs.rules.References.{Reference}
use Rattle.gql_model.specs.rules.TypeParts as parts

abbrev pub named_value : List ℕ → Value → Named Value
named_value name value = record { name = name; value = value }

-- what a text gives at a type that takes it
abbrev pub text_at : List ℕ → Reference → Value
text_at t r = value_at (λ _. v.Text t) r

-- what is given, by its name
abbrev pub name_and_value : Argument → List ℕ × Written
name_and_value a = ((given a).name, (given a).value)

module _ (ts : List parts.Defined) (chain : ℕ) where
  abbrev pub coerced_at : Written → Reference → Value
  coerced_at = coerced ts (default_within ts chain)

  abbrev pub given_at : List Argument → List (List ℕ × (Reference → Value))
  given_at members = coerced_members ts (default_within ts chain) (members_of (map given members))

  -- a field of an input object, by what is given or by its default
  abbrev pub field_at : List Argument → parts.Input → Option (Named Value)
  field_at members i = member_of i (keyed i.name.name (given_at members)) (default_within ts chain i)
