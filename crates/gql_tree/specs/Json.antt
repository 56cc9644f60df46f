-- The JSON that a value stands for.
-- Source: the response format of the GraphQL standard, section 7, and JSON (RFC 8259).
use Rattle.std.specs.Prelude.{List, [], ◌∷◌}
use Rattle.serde_json.specs.Data.{Data, null, boolean, number, string, array, object, Members, no_members, put}
use Rattle.serde_json.specs.Find.{of_integer}
use Rattle.serde_json.specs.View.{items_of}
use Rattle.gql_tree.specs.declared.fields.Named.{Named}
use Rattle.gql_tree.specs.declared.value.Value.{Value}
use Rattle.gql_tree.specs.declared.value.Value.TheOpen.{Value-F}
use Rattle.gql_tree.specs.declared.value.Value.TheFolds.{fold-Value}

-- The members, put in one after another, so that they stand in byte order of their names.
-- A later change to the order of members is a change of this one definition.
abbrev pub put_all : {X : Type 0} → (X → Data) → Members → List (Named X) → Members
put_all f found [] = found
put_all f found (m ∷ ms) = put_all f (put m.name (f m.value) found) ms

-- one level, in which each value below is its datum already
abbrev pub data_step : Value-F Data → Data
data_step Value-F.Null = null
data_step (Value-F.Bool b) = boolean b
data_step (Value-F.Int n) = number (of_integer n)
data_step (Value-F.Text t) = string t
data_step (Value-F.List items) = array (items_of items)
data_step (Value-F.Object members) = object (put_all (λ d. d) no_members members)

-- the JSON datum of a value
abbrev pub data_of : Value → Data
data_of = fold-Value Data data_step
