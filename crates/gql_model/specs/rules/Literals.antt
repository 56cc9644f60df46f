-- Literals as plain data. The types of the syntax nest, so they reach contracts rolled, and what matches them doesn't compute;
-- each literal is read once, here, and rules speak of what is read.
use Rattle.std.specs.Prelude.{ℕ, Bool, List, [], ◌∷◌}
use Rattle.gql_tree.specs.declared.Spot.{Spot}
use Rattle.gql_model.specs.declared.syntax.Literal.{Literal}
use Rattle.gql_model.specs.declared.syntax.Argument.{Argument}
use Rattle.gql_model.specs.declared.syntax.Literal.TheOpen.{Literal-F, Argument-F}
use Rattle.gql_model.specs.declared.syntax.Literal.TheFolds.{fold-Literal, fold-Argument}

mutual
  pub data Written : Type 0 where
    variable : List ℕ → Spot → Written
    number : List ℕ → Spot → Written
    text : List ℕ → Spot → Written
    truth : Bool → Spot → Written
    null : Spot → Written
    enum : List ℕ → Spot → Written
    list : Items → Spot → Written
    object : Members → Spot → Written

  -- the items of a list literal
  pub data Items : Type 0 where
    no_items : Items
    item : Written → Items → Items

  -- the fields of an object literal, each with the spot of its name
  pub data Members : Type 0 where
    no_members : Members
    member : List ℕ → Spot → Written → Members → Members

-- a field of an object literal
pub record Given : Type 0 where
  pub name : List ℕ
  pub value : Written
  pub spot : Spot

abbrev pub items_of : List Written → Items
items_of [] = no_items
items_of (w ∷ ws) = item w (items_of ws)

abbrev pub members_of : List Given → Members
members_of [] = no_members
members_of (g ∷ gs) = member g.name g.spot g.value (members_of gs)

abbrev pub literal_level : Literal-F Written Given → Written
literal_level (Literal-F.Variable name spot) = variable name spot
literal_level (Literal-F.Int digits spot) = number digits spot
literal_level (Literal-F.Text t spot) = text t spot
literal_level (Literal-F.Bool b spot) = truth b spot
literal_level (Literal-F.Null spot) = null spot
literal_level (Literal-F.Enum name spot) = enum name spot
literal_level (Literal-F.List items spot) = list (items_of items) spot
literal_level (Literal-F.Object members spot) = object (members_of members) spot

abbrev pub argument_level : Argument-F Written Given → Given
argument_level it = record { name = it.name; value = it.value; spot = it.spot }

abbrev pub written : Literal → Written
written = fold-Literal Written Given literal_level argument_level

abbrev pub given : Argument → Given
given = fold-Argument Written Given literal_level argument_level

-- the names that an object literal gives
abbrev pub given_names : Members → List (List ℕ)
given_names no_members = []
given_names (member name spot w ms) = name ∷ given_names ms
