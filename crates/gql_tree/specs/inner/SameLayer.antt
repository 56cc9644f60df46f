-- Equality up to the order of members, level by level, for private clauses.
use Rattle.std.specs.Prelude.{◌≡◌, List, [], ◌∷◌, Some, IsSome}
use Rattle.gql_tree.specs.declared.fields.Named.{Named}
use Rattle.gql_tree.specs.declared.value.Value.{Value}
use Rattle.gql_tree.specs.Flat.{Layer, mark_of, items_of, members_of}
use Rattle.gql_tree.specs.Names.{named}
use Rattle.gql_tree.specs.Same.{SameMaybe, SameItems}

-- each member of the second has its name and an equal value in the first
abbrev pub FoundIn : List (Named Value) → List (Named Value) → Type 0
FoundIn ns [] = Unit {0}
FoundIn ns (m ∷ ms) = SameMaybe (Some m.value) (named m.name ns) × FoundIn ns ms

-- each name of the second is one of the first
abbrev pub NamedIn : List (Named Value) → List (Named Value) → Type 0
NamedIn ns [] = Unit {0}
NamedIn ns (m ∷ ms) = IsSome (named m.name ns) × NamedIn ns ms

-- equal marks, and the same below
abbrev pub SameLayer : Layer → Layer → Type 0
SameLayer a b = (mark_of a ≡ mark_of b) × SameItems (items_of a) (items_of b) × FoundIn (members_of b) (members_of a) × NamedIn (members_of a) (members_of b)
