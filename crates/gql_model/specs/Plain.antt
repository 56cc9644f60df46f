-- Plain execution: one response to the operation, in which every `@defer` and `@stream` is taken as absent.
-- Source: Execution, section 6 of the GraphQL standard, which has neither directive; they are a profile of it.
use Rattle.std.specs.Prelude.{Bool, false, List, map, filter, Option, None, Some, is_some}
use Rattle.gql_tree.specs.declared.Path.{Path}
use Rattle.gql_tree.specs.declared.Value.{Value}
use Rattle.gql_tree.specs.declared.Fault.{Fault}
use Rattle.gql_tree.specs.declared.Row.{Row}
use Rattle.gql_tree.specs.declared.RegionResult.{RegionResult}
use Rattle.gql_tree.specs.Flat.{flat}
use Rattle.gql_tree.specs.Order.{fault_cmp}
use Rattle.gql_tree.specs.Ordered.{ordered}
use Rattle.gql_model.specs.declared.operation.Node.{Node}
use Rattle.gql_model.specs.declared.operation.NodeKind.{NodeKind}
use Rattle.gql_model.specs.declared.operation.NodeKind.TheVariants.{Field, Fragment}
use Rattle.gql_model.specs.World.{World}
use Rattle.gql_model.specs.Region.{initial_region}

-- ---- the response

-- a field without its `@stream`, a fragment without its `@defer`
abbrev pub plain_kind : NodeKind → NodeKind
plain_kind (Field key name arguments stream) = Field key name arguments None
plain_kind (Fragment condition defer) = Fragment condition None

abbrev pub undeferred : Node → Node
undeferred n = record n { kind = plain_kind n.kind }

-- nothing waits, so the initial region is all of the response
abbrev pub plain : World → List Node → Row → RegionResult
plain w nodes root = initial_region w (map undeferred nodes) root

-- ---- the errors that stand in it

-- whether something stands at a path; an error of the whole request has none
abbrev pub has_place : Value → Option Path → Bool
has_place value None = false
has_place value (Some path) = is_some (flat value path.keys)

-- the errors at places that stand in the value, in order
abbrev pub kept : Value → List Fault → List Fault
kept value faults = ordered fault_cmp (filter (λ f. has_place value f.path) faults)
