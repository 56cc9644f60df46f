-- The order of paths, of groups and of streams, of errors and of failures.
use Rattle.std.specs.Prelude.{ℕ, List, map}
use Rattle.std.specs.declared.cmp.Ordering.{Ordering}
use Rattle.std.specs.declared.cmp.Ordering.TheVariants.{Less, Greater}
use Rattle.std.specs.Ordering.{nat_cmp, ordering_then}
use Rattle.std.specs.Option.{option_cmp}
use Rattle.std.specs.Cmp.Lexicographic.{slice_cmp}
use Rattle.gql_tree.specs.declared.path.Key.{Key}
use Rattle.gql_tree.specs.declared.path.Key.TheVariants.{Name, Index}
use Rattle.gql_tree.specs.declared.path.Path.{Path}
use Rattle.gql_tree.specs.declared.delivery.Fault.{Fault}
use Rattle.gql_tree.specs.declared.delivery.Failure.{Failure}
use Rattle.gql_tree.specs.declared.delivery.Group.{Group}
use Rattle.gql_tree.specs.declared.delivery.Stream.{Stream}

-- an index comes before a name
abbrev pub key_cmp : Key → Key → Ordering
key_cmp (Index i) (Index j) = nat_cmp i j
key_cmp (Index i) (Name n) = Less
key_cmp (Name m) (Index j) = Greater
key_cmp (Name m) (Name n) = slice_cmp nat_cmp m n

-- a proper prefix comes first
abbrev pub path_cmp : List Key → List Key → Ordering
path_cmp = slice_cmp key_cmp

-- group order: by path, then by the list of the owners' places, a prefix first
abbrev pub group_cmp : Group → Group → Ordering
group_cmp g h = ordering_then (path_cmp g.path.keys h.path.keys) (slice_cmp nat_cmp (map (λ f. f.place) g.owners) (map (λ f. f.place) h.owners))

-- stream order: by path
abbrev pub stream_cmp : Stream → Stream → Ordering
stream_cmp s t = path_cmp s.path.keys t.path.keys

-- paths by their keys
abbrev pub paths : Path → Path → Ordering
paths p q = path_cmp p.keys q.keys

-- texts by their bytes
abbrev pub texts : List ℕ → List ℕ → Ordering
texts = slice_cmp nat_cmp

-- errors by path, none first; then by the bytes of the message, by line, by column
abbrev pub fault_cmp : Fault → Fault → Ordering
fault_cmp a b = ordering_then (option_cmp paths a.path b.path) (ordering_then (texts a.message b.message) (ordering_then (nat_cmp a.line b.line) (nat_cmp a.column b.column)))

-- failures by path; then by label, none first; then by their errors
abbrev pub failure_cmp : Failure → Failure → Ordering
failure_cmp a b = ordering_then (paths a.path b.path) (ordering_then (option_cmp texts a.label b.label) (slice_cmp fault_cmp a.errors b.errors))
