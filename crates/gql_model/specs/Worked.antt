-- What worked operations over the small service give.
use Rattle.std.specs.Prelude.{ℕ, List, [], ◌∷◌, map, Option, Some}
use Rattle.gql_tree.specs.declared.Key.{Key}
use Rattle.gql_tree.specs.declared.Value.{Value}
use Rattle.gql_tree.specs.declared.Value.TheVariants as v
use Rattle.gql_tree.specs.declared.Fault.{Fault}
use Rattle.gql_tree.specs.declared.Outcome.{Outcome}
use Rattle.gql_tree.specs.declared.RegionResult.{RegionResult}
use Rattle.gql_tree.specs.Forest.{Forest, tasks_of}
use Rattle.gql_model.specs.declared.operation.Node.{Node}
use Rattle.gql_model.specs.Region.{initial_region, task_region}
use Rattle.gql_model.specs.Operations.{forest}
use Rattle.gql_model.specs.Plain.{plain}
use Rattle.gql_model.specs.Sample.{service, query}

abbrev pub initial : List Node → RegionResult
initial nodes = initial_region service nodes query

-- the response of plain execution
abbrev pub plain_response : List Node → RegionResult
plain_response nodes = plain service nodes query

-- the regions of the tasks that the initial region makes, in order
abbrev pub next_regions : List Node → List RegionResult
next_regions nodes = map (task_region service nodes) (tasks_of (initial nodes))

abbrev pub outcomes : List Node → List Outcome
outcomes nodes = map (λ r. r.outcome) (next_regions nodes)

abbrev pub faults : List Node → List (List Fault)
faults nodes = map (λ r. r.faults) (next_regions nodes)

abbrev pub regions : List Node → Forest
regions nodes = forest service nodes query

-- ---- short forms

-- an object of one member
abbrev pub one : List ℕ → Value → Value
one name value = v.Object (record { name = name; value = value } ∷ [])

abbrev pub fault : List ℕ → ℕ → List Key → Fault
fault message column path = record { message = message; line = 1; column = column; path = Some (record { keys = path }) }

-- an object of two members
abbrev pub two : List ℕ → Value → List ℕ → Value → Value
two first x second y = v.Object (record { name = first; value = x } ∷ record { name = second; value = y } ∷ [])

-- the owners' places of each group, with the response keys of its fields
abbrev pub grouped : RegionResult → List (List ℕ × List (List ℕ))
grouped r = map (λ g. (map (λ f. f.place) g.owners, map (λ d. d.key) g.fields)) r.groups

-- the place and the label of each deferred fragment
abbrev pub labelled : RegionResult → List (ℕ × Option (List ℕ))
labelled r = map (λ f. (f.id.place, f.label)) r.fragments

-- the place of each stream, how many items stand, and how many there are
abbrev pub counted : RegionResult → List (ℕ × ℕ × ℕ)
counted r = map (λ s. (s.place, s.first, s.length)) r.streams
