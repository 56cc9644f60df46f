-- An object is a payload exactly where none of its members is wrong.
use Rattle.std.proofs.Common.{◌≡◌, ℕ, List, [], ◌∷◌, refl, not, Option, Some, None, is_some}
use Rattle.std.specs.Prelude.{option_map, option_and_then}
use Rattle.serde_json.specs.Data.{Data}
use Rattle.gql_payload.specs.Reading.{completed_of, initial_of, errors_of, has_next_of, incremental_of, pending_of, payload, first_wrong, wrong_member}

-- six things that are read one after another, by whether each is there
by_parts : {A B C D E F G : Type 0} (make : A → B → C → D → E → F → G) (a : Option A) (b : Option B) (c : Option C) (d : Option D) (e : Option E) (f : Option F) (k l m n o p : List ℕ)
    → is_some (option_and_then (λ x. option_and_then (λ y. option_and_then (λ z. option_and_then (λ u. option_and_then (λ v. option_map (make x y z u v) f) e) d) c) b) a)
    ≡ not (is_some (first_wrong ((k, is_some a) ∷ (l, is_some b) ∷ (m, is_some c) ∷ (n, is_some d) ∷ (o, is_some e) ∷ (p, is_some f) ∷ [])))
by_parts make None b c d e f k l m n o p = refl
by_parts make (Some x) None c d e f k l m n o p = refl
by_parts make (Some x) (Some y) None d e f k l m n o p = refl
by_parts make (Some x) (Some y) (Some z) None e f k l m n o p = refl
by_parts make (Some x) (Some y) (Some z) (Some u) None f k l m n o p = refl
by_parts make (Some x) (Some y) (Some z) (Some u) (Some v) None k l m n o p = refl
by_parts make (Some x) (Some y) (Some z) (Some u) (Some v) (Some w) k l m n o p = refl

pub payload-wrong_member : (d : Data) → is_some (payload d) ≡ not (is_some (wrong_member d))
payload-wrong_member d =
    by_parts (λ completed initial errors has_next incremental pending. record { initial = initial; errors = errors; pending = pending; incremental = incremental; completed = completed; has_next = has_next })
    (completed_of d) (initial_of d) (errors_of d) (has_next_of d) (incremental_of d) (pending_of d) _ _ _ _ _ _
