-- The payloads of the worked documents, written out, by the order in which the tasks end.
use Rattle.std.specs.Prelude.{ℕ, Bool, true, false, List, [], ◌∷◌, ◌++◌, Option, Some, None, codes, decimal}
use Rattle.gql_tree.specs.declared.path.Key.{Key}
use Rattle.gql_tree.specs.declared.path.Key.TheVariants.{Name, Index}
use Rattle.gql_tree.specs.declared.value.Value.{Value}
use Rattle.gql_tree.specs.declared.value.Value.TheVariants as v
use Rattle.gql_tree.specs.declared.delivery.Fault.{Fault}
use Rattle.gql_tree.specs.declared.delivery.Pending.{Pending}
use Rattle.gql_tree.specs.declared.delivery.Entry.{Entry}
use Rattle.gql_tree.specs.declared.delivery.Completed.{Completed}
use Rattle.gql_tree.specs.declared.delivery.Content.TheVariants.{Fields, Items}
use Rattle.gql_tree.specs.declared.delivery.Payload.{Payload}
use Rattle.gql_tree.specs.WorkedForests.{one_member, hero, crew, bang}
use Rattle.gql_confluence.specs.WorkedDocuments.{text, age, named, bang_at, null_at, boom_path, bang_x, bang_boom, cast, at_item, crew_null, null_name, friends, bang_friend}

-- ---- parts of payloads

-- the announcement of the id of this number
abbrev pub opening : ℕ → List Key → Option (List ℕ) → Pending
opening n path label = record { id = decimal n; path = record { keys = path }; label = label }

-- fields at the path of what the id stands for
abbrev pub fields : ℕ → Value → Entry
fields n x = record { id = decimal n; sub_path = record { keys = [] }; content = Fields x; errors = [] }

-- fields below it
abbrev pub fields_below : ℕ → List Key → Value → Entry
fields_below n path x = record { id = decimal n; sub_path = record { keys = path }; content = Fields x; errors = [] }

-- further items, with their errors
abbrev pub items : ℕ → List Value → List Fault → Entry
items n xs errors = record { id = decimal n; sub_path = record { keys = [] }; content = Items xs; errors = errors }

-- the end of the id, with its errors where it failed
abbrev pub closing : ℕ → List Fault → Completed
closing n errors = record { id = decimal n; errors = errors }

-- the first payload of several
abbrev pub first : Value → List Pending → Payload
first x pending = record { initial = Some x; errors = []; pending = pending; incremental = []; completed = []; has_next = Some true }

-- a later payload
abbrev pub later : List Pending → List Entry → List Completed → Bool → Payload
later pending incremental completed has_next = record { initial = None; errors = []; pending = pending; incremental = incremental; completed = completed; has_next = Some has_next }

-- { hero { id } }
abbrev hero_1 : Value
hero_1 = one_member (codes "hero") (one_member (codes "id") (text (codes "1")))

-- the fragments A and B of hero
abbrev a_and_b : List Pending
a_and_b = opening 0 hero (Some (codes "A")) ∷ opening 1 hero (Some (codes "B")) ∷ []

-- ---- an empty fragment

-- one payload, and nothing else
abbrev pub empty_fragment_payloads : List Payload
empty_fragment_payloads = record { initial = Some (one_member (codes "hero") (named (codes "Luke"))); errors = []; pending = []; incremental = []; completed = []; has_next = None } ∷ []

-- only B is announced
abbrev pub empty_around_another_payloads : List Payload
empty_around_another_payloads =
    first hero_1 (opening 0 hero (Some (codes "B")) ∷ [])
    ∷ later [] (fields 0 (named (codes "Luke")) ∷ []) (closing 0 [] ∷ []) false ∷ []

-- ---- a fragment above what it brings

-- the announcement is for the root, and the entry for hero below it
abbrev pub deferred_at_the_top_payloads : List Payload
deferred_at_the_top_payloads =
    first hero_1 (opening 0 [] (Some (codes "D")) ∷ [])
    ∷ later [] (fields_below 0 hero (named (codes "Luke")) ∷ []) (closing 0 [] ∷ []) false ∷ []

-- ---- a shared group, and a failed one of the first fragment

-- A fails
abbrev a_failed : Completed
a_failed = closing 0 (bang_at 41 boom_path ∷ [])

-- what B brings, the shared name among it
abbrev b_entries : List Entry
b_entries = fields 1 (named (codes "Luke")) ∷ fields 1 (age 20) ∷ []

-- where the group of B alone ends last
abbrev pub a_first : List Payload
a_first = first hero_1 a_and_b ∷ later [] [] (a_failed ∷ []) true ∷ later [] b_entries (closing 1 [] ∷ []) false ∷ []

-- where the group of A alone ends last
abbrev pub b_first : List Payload
b_first = first hero_1 a_and_b ∷ later [] b_entries (closing 1 [] ∷ []) true ∷ later [] [] (a_failed ∷ []) false ∷ []

-- where the shared group ends last
abbrev pub both_together : List Payload
both_together = first hero_1 a_and_b ∷ later [] b_entries (a_failed ∷ closing 1 [] ∷ []) false ∷ []

-- before the group of B alone has ended: nothing hangs on how it will end
abbrev pub a_so_far : List Payload
a_so_far = first hero_1 a_and_b ∷ later [] [] (a_failed ∷ []) true ∷ []

-- where it fails, the shared name never comes
abbrev pub a_and_then_b_failed : List Payload
a_and_then_b_failed = first hero_1 a_and_b ∷ later [] [] (a_failed ∷ []) true ∷ later [] [] (closing 1 (bang_at 78 (hero ++ Name (codes "age") ∷ []) ∷ []) ∷ []) false ∷ []

-- ---- a fragment in one that fails

-- B is never announced
abbrev pub inside_a_failed_one_payloads : List Payload
inside_a_failed_one_payloads = first hero_1 (opening 0 hero (Some (codes "A")) ∷ []) ∷ later [] [] (closing 0 (bang_boom ∷ []) ∷ []) false ∷ []

-- ---- two fragments that fail

-- where the shared group ends last
abbrev pub failed_together : List Payload
failed_together = first hero_1 a_and_b ∷ later [] [] (closing 0 (bang_x ∷ bang_boom ∷ []) ∷ closing 1 (bang_boom ∷ []) ∷ []) false ∷ []

-- where it ends first
abbrev pub failed_b_first : List Payload
failed_b_first = first hero_1 a_and_b ∷ later [] [] (closing 1 (bang_boom ∷ []) ∷ []) true ∷ later [] [] (closing 0 (bang_x ∷ bang_boom ∷ []) ∷ []) false ∷ []

-- ---- streams

-- the error of the third name of the cast
abbrev cast_null : ℕ → Fault
cast_null column = null_at column (cast ++ Index 2 ∷ Name (codes "name") ∷ [])

-- the stream fails, and the list has two items in the end
abbrev pub failed_item_payloads : List Payload
failed_item_payloads =
    first (one_member (codes "crew") (v.List (named (codes "Luke") ∷ []))) (opening 0 crew None ∷ [])
    ∷ later [] (items 0 (named (codes "Leia") ∷ []) [] ∷ []) [] true
    ∷ later [] [] (closing 0 (crew_null 34 ∷ []) ∷ []) false ∷ []

-- the third item has ended first, and isn't delivered, since the second failed
abbrev pub behind_a_failed_one_payloads : List Payload
behind_a_failed_one_payloads =
    first (one_member (codes "crew") (v.List (text (codes "Luke") ∷ []))) (opening 0 crew (Some (codes "S")) ∷ [])
    ∷ later [] (items 0 (text (codes "Leia") ∷ []) [] ∷ []) [] true
    ∷ later [] [] (closing 0 (bang ∷ []) ∷ []) false ∷ []

-- the stream goes on, with null and an error
abbrev pub null_item_payloads : List Payload
null_item_payloads =
    first (one_member (codes "cast") (v.List (named (codes "Luke") ∷ []))) (opening 0 cast None ∷ [])
    ∷ later [] (items 0 (named (codes "Leia") ∷ []) [] ∷ []) [] true
    ∷ later [] (items 0 (v.Null ∷ []) (cast_null 34 ∷ []) ∷ []) (closing 0 [] ∷ []) false ∷ []

-- where the items end from the last to the first, all come at once
abbrev pub from_the_last : List Payload
from_the_last =
    first (one_member (codes "cast") (v.List [])) (opening 0 cast None ∷ [])
    ∷ later [] (items 0 (named (codes "Luke") ∷ named (codes "Leia") ∷ v.Null ∷ []) (cast_null 18 ∷ []) ∷ []) (closing 0 [] ∷ []) false ∷ []

-- each item announces its fragment
abbrev pub fragments_in_items_payloads : List Payload
fragments_in_items_payloads =
    first (one_member (codes "crew") (v.List [])) (opening 0 crew None ∷ [])
    ∷ later (opening 1 (at_item 0) (Some (codes "F")) ∷ []) (items 0 (named (codes "Luke") ∷ []) [] ∷ []) [] true
    ∷ later (opening 2 (at_item 1) (Some (codes "F")) ∷ []) (items 0 (named (codes "Leia") ∷ []) [] ∷ []) [] true
    ∷ later [] [] (closing 0 (null_name ∷ []) ∷ []) true
    ∷ later [] (fields 1 (age 20) ∷ []) (closing 1 [] ∷ []) true
    ∷ later [] (fields 2 (one_member (codes "age") v.Null) ∷ []) (closing 2 [] ∷ []) false ∷ []

-- where the item ends before its stream is announced
abbrev pub stream_in_a_fragment_payloads : List Payload
stream_in_a_fragment_payloads =
    first hero_1 a_and_b
    ∷ later (opening 2 friends None ∷ []) (fields 0 (one_member (codes "friends") (v.List [])) ∷ fields 0 (age 20) ∷ [])
    (closing 0 [] ∷ closing 1 [] ∷ closing 2 (bang_friend ∷ []) ∷ []) false ∷ []
