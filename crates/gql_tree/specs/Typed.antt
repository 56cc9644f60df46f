-- What the types of a value, of a payload and of a report keep. A value in a definition may break it, having a name twice, say;
-- none that exists does. So where a definition says that there is a value, it asks for one that is typed.
use Rattle.std.specs.Prelude.{ℤ, pos, negsuc, ◌<◌, ◌^◌, List, [], ◌∷◌, Bool, true, ◌&&◌, nat_lt, IsTrue, IfSome}
use Rattle.std.specs.List.{AllByRecursion}
use Rattle.gql_tree.specs.declared.path.Key.{Key}
use Rattle.gql_tree.specs.declared.path.Key.TheVariants.{Name, Index}
use Rattle.gql_tree.specs.declared.path.Path.{Path}
use Rattle.gql_tree.specs.declared.fields.Named.{Named}
use Rattle.gql_tree.specs.declared.delivery.Fault.{Fault}
use Rattle.gql_tree.specs.declared.delivery.Pending.{Pending}
use Rattle.gql_tree.specs.declared.delivery.Content.{Content}
use Rattle.gql_tree.specs.declared.delivery.Content.TheVariants.{Fields, Items}
use Rattle.gql_tree.specs.declared.delivery.Entry.{Entry}
use Rattle.gql_tree.specs.declared.delivery.Completed.{Completed}
use Rattle.gql_tree.specs.declared.delivery.Failure.{Failure}
use Rattle.gql_tree.specs.declared.delivery.Payload.{Payload}
use Rattle.gql_tree.specs.declared.value.Value.{Value}
use Rattle.gql_tree.specs.declared.value.Value.TheOpen.{Value-F}
use Rattle.gql_tree.specs.declared.value.Value.TheFolds.{fold-Value}
use Rattle.gql_tree.specs.Names.{apart}

-- an integer of 64 signed bits
abbrev pub fits : ℤ → Bool
fits (pos n) = nat_lt n (2 ^ 63)
fits (negsuc n) = nat_lt n (2 ^ 63)

-- each item meets the test
abbrev pub all_items : {X : Type 0} → (X → Bool) → List X → Bool
all_items f [] = true
all_items f (x ∷ xs) = f x && all_items f xs

-- the value of each member meets the test
abbrev pub all_members : {X : Type 0} → (X → Bool) → List (Named X) → Bool
all_members f [] = true
all_members f (m ∷ ms) = f m.value && all_members f ms

-- one level, in which it is known of each value below
abbrev pub typed_step : Value-F Bool → Bool
typed_step (Value-F.Int n) = fits n
typed_step (Value-F.List items) = all_items (λ b. b) items
typed_step (Value-F.Object members) = apart members && all_members (λ b. b) members
typed_step _ = true

-- at any depth, the names of an object are apart and an integer has 64 signed bits
abbrev pub is_typed : Value → Bool
is_typed = fold-Value Bool typed_step

-- the value can exist
abbrev pub IsTypedValue : Value → Type 0
IsTypedValue v = IsTrue (is_typed v)

-- an index has 32 bits
abbrev pub IsTypedKey : Key → Type 0
IsTypedKey (Name n) = Unit
IsTypedKey (Index i) = i < 2 ^ 32

-- each index has 32 bits
abbrev pub IsTypedPath : Path → Type 0
IsTypedPath p = AllByRecursion IsTypedKey p.keys

-- line and column have 32 bits
abbrev pub IsTypedFault : Fault → Type 0
IsTypedFault f = record {
  line : f.line < 2 ^ 32;
  column : f.column < 2 ^ 32;
  path : IfSome f.path IsTypedPath;
}

-- its path can exist
abbrev pub IsTypedPending : Pending → Type 0
IsTypedPending p = IsTypedPath p.path

-- where it has fields, they can exist
abbrev pub HasTypedFields : Content → Type 0
HasTypedFields (Fields v) = IsTypedValue v
HasTypedFields (Items vs) = Unit

-- where it has items, each can exist
abbrev pub HasTypedItems : Content → Type 0
HasTypedItems (Fields v) = Unit
HasTypedItems (Items vs) = AllByRecursion IsTypedValue vs

-- its fields or its items can exist
abbrev pub IsTypedContent : Content → Type 0
IsTypedContent c = HasTypedFields c × HasTypedItems c

-- its path, its content and its errors can exist
abbrev pub IsTypedEntry : Entry → Type 0
IsTypedEntry e = record {
  sub_path : IsTypedPath e.sub_path;
  content : IsTypedContent e.content;
  errors : AllByRecursion IsTypedFault e.errors;
}

-- its errors can exist
abbrev pub IsTypedCompleted : Completed → Type 0
IsTypedCompleted c = AllByRecursion IsTypedFault c.errors

-- its path and its errors can exist
abbrev pub IsTypedFailure : Failure → Type 0
IsTypedFailure f = record {
  path : IsTypedPath f.path;
  errors : AllByRecursion IsTypedFault f.errors;
}

-- all that it holds can exist
abbrev pub IsTypedPayload : Payload → Type 0
IsTypedPayload p = record {
  initial : IfSome p.initial IsTypedValue;
  errors : AllByRecursion IsTypedFault p.errors;
  pending : AllByRecursion IsTypedPending p.pending;
  incremental : AllByRecursion IsTypedEntry p.incremental;
  completed : AllByRecursion IsTypedCompleted p.completed;
}
