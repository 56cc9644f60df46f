-- Payloads that make sense, and payloads that are the same up to the order of members.
use Rattle.std.specs.Prelude.{◌≡◌, ◌↔◌, List, [], ◌∷◌, Bool, true, false, IsTrue, IfSome}
use Rattle.std.specs.List.{AllByRecursion}
use Rattle.gql_tree.specs.declared.value.Value.{out-Value}
use Rattle.gql_tree.specs.declared.value.Value.TheOpen.{Value-F}
use Rattle.gql_tree.specs.declared.delivery.Fault.{Fault}
use Rattle.gql_tree.specs.declared.delivery.Content.{Content}
use Rattle.gql_tree.specs.declared.delivery.Content.TheVariants.{Fields, Items}
use Rattle.gql_tree.specs.declared.delivery.Entry.{Entry}
use Rattle.gql_tree.specs.declared.delivery.Completed.{Completed}
use Rattle.gql_tree.specs.declared.delivery.Payload.{Payload}
use Rattle.gql_tree.specs.Flat.{Layer}
use Rattle.gql_tree.specs.Same.{SameFlat, SameMaybe, SameItems}

-- ---- payloads that make sense

-- the value is an object
abbrev pub is_object : Layer → Bool
is_object (Value-F.Object members) = true
is_object _ = false

-- it is an object, or null
abbrev pub is_object_or_null : Layer → Bool
is_object_or_null (Value-F.Object members) = true
is_object_or_null Value-F.Null = true
is_object_or_null _ = false

-- an error has a line and a column, or neither
abbrev pub IsLocated : Fault → Type 0
IsLocated f = (f.line ≡ 0) ↔ (f.column ≡ 0)

-- fields are an object
abbrev pub IsOfFields : Content → Type 0
IsOfFields (Fields v) = IsTrue (is_object (out-Value v))
IsOfFields (Items vs) = Unit

-- fields are an object, and its errors make sense
abbrev pub IsSoundEntry : Entry → Type 0
IsSoundEntry e = record {
  content : IsOfFields e.content;
  errors : AllByRecursion IsLocated e.errors;
}

-- the condition under which a payload's text is read back
abbrev pub IsSound : Payload → Type 0
IsSound p = record {
  initial : IfSome p.initial (λ v. IsTrue (is_object_or_null (out-Value v)));
  errors : AllByRecursion IsLocated p.errors;
  incremental : AllByRecursion IsSoundEntry p.incremental;
  completed : AllByRecursion (λ (c : Completed). AllByRecursion IsLocated c.errors) p.completed;
}

-- ---- the same payloads

-- the same fields, or the same items, up to the order of members
abbrev pub SameContent : Content → Content → Type 0
SameContent (Fields v) (Fields w) = SameFlat v w
SameContent (Items vs) (Items ws) = SameItems vs ws
SameContent _ _ = ⊥

-- equal but for the order of members in the content
abbrev pub SameEntry : Entry → Entry → Type 0
SameEntry e f = record {
  id : e.id ≡ f.id;
  sub_path : e.sub_path ≡ f.sub_path;
  content : SameContent e.content f.content;
  errors : e.errors ≡ f.errors;
}

-- entry by entry the same
abbrev pub SameEntries : List Entry → List Entry → Type 0
SameEntries [] [] = Unit
SameEntries (e ∷ es) (f ∷ fs) = SameEntry e f × SameEntries es fs
SameEntries _ _ = ⊥

-- equal but for the order of members in their values
abbrev pub SamePayload : Payload → Payload → Type 0
SamePayload p q = record {
  initial : SameMaybe p.initial q.initial;
  errors : p.errors ≡ q.errors;
  pending : p.pending ≡ q.pending;
  incremental : SameEntries p.incremental q.incremental;
  completed : p.completed ≡ q.completed;
  has_next : p.has_next ≡ q.has_next;
}
