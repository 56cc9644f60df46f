-- Payloads whose texts are written out.
use Rattle.std.specs.Prelude.{ℕ, List, [], ◌∷◌, true, false, Some, None, codes}
use Rattle.gql_tree.specs.declared.path.Key.TheVariants.{Name}
use Rattle.gql_tree.specs.declared.path.Path.{Path}
use Rattle.gql_tree.specs.declared.value.Value.TheVariants as Value
use Rattle.gql_tree.specs.declared.delivery.Content.TheVariants.{Fields, Items}
use Rattle.gql_tree.specs.declared.delivery.Payload.{Payload}
use Rattle.gql_tree.specs.WorkedForests.{one_member}

-- a path of one name
abbrev pub at : List ℕ → Path
at name = record { keys = Name name ∷ [] }

-- the first payload of { hero { id ... @defer(label: "D") { name } } }
abbrev pub announced : Payload
announced = record {
  initial = Some (one_member (codes "hero") (one_member (codes "id") (Value.Text (codes "1"))));
  errors = [];
  pending = record { id = codes "0"; path = at (codes "hero"); label = Some (codes "D") } ∷ [];
  incremental = [];
  completed = [];
  has_next = Some true;
}

-- its second payload
abbrev pub delivered : Payload
delivered = record {
  initial = None;
  errors = [];
  pending = [];
  incremental = record { id = codes "0"; sub_path = record { keys = [] }; content = Fields (one_member (codes "name") (Value.Text (codes "Luke"))); errors = [] } ∷ [];
  completed = record { id = codes "0"; errors = [] } ∷ [];
  has_next = Some false;
}

-- the only payload of { hero { id boom } }, where `boom` fails and may not be null
abbrev pub failed : Payload
failed = record {
  initial = Some (one_member (codes "hero") Value.Null);
  errors = record { message = codes "bang"; line = 1; column = 13; path = Some (record { keys = Name (codes "hero") ∷ Name (codes "boom") ∷ [] }) } ∷ [];
  pending = [];
  incremental = [];
  completed = [];
  has_next = None;
}

-- a later payload with fields below its fragment's path, and with no further items
abbrev pub continued : Payload
continued = record {
  initial = None;
  errors = [];
  pending = [];
  incremental =
      record { id = codes "0"; sub_path = at (codes "hero"); content = Fields (one_member (codes "name") (Value.Text (codes "Luke"))); errors = [] }
      ∷ record { id = codes "1"; sub_path = record { keys = [] }; content = Items []; errors = [] } ∷ [];
  completed = [];
  has_next = Some true;
}
