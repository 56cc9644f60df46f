-- A member that may be left out, put into an object.
use Rattle.std.specs.Prelude.{ℕ, List, Option, Some, None}
use Rattle.serde_json.specs.Data.{Data, Members, put}

-- the members, with the datum at the name where there is a datum
abbrev pub put_some : List ℕ → Option Data → Members → Members
put_some name None found = found
put_some name (Some d) found = put name d found
