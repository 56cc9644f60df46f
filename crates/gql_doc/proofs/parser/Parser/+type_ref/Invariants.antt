use Rattle.std.proofs.Common.{◌+◌, ◌*◌}
use Rattle.gql_doc.proofs.parser.Parser.+type_ref.Given as goal

abbrev pub decreases-type_ref : goal.decreases-type_ref
decreases-type_ref l = 2 * l.room + 1

abbrev pub decreases-list_type : goal.decreases-list_type
decreases-list_type l = 2 * l.room
