use Rattle.std.proofs.Common.{◌+◌, ◌*◌, length}
use Rattle.gql_tree.proofs.+replace.Given as goal

abbrev pub decreases-value::Value::replace_at : goal.decreases-value::Value::replace_at
decreases-value::Value::replace_at l = 2 * length l.path.now

abbrev pub decreases-replace::replace_item : goal.decreases-replace::replace_item
decreases-replace::replace_item l = 2 * length l.rest.now + 1

abbrev pub decreases-replace::replace_member : goal.decreases-replace::replace_member
decreases-replace::replace_member l = 2 * length l.rest.now + 1
