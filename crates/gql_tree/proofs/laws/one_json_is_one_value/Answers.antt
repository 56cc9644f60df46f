use Rattle.gql_tree.proofs.Marks.{same-data, same-value_of}
use Rattle.gql_tree.proofs.One.{same_marks}
use Rattle.gql_tree.proofs.Typed.{no_bad_number}
use Rattle.gql_tree.proofs.laws.one_json_is_one_value.Goals as goal

pub returns-clause-one : goal.returns-clause-one
returns-clause-one c = same-data c.args.first.now c.args.second.now

pub returns-clause-equal : goal.returns-clause-equal
returns-clause-equal c = same_marks c.args.first.now c.args.second.now

pub returns-clause-back : goal.returns-clause-back
returns-clause-back c = same-value_of c.args.first.now

pub returns-clause-whole : goal.returns-clause-whole
returns-clause-whole c = no_bad_number c.args.first.now
