use Rattle.gql_tool.proofs.WorkedTexts.{texts-plain, texts-one_deferred, length-one_deferred, texts-bubbling, texts-null_item, texts-failing}
use Rattle.gql_tool.proofs.laws.worked_texts.Goals as goal

pub returns-clause-plain : goal.returns-clause-plain
returns-clause-plain c = texts-plain

pub returns-clause-deferred : goal.returns-clause-deferred
returns-clause-deferred c = texts-one_deferred

pub returns-clause-deferred_body : goal.returns-clause-deferred_body
returns-clause-deferred_body c = length-one_deferred

pub returns-clause-bubbled : goal.returns-clause-bubbled
returns-clause-bubbled c = texts-bubbling

pub returns-clause-null_item : goal.returns-clause-null_item
returns-clause-null_item c = texts-null_item

pub returns-clause-failing : goal.returns-clause-failing
returns-clause-failing c = texts-failing
