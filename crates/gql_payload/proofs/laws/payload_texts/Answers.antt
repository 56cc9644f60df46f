use Rattle.gql_payload.proofs.Texts.{text_announced, text_delivered, text_failed, text_continued}
use Rattle.gql_payload.proofs.laws.payload_texts.Goals as goal

pub returns-clause-announced : goal.returns-clause-announced
returns-clause-announced c = text_announced

pub returns-clause-delivered : goal.returns-clause-delivered
returns-clause-delivered c = text_delivered

pub returns-clause-failed : goal.returns-clause-failed
returns-clause-failed c = text_failed

pub returns-clause-continued : goal.returns-clause-continued
returns-clause-continued c = text_continued
