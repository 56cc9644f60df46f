use Rattle.gql_doc.proofs.PrintedBack.{printed_again, printed_utf8}
use Rattle.gql_doc.proofs.laws.a_printed_document_reads_back.Goals as goal

pub returns : goal.returns
returns c = record { again = printed_again; utf8 = printed_utf8 }
