use Rattle.gql_doc.proofs.QuotedFront.{quoted_reads_back}
use Rattle.gql_doc.proofs.laws.a_printed_string_reads_back.Goals as goal

pub returns : goal.returns
returns c = quoted_reads_back
