-- The two languages that the parser reads.
use Rattle.std.proofs.Common.{codes}
use Rattle.gql_doc.specs.Grammar.{document}
use Rattle.gql_doc.specs.TypeGrammar.{type_document}
use Rattle.gql_doc.specs.Nesting.{limit}
use Rattle.gql_doc.specs.inner.Reading as reading
use Rattle.gql_doc.specs.inner.TypeReading as type_reading
use Rattle.gql_doc.proofs.Sets.{union, this, names, all_tokens}
use Rattle.gql_doc.proofs.Parsed.{Readable}
use Rattle.gql_doc.proofs.Productions.{document-predictive, document_whole}
use Rattle.gql_doc.proofs.TypeProductions as types

-- executable documents
pub documents : Readable document (reading.document limit)
documents = record {
  first = union (this (codes "{")) names;
  follow = all_tokens;
  parses = λ depth. document-predictive limit depth;
  whole = document_whole limit;
}

-- documents of type definitions
pub type_documents : Readable type_document (type_reading.type_document limit)
type_documents = record {
  first = types.document_first;
  follow = types.document_follow;
  parses = λ depth. types.document-predictive limit depth;
  whole = types.document_whole limit;
}
