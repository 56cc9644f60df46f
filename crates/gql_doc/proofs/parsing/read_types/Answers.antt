use Rattle.std.proofs.Common.{[], inl, ◌∙◌, ap}
use Rattle.gql_doc.specs.Nesting.{limit}
use Rattle.gql_doc.specs.inner.Left.{left, coming, end_of}
use Rattle.gql_doc.specs.inner.Outcomes.{refusal_of, found}
use Rattle.gql_doc.specs.inner.TypeReading.{type_document}
use Rattle.gql_doc.proofs.Parsed.{Fails-outcome, reads-outcome}
use Rattle.gql_doc.proofs.TypeProductions.{document_whole}
use Rattle.gql_doc.proofs.parsing.read_types.Goals as goal

pub end-requires : goal.end-requires
end-requires c = document_whole limit (left c.new-parser.result) (left c.type_document.new.self) _ c.in-Ok.ensures.reads

pub returns-in-Ok : goal.returns-in-Ok
returns-in-Ok c = inl (reads-outcome (left c.type_document.new.self) c.in-Ok.document (type_document limit (coming [] c.args.text.now).tokens) (end_of c.args.text.now) c.found.result
    (rw c.new-parser.ensures.left at c.in-Ok.ensures.reads) (c.found.ensures ∙ ap (found c.in-Ok.document) (c.end.ensures ∙ c.type_document.ensures.same ∙ c.new-parser.ensures.end)))

pub returns-in-Err : goal.returns-in-Err
returns-in-Err c = Fails-outcome c.in-Err.why (left c.type_document.new.self) (type_document limit (coming [] c.args.text.now).tokens) (end_of c.args.text.now) c.refusal_of.result
    (rw c.new-parser.ensures.left at c.in-Err.ensures.reads) (c.refusal_of.ensures ∙ ap (refusal_of c.in-Err.why (left c.type_document.new.self)) (c.type_document.ensures.same ∙ c.new-parser.ensures.end))
