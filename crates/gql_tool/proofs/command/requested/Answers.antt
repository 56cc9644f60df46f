use Rattle.std.proofs.Common.{ℕ, List}
use Rattle.std.proofs.KnownBytes.{Keeps-trans}
use Rattle.gql_io.specs.Files.{Files}
use Rattle.gql_tool.specs.Outcome.{Ways, AfterFile}
use Rattle.gql_tool.specs.Words.{Names, names_of}
use Rattle.gql_tool.specs.Local.{RequestWays}
use Rattle.gql_tool.proofs.Files.{stops_at, goes_on, at_end, same_judged, requests}
use Rattle.gql_tool.proofs.command.requested.Goals as goal

-- what follows each file
abbrev after_document : Names → (schema tables : List ℕ) → Files → List ℕ → Ways
after_document names s t files d = RequestWays names.vars s t d

abbrev after_tables : Names → (schema : List ℕ) → Files → List ℕ → Ways
after_tables names s files t = AfterFile (files names.document) names.document (after_document names s t files)

abbrev after_schema : Names → Files → List ℕ → Ways
after_schema names files s = AfterFile (files names.tables) names.tables (after_tables names s files)

pub returns-in_err-schema-clause-stops : goal.returns-in_err-schema-clause-stops
returns-in_err-schema-clause-stops g c =
    let names = names_of c.args.words.now in
    at_end _ _ c.from_residual.result _ _ _ c.from_residual.ensures.1 (stops_at _ names.schema (after_schema names) _ _ _ c.in_err-schema.ensures.stops)

pub returns-in_err-tables-clause-stops : goal.returns-in_err-tables-clause-stops
returns-in_err-tables-clause-stops g c =
    let names = names_of c.args.words.now in
    at_end _ _ c.from_residual-in_err-tables.result _ _ _ c.from_residual-in_err-tables.ensures.1
    (goes_on _ _ names.schema c.in_ok-schema.schema (after_schema names) _ _ _ _ c.in_ok-schema.ensures.same c.in_ok-schema.ensures.found c.in_ok-schema.ensures.within c.in_ok-schema.ensures.kept
    (stops_at _ names.tables (after_tables names c.in_ok-schema.schema) _ _ _ c.in_err-tables.ensures.stops))

pub returns-in_err-document-clause-stops : goal.returns-in_err-document-clause-stops
returns-in_err-document-clause-stops g c =
    let names = names_of c.args.words.now in
    at_end _ _ c.from_residual-in_err-document.result _ _ _ c.from_residual-in_err-document.ensures.1
    (goes_on _ _ names.schema c.in_ok-schema.schema (after_schema names) _ _ _ _ c.in_ok-schema.ensures.same c.in_ok-schema.ensures.found c.in_ok-schema.ensures.within c.in_ok-schema.ensures.kept
    (goes_on _ _ names.tables c.in_ok-tables.tables (after_tables names c.in_ok-schema.schema) _ _ _ _ c.in_ok-tables.ensures.same c.in_ok-tables.ensures.found c.in_ok-tables.ensures.within c.in_ok-tables.ensures.kept
    (stops_at _ names.document (after_document names c.in_ok-schema.schema c.in_ok-tables.tables) _ _ _ c.in_err-document.ensures.stops)))

pub returns-clause-asks : goal.returns-clause-asks
returns-clause-asks g c =
    let names = names_of c.args.words.now in
    requests _ _ _ names c.in_ok-schema.schema c.in_ok-tables.tables c.in_ok-document.document _ c.in_ok-schema.ensures.same c.in_ok-tables.ensures.same c.in_ok-schema.ensures.found c.in_ok-schema.ensures.within c.in_ok-tables.ensures.found c.in_ok-tables.ensures.within
    c.in_ok-document.ensures.found c.in_ok-document.ensures.within
    (same_judged names.vars _ _ _ c.in_ok-schema.schema c.in_ok-tables.tables c.in_ok-document.document _ c.as_slice.ensures c.as_slice-2.ensures c.as_slice-3.ensures c.in_ok-request.ensures.judged)

pub returns-clause-kept : goal.returns-clause-kept
returns-clause-kept g c = Keeps-trans _ _ _ c.in_ok-schema.ensures.kept (Keeps-trans _ _ _ c.in_ok-tables.ensures.kept c.in_ok-document.ensures.kept)
