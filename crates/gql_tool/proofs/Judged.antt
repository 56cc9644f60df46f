-- A command whose files are there, and nothing outside fails.
use Rattle.std.proofs.Common.{◌≡◌, ℕ, ◌+◌, ◌-◌, ◌^◌, ◌≤◌, min, List, length, Option, None, Some, subst, sym, refl, inl, inr, arith}
use Rattle.gql_io.specs.Files.{Files}
use Rattle.gql_io.specs.Faults.{Rose}
use Rattle.gql_tool.specs.declared.status.Status.{Status}
use Rattle.gql_tool.specs.declared.status.Status.TheVariants.{Done, Refused, ReadFault, WriteFault, NoMemory}
use Rattle.gql_tool.specs.Outcome.{Outcome, Ways, AfterFile, file_limit}
use Rattle.gql_tool.specs.Words.{Names}
use Rattle.gql_tool.specs.Judged.{Judgement, NoText, NoDocument, NotBuilt, Executed}
use Rattle.gql_tool.specs.Local.{Answered, RequestWays, LocalWays}
use Rattle.gql_tool.specs.Statuses.{IsOneOf, judged_statuses}
use Rattle.gql_tool.specs.Meets.{Meets, MeetsTold, HasFiles, Whole}

-- the file leads on
leads_on : (file : Option (List ℕ)) (name bytes : List ℕ) (next : List ℕ → Ways) (o : Outcome) → file ≡ Some bytes → length bytes ≤ file_limit → AfterFile file name next o
    → next bytes o
leads_on file name bytes next o is within after = here (subst (λ (f : Option (List ℕ)). AfterFile f name next o) is after)
  where
    here : AfterFile (Some bytes) name next o → next bytes o
    here (inl over) = absurd (omega (arith, within, over.0))
    here (inr right) = right.1

answered : (is : Judgement) (o : Outcome) → Answered is o → IsOneOf judged_statuses o.status
answered NoText o is = subst (λ (p : Outcome). IsOneOf judged_statuses p.status) (sym is) refl
answered (NoDocument refusal) o is = subst (λ (p : Outcome). IsOneOf judged_statuses p.status) (sym is) refl
answered NotBuilt o is = subst (λ (p : Outcome). IsOneOf judged_statuses p.status) (sym is) refl
answered (Executed f) o (inl delivered) = subst (λ (p : Outcome). IsOneOf judged_statuses p.status) (sym delivered.is) refl
answered (Executed f) o (inr cut) = subst (λ (p : Outcome). IsOneOf judged_statuses p.status) (sym cut.is) refl

-- the right outcomes are those of the request
right : (files : Files) (names : Names) (o : Outcome) → HasFiles (Some files) names → LocalWays names files o
    → IsOneOf judged_statuses o.status
right files names o has ways =
    let s = has.0 in
    let t = has.1 in
    let d = has.2 in
    let at_schema = leads_on (files names.schema) names.schema s.0 (λ s. AfterFile (files names.tables) names.tables (λ t. AfterFile (files names.document) names.document (λ d. RequestWays names.vars s t d))) o s.1 s.2 ways in
    let at_tables = leads_on (files names.tables) names.tables t.0 (λ t. AfterFile (files names.document) names.document (λ d. RequestWays names.vars s.0 t d)) o t.1 t.2 at_schema in
    let at_document = leads_on (files names.document) names.document d.0 (λ d. RequestWays names.vars s.0 t.0 d) o d.1 d.2 at_tables in
    answered at_document.0 o at_document.2

pub judged : (told : Option Files) (names : Names) (status : Status) (a b : Option (List ℕ)) → HasFiles told names
    → MeetsTold told (LocalWays names) status a b → ¬ (status ≡ ReadFault) → ¬ (status ≡ WriteFault) → IsOneOf judged_statuses status
judged None names status a b has meets no_read no_write = absurd has
judged (Some files) names status a b has meets no_read no_write = by_status status meets no_read no_write
  where
    whole : (s : Status) → Whole (LocalWays names files) s a b → IsOneOf judged_statuses s
    whole s w = subst (IsOneOf judged_statuses) (sym w.2) (right files names w.0 has w.1)

    by_status : (s : Status) → Meets (LocalWays names files) s a b → ¬ (s ≡ ReadFault) → ¬ (s ≡ WriteFault) → IsOneOf judged_statuses s
    by_status ReadFault m no_read no_write = absurd (no_read refl)
    by_status WriteFault m no_read no_write = absurd (no_write refl)
    by_status NoMemory m no_read no_write = refl
    by_status Done m no_read no_write = refl
    by_status Refused m no_read no_write = refl
    by_status other m no_read no_write = whole other m

-- a count that rises behind a step has risen
pub Rose-behind : (before between now : ℕ) → before ≤ between → Rose between now → Rose before now
Rose-behind before between now later rose = by (2 ^ 64 - 1) rose
  where
    by : (most : ℕ) → min (between + 1) most ≤ now → min (before + 1) most ≤ now
    by most rose = omega (arith, later, rose)
