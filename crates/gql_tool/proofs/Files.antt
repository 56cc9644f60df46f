-- How a command goes on from file to file.
use Rattle.std.proofs.Common.{◌≡◌, ℕ, ◌≤◌, List, ◌++◌, length, Option, None, Some, Result, Ok, Err, subst, sym, ap, ◌∙◌, inl, inr}
use Rattle.std.specs.Prelude.{codes}
use Rattle.std.specs.Prelude.{IfErr}
use Rattle.std.specs.Result.{IsErrAnd}
use Rattle.std.specs.Io.KnownBytes.{Appends, Keeps}
use Rattle.std.proofs.KnownBytes.{Keeps-trans}
use Rattle.gql_io.specs.Files.{Files, Reads}
use Rattle.gql_io.specs.declared.shelf.ShelfRefusal.TheVariants.{Missing, TooLong as ReadsTooLong}
use Rattle.gql_io.proofs.Told.{Prefix-kept}
use Rattle.gql_tool.specs.declared.status.Status.{Status}
use Rattle.gql_tool.specs.declared.status.Status.TheVariants.{ReadFault, WriteFault, NoMemory, NoFile, TooLong}
use Rattle.gql_tool.specs.Outcome.{Outcome, Ways, AfterFile, names, file_limit}
use Rattle.gql_tool.specs.Words.{Names}
use Rattle.gql_tool.specs.Judged.{Judgement, Judged}
use Rattle.gql_tool.specs.Local.{Answered, LocalWays}
use Rattle.gql_tool.specs.Meets.{Meets, MeetsTold}
use Rattle.gql_tool.specs.inner.Steps.{Finds, FileStops, StopsAt, Requests}

pub Appends-kept_first : (a b c : Option (List ℕ)) (bytes : List ℕ) → Keeps a b → Appends b c bytes → Appends a c bytes
Appends-kept_first None b c bytes kept more = tt
Appends-kept_first (Some x) None c bytes kept more = absurd kept
Appends-kept_first (Some x) (Some y) None bytes kept more = absurd more
Appends-kept_first (Some x) (Some y) (Some z) bytes kept more = more ∙ ap (λ l. l ++ bytes) kept

-- nothing was written before
Meets-kept : (of : Ways) (status : Status) (a b c : Option (List ℕ)) → Keeps a b → Meets of status b c → Meets of status a c
Meets-kept of ReadFault a b c kept meets = Keeps-trans a b c kept meets
Meets-kept of WriteFault a b c kept meets = (meets.0, meets.1, Prefix-kept a b c meets.0.bytes kept meets.2)
Meets-kept of NoMemory a b c kept (inl same) = inl (Keeps-trans a b c kept same)
Meets-kept of NoMemory a b c kept (inr front) = inr (front.0, front.1, Prefix-kept a b c front.0.bytes kept front.2)
Meets-kept of _ a b c kept meets = (meets.0, meets.1, meets.2, Appends-kept_first a b c meets.0.bytes kept meets.3)

-- more outcomes are right
pub Meets-more : (of more : Ways) (status : Status) (a b : Option (List ℕ)) → ((o : Outcome) → of o → more o) → Meets of status a b → Meets more status a b
Meets-more of more ReadFault a b also meets = meets
Meets-more of more WriteFault a b also meets = (meets.0, also meets.0 meets.1, meets.2)
Meets-more of more NoMemory a b also (inl same) = inl same
Meets-more of more NoMemory a b also (inr front) = inr (front.0, also front.0 front.1, front.2)
Meets-more of more _ a b also meets = (meets.0, also meets.0 meets.1, meets.2, meets.3)

MeetsTold-more : (told : Option Files) (of more : Files → Ways) (status : Status) (a b : Option (List ℕ)) → ((files : Files) (o : Outcome) → of files o → more files o)
    → MeetsTold told of status a b → MeetsTold told more status a b
MeetsTold-more (Some files) of more status a b also meets = Meets-more (of files) (more files) status a b (also files) meets
MeetsTold-more None of more status a b also meets = untold status meets
  where
    untold : (s : Status) → MeetsTold None of s a b → MeetsTold None more s a b
    untold ReadFault meets = meets
    untold _ meets = tt

-- a file that stops the command, whatever would be next
stops_here : (file : Option (List ℕ)) (name : List ℕ) (next : List ℕ → Ways) (o : Outcome) → FileStops file name o → AfterFile file name next o
stops_here None name next o stops = stops
stops_here (Some bytes) name next o stops = inl stops

-- a file that is there
found : (file : Option (List ℕ)) (name bytes : List ℕ) (next : List ℕ → Ways) (o : Outcome) → file ≡ Some bytes → length bytes ≤ file_limit → next bytes o
    → AfterFile file name next o
found file name bytes next o is within right =
    let here : AfterFile (Some bytes) name next o = inr (within, right) in
    subst (λ (f : Option (List ℕ)). AfterFile f name next o) (sym is) here

-- a command that stops at a file
pub stops_at : (told : Option Files) (name : List ℕ) (next : Files → List ℕ → Ways) (status : Status) (a b : Option (List ℕ)) → StopsAt told name status a b
    → MeetsTold told (λ files. AfterFile (files name) name (next files)) status a b
stops_at told name next status a b stops =
    MeetsTold-more told (λ files. FileStops (files name) name) (λ files. AfterFile (files name) name (next files)) status a b (λ files o. stops_here (files name) name (next files) o) stops

-- a file that was read leads on
pub goes_on : (told now : Option Files) (name bytes : List ℕ) (next : Files → List ℕ → Ways) (status : Status) (a b c : Option (List ℕ)) → now ≡ told → Finds told name bytes
    → length bytes ≤ file_limit → Keeps a b → MeetsTold now (λ files. next files bytes) status b c → MeetsTold told (λ files. AfterFile (files name) name (next files)) status a c
goes_on told now name bytes next status a b c same finds within kept meets = told_on told finds (subst (λ (t : Option Files). MeetsTold t (λ files. next files bytes) status b c) same meets)
  where
    told_on : (t : Option Files) → Finds t name bytes → MeetsTold t (λ files. next files bytes) status b c → MeetsTold t (λ files. AfterFile (files name) name (next files)) status a c
    told_on (Some files) finds meets =
        Meets-more (next files bytes) (AfterFile (files name) name (next files)) status a c (λ o. found (files name) name bytes (next files) o finds within)
        (Meets-kept (next files bytes) status a b c kept meets)
    told_on None finds meets = untold_on status meets
      where
        untold_on : (s : Status) → MeetsTold None (λ files. next files bytes) s b c → MeetsTold None (λ files. AfterFile (files name) name (next files)) s a c
        untold_on ReadFault meets = Keeps-trans a b c kept meets
        untold_on _ meets = tt

untold : (of : Ways) (all : Files → Ways) (status : Status) (a b : Option (List ℕ)) → Meets of status a b → MeetsTold None all status a b
untold of all ReadFault a b meets = meets
untold of all _ a b meets = tt

pub stops_missing : (told : Option Files) (name : List ℕ) (status : Status) (a b : Option (List ℕ)) → Reads told name file_limit (Err Missing)
    → Meets (λ o. o ≡ names NoFile (codes "no such file: ") name) status a b → StopsAt told name status a b
stops_missing None name status a b reads meets = untold (λ o. o ≡ names NoFile (codes "no such file: ") name) (λ files. FileStops (files name) name) status a b meets
stops_missing (Some files) name status a b reads meets = subst (λ (f : Option (List ℕ)). Meets (FileStops f name) status a b) (sym reads) meets

pub stops_too_long : (told : Option Files) (name : List ℕ) (status : Status) (a b : Option (List ℕ)) → Reads told name file_limit (Err ReadsTooLong)
    → Meets (λ o. o ≡ names TooLong (codes "too long: ") name) status a b → StopsAt told name status a b
stops_too_long None name status a b reads meets = untold (λ o. o ≡ names TooLong (codes "too long: ") name) (λ files. FileStops (files name) name) status a b meets
stops_too_long (Some files) name status a b reads meets =
    subst (λ (f : Option (List ℕ)). Meets (FileStops f name) status a b) (sym reads.1)
    (Meets-more (λ o. o ≡ names TooLong (codes "too long: ") name) (FileStops (Some reads.0) name) status a b (λ o is. (reads.2, is)) meets)

-- a command that ended early
pub at_end : {T : Type 0} (told : Option Files) (of : Files → Ways) (r : Result T Status) (status : Status) (a b : Option (List ℕ)) → IsErrAnd r (λ e. e ≡ status) → MeetsTold told of status a b → IfErr r (λ e. MeetsTold told of e a b)
at_end told of (Ok x) status a b err meets = tt
at_end told of (Err e) status a b err meets = subst (λ (s : Status). MeetsTold told of s a b) (sym err) meets

-- a request by the bytes that its slices have
pub same_judged : (vars s t d schema tables document : List ℕ) (is : Judgement) → s ≡ schema → t ≡ tables → d ≡ document → Judged vars s t d is → Judged vars schema tables document is
same_judged vars s t d schema tables document is is_schema is_tables is_document judged =
    subst (λ (x : List ℕ). Judged vars schema tables x is) is_document (subst (λ (x : List ℕ). Judged vars schema x d is) is_tables (subst (λ (x : List ℕ). Judged vars x t d is) is_schema judged))

-- the three files that were found, on a shelf that tells the same all the while
pub requests : (told second third : Option Files) (names : Names) (s b c : List ℕ) (is : Judgement) → second ≡ told → third ≡ second → Finds told names.schema s → length s ≤ file_limit → Finds second names.tables b → length b ≤ file_limit
    → Finds third names.document c → length c ≤ file_limit → Judged names.vars s b c is → Requests told names is
requests told second third names s b c is is_second is_third has_s fits_s has_b fits_b has_c fits_c judged =
    by told has_s (here second is_second names.tables b has_b) (here third (is_third ∙ is_second) names.document c has_c)
  where
    here : (f : Option Files) → f ≡ told → (name bytes : List ℕ) → Finds f name bytes → Finds told name bytes
    here f same name bytes has = subst (λ (o : Option Files). Finds o name bytes) same has

    by : (f : Option Files) → Finds f names.schema s → Finds f names.tables b → Finds f names.document c → Requests f names is
    by None at_schema at_tables at_document = tt
    by (Some files) at_schema at_tables at_document = (s, b, c, at_schema, fits_s, at_tables, fits_b, at_document, fits_c, judged)

-- a request that was read is answered
pub answers : (told : Option Files) (names : Names) (is : Judgement) (status : Status) (x y z : Option (List ℕ)) → Requests told names is → Keeps x y → Meets (Answered is) status y z
    → MeetsTold told (LocalWays names) status x z
answers None names is status x y z asked kept meets = untold (Answered is) (LocalWays names) status x z (Meets-kept (Answered is) status x y z kept meets)
answers (Some files) names is status x y z (s, b, c, at_schema, fits_s, at_tables, fits_b, at_document, fits_c, judged) kept meets =
    Meets-more (Answered is) (LocalWays names files) status x z
    (λ o right.
    found (files names.schema) names.schema s _ o at_schema fits_s
    (found (files names.tables) names.tables b _ o at_tables fits_b
    (found (files names.document) names.document c _ o at_document fits_c (is, judged, right))))
    (Meets-kept (Answered is) status x y z kept meets)
