-- The regions that a request has, and the client in the end.
use Rattle.std.proofs.Common.{◌≡◌, refl, sym, subst, ℕ, List, Option, None, Some, inl, inr}
use Rattle.std.proofs.lemmas.Bool.{true≢false}
use Rattle.std.specs.Io.KnownBytes.{Keeps}
use Rattle.gql_tree.specs.Forest.{Forest}
use Rattle.gql_io.specs.Files.{Files}
use Rattle.gql_client.specs.declared.client.Client.{Client}
use Rattle.gql_tool.specs.declared.status.Status.{Status}
use Rattle.gql_tool.specs.declared.status.Status.TheVariants.{Done, ReadFault, WriteFault, NoMemory, StreamRefused, NoFile, TooLong}
use Rattle.gql_tool.specs.Words.{Names}
use Rattle.gql_tool.specs.Judged.{Judgement, Executed}
use Rattle.gql_tool.specs.LocalClient.{Asks, ClientEnds}
use Rattle.gql_tool.specs.Statuses.{IsOneOf}
use Rattle.gql_tool.specs.inner.Steps.{file_statuses, Requests}
use Rattle.gql_tool.proofs.Files.{Appends-kept_first}

-- what is said of the regions that are asked for, where nothing was written before
ends_as : (A B : Forest → Type 0) (cut : ℕ) (old new : Client) (x y z : Option (List ℕ)) (status : Status) → ((f : Forest) → A f → B f) → Keeps x y → ClientEnds A cut old new y z status → ClientEnds B cut old new x z status
ends_as A B cut old new x y z Done also kept (f, asked, took) = (f, also f asked, record { stands = took.stands; cuts = took.cuts; line = Appends-kept_first x y z _ kept took.line })
ends_as A B cut old new x y z WriteFault also kept (inl same) = inl same
ends_as A B cut old new x y z WriteFault also kept (inr (f, asked, took)) = inr (f, also f asked, took)
ends_as A B cut old new x y z StreamRefused also kept (f, asked, refused) = (f, also f asked, refused)
ends_as A B cut old new x y z NoMemory also kept ends = tt
ends_as A B cut old new x y z _ also kept ends = ends

-- the request of the files that were read
asks : (told : Option Files) (names : Names) (f : Forest) → Requests told names (Executed f) → Asks told names f
asks None names f asked = tt
asks (Some files) names f (s, b, c, at_schema, fits_s, at_tables, fits_b, at_document, fits_c, judged) = (s, b, c, at_schema, at_tables, at_document, judged)

pub client_of : (told : Option Files) (names : Names) (is : Judgement) (cut : ℕ) (old new : Client) (x y z : Option (List ℕ)) (status : Status) → Requests told names is → Keeps x y
    → ClientEnds (λ f. is ≡ Executed f) cut old new y z status → ClientEnds (Asks told names) cut old new x z status
client_of told names is cut old new x y z status asked kept ends =
    ends_as (λ f. is ≡ Executed f) (Asks told names) cut old new x y z status (λ f same. asks told names f (subst (Requests told names) same asked)) kept ends

-- a command that ended at a file left it as it was
pub client_unfed : (A : Forest → Type 0) (cut : ℕ) (c : Client) (x z : Option (List ℕ)) (status : Status) → IsOneOf file_statuses status → ClientEnds A cut c c x z status
client_unfed A cut c x z ReadFault stop = refl
client_unfed A cut c x z WriteFault stop = inl refl
client_unfed A cut c x z NoMemory stop = tt
client_unfed A cut c x z NoFile stop = refl
client_unfed A cut c x z TooLong stop = refl
client_unfed A cut c x z _ stop = absurd (true≢false (sym stop))
