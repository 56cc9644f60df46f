-- An input that is heard piece by piece.
use Rattle.std.proofs.Common.{◌≡◌, ◌≢◌, refl, sym, ap, ◌∙◌, subst, inl, inr, arith, append_assoc, append-nil, ℕ, ◌≤◌, ◌<◌, List, [], ◌∷◌, ◌++◌, length, take, drop, Option, None, Some, Result, Err, length-append, length-drop}
use Rattle.std.proofs.lemmas.List.{take-append-drop, take-take, length-take}
use Rattle.std.specs.Prelude.{codes, ◌⊎◌}
use Rattle.std.specs.Io.KnownBytes.{Consumes, Keeps}
use Rattle.gql_multipart.specs.declared.refusal.FrameKind.{FrameKind}
use Rattle.gql_multipart.specs.declared.refusal.FrameKind.TheVariants.{BadBoundary}
use Rattle.gql_multipart.specs.declared.refusal.FrameRefusal.{FrameRefusal}
use Rattle.gql_multipart.specs.declared.refusal.FrameRefusal.TheVariants.{At}
use Rattle.gql_multipart.specs.Past.{RefusesBoundary}
use Rattle.gql_multipart.specs.Body.{IsBoundary}
use Rattle.gql_merge.specs.declared.merger.Merger.{Merger}
use Rattle.gql_merge.specs.declared.state.State.{State}
use Rattle.gql_merge.specs.Apply.{fresh}
use Rattle.gql_client.specs.declared.client.Client.{Client}
use Rattle.gql_client.specs.declared.stop.ClientRefusal.{ClientRefusal}
use Rattle.gql_client.specs.declared.stop.ClientRefusal.TheVariants as answer
use Rattle.gql_tool.specs.declared.hearing.Hearing.{Hearing}
use Rattle.gql_tool.specs.declared.hearing.Hearing.TheVariants as hearing
use Rattle.gql_client.specs.declared.stop.Stop.{Stop}
use Rattle.gql_client.specs.declared.stop.Stop.TheVariants.{Refused}
use Rattle.gql_tool.specs.declared.status.Status.{Status}
use Rattle.gql_tool.specs.declared.status.Status.TheVariants.{Done, ReadFault, WriteFault, StreamRefused}
use Rattle.gql_tool.specs.Outcome.{Outcome, Ways}
use Rattle.gql_tool.specs.Meets.{Meets, MeetsTold}
use Rattle.gql_client.specs.Client.{at_byte, Accepts, AcceptsEnd}
use Rattle.gql_client.specs.Heard.{Heard, Stands, IsRefused, IsRefusedAtEnd, reason_of}
use Rattle.gql_tool.specs.inner.Hearing.{EndsAt, StillTells, heard_of, hearing_of}
use Rattle.gql_tool.specs.Replay.{budget, merged_line, refused_lines, Tells, body_too_long, HeardWays, ReplayWays}
use Rattle.gql_tool.proofs.Digits.{decimal_zero}
use Rattle.gql_tool.proofs.Files.{Meets-more}

-- told bytes that were consumed
pub consumed : (rest bytes : List ℕ) (old new : Option (List ℕ)) → old ≡ Some rest → Consumes old new bytes → (after : List ℕ) × (new ≡ Some after) × (rest ≡ bytes ++ after)
consumed rest bytes old new is consumes = by_new new (subst (λ (o : Option (List ℕ)). Consumes o new bytes) is consumes)
  where
    by_new : (n : Option (List ℕ)) → Consumes (Some rest) n bytes → (after : List ℕ) × (n ≡ Some after) × (rest ≡ bytes ++ after)
    by_new None c = absurd c
    by_new (Some after) c = (after, refl, c)

-- bytes that were taken, cut once more
pub cut_again : (fits taken : ℕ) (room rest after : List ℕ) → fits ≤ taken → rest ≡ take taken room ++ after → rest ≡ take fits room ++ (drop fits (take taken room) ++ after)
cut_again fits taken room rest after within is =
    is
    ∙ (ap (λ (xs : List ℕ). xs ++ after) (sym (take-append-drop fits (take taken room)) ∙ ap (λ (xs : List ℕ). xs ++ drop fits (take taken room)) (take-take fits taken room within))
    ∙ append_assoc (take fits room) (drop fits (take taken room)) after)

-- a client that refused
pub EndsAt-refused : (new : Client) (boundary front rest piece back : List ℕ) (refusal : ClientRefusal) (a : Hearing) → rest ≡ piece ++ back → length (front ++ piece) ≤ budget
    → a ≡ hearing_of refusal → (refusal ≡ answer.Refused → IsRefused new boundary (front ++ piece)) → EndsAt boundary front rest new a
EndsAt-refused new boundary front rest piece back answer.Refused a is within of refused =
    subst (EndsAt boundary front rest new) (sym of) (piece, back, is, within, refused refl)
EndsAt-refused new boundary front rest piece back answer.NoMemory a is within of refused = subst (EndsAt boundary front rest new) (sym of) tt

-- more came than fits
pub longer : (fits taken : ℕ) (room after : List ℕ) → fits < taken → taken ≤ length room → drop fits (take taken room) ++ after ≢ []
longer fits taken room after less within none =
    omega (arith, less, within, ap length none, length-append (drop fits (take taken room)) after, length-drop {A = ℕ}, length-take {A = ℕ})

pub err_by : (r : Result (Unit {0}) ClientRefusal) (e now : ClientRefusal) → r ≡ Err e → e ≡ now → r ≡ Err now
err_by r e now is same = is ∙ ap (λ (x : ClientRefusal). (let y : Result (Unit {0}) ClientRefusal = Err x in y)) same

-- ---- what is left of an input that tells

pub StillTells-trans : (a b c : Option (List ℕ)) → StillTells a b → StillTells b c → StillTells a c
StillTells-trans None b c h k = tt
StillTells-trans (Some x) None c h k = absurd h
StillTells-trans (Some x) (Some y) None h k = absurd k
StillTells-trans (Some x) (Some y) (Some z) h k = tt

-- ---- right outcomes

-- what a client that goes on accepts
accepts : (c : Client) (h : Heard) → Stands c h → Accepts h.boundary h.bytes c.merger.state
accepts c h stands = ((stands.contents, stands.took.complete, stands.all, stands.took.follows), stands.is_open)

-- what is written of a client by its stop
written : (status : Status) (stop now : Option Stop) (t : State) (o : Outcome) → stop ≡ now → Tells status (reason_of stop) t o → Tells status (reason_of now) t o
written status stop now t o same tells = subst (λ (s : Option Stop). Tells status (reason_of s) t o) same tells

pub Meets-whole : (c : Client) (boundary bytes : List ℕ) (status : Status) (a b : Option (List ℕ)) → length bytes ≤ budget → Stands c (heard_of boundary bytes) → AcceptsEnd boundary bytes c.merger.state
    → Meets (Tells Done (reason_of c.stop) c.merger.state) status a b → Meets (HeardWays boundary bytes) status a b
Meets-whole c boundary bytes status a b within stands ends meets =
    Meets-more (Tells Done (reason_of c.stop) c.merger.state) (HeardWays boundary bytes) status a b
    (λ o is. inl (c.merger.state, within, accepts c (heard_of boundary bytes) stands, ends, written Done c.stop None c.merger.state o stands.going is)) meets

pub Meets-end : (c new : Client) (boundary bytes : List ℕ) (status : Status) (a b : Option (List ℕ)) → length bytes ≤ budget → Stands c (heard_of boundary bytes) → IsRefusedAtEnd new boundary bytes → new.merger ≡ c.merger
    → Meets (Tells StreamRefused (reason_of new.stop) new.merger.state) status a b → Meets (HeardWays boundary bytes) status a b
Meets-end c new boundary bytes status a b within stands refused merger meets =
    let accepted = subst (λ (m : Merger). Accepts boundary bytes m.state) (sym merger) (accepts c (heard_of boundary bytes) stands) in
    Meets-more (Tells StreamRefused (reason_of new.stop) new.merger.state) (HeardWays boundary bytes) status a b
    (λ o is. inr (inl (new.merger.state, refused.0, within, accepted, refused.2, written StreamRefused new.stop (Some (Refused refused.0)) new.merger.state o refused.1 is))) meets

pub Meets-front : (new : Client) (boundary bytes front rest : List ℕ) (status : Status) (a b : Option (List ℕ)) → bytes ≡ front ++ rest → EndsAt boundary front rest new hearing.Refused
    → Meets (Tells StreamRefused (reason_of new.stop) new.merger.state) status a b → Meets (HeardWays boundary bytes) status a b
Meets-front new boundary bytes front rest status a b cut (piece, back, is, within, refused) meets =
    let whole : bytes ≡ (front ++ piece) ++ back = cut ∙ (ap (λ (xs : List ℕ). front ++ xs) is ∙ sym (append_assoc front piece back)) in
    Meets-more (Tells StreamRefused (reason_of new.stop) new.merger.state) (HeardWays boundary bytes) status a b
    (λ o same. inr (inr (inl (new.merger.state, refused.0, front ++ piece, back, whole, within, refused.2, written StreamRefused new.stop (Some (Refused refused.0)) new.merger.state o refused.1 same)))) meets

pub Meets-budget : (new : Client) (boundary bytes front rest : List ℕ) (status : Status) (a b : Option (List ℕ)) → bytes ≡ front ++ rest → EndsAt boundary front rest new hearing.TooLong
    → Meets (λ o. o ≡ body_too_long) status a b → Meets (HeardWays boundary bytes) status a b
Meets-budget new boundary bytes front rest status a b cut (piece, back, is, within, more, stands) meets =
    let whole : bytes ≡ (front ++ piece) ++ back = cut ∙ (ap (λ (xs : List ℕ). front ++ xs) is ∙ sym (append_assoc front piece back)) in
    Meets-more (λ o. o ≡ body_too_long) (HeardWays boundary bytes) status a b
    (λ o same. inr (inr (inr (new.merger.state, front ++ piece, back, whole, within, more, accepts new (heard_of boundary (front ++ piece)) stands, same)))) meets

-- the whole input was heard
pub all_heard : (bytes front rest : List ℕ) → bytes ≡ front ++ rest → rest ≡ [] → front ≡ bytes
all_heard bytes front rest cut none = sym (cut ∙ (ap (λ (xs : List ℕ). front ++ xs) none ∙ append-nil front))

-- whether the input tells or not
pub MeetsTold-input : (told : Option (List ℕ)) (of : List ℕ → Ways) (status : Status) (a b : Option (List ℕ)) → ((bytes : List ℕ) → told ≡ Some bytes → Meets (of bytes) status a b) → (status ≡ ReadFault → Keeps a b)
    → MeetsTold told of status a b
MeetsTold-input (Some bytes) of status a b meets kept = meets bytes refl
MeetsTold-input None of status a b meets kept = untold status kept
  where
    untold : (s : Status) → (s ≡ ReadFault → Keeps a b) → MeetsTold None of s a b
    untold ReadFault kept = kept refl
    untold _ kept = tt

pub Meets-heard : (boundary bytes : List ℕ) (status : Status) (a b : Option (List ℕ)) → IsBoundary boundary → Meets (HeardWays boundary bytes) status a b → Meets (ReplayWays boundary bytes) status a b
Meets-heard boundary bytes status a b is meets = Meets-more (HeardWays boundary bytes) (ReplayWays boundary bytes) status a b (λ o right. inr (is, right)) meets

-- the words for a boundary that is none
pub no_boundary_lines : codes "refused byte 0: BadBoundary\nmerged none\n" ≡ refused_lines (at_byte 0 BadBoundary) fresh
no_boundary_lines = ap (λ (d : List ℕ). codes "refused " ++ ((codes "byte " ++ (d ++ codes ": BadBoundary")) ++ 10 ∷ merged_line fresh)) (sym decimal_zero)

pub Meets-no_boundary : (boundary bytes : List ℕ) (status : Status) (a b : Option (List ℕ)) → (IsBoundary boundary → ⊥) → Meets (λ o. o ≡ record { status = StreamRefused; bytes = codes "refused byte 0: BadBoundary\nmerged none\n" }) status a b
    → Meets (ReplayWays boundary bytes) status a b
Meets-no_boundary boundary bytes status a b none meets =
    Meets-more (λ o. o ≡ record { status = StreamRefused; bytes = codes "refused byte 0: BadBoundary\nmerged none\n" }) (ReplayWays boundary bytes) status a b
    (λ o is. inl (none, (tt, is ∙ ap (λ (xs : List ℕ). (let p : Outcome = record { status = StreamRefused; bytes = xs } in p)) no_boundary_lines))) meets

-- an input that was heard to its end
pub Meets-all : (boundary bytes front rest : List ℕ) (status : Status) (a b : Option (List ℕ)) → bytes ≡ front ++ rest → rest ≡ [] → length front ≤ budget
    → (length front ≤ budget → Meets (HeardWays boundary front) status a b) → Meets (HeardWays boundary bytes) status a b
Meets-all boundary bytes front rest status a b cut none within meets =
    subst (λ (xs : List ℕ). Meets (HeardWays boundary xs) status a b) (all_heard bytes front rest cut none) (meets within)

-- why no client was made
pub no_boundary : (text : List ℕ) (r : FrameRefusal) (kind : FrameKind) (byte : ℕ) → r ≡ At kind byte → RefusesBoundary text r → IsBoundary text → ⊥
no_boundary text r kind byte is refuses = (subst (RefusesBoundary text) is refuses).2

-- bytes that were put don't end in a fault of the input
pub no_read_fault : (status : Status) (a b : Option (List ℕ)) → (status ≡ StreamRefused) ⊎ (status ≡ WriteFault) → status ≡ ReadFault → Keeps a b
no_read_fault status a b (inl is) fault = absurd (let bad : StreamRefused ≡ ReadFault = sym is ∙ fault in cc)
no_read_fault status a b (inr is) fault = absurd (let bad : WriteFault ≡ ReadFault = sym is ∙ fault in cc)
