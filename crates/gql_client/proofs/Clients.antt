-- What a client takes, part by part.
use Rattle.std.proofs.Common.{◌≡◌, ◌≢◌, refl, sym, ap, ◌∙◌, subst, inl, inr, arith, append_assoc, append-nil, length-append, Bor, ℕ, ◌+◌, List, [], ◌∷◌, ◌++◌, length, Result, Ok, Err, IsOk, IsErr, Bool, true, false, not, None, Some}
use Rattle.std.specs.Prelude.{codes}
use Rattle.gql_multipart.specs.Frame.{crlf}
use Rattle.gql_multipart.specs.Body.{IsBoundary, dashes, mark, IsPart, Body, Complete, IsOpen}
use Rattle.gql_multipart.specs.declared.refusal.FrameRefusal.{FrameRefusal}
use Rattle.gql_multipart.specs.declared.refusal.FrameRefusal.TheVariants.{At, NoMemory as OutOfMemory}
use Rattle.gql_multipart.specs.declared.reader.Step.{Step}
use Rattle.gql_multipart.specs.declared.reader.Step.TheVariants.{Part}
use Rattle.gql_multipart.specs.Past.{Past, Stands as ReaderStands, begun, fed, IsEnd, after, said, gives, more, ended, IsAnswer}
use Rattle.gql_multipart.proofs.PartLists.{parts_split, parts_more, begins-length}
use Rattle.gql_multipart.proofs.Standing.{quiet}
use Rattle.gql_multipart.proofs.Unique.{parts_one}
use Rattle.gql_merge.specs.declared.state.State.{State}
use Rattle.gql_merge.specs.declared.refusal.MergeRefusal.{MergeRefusal}
use Rattle.gql_merge.specs.declared.refusal.MergeRefusal.TheVariants as merge
use Rattle.gql_merge.specs.Apply.{OnRefusal, fresh}
use Rattle.gql_merge.specs.declared.merger.Merger.{Merger}
use Rattle.std.specs.Result.{IsErrAnd}
use Rattle.gql_client.specs.declared.client.Client.{Client}
use Rattle.gql_client.specs.declared.stop.Stop.{Stop}
use Rattle.gql_client.specs.declared.stop.Stop.TheVariants.{Refused, NoMemory}
use Rattle.gql_client.specs.declared.stop.ClientRefusal.{ClientRefusal}
use Rattle.gql_client.specs.declared.stop.ClientRefusal.TheVariants as answer
use Rattle.gql_client.specs.Client.{counted, at_end, Takes, Follows, AreComplete, AreAll, Refuses, AcceptsEnd, RefusesEnd}
use Rattle.gql_client.specs.Heard.{Heard, heard, nothing_heard, past_of, Took, Stands, IsMisframedBy, IsRefused, IsRefusedAtEnd, answer_of}

-- a refusal that isn't want of memory
pub OnRefusal-err : (T : Type 0) (r : Result T MergeRefusal) (e : MergeRefusal) (P : MergeRefusal → Type 0) → r ≡ Err e → (e ≢ merge.NoMemory) → OnRefusal r P → P e
OnRefusal-err T (Ok x) e P is some on = absurd cc
OnRefusal-err T (Err f) e P is some on = subst P same (of f (λ none. some (sym same ∙ none)) on)
  where
    same : f ≡ e
    same = cc

    of : (g : MergeRefusal) → (g ≢ merge.NoMemory) → (let r : Result T MergeRefusal = Err g in OnRefusal r P) → P g
    of merge.UnknownId some on = on
    of merge.IdTwice some on = on
    of merge.NoSuchPlace some on = on
    of merge.Clash some on = on
    of merge.AfterEnd some on = on
    of merge.NotAList some on = on
    of merge.OpenAtEnd some on = on
    of merge.BadInitial some on = on
    of merge.NoMemory some on = absurd (some refl)

-- ---- parts one after another

Follows-push : (number : ℕ) (cs : List (List ℕ)) (c : List ℕ) (s m t : State) → Follows number cs s m None → Takes (counted (number + length cs)) c m (Ok t) → Follows number (cs ++ c ∷ []) s t None
Follows-push number [] c s m t (same, none) takes =
    let first : number + 0 ≡ number = omega arith in
    let from : Takes (counted number) c s (Ok t) = subst (λ x. Takes (counted number) c x (Ok t)) same (subst (λ n. Takes (counted n) c m (Ok t)) first takes) in
    inl (t, from, (refl, refl))
Follows-push number (d ∷ cs) c s m t (inl (u, first, rest)) takes =
    let next : number + length {A = List ℕ} (d ∷ cs) ≡ (number + 1) + length cs = omega arith in
    inl (u, first, Follows-push (number + 1) cs c u m t rest (subst (λ n. Takes (counted n) c m (Ok t)) next takes))
Follows-push number (d ∷ cs) c s m t (inr (why, first, same, none)) takes = absurd cc

Follows-refused : (number : ℕ) (cs : List (List ℕ)) (c why : List ℕ) (s m : State) → Follows number cs s m None → Takes (counted (number + length cs)) c m (Err why) → Follows number (cs ++ c ∷ []) s m (Some why)
Follows-refused number [] c why s m (same, none) takes =
    let first : number + 0 ≡ number = omega arith in
    let from : Takes (counted number) c s (Err why) = subst (λ x. Takes (counted number) c x (Err why)) same (subst (λ n. Takes (counted n) c m (Err why)) first takes) in
    inr (why, from, same, refl)
Follows-refused number (d ∷ cs) c why s m (inl (u, first, rest)) takes =
    let next : number + length {A = List ℕ} (d ∷ cs) ≡ (number + 1) + length cs = omega arith in
    inl (u, first, Follows-refused (number + 1) cs c why u m rest (subst (λ n. Takes (counted n) c m (Err why)) next takes))
Follows-refused number (d ∷ cs) c why s m (inr (w, first, same, none)) takes = absurd cc

-- ---- the parts that a reader gives

-- parts without the last
Complete-before : (boundary bytes content : List ℕ) (before : List (List ℕ)) → Complete boundary bytes (before ++ content ∷ []) → Complete boundary bytes before
Complete-before boundary bytes content before (rest, (o, after, opening, parts, cut)) =
    let split = parts_split boundary before (content ∷ []) rest after parts in
    (split.0, (o, after, opening, split.1, cut))

-- the parts before the next one are those that were taken
same_parts : (boundary bytes : List ℕ) (before contents : List (List ℕ)) → IsBoundary boundary → Complete boundary bytes before → AreComplete boundary bytes contents → length before ≡ length contents → before ≡ contents
same_parts boundary bytes before contents b first (inl none) same = nil_of before (same ∙ ap length none) ∙ sym none
  where
    nil_of : (cs : List (List ℕ)) → length cs ≡ 0 → cs ≡ []
    nil_of [] e = refl
    nil_of (c ∷ cs) e = absurd (omega (arith, e))
same_parts boundary bytes before contents b first (inr second) same = parts_one boundary (quiet boundary b) bytes before contents first second same

-- one more part is complete
next_complete : (boundary bytes content : List ℕ) (before contents : List (List ℕ)) → IsBoundary boundary → Complete boundary bytes (before ++ content ∷ []) → length before ≡ length contents → AreComplete boundary bytes contents → Complete boundary bytes (contents ++ content ∷ [])
next_complete boundary bytes content before contents b complete same are =
    subst (λ (cs : List (List ℕ)). Complete boundary bytes (cs ++ content ∷ [])) (same_parts boundary bytes before contents b (Complete-before boundary bytes content before complete) are same) complete

-- what was complete stays so
pub AreComplete-more : (boundary bytes piece : List ℕ) (contents : List (List ℕ)) → AreComplete boundary bytes contents → AreComplete boundary (bytes ++ piece) contents
AreComplete-more boundary bytes piece contents (inl none) = inl none
AreComplete-more boundary bytes piece contents (inr (rest, (o, after, opening, parts, cut))) =
    inr (rest ++ piece, (o, after ++ piece, opening, parts_more boundary contents rest after piece parts, ap (λ (xs : List ℕ). xs ++ piece) cut ∙ append_assoc o after piece))

-- ---- a client and its next part

from_zero : (n : ℕ) → n ≡ 0 + n
from_zero n = omega arith

said_part : (r : Result Step FrameRefusal) (step : Step) (text : Bor (List ℕ)) → r ≡ Ok step → step ≡ Part text → said r ≡ gives text.now
said_part r step text is part = ap said is ∙ ap (λ s. said (Ok s)) part

-- the client with what it keeps behind a part
pub Took-part : (c new : Client) (h : Heard) (contents : List (List ℕ)) (r : Result Step FrameRefusal) (step : Step) (text : Bor (List ℕ)) → Took c h contents
    → r ≡ Ok step → step ≡ Part text → ((past : Past) → ReaderStands c.reader past → IsAnswer past (said r))
    → ((past : Past) → ReaderStands c.reader past → ReaderStands new.reader (after past (said r)))
    → Takes c.payloads text.now c.merger.state (Ok new.merger.state) → new.payloads ≡ counted (c.payloads + 1)
    → Took new h (contents ++ text.now ∷ [])
Took-part c new h contents r step text took is part answer stands takes payloads =
    let content = text.now in
    let past = past_of h (length contents) in
    let given = said_part r step text is part in
    let a = subst (IsAnswer past) given (answer past took.reader) in
    let longer : length (contents ++ content ∷ []) ≡ length contents + 1 = length-append contents (content ∷ []) in
    record {
      reader = subst (λ n. ReaderStands new.reader (past_of h n)) (sym longer) (subst (λ z. ReaderStands new.reader (after past z)) given (stands past took.reader));
      complete = inr (next_complete h.boundary h.bytes content a.0 contents took.reader.boundary a.1 a.2 took.complete);
      follows = Follows-push 0 contents content fresh c.merger.state new.merger.state took.follows
          (subst (λ n. Takes n content c.merger.state (Ok new.merger.state)) (took.counted ∙ ap counted (from_zero (length contents))) takes);
      counted = payloads ∙ omega (arith, took.counted, longer);
    }

pub Refuses-part : (c new : Client) (h : Heard) (contents : List (List ℕ)) (r : Result Step FrameRefusal) (step : Step) (text : Bor (List ℕ)) (why : List ℕ) → Took c h contents
    → r ≡ Ok step → step ≡ Part text → ((past : Past) → ReaderStands c.reader past → IsAnswer past (said r))
    → Takes c.payloads text.now c.merger.state (Err why) → new.merger ≡ c.merger
    → Refuses h.boundary h.bytes new.merger.state why
Refuses-part c new h contents r step text why took is part answer takes merger =
    let content = text.now in
    let past = past_of h (length contents) in
    let a = subst (IsAnswer past) (said_part r step text is part) (answer past took.reader) in
    subst (λ (m : Merger). Refuses h.boundary h.bytes m.state why) (sym merger)
    (inl (
      contents ++ content ∷ [],
      inr (next_complete h.boundary h.bytes content a.0 contents took.reader.boundary a.1 a.2 took.complete),
      Follows-refused 0 contents content why fresh c.merger.state took.follows (subst (λ n. Takes n content c.merger.state (Err why)) (took.counted ∙ ap counted (from_zero (length contents))) takes),
    ))

-- nothing was taken
kept_took : (c new : Client) (h : Heard) (contents : List (List ℕ)) → Took c h contents → ReaderStands new.reader (past_of h (length contents)) → new.merger ≡ c.merger → new.payloads ≡ c.payloads → Took new h contents
kept_took c new h contents took reader merger payloads =
    record {
      reader = reader;
      complete = took.complete;
      follows = subst (λ (m : Merger). Follows 0 contents fresh m.state None) (sym merger) took.follows;
      counted = payloads ∙ took.counted;
    }

-- a body is a front of one
body_open : (boundary bytes : List ℕ) (contents : List (List ℕ)) → Body boundary bytes contents → IsOpen boundary bytes
body_open boundary bytes contents body = ([], contents, subst (λ (xs : List ℕ). Body boundary xs contents) (sym (append-nil bytes)) body)

-- no further part
pub Took-more : (c new : Client) (h : Heard) (contents : List (List ℕ)) (r : Result Step FrameRefusal) → Took c h contents
    → said r ≡ more → ((past : Past) → ReaderStands c.reader past → IsAnswer past (said r))
    → ((past : Past) → ReaderStands c.reader past → ReaderStands new.reader (after past (said r)))
    → new.merger ≡ c.merger → new.payloads ≡ c.payloads
    → Took new h contents × AreAll h.boundary h.bytes contents × IsOpen h.boundary h.bytes
Took-more c new h contents r took is answer stands merger payloads =
    let past = past_of h (length contents) in
    let a = subst (IsAnswer past) is (answer past took.reader) in
    let s = subst (λ z. ReaderStands new.reader (after past z)) is (stands past took.reader) in
    (kept_took c new h contents took s merger payloads, a.0, a.1)

pub Took-ended : (c new : Client) (h : Heard) (contents : List (List ℕ)) (r : Result Step FrameRefusal) → Took c h contents
    → said r ≡ ended → ((past : Past) → ReaderStands c.reader past → IsAnswer past (said r))
    → ((past : Past) → ReaderStands c.reader past → ReaderStands new.reader (after past (said r)))
    → new.merger ≡ c.merger → new.payloads ≡ c.payloads
    → Took new h contents × AreAll h.boundary h.bytes contents × IsOpen h.boundary h.bytes
Took-ended c new h contents r took is answer stands merger payloads =
    let past = past_of h (length contents) in
    let a = subst (IsAnswer past) is (answer past took.reader) in
    let s = subst (λ z. ReaderStands new.reader (after past z)) is (stands past took.reader) in
    (kept_took c new h contents took s merger payloads, a.0, body_open h.boundary h.bytes a.1 a.2)

-- no front of a body
pub Refuses-framed : (c new : Client) (h : Heard) (contents : List (List ℕ)) (r : Result Step FrameRefusal) (refusal : FrameRefusal) (why : List ℕ) → Took c h contents
    → r ≡ Err refusal → IsAnswer (past_of h (length contents)) (said r) → IsMisframedBy refusal why → new.merger ≡ c.merger
    → Refuses h.boundary h.bytes new.merger.state why
Refuses-framed c new h contents r (At kind byte) why took is answer by merger =
    let a = subst (IsAnswer (past_of h (length contents))) (ap said is) answer in
    let follows = subst (λ (m : Merger). Follows 0 contents fresh m.state None) (sym merger) took.follows in
    inr ((contents, took.complete, a.0, follows), (kind, byte, a.1, a.2, by))
Refuses-framed c new h contents r OutOfMemory why took is answer by merger = absurd by

-- an error that was handed on
pub handed_by : {E : Type 0} (S T : Type 0) (r : Result S E) (e : E) (s : Result T E) (stop : E) → r ≡ Err e → IsErrAnd s (λ x. x ≡ e) → s ≡ Err stop → r ≡ Err stop
handed_by S T r e (Ok x) stop is err same = absurd err
handed_by {E} S T r e (Err f) stop is err same =
    let last : f ≡ stop = cc in
    is ∙ ap (λ (x : E). (let y : Result S E = Err x in y)) (sym err ∙ last)

pub handed_on : (S T : Type 0) (r : Result S Stop) (e : Stop) (s : Result T Stop) (stop : Stop) → r ≡ Err e → IsErrAnd s (λ x. x ≡ e) → s ≡ Err stop → r ≡ Err stop
handed_on S T r e s stop = handed_by S T r e s stop

-- an answer by its step
pub said_step : (r : Result Step FrameRefusal) (step now : Step) → r ≡ Ok step → step ≡ now → said r ≡ said (Ok now)
said_step r step now is same = ap said is ∙ ap (λ s. said (Ok s)) same

-- ---- bytes that are fed

pub Took-fed : (c new : Client) (h : Heard) (piece : List ℕ) (contents : List (List ℕ)) → Took c h contents
    → ((past : Past) → ReaderStands c.reader past → ReaderStands new.reader (fed past piece)) → new.merger ≡ c.merger → new.payloads ≡ c.payloads
    → Took new (heard h piece) contents
Took-fed c new h piece contents took stands merger payloads =
    record {
      reader = stands (past_of h (length contents)) took.reader;
      complete = AreComplete-more h.boundary h.bytes piece contents took.complete;
      follows = subst (λ (m : Merger). Follows 0 contents fresh m.state None) (sym merger) took.follows;
      counted = payloads ∙ took.counted;
    }

-- no bytes are a front of a body
nothing_open : (boundary : List ℕ) → IsOpen boundary []
nothing_open boundary =
    let part = crlf ++ (crlf ++ mark boundary) in
    let is_part : IsPart boundary [] part = (crlf, crlf, mark boundary, ([], tt, omega arith, refl), ([], tt, omega arith, refl), (omega arith, inl (refl, refl)), refl) in
    (mark boundary ++ (part ++ dashes), [] ∷ [], ((λ none. cc), [], (mark boundary, part ++ dashes, ([], inl refl, refl), (part, dashes, is_part, refl, refl), refl)))

-- a client that was fed nothing
pub Stands-new : (c : Client) (boundary : List ℕ) → ReaderStands c.reader (begun boundary) → c.merger.state ≡ fresh → c.payloads ≡ 0 → c.stop ≡ None → Stands c (nothing_heard boundary)
Stands-new c boundary reader state payloads stop =
    record {
      going = stop;
      contents = [];
      took = record { reader = reader; complete = inl refl; follows = (state, refl); counted = payloads };
      all = λ others complete. begins-length boundary others complete.0 [] complete.1;
      is_open = nothing_open boundary;
    }

-- ---- the end of the input

pub AcceptsEnd-ok : (c : Client) (h : Heard) (r : Result (Unit {0}) FrameRefusal) → Stands c h → ((past : Past) → ReaderStands c.reader past → IsEnd past r) → IsOk r → c.merger.state.ended ≡ true
    → AcceptsEnd h.boundary h.bytes c.merger.state
AcceptsEnd-ok c h (Ok done) stands end ok over =
    let e = end (past_of h (length stands.contents)) stands.took.reader in
    (e.0, e.1, over)
AcceptsEnd-ok c h (Err refusal) stands end ok over = absurd (cc ok)

pub RefusesEnd-truncated : (c : Client) (h : Heard) (r : Result (Unit {0}) FrameRefusal) (why : List ℕ) → Stands c h → ((past : Past) → ReaderStands c.reader past → IsEnd past r) → IsErr r → why ≡ at_end (codes "Truncated")
    → RefusesEnd h.boundary h.bytes c.merger.state why
RefusesEnd-truncated c h (Ok done) why stands end err is = absurd (cc err)
RefusesEnd-truncated c h (Err (At kind byte)) why stands end err is = inl ((end (past_of h (length stands.contents)) stands.took.reader).2, is)
RefusesEnd-truncated c h (Err OutOfMemory) why stands end err is = absurd (end (past_of h (length stands.contents)) stands.took.reader)

pub RefusesEnd-unfinished : (c : Client) (h : Heard) (r : Result (Unit {0}) FrameRefusal) (why : List ℕ) → Stands c h → ((past : Past) → ReaderStands c.reader past → IsEnd past r) → IsOk r → c.merger.state.ended ≡ false → why ≡ at_end (codes "NotFinished")
    → RefusesEnd h.boundary h.bytes c.merger.state why
RefusesEnd-unfinished c h (Ok done) why stands end ok open_ended is =
    let e = end (past_of h (length stands.contents)) stands.took.reader in
    inr (e.0, e.1, open_ended, is)
RefusesEnd-unfinished c h (Err refusal) why stands end ok open_ended is = absurd (cc ok)

-- an answer by its truth value
pub ok_of : (r : Result Bool Stop) (t now : Bool) → r ≡ Ok t → t ≡ now → r ≡ Ok now
ok_of r t now is same = is ∙ ap (λ (b : Bool). (let y : Result Bool Stop = Ok b in y)) same

-- ---- the calls

-- a stop whose answer is a refusal
refused_by : (stop : Stop) (a : ClientRefusal) → a ≡ answer_of stop → a ≡ answer.Refused → (why : List ℕ) × (stop ≡ Refused why)
refused_by (Refused why) a is refused = (why, refl)
refused_by NoMemory a is refused = absurd (let bad : answer.NoMemory ≡ answer.Refused = sym is ∙ refused in cc)

pub IsRefused-fed : (mid new : Client) (boundary bytes : List ℕ) (stop : Stop) (a : ClientRefusal) → a ≡ answer_of stop → a ≡ answer.Refused
    → ((why : List ℕ) → stop ≡ Refused why → Refuses boundary bytes mid.merger.state why) → new ≡ record mid { stop = Some stop }
    → IsRefused new boundary bytes
IsRefused-fed mid new boundary bytes stop a is refused refuses kept =
    let by = refused_by stop a is refused in
    (by.0, ap (λ (c : Client). c.stop) kept ∙ ap Some by.1, subst (λ (c : Client). Refuses boundary bytes c.merger.state by.0) (sym kept) (refuses by.0 by.1))

pub IsRefusedAtEnd-finish : (mid new : Client) (boundary bytes : List ℕ) (stop : Stop) (a : ClientRefusal) → a ≡ answer_of stop → a ≡ answer.Refused
    → ((why : List ℕ) → stop ≡ Refused why → RefusesEnd boundary bytes mid.merger.state why) → new ≡ record mid { stop = Some stop }
    → IsRefusedAtEnd new boundary bytes
IsRefusedAtEnd-finish mid new boundary bytes stop a is refused refuses kept =
    let by = refused_by stop a is refused in
    (by.0, ap (λ (c : Client). c.stop) kept ∙ ap Some by.1, subst (λ (c : Client). RefusesEnd boundary bytes c.merger.state by.0) (sym kept) (refuses by.0 by.1))

pub over_by : {t : Bool} → t ≡ false → not t ≡ true
over_by is = ap not is

pub more_by : (t ended : Bool) → t ≡ not ended → t ≡ true → ended ≡ false
more_by t true is goes = absurd (let bad : false ≡ true = sym is ∙ goes in cc)
more_by t false is goes = refl

pub last_by : (t ended : Bool) → t ≡ not ended → t ≡ false → ended ≡ true
last_by t true is over = refl
last_by t false is over = absurd (let bad : true ≡ false = sym is ∙ over in cc)

-- an error by what it is
pub err_of : (r : Result (Unit {0}) Stop) (stop now : Stop) → r ≡ Err stop → stop ≡ now → r ≡ Err now
err_of r stop now is same = is ∙ ap (λ (s : Stop). (let y : Result (Unit {0}) Stop = Err s in y)) same
