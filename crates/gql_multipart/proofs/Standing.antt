-- A reader that stands for a past answers as the past has it.
use Rattle.std.proofs.Common.{◌≡◌, ℕ, Bool, true, false, ◌+◌, IsTrue, List, [], ◌∷◌, ◌++◌, length, Result, Ok, Err, refl, sym, ap, ◌∙◌, subst, arith, ◌≤◌, ◌<◌, IfOk}
use Rattle.std.specs.List.{AllByRecursion as Each}
use Rattle.gql_multipart.specs.declared.read.Stop.{Stop}
use Rattle.gql_multipart.specs.declared.read.Stop.TheVariants.{More, Ended, Refused}
use Rattle.gql_multipart.specs.declared.read.Found.{Found}
use Rattle.gql_multipart.specs.Body.{dashes, boundary_byte, IsBoundary, Body}
use Rattle.gql_multipart.specs.Past.{Past, Kept, Stands, after, kept_after, Said, gives, IsAnswer, IsGiven}
use Rattle.gql_multipart.specs.inner.Reading.{seek, content_of, stop_says, has_ended}
use Rattle.gql_multipart.proofs.Lists.{NoCr}
use Rattle.gql_multipart.proofs.Places.{sought}
use Rattle.gql_multipart.proofs.PartLists.{begins-length}
use Rattle.gql_multipart.proofs.Answering.{all_given, no_body, few_ended, more_open, part_given, ended_body, refused}

no_cr : (text : List ℕ) → Each (λ b. IsTrue (boundary_byte b)) text → NoCr text
no_cr [] h = tt
no_cr (b ∷ text) h = ((λ e. (let bad : IsTrue (boundary_byte 13) = ap boundary_byte (sym e) ∙ h.0 in cc)), no_cr text h.1)

pub quiet : (boundary : List ℕ) → IsBoundary boundary → NoCr boundary
quiet boundary h = no_cr boundary h.bytes

-- what is said where this is found
abbrev pub said_of : Kept → Result Found Stop → Said
said_of kept (Ok found) = gives (content_of kept.sought kept.bytes found)
said_of kept (Err stop) = stop_says stop

-- the same found for the past
found_for : (kept : Kept) (past : Past) (r : Result Found Stop) → Stands kept past → r ≡ seek kept.sought kept.bytes kept.given → seek (sought past.boundary) past.bytes past.given ≡ r
found_for kept past r s e =
    ap (λ m. seek m past.bytes past.given) (sym s.sought)
    ∙ (ap (λ z. seek kept.sought z past.given) (sym s.bytes)
    ∙ (ap (λ n. seek kept.sought kept.bytes n) (sym s.given) ∙ sym e))

pub answers : (kept : Kept) (past : Past) (r : Result Found Stop) → Stands kept past → r ≡ seek kept.sought kept.bytes kept.given → IsAnswer past (said_of kept r)
answers kept past (Ok found) s e =
    let f = found_for kept past (Ok found) s e in
    let q = quiet past.boundary s.boundary in
    let same : content_of (sought past.boundary) past.bytes found ≡ content_of kept.sought kept.bytes found = ap (λ m. content_of m past.bytes found) (sym s.sought) ∙ ap (λ z. content_of kept.sought z found) (sym s.bytes) in
    let P : List ℕ → Type 0 = λ z. IsAnswer past (gives z) in
    subst P same (part_given past.boundary q past.given past.bytes found f)
answers kept past (Err More) s e =
    let f = found_for kept past (Err More) s e in
    let q = quiet past.boundary s.boundary in
    (all_given past.boundary q past.given past.bytes More f, more_open past.boundary q past.given past.bytes f, no_body past.boundary q past.given past.bytes More (λ p. cc) f)
answers kept past (Err Ended) s e =
    let f = found_for kept past (Err Ended) s e in
    let q = quiet past.boundary s.boundary in
    let b = ended_body past.boundary q past.given past.bytes f in
    (all_given past.boundary q past.given past.bytes Ended f, b.0, b.1)
answers kept past (Err (Refused kind byte)) s e =
    let f = found_for kept past (Err (Refused kind byte)) s e in
    let q = quiet past.boundary s.boundary in
    let r = refused past.boundary q past.given past.bytes kind byte f in
    (all_given past.boundary q past.given past.bytes (Refused kind byte) f, r.0, r.1)

-- ---- the same with what the code holds: m and bytes are what is kept, r is what was found in it

pub stands_given : (kept : Kept) (past : Past) → Stands kept past → Stands (record { sought = kept.sought; bytes = kept.bytes; given = kept.given + 1 }) (record { boundary = past.boundary; bytes = past.bytes; given = past.given + 1 })
stands_given kept past s = record { boundary = s.boundary; sought = s.sought; bytes = s.bytes; given = ap (λ n. n + 1) s.given }

kept_seek : (kept : Kept) (m bytes : List ℕ) (r : Result Found Stop) → m ≡ kept.sought → bytes ≡ kept.bytes → r ≡ seek m bytes kept.given → r ≡ seek kept.sought kept.bytes kept.given
kept_seek kept m bytes r em eb e = e ∙ (ap (λ z. seek z bytes kept.given) em ∙ ap (λ z. seek kept.sought z kept.given) eb)

pub part_said : (kept : Kept) (past : Past) (m bytes m' bytes' content : List ℕ) (r : Result Found Stop) (found : Found) → Stands kept past → m ≡ kept.sought → bytes ≡ kept.bytes → r ≡ seek m bytes kept.given → r ≡ Ok found → m' ≡ kept.sought → bytes' ≡ kept.bytes → content ≡ content_of m' bytes' found → IsAnswer past (gives content)
part_said kept past m bytes m' bytes' content r found s em eb e ok em' eb' ec =
    let same : content ≡ content_of kept.sought kept.bytes found = ec ∙ (ap (λ z. content_of z bytes' found) em' ∙ ap (λ z. content_of kept.sought z found) eb') in
    let P : List ℕ → Type 0 = λ z. IsAnswer past (gives z) in
    subst P (sym same) (answers kept past (Ok found) s (sym ok ∙ kept_seek kept m bytes r em eb e))

pub stop_said : (kept : Kept) (past : Past) (m bytes : List ℕ) (r : Result Found Stop) (stop : Stop) (says : Said) → Stands kept past → m ≡ kept.sought → bytes ≡ kept.bytes → r ≡ seek m bytes kept.given → r ≡ Err stop → says ≡ stop_says stop → IsAnswer past says
stop_said kept past m bytes r stop says s em eb e err es =
    subst (IsAnswer past) (sym es) (answers kept past (Err stop) s (sym err ∙ kept_seek kept m bytes r em eb e))

-- nothing is given by a stop
pub stands_stopped : (kept : Kept) (past : Past) (stop : Stop) (says : Said) → says ≡ stop_says stop → Stands kept past → Stands kept (after past says)
stands_stopped kept past stop says e s = subst (λ z. Stands kept (after past z)) (sym e) (by_stop stop)
  where
    by_stop : (stop : Stop) → Stands kept (after past (stop_says stop))
    by_stop More = s
    by_stop Ended = s
    by_stop (Refused kind byte) = s

has_ended_true : (r : Result Found Stop) → has_ended r ≡ true → r ≡ Err Ended
has_ended_true (Ok found) e = absurd cc
has_ended_true (Err More) e = absurd cc
has_ended_true (Err Ended) e = refl
has_ended_true (Err (Refused kind byte)) e = absurd cc

-- the same sought for the past, behind as many parts as there are bytes
end_for : (kept : Kept) (past : Past) (m bytes : List ℕ) (n : ℕ) (r : Result Found Stop) → Stands kept past → m ≡ kept.sought → bytes ≡ kept.bytes → n ≡ length bytes → r ≡ seek m bytes n → seek (sought past.boundary) past.bytes (length past.bytes) ≡ r
end_for kept past m bytes n r s em eb en e =
    let texts : bytes ≡ past.bytes = eb ∙ s.bytes in
    sym (e ∙ (ap (λ z. seek z bytes n) (em ∙ s.sought) ∙ (ap (λ z. seek (sought past.boundary) z n) texts ∙ ap (λ z. seek (sought past.boundary) past.bytes z) (en ∙ ap length texts))))

pub finish_ended : (kept : Kept) (past : Past) (m bytes : List ℕ) (n : ℕ) (r : Result Found Stop) (t : Bool) → Stands kept past → m ≡ kept.sought → bytes ≡ kept.bytes → n ≡ length bytes → r ≡ seek m bytes n → t ≡ has_ended r → t ≡ true → (contents : List (List ℕ)) × Body past.boundary past.bytes contents
finish_ended kept past m bytes n r t s em eb en e et yes_ended =
    ended_body past.boundary (quiet past.boundary s.boundary) (length past.bytes) past.bytes
    (end_for kept past m bytes n r s em eb en e ∙ has_ended_true r (sym et ∙ yes_ended))

-- a body has fewer parts than bytes, so its end is found behind them
pub finish_open : (kept : Kept) (past : Past) (m bytes : List ℕ) (n : ℕ) (r : Result Found Stop) (t : Bool) → Stands kept past → m ≡ kept.sought → bytes ≡ kept.bytes → n ≡ length bytes → r ≡ seek m bytes n → t ≡ has_ended r → t ≡ false → (contents : List (List ℕ)) → Body past.boundary past.bytes contents → ⊥
finish_open kept past m bytes n r t s em eb en e et not_ended contents (some, any, begins) =
    let found = few_ended past.boundary (quiet past.boundary s.boundary) (length past.bytes) past.bytes any contents some begins (begins-length past.boundary contents (dashes ++ any) past.bytes begins) in
    let ended : r ≡ Err Ended = sym (end_for kept past m bytes n r s em eb en e) ∙ found in
    let bad : true ≡ false = sym (ap has_ended ended) ∙ (sym et ∙ not_ended) in
    cc

-- a past for which a whole stands is one for its fields
pub opened : (a b : Kept) (past : Past) → a ≡ b → Stands b past → Stands a past
opened a b past e s = let P : Kept → Type 0 = λ k. Stands k past in subst P (sym e) s

-- ---- what is kept, apart from any past

pub kept_given : (kept now : Kept) (content : List ℕ) → kept ≡ now → record { sought = kept.sought; bytes = kept.bytes; given = kept.given + 1 } ≡ kept_after now (gives content)
kept_given kept now content e = ap (λ (k : Kept). kept_after k (gives content)) e

pub kept_stopped : (kept now : Kept) (stop : Stop) (says : Said) → says ≡ stop_says stop → kept ≡ now → kept ≡ kept_after now says
kept_stopped kept now stop says es e = e ∙ (by_stop stop ∙ sym (ap (kept_after now) es))
  where
    by_stop : (stop : Stop) → now ≡ kept_after now (stop_says stop)
    by_stop More = refl
    by_stop Ended = refl
    by_stop (Refused kind byte) = refl

-- a part that is found has more bytes before its end than there are parts before it
pub given_bytes : (kept now : Kept) (bytes : List ℕ) (r : Result Found Stop) (found : Found) → kept ≡ now → bytes ≡ kept.bytes → IfOk r (λ f. (kept.given < f.next) × (f.content ≤ f.next) × (f.next ≤ length bytes)) → r ≡ Ok found → now.given < length now.bytes
given_bytes kept now bytes r found e eb grows ok =
    let g = subst (λ (x : Result Found Stop). IfOk x (λ f. (kept.given < f.next) × (f.content ≤ f.next) × (f.next ≤ length bytes))) ok grows in
    omega (arith, g.0, g.2, ap length eb, ap (λ (k : Kept). k.given) e, ap (λ (k : Kept). length k.bytes) e)

pub none_given : (stop : Stop) (says : Said) → says ≡ stop_says stop → IsGiven says → ⊥
none_given stop says es given = by_stop stop (subst IsGiven es given)
  where
    by_stop : (stop : Stop) → IsGiven (stop_says stop) → ⊥
    by_stop More given = given
    by_stop Ended given = given
    by_stop (Refused kind byte) given = given
