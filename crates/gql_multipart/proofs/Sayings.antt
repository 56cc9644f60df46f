-- A past has one answer.
use Rattle.std.proofs.Common.{◌≡◌, ℕ, ◌-◌, ◌<◌, ◌≤◌, List, [], ◌∷◌, ◌++◌, length, take, drop, refl, sym, ap, ap₂, ◌∙◌, subst, arith, append_assoc, append-nil, length-append, take-append-drop, nat_lt, ltb-true, ltb-false}
use Rattle.gql_multipart.specs.Body.{IsBoundary, Body, Complete, IsOpen}
use Rattle.gql_multipart.specs.Regions.{StandsIn}
use Rattle.gql_multipart.specs.Past.{Past, Said, gives, more, ended, refuses, no_memory, IsAnswer, AllGiven, IsLeastShut}
use Rattle.gql_multipart.proofs.Standing.{quiet}
use Rattle.gql_multipart.proofs.Answering.{one_of}
use Rattle.gql_multipart.proofs.Unique.{content_one}
use Rattle.gql_multipart.proofs.RegionKinds.{kind_one}

pub take_open : (boundary bytes : List ℕ) (k : ℕ) → IsOpen boundary bytes → IsOpen boundary (take k bytes)
take_open boundary bytes k (rest, contents, body) =
    (drop k bytes ++ rest, contents, subst (λ z. Body boundary z contents) (ap (λ z. z ++ rest) (sym (take-append-drop k bytes)) ∙ append_assoc (take k bytes) (drop k bytes) rest) body)

body_open : (boundary bytes : List ℕ) (contents : List (List ℕ)) → Body boundary bytes contents → IsOpen boundary bytes
body_open boundary bytes contents body = ([], contents, subst (λ z. Body boundary z contents) (sym (append-nil bytes)) body)

one_more : (past : Past) (before : List (List ℕ)) (content : List ℕ) → Complete past.boundary past.bytes (before ++ content ∷ []) → length before ≡ past.given → AllGiven past → ⊥
one_more past before content complete len given =
    let l : length (before ++ content ∷ []) ≤ past.given = given (before ++ content ∷ []) complete in
    omega (arith, length-append before (content ∷ []))

not_before : (boundary bytes : List ℕ) (b c : ℕ) → IsLeastShut boundary bytes b → IsLeastShut boundary bytes c → b < c → ⊥
not_before boundary bytes b c s t l = s.shut (t.least b l)

least_one : (boundary bytes : List ℕ) (b c : ℕ) → IsLeastShut boundary bytes b → IsLeastShut boundary bytes c → b ≡ c
least_one boundary bytes b c s t =
    one_of (nat_lt b c)
    (λ u. absurd (not_before boundary bytes b c s t (ltb-true b c u)))
    (λ u. one_of (nat_lt c b)
    (λ v. absurd (not_before boundary bytes c b t s (ltb-true c b v)))
    (λ v. omega (arith, ltb-false b c u, ltb-false c b v)))

pub answers_one : (past : Past) → IsBoundary past.boundary → (said other : Said) → IsAnswer past said → IsAnswer past other → said ≡ other
answers_one past valid (gives c) (gives d) (before, a, l) (others, b, k) = ap gives (content_one past.boundary (quiet past.boundary valid) past.bytes before others c d a b (l ∙ sym k))
answers_one past valid (gives c) more (before, a, l) b = absurd (one_more past before c a l b.0)
answers_one past valid (gives c) ended (before, a, l) b = absurd (one_more past before c a l b.0)
answers_one past valid (gives c) (refuses kind byte) (before, a, l) b = absurd (one_more past before c a l b.0)
answers_one past valid (gives c) no_memory a b = absurd b
answers_one past valid more (gives d) a (before, b, l) = absurd (one_more past before d b l a.0)
answers_one past valid more more a b = refl
answers_one past valid more ended a b = absurd (a.2 b.1 b.2)
answers_one past valid more (refuses kind byte) a b = absurd (b.1.shut (take_open past.boundary past.bytes byte a.1))
answers_one past valid more no_memory a b = absurd b
answers_one past valid ended (gives d) a (before, b, l) = absurd (one_more past before d b l a.0)
answers_one past valid ended more a b = absurd (b.2 a.1 a.2)
answers_one past valid ended ended a b = refl
answers_one past valid ended (refuses kind byte) a b = absurd (b.1.shut (take_open past.boundary past.bytes byte (body_open past.boundary past.bytes a.1 a.2)))
answers_one past valid ended no_memory a b = absurd b
answers_one past valid (refuses kind byte) (gives d) a (before, b, l) = absurd (one_more past before d b l a.0)
answers_one past valid (refuses kind byte) more a b = absurd (a.1.shut (take_open past.boundary past.bytes byte b.1))
answers_one past valid (refuses kind byte) ended a b = absurd (a.1.shut (take_open past.boundary past.bytes byte (body_open past.boundary past.bytes b.1 b.2)))
answers_one past valid (refuses kind byte) (refuses other c) a b =
    let same : byte ≡ c = least_one past.boundary past.bytes byte c a.1 b.1 in
    let P : ℕ → Type 0 = λ n. StandsIn past.boundary kind (take (n - 1) past.bytes) in
    ap₂ refuses (kind_one past.boundary (quiet past.boundary valid) kind other (take (c - 1) past.bytes) (subst P same a.2) b.2) same
answers_one past valid (refuses kind byte) no_memory a b = absurd b
answers_one past valid no_memory other a b = absurd a
