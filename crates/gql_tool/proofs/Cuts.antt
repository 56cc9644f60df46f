-- Cuts of a piece, and a client that is fed one after another.
use Rattle.std.proofs.Common.{◌≡◌, refl, sym, ap, ◌∙◌, subst, arith, append_assoc, append-nil, ℕ, ◌+◌, ◌-◌, ◌/◌, ◌<◌, ◌≤◌, min, nat_lt, Bool, true, false, List, [], ◌++◌, length}
use Rattle.std.proofs.Math.Nat.{add-div_right, div-eq_of_lt}
use Rattle.std.proofs.lemmas.Bool.Decides.{nat_tests}
use Rattle.gql_client.specs.declared.client.Client.{Client}
use Rattle.gql_client.specs.Client.{counted}
use Rattle.gql_client.specs.Heard.{Stands, heard, IsRefused}
use Rattle.gql_tool.specs.LocalClient.{cuts_in}
use Rattle.gql_tool.specs.inner.Handed.{Hears, StopsIn, CountsOn}

-- ---- how many cuts there are

pub cuts-none : (cut : ℕ) (piece : List ℕ) → 0 < cut → length piece ≡ 0 → cuts_in cut piece ≡ 0
cuts-none cut piece some none = div-eq_of_lt (omega (arith, some, none))

-- the first cut, and those of the rest
cuts-by : (b : Bool) (cut whole rest : ℕ) → nat_lt whole cut ≡ b → 0 < cut → 0 < whole → whole ≡ min cut whole + rest → (whole + (cut - 1)) / cut ≡ 1 + (rest + (cut - 1)) / cut
cuts-by true cut whole rest is some more split =
    let short : whole < cut = grind (arith, nat_tests, is) in
    let none : rest ≡ 0 = omega (arith, short, split) in
    let same : whole + (cut - 1) ≡ (whole - 1) + cut = omega (arith, some, more) in
    let first : (whole - 1) / cut ≡ 0 = div-eq_of_lt (omega (arith, short, more)) in
    let last : (rest + (cut - 1)) / cut ≡ 0 = div-eq_of_lt (omega (arith, none, some)) in
    ap (λ n. n / cut) same ∙ (add-div_right (whole - 1) some ∙ omega (arith, first, last))
cuts-by false cut whole rest is some more split =
    let long : cut ≤ whole = grind (arith, nat_tests, is) in
    let same : whole + (cut - 1) ≡ (rest + (cut - 1)) + cut = omega (arith, long, split) in
    ap (λ n. n / cut) same ∙ (add-div_right (rest + (cut - 1)) some ∙ omega arith)

pub cuts-more : (cut : ℕ) (piece next behind : List ℕ) → 0 < cut → 0 < length piece → length next ≡ min cut (length piece) → length behind + min cut (length piece) ≡ length piece → cuts_in cut piece ≡ 1 + cuts_in cut behind
cuts-more cut piece next behind some more first rest = cuts-by (nat_lt (length piece) cut) cut (length piece) (length behind) refl some more (omega (arith, rest))

-- ---- a client that hears bytes

pub Hears-nothing : (c : Client) → Hears c c []
Hears-nothing c h stands = subst (λ (bytes : List ℕ). Stands c (record { boundary = h.boundary; bytes = bytes })) (sym (append-nil h.bytes)) stands

pub Hears-more : (c d e : Client) (front next : List ℕ) → Hears c d front → Hears d e next → Hears c e (front ++ next)
Hears-more c d e front next first second h stands =
    subst (λ (bytes : List ℕ). Stands e (record { boundary = h.boundary; bytes = bytes })) (append_assoc h.bytes front next) (second (heard h front) (first h stands))

pub StopsIn-later : (c d e : Client) (front next : List ℕ) → Hears c d front → StopsIn d e next → StopsIn c e (front ++ next)
StopsIn-later c d e front next first stops h stands =
    let at = stops (heard h front) (first h stands) in (
      front ++ at.0,
      at.1,
      ap (λ xs. front ++ xs) at.2 ∙ sym (append_assoc front at.0 at.1),
      subst (λ (bytes : List ℕ). IsRefused e h.boundary bytes) (append_assoc h.bytes front at.0) at.3,
    )

-- more bytes behind those in which it stopped
pub StopsIn-within : (c d : Client) (front next : List ℕ) → StopsIn c d front → StopsIn c d (front ++ next)
StopsIn-within c d front next stops h stands =
    let at = stops h stands in
    (at.0, at.1 ++ next, ap (λ xs. xs ++ next) at.2 ∙ append_assoc at.0 at.1 next, at.3)

-- ---- what it counts

counted-more : (a b : ℕ) → counted (counted a + b) ≡ counted (a + b)
counted-more a b = omega arith

pub CountsOn-nothing : (c : Client) → CountsOn c c 0
CountsOn-nothing c before is = is ∙ ap counted (omega arith)

pub CountsOn-more : (c d e : Client) (m n : ℕ) → CountsOn c d m → CountsOn d e n → CountsOn c e (m + n)
CountsOn-more c d e m n first second before is = second (before + m) (first before is) ∙ ap counted (omega arith)

pub CountsOn-one : (c d : Client) → d.cuts ≡ counted (c.cuts + 1) → CountsOn c d 1
CountsOn-one c d one before is = one ∙ (ap (λ n. counted (n + 1)) is ∙ counted-more before 1)

pub CountsOn-same : (c d : Client) (m n : ℕ) → m ≡ n → CountsOn c d m → CountsOn c d n
CountsOn-same c d m n same counts before is = counts before is ∙ ap (λ k. counted (before + k)) same
