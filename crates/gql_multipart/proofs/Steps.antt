-- What the code's reading of a region knows of its next place.
use Rattle.std.proofs.Common.{◌≡◌, ℕ, suc, ◌+◌, ◌-◌, ◌<◌, ◌≤◌, Bool, true, false, if◌then◌else◌, List, ◌∷◌, length, get_or, drop, Result, Ok, Err, sym, ap, ap₂, subst, ◌∙◌, arith, eq-eqb, ne_eqb}
use Rattle.std.proofs.lemmas.List.{drop_more, drop_all}
use Rattle.gql_multipart.specs.declared.refusal.FrameKind.{FrameKind}
use Rattle.gql_multipart.specs.declared.refusal.FrameKind.TheVariants.{BadDelimiter}
use Rattle.gql_multipart.specs.declared.place.Place.{Place}
use Rattle.gql_multipart.specs.declared.place.Place.TheVariants.{Blanks}
use Rattle.gql_multipart.specs.declared.read.Stop.{Stop}
use Rattle.gql_multipart.specs.declared.read.Found.{Found}
use Rattle.gql_multipart.specs.declared.place.Moved.{Moved}
use Rattle.gql_multipart.specs.declared.place.Moved.TheVariants.{Go}
use Rattle.gql_multipart.specs.inner.Reading.{IsAlive, step, scan, went, region, second_dash, is_dash, mark_end, part_end, skip, ◌>>=◌}
use Rattle.gql_multipart.proofs.Scans.{StaysAlive, step_alive}

pub go_alive : (m : List ℕ) (place : Place) (b : ℕ) (r : Moved) (q : Place) → 2 < length m → IsAlive m place → r ≡ step m place b → r ≡ Go q → IsAlive m q
go_alive m place b r q long alive e g = subst (StaysAlive m) (sym e ∙ g) (step_alive m place b long alive)

pub scan_go : (m : List ℕ) (kind : FrameKind) (place : Place) (b : ℕ) (r : Moved) (q : Place) (i : ℕ) (bytes : List ℕ) → r ≡ step m place b → r ≡ Go q → b ≡ get_or bytes i 0 → i < length bytes → scan m kind q (i + 1) (drop (i + 1) bytes) ≡ scan m kind place i (drop i bytes)
scan_go m kind place b r q i bytes e g byte l =
    sym (ap (λ z. scan m kind place i z) (drop_more bytes i 0 l)
    ∙ (ap (λ x. scan m kind place i (x ∷ drop (i + 1) bytes)) (sym byte)
    ∙ ap (λ moved. went kind (i + 1) moved (λ next. scan m kind next (i + 1) (drop (i + 1) bytes))) (sym e ∙ g)))

-- ---- behind a mark

pub mark_end_dash : (m : List ℕ) (first : Bool) (bytes : List ℕ) (at : ℕ) (s : Stop) → first ≡ false → at < length bytes → get_or bytes at 0 ≡ 45 → s ≡ second_dash (at + 1) (drop (at + 1) bytes) → Err s ≡ mark_end m first bytes at
unfolding mark_end
mark_end_dash m first bytes at s f l dash e =
    ap (λ z. Err z) e ∙ sym (ap (λ t. if t then Err (second_dash (at + 1) (drop (at + 1) bytes)) else region m BadDelimiter (Blanks 64) bytes at) (ap₂ is_dash f (drop_more bytes at 0 l) ∙ eq-eqb (get_or bytes at 0) 45 dash))

pub mark_end_line : (m : List ℕ) (first : Bool) (bytes : List ℕ) (at : ℕ) → is_dash first (drop at bytes) ≡ false → region m BadDelimiter (Blanks 64) bytes at ≡ mark_end m first bytes at
unfolding mark_end
mark_end_line m first bytes at e = sym (ap (λ t. if t then Err (second_dash (at + 1) (drop (at + 1) bytes)) else region m BadDelimiter (Blanks 64) bytes at) e)

pub no_dash_first : (first : Bool) (rest : List ℕ) → first ≡ true → is_dash first rest ≡ false
no_dash_first first rest e = ap (λ t. is_dash t rest) e

pub no_dash_end : (first : Bool) (bytes : List ℕ) (at : ℕ) → first ≡ false → length bytes ≤ at → is_dash first (drop at bytes) ≡ false
no_dash_end first bytes at e l = ap₂ is_dash e (drop_all at bytes l)

pub no_dash_byte : (first : Bool) (bytes : List ℕ) (at : ℕ) → first ≡ false → at < length bytes → (get_or bytes at 0 ≡ 45 → ⊥) → is_dash first (drop at bytes) ≡ false
no_dash_byte first bytes at e l other = ap₂ is_dash e (drop_more bytes at 0 l) ∙ ne_eqb (get_or bytes at 0) 45 other

-- ---- parts in a row

pub skip_more : (m : List ℕ) (count i : ℕ) (first : Bool) (bytes : List ℕ) (at : ℕ) (r : Result Found Stop) (found : Found) → i < count → r ≡ part_end m first bytes at → r ≡ Ok found → skip m (count - (i + 1)) false bytes found.next ≡ skip m (count - i) first bytes at
unfolding skip
skip_more m count i first bytes at r found l e g =
    let n : count - i ≡ suc (count - (i + 1)) = omega arith in
    sym (ap (λ k. skip m k first bytes at) n ∙ ap (λ s. (s >>= (λ f. Ok f.next)) >>= (λ next. skip m (count - (i + 1)) false bytes next)) (sym e ∙ g))

pub skip_stops : (m : List ℕ) (count i : ℕ) (first : Bool) (bytes : List ℕ) (at : ℕ) (r : Result Found Stop) (stop : Stop) → i < count → r ≡ part_end m first bytes at → r ≡ Err stop → skip m (count - i) first bytes at ≡ Err stop
unfolding skip
skip_stops m count i first bytes at r stop l e g =
    let n : count - i ≡ suc (count - (i + 1)) = omega arith in
    ap (λ k. skip m k first bytes at) n ∙ ap (λ s. (s >>= (λ f. Ok f.next)) >>= (λ next. skip m (count - (i + 1)) false bytes next)) (sym e ∙ g)

pub skip_none : (m : List ℕ) (count i : ℕ) (first : Bool) (bytes : List ℕ) (at : ℕ) → count ≤ i → skip m (count - i) first bytes at ≡ Ok at
unfolding skip
skip_none m count i first bytes at l = let n : count - i ≡ 0 = omega arith in ap (λ k. skip m k first bytes at) n
