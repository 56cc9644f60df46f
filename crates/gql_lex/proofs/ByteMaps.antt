-- A map of bytes has each byte of a class at its own place, and a dot at every other. It is held against the class at each byte, by computing.
use Rattle.std.proofs.Common.{◌≡◌, ℕ, zero, suc, ◌<◌, Bool, true, false, ◌&&◌, not, nat_eq, get_or, List, refl, arith, inl, inr}
use Rattle.std.specs.Bool.{beq}
use Rattle.std.proofs.lemmas.Bool.{cases_eq}

-- two tests of the numbers below `count` are the same
unfoldable pub same_below : ℕ → (ℕ → Bool) → (ℕ → Bool) → Bool
same_below zero one other = true
same_below (suc count) one other = beq (one count) (other count) && same_below count one other

parts : (a b more : Bool) → (beq a b && more) ≡ true → (a ≡ b) × (more ≡ true)
parts true true more holds = (refl, holds)
parts false false more holds = (refl, holds)
parts true false more holds = absurd (cc)
parts false true more holds = absurd (cc)

same_at : (count : ℕ) (one other : ℕ → Bool) → same_below count one other ≡ true → (n : ℕ) → n < count → one n ≡ other n
unfolding same_below
same_at zero one other same n below = absurd (omega arith)
same_at (suc count) one other same n below =
    let both = parts (one count) (other count) (same_below count one other) same in
    elim (cases_eq n count) [ inl last ↦ rw last both.0 | inr before ↦ same_at count one other both.1 n (omega arith) ]

-- the map has something at the byte's place
abbrev pub maps : List ℕ → ℕ → Bool
maps map byte = not (nat_eq (get_or map byte 0) 46)

pub maps-class : (map : List ℕ) (class : ℕ → Bool) (byte : ℕ) → byte < 256 → same_below 256 (maps map) class ≡ true → maps map byte ≡ class byte
maps-class map class byte small same = same_at 256 (maps map) class same byte small
