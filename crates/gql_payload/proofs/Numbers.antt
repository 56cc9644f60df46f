-- What each digit and the minus has, each byte of a number's text has.
use Rattle.std.proofs.Common.{ℕ, zero, suc, ◌/◌, ◌%◌, List, [], ◌∷◌, false, ◌==◌, ℤ, pos, negsuc, decimal}
use Rattle.std.proofs.lemmas.Bool.{cond_both}
use Rattle.std.specs.Fmt.{digits, digits_onto, digit_glyph, signed_decimal}
use Rattle.std.specs.List.{AllByRecursion}
use Rattle.serde_json.specs.Data.{Num, unsigned, negative, float}
use Rattle.serde_json.specs.Written.{number_text}

module _ (P : ℕ → Type 0) (digit : (n : ℕ) → P (digit_glyph false (n % 10))) where
  onto_each : (k n : ℕ) (behind : List ℕ) → AllByRecursion P behind → AllByRecursion P (digits_onto k 10 false n behind)
  onto_each zero n behind h = h
  onto_each (suc k) n behind h =
      cond_both (n / 10 == 0) (digit_glyph false (n % 10) ∷ behind) (digits_onto k 10 false (n / 10) (digit_glyph false (n % 10) ∷ behind)) (AllByRecursion P)
      (λ _. (digit n, h))
      (λ _. onto_each k (n / 10) (digit_glyph false (n % 10) ∷ behind) (digit n, h))

  pub decimal_each : (n : ℕ) → AllByRecursion P (decimal n)
  unfolding digits
  decimal_each n = onto_each 64 n [] tt

  signed_each : P 45 → (z : ℤ) → AllByRecursion P (signed_decimal z)
  signed_each minus (pos n) = decimal_each n
  signed_each minus (negsuc n) = (minus, decimal_each (suc n))

  pub number_each : P 45 → (n : Num) → AllByRecursion P (number_text n)
  number_each minus (unsigned n) = decimal_each n
  number_each minus (negative z) = signed_each minus z
  number_each minus (float x) = tt
