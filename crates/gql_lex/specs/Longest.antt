-- Names and numbers as texts, by the standard's rules, and what it is to be the longest of them at the front of a text.
use Rattle.std.specs.Prelude.{◌≡◌, ◌≢◌, ℕ, ◌≤◌, ◌⊎◌, Bool, true, List, [], ◌∷◌, ◌++◌, length}
use Rattle.std.specs.Char.{is_ascii_digit}
use Rattle.gql_lex.specs.Classes.{begins_name, continues_name}

-- each byte passes the test
abbrev pub Each : (ℕ → Bool) → List ℕ → Type 0
Each test [] = Unit {0}
Each test (byte ∷ more) = (test byte ≡ true) × Each test more

-- [_A-Za-z][_0-9A-Za-z]*
abbrev pub IsName : List ℕ → Type 0
IsName [] = ⊥
IsName (byte ∷ more) = (begins_name byte ≡ true) × Each continues_name more

-- [0-9]+
abbrev pub AreDigits : List ℕ → Type 0
AreDigits [] = ⊥
AreDigits (byte ∷ more) = Each is_ascii_digit (byte ∷ more)

-- -?
abbrev pub IsMinus : List ℕ → Type 0
IsMinus [] = Unit {0}
IsMinus (byte ∷ more) = (byte ≡ 45) × (more ≡ [])

-- 0|[1-9][0-9]*
abbrev pub IsWhole : List ℕ → Type 0
IsWhole [] = ⊥
IsWhole (byte ∷ more) = ((byte ≡ 48) × (more ≡ [])) ⊎ ((byte ≢ 48) × Each is_ascii_digit (byte ∷ more))

-- (\.[0-9]+)?
abbrev pub IsFraction : List ℕ → Type 0
IsFraction [] = Unit {0}
IsFraction (byte ∷ more) = (byte ≡ 46) × AreDigits more

-- [+-]?[0-9]+
abbrev pub IsPower : List ℕ → Type 0
IsPower [] = ⊥
IsPower (byte ∷ more) = (((byte ≡ 43) ⊎ (byte ≡ 45)) × AreDigits more) ⊎ Each is_ascii_digit (byte ∷ more)

-- ([eE][+-]?[0-9]+)?
abbrev pub IsExponent : List ℕ → Type 0
IsExponent [] = Unit {0}
IsExponent (byte ∷ more) = ((byte ≡ 69) ⊎ (byte ≡ 101)) × IsPower more

-- a number and its four parts
pub record IsNumber (text : List ℕ) : Type 0 where
  pub minus : List ℕ
  pub whole : List ℕ
  pub fraction : List ℕ
  pub exponent : List ℕ
  pub parts : text ≡ minus ++ (whole ++ (fraction ++ exponent))
  pub is_minus : IsMinus minus
  pub is_whole : IsWhole whole
  pub is_fraction : IsFraction fraction
  pub is_exponent : IsExponent exponent

-- no text of this kind at the front is longer than `len` bytes
abbrev pub NoneIsLonger : (List ℕ → Type 0) → List ℕ → ℕ → Type 0
NoneIsLonger Is text len = (other rest : List ℕ) → Is other → text ≡ other ++ rest → length other ≤ len
