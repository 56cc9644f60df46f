-- The compact text of a datum whose strings and names are UTF-8 is UTF-8.
use Rattle.std.proofs.Common.{ℕ, ◌+◌, ◌<◌, ◌%◌, List, [], ◌∷◌, ◌++◌, Bool, true, false, subst, arith, decimal, IsUtf8}
use Rattle.std.specs.Prelude.{nat_lt, ⊤}
use Rattle.std.proofs.lemmas.Bool.{cond_both}
use Rattle.std.proofs.lemmas.Str.{IsUtf8-append, IsUtf8-nil, IsUtf8-encode, encode_ascii}
use lib.Utf8.{low_scalar}
use Rattle.std.specs.Fmt.{digit_glyph}
use Rattle.std.specs.List.{AllByRecursion}
use Rattle.json.proofs.Printed.Utf8.{IsUtf8-quoted, IsUtf8-boolean}
use Rattle.serde_json.specs.Data.{Num, Data, null, boolean, number, string, array, object, Items, no_items, item, Members, no_members, member}
use Rattle.serde_json.specs.Written.{number_text, comma_if, compact_text, items_text, members_text}
use Rattle.gql_payload.proofs.Numbers.{decimal_each, number_each}

-- the strings and the names of a datum are UTF-8
abbrev mutual
  pub IsUtf8Data : Data → Type 0
  IsUtf8Data null = ⊤
  IsUtf8Data (boolean b) = ⊤
  IsUtf8Data (number n) = ⊤
  IsUtf8Data (string s) = IsUtf8 s
  IsUtf8Data (array ds) = AreUtf8Items ds
  IsUtf8Data (object ms) = AreUtf8Members ms

  pub AreUtf8Items : Items → Type 0
  AreUtf8Items no_items = ⊤
  AreUtf8Items (item d ds) = IsUtf8Data d × AreUtf8Items ds

  pub AreUtf8Members : Members → Type 0
  AreUtf8Members no_members = ⊤
  AreUtf8Members (member k d ms) = IsUtf8 k × IsUtf8Data d × AreUtf8Members ms

-- ---- ASCII

pub ascii_byte : (x : ℕ) → x < 128 → IsUtf8 (x ∷ [])
ascii_byte x small = subst IsUtf8 (encode_ascii x small) (IsUtf8-encode x (low_scalar x (omega arith)))

pub ascii_then : (x : ℕ) (xs : List ℕ) → x < 128 → IsUtf8 xs → IsUtf8 (x ∷ xs)
ascii_then x xs small h = IsUtf8-append (x ∷ []) xs (ascii_byte x small) h

abbrev pub AreAscii : List ℕ → Type 0
AreAscii = AllByRecursion (λ b. b < 128)

pub IsUtf8-AreAscii : (xs : List ℕ) → AreAscii xs → IsUtf8 xs
IsUtf8-AreAscii [] h = IsUtf8-nil
IsUtf8-AreAscii (x ∷ xs) h = ascii_then x xs h.0 (IsUtf8-AreAscii xs h.1)

-- ---- numbers

glyph_small : (n : ℕ) → digit_glyph false (n % 10) < 128
glyph_small n = cond_both (nat_lt (n % 10) 10) (48 + n % 10) (87 + n % 10) (λ x. x < 128) (λ _. omega arith) (λ _. omega arith)

pub decimal_ascii : (n : ℕ) → AreAscii (decimal n)
decimal_ascii = decimal_each (λ b. b < 128) glyph_small

number_ascii : (n : Num) → AreAscii (number_text n)
number_ascii = number_each (λ b. b < 128) glyph_small (omega arith)

-- ---- the whole text

comma_utf8 : (later : Bool) → IsUtf8 (comma_if later)
comma_utf8 true = ascii_byte 44 (omega arith)
comma_utf8 false = IsUtf8-nil

mutual
  pub IsUtf8-compact_text : (d : Data) → IsUtf8Data d → IsUtf8 (compact_text d)
  IsUtf8-compact_text null h = IsUtf8-AreAscii _ (omega arith, (omega arith, (omega arith, (omega arith, tt))))
  IsUtf8-compact_text (boolean b) h = IsUtf8-boolean b
  IsUtf8-compact_text (number n) h = IsUtf8-AreAscii (number_text n) (number_ascii n)
  IsUtf8-compact_text (string s) h = IsUtf8-quoted s h
  IsUtf8-compact_text (array ds) h = ascii_then 91 (items_text false ds) (omega arith) (items_utf8 false ds h)
  IsUtf8-compact_text (object ms) h = ascii_then 123 (members_text false ms) (omega arith) (members_utf8 false ms h)

  items_utf8 : (later : Bool) (ds : Items) → AreUtf8Items ds → IsUtf8 (items_text later ds)
  items_utf8 later no_items h = ascii_byte 93 (omega arith)
  items_utf8 later (item d ds) h = IsUtf8-append _ _ (comma_utf8 later) (IsUtf8-append _ _ (IsUtf8-compact_text d h.0) (items_utf8 true ds h.1))

  members_utf8 : (later : Bool) (ms : Members) → AreUtf8Members ms → IsUtf8 (members_text later ms)
  members_utf8 later no_members h = ascii_byte 125 (omega arith)
  members_utf8 later (member k d ms) h =
      let rest = compact_text d ++ members_text true ms in
      let behind : IsUtf8 rest = IsUtf8-append _ _ (IsUtf8-compact_text d h.1) (members_utf8 true ms h.2) in
      IsUtf8-append (comma_if later) _ (comma_utf8 later) (IsUtf8-append _ _ (IsUtf8-quoted k h.0) (ascii_then 58 rest (omega arith) behind))
