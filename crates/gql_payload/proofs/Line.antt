-- Compact JSON has no control character, so no end of line.
use Rattle.std.proofs.Common.{◌≢◌, ℕ, ◌+◌, ◌≤◌, ◌<◌, ◌/◌, ◌%◌, List, [], ◌∷◌, ◌++◌, Bool, true, false, nat_lt, arith, rules}
use borrow.Author.Tests.{ltb-true, ltb-false}
use Rattle.std.proofs.lemmas.Bool.{cond_both}
use Rattle.std.proofs.lemmas.Bool.Decides.{nat_tests}
use Rattle.std.proofs.lemmas.List.Elements.{All-from_recursion, All-weaker}
use Rattle.std.specs.Char.{digit_char}
use Rattle.std.specs.Fmt.{digit_glyph}
use Rattle.std.specs.List.{AllByRecursion}
use Rattle.json.specs.Print.{escape_letter, escape_byte, escape, quoted}
use Rattle.serde_json.specs.Data.{Num, Data, null, boolean, number, string, array, object, Items, no_items, item, Members, no_members, member}
use Rattle.serde_json.specs.Written.{number_text, comma_if, compact_text, items_text, members_text}
use Rattle.gql_tree.specs.declared.delivery.Payload.{Payload}
use Rattle.gql_payload.specs.PayloadText.{payload_data, payload_text}
use Rattle.gql_payload.specs.OneLine.{IsOneLine}
use Rattle.gql_payload.proofs.Numbers.{number_each}

-- each byte is a space or above
abbrev Shows : List ℕ → Type 0
Shows = AllByRecursion (λ b. 32 ≤ b)

both : (a b : List ℕ) → Shows a → Shows b → Shows (a ++ b)
both [] b h k = k
both (x ∷ a) b h k = (h.0, both a b h.1 k)

-- ---- numbers

glyph_shows : (d : ℕ) → 32 ≤ digit_glyph false d
glyph_shows d = cond_both (nat_lt d 10) (48 + d) (87 + d) (λ x. 32 ≤ x) (λ _. omega arith) (λ _. omega arith)

number_shows : (n : Num) → Shows (number_text n)
number_shows = number_each (λ b. 32 ≤ b) (λ n. glyph_shows (n % 10)) (omega arith)

-- ---- strings

letter_shows : (x : ℕ) → 0 < escape_letter x → 32 ≤ escape_letter x
letter_shows x h = grind (arith, nat_tests)

char_shows : (d : ℕ) → 32 ≤ digit_char d
char_shows d = cond_both (nat_lt d 10) (48 + d) (87 + d) (λ x. 32 ≤ x) (λ _. omega arith) (λ _. omega arith)

byte_shows : (x : ℕ) → Shows (escape_byte x)
unfolding escape_byte
byte_shows x =
    cond_both (nat_lt 0 (escape_letter x)) _ _ Shows
    (λ h. (omega arith, (letter_shows x (ltb-true 0 (escape_letter x) h), tt)))
    (λ _. cond_both (nat_lt x 32) _ _ Shows
    (λ _. (omega arith, (omega arith, (omega arith, (omega arith, (char_shows (x / 16), (char_shows (x % 16), tt)))))))
    (λ h. (ltb-false x 32 h, tt)))

escape_shows : (s : List ℕ) → Shows (escape s)
escape_shows [] = tt
escape_shows (x ∷ s) = both (escape_byte x) (escape s) (byte_shows x) (escape_shows s)

quoted_shows : (s : List ℕ) → Shows (quoted s)
quoted_shows s = (omega arith, both (escape s) (34 ∷ []) (escape_shows s) (omega arith, tt))

-- ---- the whole text

comma_shows : (later : Bool) → Shows (comma_if later)
comma_shows true = (omega arith, tt)
comma_shows false = tt

mutual
  text_shows : (d : Data) → Shows (compact_text d)
  text_shows null = search rules
  text_shows (boolean true) = search rules
  text_shows (boolean false) = search rules
  text_shows (number n) = number_shows n
  text_shows (string s) = quoted_shows s
  text_shows (array ds) = (omega arith, items_show false ds)
  text_shows (object ms) = (omega arith, members_show false ms)

  items_show : (later : Bool) (ds : Items) → Shows (items_text later ds)
  items_show later no_items = (omega arith, tt)
  items_show later (item d ds) = both _ _ (comma_shows later) (both _ _ (text_shows d) (items_show true ds))

  members_show : (later : Bool) (ms : Members) → Shows (members_text later ms)
  members_show later no_members = (omega arith, tt)
  members_show later (member k d ms) =
      let rest : Shows (58 ∷ (compact_text d ++ members_text true ms)) = (omega arith, both _ _ (text_shows d) (members_show true ms)) in
      both _ _ (comma_shows later) (both (quoted k) (58 ∷ (compact_text d ++ members_text true ms)) (quoted_shows k) rest)

pub IsOneLine-payload_text : (p : Payload) → IsOneLine (payload_text p)
IsOneLine-payload_text p =
    All-weaker (λ b. 32 ≤ b) (λ b. (b ≢ 13) × (b ≢ 10)) (λ b h. (λ e. omega arith, λ e. omega arith)) (payload_text p) (All-from_recursion (λ b. 32 ≤ b) (payload_text p) (text_shows (payload_data p)))
