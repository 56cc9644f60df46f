-- Reading a text of ASCII characters.
use Rattle.std.proofs.Common.{◌≡◌, ℕ, List, [], ◌∷◌, Bool, true, nat_lt, Option, None, option_and_then, IsAscii, ap}
use Rattle.std.specs.List.{list_all}
use Rattle.std.specs.Str.{is_utf8}
use Rattle.std.proofs.lemmas.Bool.{and_parts, ltb-true, cond-true}
use Rattle.std.proofs.lemmas.Str.{IsUtf8-from_ascii, is_utf8-from_IsUtf8}
use Rattle.std.proofs.lemmas.Str.Ascii.{IsAscii-nil, IsAscii-cons}
use Rattle.serde_json.specs.Read.{read}
use Rattle.gql_tool.specs.declared.hero.tables.HeroTables.{HeroTables}
use Rattle.gql_tool.specs.hero.HeroTables.{tables_held, tables_in}

abbrev pub is_plain : List ℕ → Bool
is_plain bytes = list_all (λ b. nat_lt b 128) bytes

IsAscii-from_is_plain : (bytes : List ℕ) → is_plain bytes ≡ true → IsAscii bytes
IsAscii-from_is_plain [] plain = IsAscii-nil
IsAscii-from_is_plain (b ∷ bytes) plain =
    let parts = and_parts (nat_lt b 128) (is_plain bytes) plain in
    IsAscii-cons b bytes (ltb-true b 128 parts.0) (IsAscii-from_is_plain bytes parts.1)

-- such a text is read without a test for UTF-8
pub read_plain : {A : Type 0} (f : Option HeroTables → A) (bytes : List ℕ) → is_plain bytes ≡ true → f (tables_in bytes) ≡ f (option_and_then tables_held (read bytes))
read_plain f bytes plain = ap (λ d. f (option_and_then tables_held d)) (cond-true (is_utf8 bytes) (read bytes) None (is_utf8-from_IsUtf8 bytes (IsUtf8-from_ascii bytes (IsAscii-from_is_plain bytes plain))))
