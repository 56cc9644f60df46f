-- The places and the labels of a document that was read: lines and columns count from 1 and have 32 bits, and labels are UTF-8.
use Rattle.std.proofs.Common.{◌≡◌, sym, ap, subst, ℕ, ◌<◌, ◌≤◌, Bool, true, false, List, [], ◌∷◌, ◌++◌, length, length-append, Option, Some, None, IsUtf8, arith}
use Rattle.std.specs.Prelude.{◌==◌, ◌^◌, IfSome, if◌then◌else◌}
use Rattle.std.specs.List.{AllByRecursion as Each}
use Rattle.std.proofs.lemmas.List.Sums.{count_by-le-length}
use Rattle.gql_tree.specs.declared.Spot.{Spot}
use Rattle.gql_lex.specs.Places.{ends_line, lines_ended, last_line, begins_character, spot_at}
use Rattle.gql_lex.specs.Tokens.{Lexeme}
use Rattle.gql_lex.specs.TokenPlaces.{IsSliceOf}
use Rattle.gql_lex.proofs.TokenPlaces.{tokens-slices}
use Rattle.gql_doc.specs.StringValue.{string_value}
use Rattle.gql_doc.specs.Terminals.{is_string}
use Rattle.gql_doc.proofs.Meant.{values-utf8}
use Rattle.gql_doc.specs.Answer.{Is, most_bytes}
use Rattle.gql_model.specs.declared.syntax.Document.{Document}
use Rattle.gql_tool.specs.declared.hero.shape.Deferred.{Deferred}
use Rattle.gql_tool.specs.declared.hero.shape.HeroDocument.{HeroDocument}
use Rattle.gql_tool.specs.declared.hero.tables.HeroTables.{HeroTables}
use Rattle.gql_tool.specs.hero.Shape.{hero_of}
use Rattle.gql_tool.specs.hero.Hero.{IsSpot, IsPlaced, IsBuilt}
use Rattle.gql_tool.proofs.hero_lemmas.Gives.{TokenIs, document_gives}
use Rattle.gql_tool.proofs.hero_lemmas.Places.{HasPlaces, hero_of-places}
use Rattle.gql_tool.proofs.hero_lemmas.Reading.{built-read}

-- ---- lines and columns count from 1, and have 32 bits

abbrev pub FitsSpot : Spot → Type 0
FitsSpot spot = (spot.line < 2 ^ 32) × (spot.column < 2 ^ 32)

one_or_none : (b : Bool) → (if b then 1 else 0) ≤ 1
one_or_none true = omega arith
one_or_none false = omega arith

lines_ended-within : (passed rest : List ℕ) → lines_ended passed rest ≤ length passed
lines_ended-within [] rest = omega arith
lines_ended-within (byte ∷ more) rest =
    let h = lines_ended-within more rest in
    let one = one_or_none (ends_line byte (more ++ rest)) in
    omega (arith, h, one)

either_line : (b : Bool) (byte : ℕ) (more behind : List ℕ) → length behind ≤ length more → length (if b then byte ∷ more else behind) ≤ length (byte ∷ more)
either_line true byte more behind h = omega arith
either_line false byte more behind h = omega (arith, h)

last_line-within : (passed rest : List ℕ) → length (last_line passed rest) ≤ length passed
last_line-within [] rest = omega arith
last_line-within (byte ∷ more) rest = either_line (lines_ended (byte ∷ more) rest == 0) byte more (last_line more rest) (last_line-within more rest)

spot_at-counts : (passed here : List ℕ) → IsSpot (spot_at passed here)
spot_at-counts passed here = (omega arith, omega arith)

spot_at-fits : (passed here : List ℕ) → length passed ≤ most_bytes → FitsSpot (spot_at passed here)
spot_at-fits passed here within =
    let lines = lines_ended-within passed here in
    let line = last_line-within passed here in
    let columns = count_by-le-length begins_character (last_line passed here) in
    (omega (arith, within, lines), omega (arith, within, line, columns))

-- ---- documents

-- what is so of each place in a text is so of its tokens'
at_places : (P : Spot → Type 0) (text : List ℕ) → ((passed here : List ℕ) → passed ++ here ≡ text → P (spot_at passed here)) → (tokens : List Lexeme) → Each (IsSliceOf text) tokens → Each (λ t. P t.spot) tokens
at_places P text places [] h = tt
at_places P text places (t ∷ ts) h = (subst P (sym h.0.spot) (places h.0.before (t.text ++ h.0.behind) (sym h.0.whole)), at_places P text places ts h.1)

-- each token has a place and a value
both : (P : Spot → Type 0) (L : List ℕ → Type 0) (tokens : List Lexeme) → Each (λ t. P t.spot) tokens → Each (λ t. is_string t ≡ true → L (string_value t.kind t.text)) tokens → Each (TokenIs P L) tokens
both P L [] h k = tt
both P L (t ∷ ts) h k = ((h.0, k.0), both P L ts h.1 k.1)

abbrev AnyLabel : List ℕ → Type 0
AnyLabel label = Unit {0}

any_values : (tokens : List Lexeme) → Each (λ t. is_string t ≡ true → AnyLabel (string_value t.kind t.text)) tokens
any_values [] = tt
any_values (t ∷ ts) = ((λ is. tt), any_values ts)

has_placed : (d : HeroDocument) → HasPlaces IsSpot AnyLabel d → IsPlaced d
has_placed d h = record { operation = h.operation; hero = h.hero; leaves = h.leaves; fragment = first_of d.deferred h.fragment; deferred = h.deferred }
  where
    first_of : (o : Option Deferred) → IfSome o (λ def. IsSpot def.spot × IfSome def.label AnyLabel) → IfSome o (λ def. IsSpot def.spot)
    first_of None h = tt
    first_of (Some def) h = h.0

-- a document that was read counts lines and columns from 1
pub read-placed : (text : List ℕ) (it : Document) (d : HeroDocument) → Is text it → hero_of it ≡ Some d → IsPlaced d
read-placed text it d read is =
    let places = at_places IsSpot text (λ passed here whole. spot_at-counts passed here) read.tokens (tokens-slices text read.tokens _ read.all) in
    has_placed d (hero_of-places IsSpot AnyLabel it d (document_gives IsSpot AnyLabel 3 read.tokens it (both IsSpot AnyLabel read.tokens places (any_values read.tokens)) read.document) is)

pub built-placed : (vars schema tables document : List ℕ) (t : HeroTables) (d : HeroDocument) → IsBuilt vars schema tables document t d → IsPlaced d
built-placed vars schema tables document t d is = (let read = built-read vars schema tables document t d is in read-placed document read.it d read.document read.hero)

-- the strings of a text in UTF-8 are UTF-8
all_strings : (tokens : List Lexeme) → Each (λ t. IsUtf8 (string_value t.kind t.text)) tokens → Each (λ t. is_string t ≡ true → IsUtf8 (string_value t.kind t.text)) tokens
all_strings [] h = tt
all_strings (t ∷ ts) h = ((λ is. h.0), all_strings ts h.1)

abbrev pub FitsDocument : HeroDocument → Type 0
FitsDocument = HasPlaces FitsSpot IsUtf8

-- the places and the labels of a document that was read can be written
pub read-fits : (text : List ℕ) (it : Document) (d : HeroDocument) → IsUtf8 text → length text ≤ most_bytes → Is text it → hero_of it ≡ Some d → FitsDocument d
read-fits text it d utf8 within read is =
    let front_within : (passed here : List ℕ) → passed ++ here ≡ text → length passed ≤ most_bytes = λ passed here whole. omega (arith, within, ap length whole, length-append passed here) in
    let places = at_places FitsSpot text (λ passed here whole. spot_at-fits passed here (front_within passed here whole)) read.tokens (tokens-slices text read.tokens _ read.all) in
    hero_of-places FitsSpot IsUtf8 it d (document_gives FitsSpot IsUtf8 3 read.tokens it (both FitsSpot IsUtf8 read.tokens places (all_strings read.tokens (values-utf8 text read.tokens _ utf8 read.all))) read.document) is
