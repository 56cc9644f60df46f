-- What members and rows of a JSON say.
use Rattle.std.proofs.Common.{◌≡◌, ◌==◌, ℕ, zero, suc, ◌<◌, List, [], ◌∷◌, ◌++◌, length, get_or, Bool, true, false, Option, Some, None, option_map, option_and_then, IsUtf8, refl, sym, ap, ◌∙◌, arith}
use Rattle.std.specs.Str.{is_utf8}
use Rattle.std.proofs.lemmas.Str.{is_utf8-from_IsUtf8, IsUtf8-from_is_utf8}
use Rattle.std.proofs.lemmas.Bool.{eq-eqb, ne_eqb, cond-true, cond-false}
use Rattle.std.proofs.lemmas.Option.{none-some, same_Some}
use Rattle.serde_json.specs.Data.{Data, null, boolean, number, string, array, object}
use Rattle.serde_json.specs.Find.{as_object}
use Rattle.serde_json.specs.Read.{read}
use Rattle.serde_json.specs.View.{view, items_view, members_view}
use Rattle.serde_json.specs.Events.{members_len}
use Rattle.serde_json.specs.declared.value.Value.{Value}
use Rattle.serde_json.proofs.Views.{Entry, members_len-members_view}
use Rattle.gql_tool.specs.declared.hero.tables.Person.{Person}
use Rattle.gql_tool.specs.hero.HeroTables.{json_in, text_at, is_single, only_text, only_row, person_in, persons_in}

-- ---- bytes

pub json_in-Some : (bytes : List ℕ) (d : Data) → IsUtf8 bytes → read bytes ≡ Some d → Some d ≡ json_in bytes
json_in-Some bytes d utf8 is = sym (cond-true (is_utf8 bytes) (read bytes) None (is_utf8-from_IsUtf8 bytes utf8) ∙ is)

json_by : (bytes : List ℕ) (b : Bool) → is_utf8 bytes ≡ b → (IsUtf8 bytes → read bytes ≡ None) → None ≡ json_in bytes
json_by bytes true e none = sym (cond-true (is_utf8 bytes) (read bytes) None e ∙ none (IsUtf8-from_is_utf8 bytes e))
json_by bytes false e none = sym (cond-false (is_utf8 bytes) (read bytes) None e)

pub json_in-None : (bytes : List ℕ) → (IsUtf8 bytes → read bytes ≡ None) → None ≡ json_in bytes
json_in-None bytes none = json_by bytes (is_utf8 bytes) refl none

-- ---- an object of one member

single_by : (d : Data) (es : List Entry) (b : Bool) → Some (members_view es) ≡ as_object d → (length es == 1) ≡ b → is_single d ≡ b
single_by null es b is e = absurd (none-some _ (sym is))
single_by (boolean t) es b is e = absurd (none-some _ (sym is))
single_by (number n) es b is e = absurd (none-some _ (sym is))
single_by (string s) es b is e = absurd (none-some _ (sym is))
single_by (array ds) es b is e = absurd (none-some _ (sym is))
single_by (object ms) es b is e = ap (λ m. members_len m == 1) (sym (same_Some _ _ is)) ∙ (ap (λ n. n == 1) (members_len-members_view es) ∙ e)

pub only_text-Some : (name : List ℕ) (d : Data) (es : List Entry) → Some (members_view es) ≡ as_object d → length es ≡ 1 → text_at name d ≡ only_text name d
only_text-Some name d es is one = sym (cond-true (is_single d) (text_at name d) None (single_by d es true is (eq-eqb _ _ one)))

pub only_text-None : (name : List ℕ) (d : Data) (es : List Entry) → Some (members_view es) ≡ as_object d → (length es ≡ 1 → ⊥) → None ≡ only_text name d
only_text-None name d es is other = sym (cond-false (is_single d) (text_at name d) None (single_by d es false is (ne_eqb _ _ other)))

-- ---- rows

pub only_row-None : (rows : List Value) → (length rows ≡ 1 → ⊥) → None ≡ only_row (items_view rows)
only_row-None [] other = refl
only_row-None (row ∷ []) other = absurd (other refl)
only_row-None (row ∷ second ∷ rows) other = refl

abbrev before : Option Person → Option (List Person) → Option (List Person)
before first later = option_and_then (λ person. option_map (λ more. person ∷ more) later) first

abbrev behind : Option (List Person) → Option Person → Option (List Person)
behind all last = option_and_then (λ persons. option_map (λ person. persons ++ person ∷ []) last) all

before-behind : (first last : Option Person) (later : Option (List Person)) → before first (behind later last) ≡ behind (before first later) last
before-behind None last later = refl
before-behind (Some person) last None = refl
before-behind (Some person) None (Some persons) = refl
before-behind (Some person) (Some other) (Some persons) = refl

before-None : (first : Option Person) → before first None ≡ None
before-None None = refl
before-None (Some person) = refl

one_behind : (last : Option Person) → before last (Some []) ≡ behind (Some []) last
one_behind None = refl
one_behind (Some person) = refl

persons_in-behind : (rows : List Value) (row : Value) → persons_in (items_view (rows ++ row ∷ [])) ≡ behind (persons_in (items_view rows)) (person_in (view row))
persons_in-behind [] row = one_behind (person_in (view row))
persons_in-behind (first ∷ rows) row = ap (before (person_in (view first))) (persons_in-behind rows row) ∙ before-behind (person_in (view first)) (person_in (view row)) (persons_in (items_view rows))

-- one row more
pub persons_in-push : (rows : List Value) (row : Value) (persons : List Person) (person : Person) → persons_in (items_view rows) ≡ Some persons → person_in (view row) ≡ Some person → persons_in (items_view (rows ++ row ∷ [])) ≡ Some (persons ++ person ∷ [])
persons_in-push rows row persons person is here = persons_in-behind rows row ∙ (λ i. behind (is i) (here i))

-- a row that is no person
pub persons_in-None : (rows : List Value) (i : ℕ) (d : Value) → i < length rows → person_in (view (get_or rows i d)) ≡ None → persons_in (items_view rows) ≡ None
persons_in-None [] i d within bad = absurd (omega arith)
persons_in-None (row ∷ rows) zero d within bad = ap (λ first. before first (persons_in (items_view rows))) bad
persons_in-None (row ∷ rows) (suc i) d within bad = ap (before (person_in (view row))) (persons_in-None rows i d (omega arith) bad) ∙ before-None (person_in (view row))
