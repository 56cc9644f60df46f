-- The texts of tables that were read are UTF-8, and their integers have 64 signed bits.
use Rattle.std.proofs.Common.{◌≡◌, subst, ℕ, ◌^◌, true, List, ◌∷◌, Option, Some, None, IsTrue, IsUtf8, ℤ, pos, negsuc, arith}
use Rattle.std.specs.Prelude.{IfSome, nat_lt, option_map, option_and_then, codes}
use Rattle.std.specs.List.{AllByRecursion as Each}
use Rattle.std.specs.Option.{option_or}
use Rattle.std.specs.Str.{is_utf8}
use Rattle.std.proofs.lemmas.Bool.{cond_both, ltb-true, lt-ltb}
use Rattle.std.proofs.lemmas.Str.{IsUtf8-from_is_utf8}
use Rattle.std.specs.declared.cmp.Ordering.{Ordering}
use Rattle.std.specs.declared.cmp.Ordering.TheVariants.{Less, Equal, Greater}
use Rattle.std.specs.Ordering.{nat_cmp, match_ordering}
use Rattle.std.specs.Cmp.Lexicographic.{slice_cmp}
use Rattle.serde_json.specs.Data.{Data, null, boolean, number, string, array, object, Items, no_items, item, Members, no_members, member}
use Rattle.serde_json.specs.Find.{get_member, get, as_str, as_number, as_i64, as_array}
use Rattle.serde_json.specs.Read.{read}
use Rattle.gql_tree.specs.Typed.{fits}
use Rattle.gql_payload.proofs.Utf8.{IsUtf8Data, AreUtf8Items, AreUtf8Members}
use Rattle.gql_payload.proofs.Utf8Read.{read_utf8}
use Rattle.gql_tool.specs.declared.hero.tables.LeafCell.{LeafCell}
use Rattle.gql_tool.specs.declared.hero.tables.LeafCell.TheVariants as leaf
use Rattle.gql_tool.specs.declared.hero.tables.HeroCell.{HeroCell}
use Rattle.gql_tool.specs.declared.hero.tables.HeroCell.TheVariants as hero
use Rattle.gql_tool.specs.declared.hero.tables.Person.{Person}
use Rattle.gql_tool.specs.declared.hero.tables.HeroTables.{HeroTables}
use Rattle.gql_tool.specs.hero.Hero.{CellFits, PersonFits, HeroFits, TablesFit}
use Rattle.gql_tool.specs.hero.HeroTables.{json_in, text_at, list_at, is_single, error_in, is_null, null_or_error, plain_text, is_int32, int32, plain_int, cell_by, text_cell, int_cell, person_by, person_in, persons_in, row_ids, ref_in, hero_by, hero_cell, only_row, fits_together, hero_among, tables_by, tables_held, tables_in}

-- ---- answers that may be missing

then_has : {A B : Type 0} (P : A → Type 0) (Q : B → Type 0) (f : A → Option B) (o : Option A) → ((x : A) → P x → IfSome (f x) Q) → IfSome o P → IfSome (option_and_then f o) Q
then_has P Q f None keeps h = tt
then_has P Q f (Some x) keeps h = keeps x h

map_has : {A B : Type 0} (P : A → Type 0) (Q : B → Type 0) (f : A → B) (o : Option A) → ((x : A) → P x → Q (f x)) → IfSome o P → IfSome (option_map f o) Q
map_has P Q f None keeps h = tt
map_has P Q f (Some x) keeps h = keeps x h

or_has : {A : Type 0} (P : A → Type 0) (a b : Option A) → IfSome a P → IfSome b P → IfSome (option_or a b) P
or_has P None b h k = k
or_has P (Some x) b h k = h

-- whatever was found
any : {A : Type 0} (o : Option A) → IfSome o (λ x. Unit {0})
any None = tt
any (Some x) = tt

-- ---- JSON

json_in_utf8 : (bytes : List ℕ) → IfSome (json_in bytes) IsUtf8Data
json_in_utf8 bytes = cond_both (is_utf8 bytes) (read bytes) None (λ o. IfSome o IsUtf8Data) (λ e. read_utf8 bytes (IsUtf8-from_is_utf8 bytes e)) (λ _. tt)

member_by : (o : Ordering) (rest : Option Data) (d : Data) → IfSome rest IsUtf8Data → IsUtf8Data d → IfSome (match_ordering o rest (Some d) rest) IsUtf8Data
member_by Less rest d h k = h
member_by Equal rest d h k = k
member_by Greater rest d h k = h

get_member_utf8 : (name : List ℕ) (ms : Members) → AreUtf8Members ms → IfSome (get_member name ms) IsUtf8Data
get_member_utf8 name no_members h = tt
get_member_utf8 name (member k d ms) h = member_by (slice_cmp nat_cmp name k) (get_member name ms) d (get_member_utf8 name ms h.2) h.1

get_utf8 : (name : List ℕ) (d : Data) → IsUtf8Data d → IfSome (get name d) IsUtf8Data
get_utf8 name null h = tt
get_utf8 name (boolean b) h = tt
get_utf8 name (number n) h = tt
get_utf8 name (string s) h = tt
get_utf8 name (array ds) h = tt
get_utf8 name (object ms) h = get_member_utf8 name ms h

as_str_utf8 : (d : Data) → IsUtf8Data d → IfSome (as_str d) IsUtf8
as_str_utf8 null h = tt
as_str_utf8 (boolean b) h = tt
as_str_utf8 (number n) h = tt
as_str_utf8 (string s) h = h
as_str_utf8 (array ds) h = tt
as_str_utf8 (object ms) h = tt

as_array_utf8 : (d : Data) → IsUtf8Data d → IfSome (as_array d) AreUtf8Items
as_array_utf8 null h = tt
as_array_utf8 (boolean b) h = tt
as_array_utf8 (number n) h = tt
as_array_utf8 (string s) h = tt
as_array_utf8 (array ds) h = h
as_array_utf8 (object ms) h = tt

text_at_utf8 : (name : List ℕ) (d : Data) → IsUtf8Data d → IfSome (text_at name d) IsUtf8
text_at_utf8 name d h = then_has IsUtf8Data IsUtf8 as_str (get name d) as_str_utf8 (get_utf8 name d h)

list_at_utf8 : (name : List ℕ) (d : Data) → IsUtf8Data d → IfSome (list_at name d) AreUtf8Items
list_at_utf8 name d h = then_has IsUtf8Data AreUtf8Items as_array (get name d) as_array_utf8 (get_utf8 name d h)

error_in_utf8 : (d : Data) → IsUtf8Data d → IfSome (error_in d) IsUtf8
error_in_utf8 d h = cond_both (is_single d) (text_at (codes "error") d) None (λ o. IfSome o IsUtf8) (λ _. text_at_utf8 (codes "error") d h) (λ _. tt)

-- ---- cells

abbrev MaybeCell : Option LeafCell → Type 0
MaybeCell o = IfSome o CellFits

null_or_error_fits : (d : Data) → IsUtf8Data d → MaybeCell (null_or_error d)
null_or_error_fits d h = cond_both (is_null d) (Some leaf.Null) (option_map leaf.Error (error_in d)) MaybeCell (λ _. tt) (λ _. map_has IsUtf8 CellFits leaf.Error (error_in d) (λ m is. is) (error_in_utf8 d h))

plain_text_fits : (d : Data) → IsUtf8Data d → MaybeCell (plain_text d)
plain_text_fits d h = map_has IsUtf8 CellFits leaf.Text (as_str d) (λ s is. is) (as_str_utf8 d h)

wider : (n : ℕ) → nat_lt n (2 ^ 31) ≡ true → nat_lt n (2 ^ 63) ≡ true
wider n e = let small = ltb-true n (2 ^ 31) e in lt-ltb n (2 ^ 63) (omega (arith, small))

int_fits : (n : ℤ) → is_int32 n ≡ true → IsTrue (fits n)
int_fits (pos n) e = wider n e
int_fits (negsuc n) e = wider n e

int32_fits : (n : ℤ) → MaybeCell (int32 n)
int32_fits n = cond_both (is_int32 n) (Some (leaf.Int n)) None MaybeCell (int_fits n) (λ _. tt)

plain_int_fits : (d : Data) → IsUtf8Data d → MaybeCell (plain_int d)
plain_int_fits d h = then_has (λ n. Unit {0}) CellFits int32 (option_and_then as_i64 (as_number d)) (λ n _. int32_fits n) (any (option_and_then as_i64 (as_number d)))

cell_by_fits : (plain : Data → Option LeafCell) (o : Option Data) → ((d : Data) → IsUtf8Data d → MaybeCell (plain d)) → IfSome o IsUtf8Data → MaybeCell (cell_by plain o)
cell_by_fits plain None keeps h = tt
cell_by_fits plain (Some d) keeps h = or_has CellFits (null_or_error d) (plain d) (null_or_error_fits d h) (keeps d h)

text_cell_fits : (name : List ℕ) (row : Data) → IsUtf8Data row → MaybeCell (text_cell name row)
text_cell_fits name row h = cell_by_fits plain_text (get name row) plain_text_fits (get_utf8 name row h)

int_cell_fits : (name : List ℕ) (row : Data) → IsUtf8Data row → MaybeCell (int_cell name row)
int_cell_fits name row h = cell_by_fits plain_int (get name row) plain_int_fits (get_utf8 name row h)

-- ---- persons

person_by_fits : (row_id : Option (List ℕ)) (id name age boom : Option LeafCell) → MaybeCell id → MaybeCell name → MaybeCell age → MaybeCell boom → IfSome (person_by row_id id name age boom) PersonFits
person_by_fits (Some row_id) (Some id) (Some name) (Some age) (Some boom) a b c d = record { id = a; name = b; age = c; boom = d }
person_by_fits _ _ _ _ _ a b c d = tt

person_in_fits : (row : Data) → IsUtf8Data row → IfSome (person_in row) PersonFits
person_in_fits row h =
    person_by_fits (text_at (codes "@id") row) (text_cell (codes "id") row) (text_cell (codes "name") row) (int_cell (codes "age") row) (text_cell (codes "boom") row)
    (text_cell_fits (codes "id") row h) (text_cell_fits (codes "name") row h) (int_cell_fits (codes "age") row h) (text_cell_fits (codes "boom") row h)

persons_in_fit : (rows : Items) → AreUtf8Items rows → IfSome (persons_in rows) (Each PersonFits)
persons_in_fit no_items h = tt
persons_in_fit (item row rows) h =
    then_has PersonFits (Each PersonFits) (λ person. option_map (λ more. person ∷ more) (persons_in rows)) (person_in row)
    (λ person is. map_has (Each PersonFits) (Each PersonFits) (λ more. person ∷ more) (persons_in rows) (λ more are. (is, are)) (persons_in_fit rows h.1))
    (person_in_fits row h.0)

-- ---- the hero

abbrev MaybeHero : Option HeroCell → Type 0
MaybeHero o = IfSome o HeroFits

ref_in_fits : (ids : List (List ℕ)) (d : Data) → MaybeHero (ref_in ids d)
ref_in_fits ids d = map_has (λ n. Unit {0}) HeroFits hero.Ref _ (λ n _. tt) (any _)

hero_by_fits : (ids : List (List ℕ)) (o : Option Data) → IfSome o IsUtf8Data → MaybeHero (hero_by ids o)
hero_by_fits ids None h = tt
hero_by_fits ids (Some d) h =
    cond_both (is_null d) (Some hero.Null) _ MaybeHero (λ _. tt)
    (λ _. or_has HeroFits (option_map hero.Error (error_in d)) (ref_in ids d) (map_has IsUtf8 HeroFits hero.Error (error_in d) (λ m is. is) (error_in_utf8 d h)) (ref_in_fits ids d))

hero_among_fits : (query_id : List ℕ) (ids : List (List ℕ)) (query : Data) → IsUtf8Data query → MaybeHero (hero_among query_id ids query)
hero_among_fits query_id ids query h = cond_both (fits_together query_id ids) (hero_cell ids query) None MaybeHero (λ _. hero_by_fits ids (get (codes "hero") query) (get_utf8 (codes "hero") query h)) (λ _. tt)

-- ---- tables

only_row_utf8 : (rows : Items) → AreUtf8Items rows → IfSome (only_row rows) IsUtf8Data
only_row_utf8 no_items h = tt
only_row_utf8 (item row no_items) h = h.0
only_row_utf8 (item row (item other rows)) h = tt

tables_by_fit : (query : Data) (id : Option (List ℕ)) (ps : Option (List Person)) → IsUtf8Data query → IfSome ps (Each PersonFits) → IfSome (tables_by query id ps) TablesFit
tables_by_fit query None ps h k = tt
tables_by_fit query (Some id) None h k = tt
tables_by_fit query (Some id) (Some ps) h k =
    map_has HeroFits TablesFit (λ (c : HeroCell). (let x : HeroTables = record { query_id = id; hero = c; persons = ps } in x)) (hero_among id (row_ids ps) query)
    (λ c is. record { hero = is; persons = k })
    (hero_among_fits id (row_ids ps) query h)

tables_held_fit : (file : Data) → IsUtf8Data file → IfSome (tables_held file) TablesFit
tables_held_fit file h =
    let persons = then_has AreUtf8Items (Each PersonFits) persons_in (list_at (codes "Person") file) persons_in_fit (list_at_utf8 (codes "Person") file h) in
    then_has IsUtf8Data TablesFit (λ query. tables_by query (text_at (codes "@id") query) (option_and_then persons_in (list_at (codes "Person") file))) (option_and_then only_row (list_at (codes "Query") file))
    (λ query is. tables_by_fit query (text_at (codes "@id") query) (option_and_then persons_in (list_at (codes "Person") file)) is persons)
    (then_has AreUtf8Items IsUtf8Data only_row (list_at (codes "Query") file) only_row_utf8 (list_at_utf8 (codes "Query") file h))

-- tables that were read can be written
pub tables_in-fit : (bytes : List ℕ) (t : HeroTables) → tables_in bytes ≡ Some t → TablesFit t
tables_in-fit bytes t is = subst (λ (o : Option HeroTables). IfSome o TablesFit) is (then_has IsUtf8Data TablesFit tables_held (json_in bytes) tables_held_fit (json_in_utf8 bytes))
