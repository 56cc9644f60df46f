-- What documents and tables that were read keep.
use Rattle.std.proofs.Common.{◌≡◌, refl, ap, ℕ, suc, ◌+◌, ◌<◌, ◌≤◌, Bool, true, false, cond, List, [], ◌∷◌, length, Option, Some, None, IsUtf8, subst, arith}
use Rattle.std.specs.Prelude.{◌&&◌, nat_le, option_map, option_and_then, bytes_eq, codes}
use Rattle.std.specs.Option.{option_or}
use Rattle.std.proofs.lemmas.Bool.Decides.{nat_tests}
use Rattle.std.proofs.lemmas.List.{length-map}
use Rattle.serde_json.specs.Data.{Data}
use Rattle.serde_json.specs.Find.{get}
use Rattle.gql_doc.specs.Answer.{Is, most_bytes}
use Rattle.gql_model.specs.declared.syntax.Document.{Document}
use Rattle.gql_tool.specs.declared.hero.shape.LeafName.{LeafName}
use Rattle.gql_tool.specs.declared.hero.shape.LeafName.TheVariants.{Id, Name, Age, Boom}
use Rattle.gql_tool.specs.declared.hero.shape.HeroDocument.{HeroDocument}
use Rattle.gql_tool.specs.declared.hero.tables.Person.{Person}
use Rattle.gql_tool.specs.declared.hero.tables.HeroCell.{HeroCell}
use Rattle.gql_tool.specs.declared.hero.tables.HeroCell.TheVariants as hero
use Rattle.gql_tool.specs.declared.hero.tables.HeroTables.{HeroTables}
use Rattle.gql_tool.specs.hero.Shape.{document_of, once_each, stands_once, times, deferred_leaves_of, hero_of}
use Rattle.gql_tool.specs.hero.HeroTables.{tables_in, tables_held, tables_by, hero_among, hero_cell, hero_by, ref_in, number_of, row_ids, error_in, is_null, only_text, fits_together, json_in, text_at, list_at, persons_in, only_row}
use Rattle.gql_tool.specs.declared.hero.request.HeroRequest.{HeroRequest}
use Rattle.gql_tool.specs.hero.Built.{schema_text, no_variables, request_with}
use Rattle.gql_tool.specs.hero.Hero.{EachOnce, RefStands, IsBuilt}

-- ---- documents

pub some_if : {A : Type 0} (b : Bool) (o : Option A) (x : A) → cond b o None ≡ Some x → (b ≡ true) × (o ≡ Some x)
some_if true o x is = (refl, is)
some_if false o x is = absurd (cc)

pub some_then : {A B : Type 0} (f : A → Option B) (o : Option A) (y : B) → option_and_then f o ≡ Some y → (x : A) × (o ≡ Some x) × (f x ≡ Some y)
some_then f None y is = absurd (cc)
some_then f (Some x) y is = (x, refl, is)

pub some_map : {A B : Type 0} (f : A → B) (o : Option A) (y : B) → option_map f o ≡ Some y → (x : A) × (o ≡ Some x) × (f x ≡ y)
some_map f None y is = absurd (cc)
some_map f (Some x) y is = (x, refl, cc)

pub both_true : (a b : Bool) → a && b ≡ true → (a ≡ true) × (b ≡ true)
both_true true b h = (refl, h)
both_true false b h = absurd (cc)

once_by : (d : HeroDocument) → stands_once d Id && (stands_once d Name && (stands_once d Age && (stands_once d Boom && true))) ≡ true → (name : LeafName) → stands_once d name ≡ true
once_by d h Id = (both_true _ _ h).0
once_by d h Name = (both_true _ _ (both_true (stands_once d Id) _ h).1).0
once_by d h Age = (both_true _ _ (both_true (stands_once d Name) _ (both_true (stands_once d Id) _ h).1).1).0
once_by d h Boom = (both_true _ _ (both_true (stands_once d Age) _ (both_true (stands_once d Name) _ (both_true (stands_once d Id) _ h).1).1).1).0

at_most_one : (n : ℕ) → nat_le n 1 ≡ true → n ≤ 1
at_most_one n h = grind (arith, nat_tests)

once_each-keeps : (x d : HeroDocument) → once_each x ≡ Some d → EachOnce d
once_each-keeps x d is =
    let p = some_if _ (Some x) d is in
    let same : x ≡ d = cc in
    subst EachOnce same (λ name. at_most_one (times name x.leaves + times name (deferred_leaves_of x.deferred)) (once_by x p.0 name))

-- no leaf stands twice in the query that a document is
pub hero_of-once : (it : Document) (d : HeroDocument) → hero_of it ≡ Some d → EachOnce d
hero_of-once it d is = (let q = some_then once_each (document_of it.definitions) d is in once_each-keeps q.0 d q.2)

-- ---- tables

behind_first : (o : Option ℕ) (count n : ℕ) (b : Bool) → ((k : ℕ) → o ≡ Some k → k < count) → cond b (Some 0) (option_map suc o) ≡ Some n → n < suc count
behind_first o count n true within is = let zero_is : 0 ≡ n = cc in omega (arith, zero_is)
behind_first None count n false within is = absurd (cc)
behind_first (Some k) count n false within is = let h = within k refl in let same : suc k ≡ n = cc in omega (arith, same, h)

number_of-within : (id : List ℕ) (ids : List (List ℕ)) (n : ℕ) → number_of id ids ≡ Some n → n < length ids
number_of-within id [] n is = absurd (cc)
number_of-within id (other ∷ ids) n is = behind_first (number_of id ids) (length ids) n (bytes_eq id other) (λ k at. number_of-within id ids k at) is

-- where a hero is a person, it is one of the rows
abbrev Within : List (List ℕ) → HeroCell → Type 0
Within ids c = (n : ℕ) → c ≡ hero.Ref n → n < length ids

ref_in-within : (ids : List (List ℕ)) (d : Data) (c : HeroCell) → ref_in ids d ≡ Some c → Within ids c
ref_in-within ids d c is n ref =
    let p = some_map hero.Ref (option_and_then (λ id. number_of id ids) (only_text (codes "ref") d)) c is in
    let q = some_then (λ id. number_of id ids) (only_text (codes "ref") d) p.0 p.1 in
    let same : p.0 ≡ n = cc in
    let h = number_of-within q.0 ids p.0 q.2 in
    omega (arith, same, h)

null-within : (ids : List (List ℕ)) (c : HeroCell) → Some hero.Null ≡ Some c → Within ids c
null-within ids c is n ref = absurd (cc)

or-within : (ids : List (List ℕ)) (e : Option (List ℕ)) (d : Data) (c : HeroCell) → option_or (option_map hero.Error e) (ref_in ids d) ≡ Some c → Within ids c
or-within ids None d c is n ref = ref_in-within ids d c is n ref
or-within ids (Some m) d c is n ref = absurd (cc)

hero_by-within : (ids : List (List ℕ)) (o : Option Data) (c : HeroCell) → hero_by ids o ≡ Some c → Within ids c
hero_by-within ids None c is = null-within ids c is
hero_by-within ids (Some d) c is = by_null (is_null d) is
  where
    by_null : (b : Bool) → cond b (Some hero.Null) (option_or (option_map hero.Error (error_in d)) (ref_in ids d)) ≡ Some c → Within ids c
    by_null true is = null-within ids c is
    by_null false is = or-within ids (error_in d) d c is

tables_by-stands : (query : Data) (id : Option (List ℕ)) (ps : Option (List Person)) (t : HeroTables) → tables_by query id ps ≡ Some t → RefStands t
tables_by-stands query None ps t is = absurd (cc)
tables_by-stands query (Some id) None t is = absurd (cc)
tables_by-stands query (Some id) (Some ps) t is =
    let p = some_map (λ (c : HeroCell). (let x : HeroTables = record { query_id = id; hero = c; persons = ps } in x)) (hero_among id (row_ids ps) query) t is in
    let q = some_if (fits_together id (row_ids ps)) (hero_cell (row_ids ps) query) p.0 p.1 in
    let within = hero_by-within (row_ids ps) (get (codes "hero") query) p.0 q.1 in
    let made : HeroTables = record { query_id = id; hero = p.0; persons = ps } in
    let stands : RefStands made = λ n ref. (let h = within n ref in let same : length (row_ids ps) ≡ length ps = length-map ps (λ (x : Person). x.row_id) in omega (arith, h, same)) in
    subst RefStands p.2 stands

-- tables that were read have the hero that they refer to
pub tables_in-stands : (bytes : List ℕ) (t : HeroTables) → tables_in bytes ≡ Some t → RefStands t
tables_in-stands bytes t is =
    let p = some_then tables_held (json_in bytes) t is in
    let q = some_then (λ query. tables_by query (text_at (codes "@id") query) (option_and_then persons_in (list_at (codes "Person") p.0))) (option_and_then only_row (list_at (codes "Query") p.0)) t p.2 in
    tables_by-stands q.0 (text_at (codes "@id") q.0) (option_and_then persons_in (list_at (codes "Person") p.0)) t q.2

-- ---- requests that are built

built_by : (b : Bool) (ts : Option HeroTables) (ds : Option HeroDocument) (t : HeroTables) (d : HeroDocument) → cond {A = Option HeroRequest} b (option_and_then {U = HeroRequest} (λ x. option_map {U = HeroRequest} (request_with x) ds) ts) None ≡ Some (request_with t d) → (ts ≡ Some t) × (ds ≡ Some d)
built_by true None ds t d is = absurd (cc)
built_by true (Some x) None t d is = absurd (cc)
built_by true (Some x) (Some y) t d is =
    let same : request_with x y ≡ request_with t d = cc in
    (ap (λ (z : HeroRequest). Some z.tables) same, ap (λ (z : HeroRequest). Some z.document) same)
built_by false ts ds t d is = absurd (cc)

-- how a request that is built was read
pub record WasRead (rows text : List ℕ) (t : HeroTables) (d : HeroDocument) : Type 0 where
  pub tables : tables_in rows ≡ Some t
  pub utf8 : IsUtf8 text
  pub within : length text ≤ most_bytes
  pub it : Document
  pub document : Is text it
  pub hero : hero_of it ≡ Some d

pub built-read : (vars schema tables document : List ℕ) (t : HeroTables) (d : HeroDocument) → IsBuilt vars schema tables document t d → WasRead tables document t d
built-read vars schema tables document t d (utf8, it, (within, read), is) =
    let parts = built_by (bytes_eq vars no_variables && bytes_eq schema schema_text) (tables_in tables) (hero_of it) t d is in
    record { tables = parts.0; utf8 = utf8; within = within; it = it; document = read; hero = parts.1 }

pub built-once : (vars schema tables document : List ℕ) (t : HeroTables) (d : HeroDocument) → IsBuilt vars schema tables document t d → EachOnce d
built-once vars schema tables document t d is = (let read = built-read vars schema tables document t d is in hero_of-once read.it d read.hero)

pub built-stands : (vars schema tables document : List ℕ) (t : HeroTables) (d : HeroDocument) → IsBuilt vars schema tables document t d → RefStands t
built-stands vars schema tables document t d is = tables_in-stands tables t (built-read vars schema tables document t d is).tables
