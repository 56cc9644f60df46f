-- Ids with one more behind them.
use Rattle.std.proofs.Common.{◌≡◌, ℕ, zero, suc, ◌+◌, ◌^◌, ◌<◌, ◌≤◌, nat_lt, List, [], ◌∷◌, ◌++◌, length, take, get_or, Bool, true, false, cond, not, ◌||◌, bytes_eq, Option, Some, None, is_some, option_map, ⊎_elim, refl, sym, ap, ◌∙◌, arith}
use Rattle.std.proofs.lemmas.List.{length-map, length-take-le, map_more, get_or-map, take-map}
use Rattle.std.proofs.lemmas.List.Folds.{list_any-append, list_any_at}
use Rattle.std.proofs.lemmas.Slice.Eq.{bytes_eq-Decides}
use Rattle.std.proofs.lemmas.Bool.{and_parts, and_from, not-true, not_from_false, not_from_true, or_parts, or_from, or_cases, and_left, and_right, true≢false, false_from_ne_true, cond-true, cond-false, lt-ltb}
use Rattle.serde_json.specs.Data.{Data}
use Rattle.gql_tool.specs.declared.hero.tables.Person.{Person}
use Rattle.gql_tool.specs.hero.HeroTables.{row_ids, stands_in, all_distinct, number_of, fits_together, hero_cell, hero_among}

found_by : (b rest : Bool) (found : Option ℕ) → is_some found ≡ rest → is_some (cond b (Some 0) (option_map suc found)) ≡ (b || rest)
found_by true rest found e = refl
found_by false rest None e = e
found_by false rest (Some n) e = e

-- an id has a number where it stands
pub number_of-stands_in : (id : List ℕ) (ids : List (List ℕ)) → is_some (number_of id ids) ≡ stands_in id ids
number_of-stands_in id [] = refl
number_of-stands_in id (other ∷ ids) = found_by (bytes_eq id other) (stands_in id ids) (number_of id ids) (number_of-stands_in id ids)

-- the number among ids and a last one
abbrev or_last : Option ℕ → Bool → ℕ → Option ℕ
or_last None last n = cond last (Some n) None
or_last (Some k) last n = Some k

or_last-suc : (b last : Bool) (found : Option ℕ) (n : ℕ) → cond b (Some 0) (option_map suc (or_last found last n)) ≡ or_last (cond b (Some 0) (option_map suc found)) last (suc n)
or_last-suc true last found n = refl
or_last-suc false true None n = refl
or_last-suc false false None n = refl
or_last-suc false last (Some k) n = refl

or_last-false : (found : Option ℕ) (n : ℕ) → or_last found false n ≡ found
or_last-false None n = refl
or_last-false (Some k) n = refl

number_of-last : (id x : List ℕ) (ids : List (List ℕ)) → number_of id (ids ++ x ∷ []) ≡ or_last (number_of id ids) (bytes_eq id x) (length ids)
number_of-last id x [] = refl
number_of-last id x (other ∷ ids) = ap (λ found. cond (bytes_eq id other) (Some 0) (option_map suc found)) (number_of-last id x ids) ∙ or_last-suc (bytes_eq id other) (bytes_eq id x) (number_of id ids) (length ids)

same : (xs ys : List ℕ) → bytes_eq xs ys ≡ true → xs ≡ ys
same xs ys = (bytes_eq-Decides xs ys).0

itself : (xs : List ℕ) → bytes_eq xs xs ≡ true
itself xs = (bytes_eq-Decides xs xs).1 refl

-- a test of two ids goes both ways
apart : (xs ys : List ℕ) → bytes_eq xs ys ≡ false → bytes_eq ys xs ≡ false
apart xs ys e = false_from_ne_true _ (λ h. true≢false (sym ((bytes_eq-Decides xs ys).1 (sym (same ys xs h))) ∙ e))

number_by : (id x : List ℕ) (ids : List (List ℕ)) (b : Bool) → bytes_eq x id ≡ b → number_of x ids ≡ None → number_of id (ids ++ x ∷ []) ≡ cond b (Some (length ids)) (number_of id ids)
number_by id x ids true e none =
    let eq : x ≡ id = same x id e in
    number_of-last id x ids ∙ (λ i. or_last ((ap (λ k. number_of k ids) (sym eq) ∙ none) i) ((ap (bytes_eq id) eq ∙ itself id) i) (length ids))
number_by id x ids false e none =
    number_of-last id x ids ∙ (ap (λ last. or_last (number_of id ids) last (length ids)) (apart x id e) ∙ or_last-false (number_of id ids) (length ids))

-- a new id has the next number, and the others keep theirs
pub number_of-push : (id x : List ℕ) (ids : List (List ℕ)) → number_of x ids ≡ None → number_of id (ids ++ x ∷ []) ≡ cond (bytes_eq x id) (Some (length ids)) (number_of id ids)
number_of-push id x ids none = number_by id x ids (bytes_eq x id) refl none

-- an id that stands nowhere leaves ids distinct
pub all_distinct-push : (ids : List (List ℕ)) (x : List ℕ) → all_distinct ids ≡ true → stands_in x ids ≡ false → all_distinct (ids ++ x ∷ []) ≡ true
all_distinct-push [] x all new = refl
all_distinct-push (id ∷ ids) x all new =
    let parts = and_parts (not (stands_in id ids)) (all_distinct ids) all in
    let others = or_parts (bytes_eq x id) (stands_in x ids) new in
    let alone : stands_in id (ids ++ x ∷ []) ≡ false = list_any-append (λ other. bytes_eq id other) ids (x ∷ []) ∙ or_from _ _ (not-true _ parts.0) (or_from _ _ (apart x id others.0) refl) in
    and_from _ _ (not_from_false _ alone) (all_distinct-push ids x parts.1 others.1)

-- an id that stands before itself
pub all_distinct-twice : (ids : List (List ℕ)) (i : ℕ) (d : List ℕ) → i < length ids → stands_in (get_or ids i d) (take i ids) ≡ true → all_distinct ids ≡ false
all_distinct-twice [] i d within twice = absurd (omega arith)
all_distinct-twice (id ∷ ids) zero d within twice = absurd (true≢false (sym twice))
all_distinct-twice (id ∷ ids) (suc i) d within twice =
    ⊎_elim (λ e. and_left _ _ (not_from_true _ (list_any_at (λ other. bytes_eq id other) ids i d (omega arith) ((bytes_eq-Decides id (get_or ids i d)).1 (sym (same _ id e))))))
    (λ e. and_right _ _ (all_distinct-twice ids i d (omega arith) e))
    (or_cases (bytes_eq (get_or ids i d) id) (stands_in (get_or ids i d) (take i ids)) twice)

-- ---- the ids of persons

row_ids-take : (persons : List Person) (i : ℕ) → i ≤ length persons → length (row_ids (take i persons)) ≡ i
row_ids-take persons i within = length-map (take i persons) (λ p. p.row_id) ∙ length-take-le i persons within

row_ids-more : (persons : List Person) (i : ℕ) (p : Person) → i < length persons → p ≡ get_or persons i p → row_ids (take (i + 1) persons) ≡ row_ids (take i persons) ++ p.row_id ∷ []
row_ids-more persons i p within is = map_more (λ q. q.row_id) persons i p within ∙ ap (λ q. row_ids (take i persons) ++ q.row_id ∷ []) (sym is)

-- a person whose id a person before it has
pub persons_twice : (persons : List Person) (i : ℕ) (p : Person) → i < length persons → p ≡ get_or persons i p → is_some (number_of p.row_id (row_ids (take i persons))) ≡ true → false ≡ all_distinct (row_ids persons)
persons_twice persons i p within is twice =
    let here : get_or (row_ids persons) i p.row_id ≡ p.row_id = get_or-map (λ q. q.row_id) persons i p p.row_id within ∙ ap (λ q. q.row_id) (sym is) in
    let stands : stands_in p.row_id (row_ids (take i persons)) ≡ true = sym (number_of-stands_in p.row_id (row_ids (take i persons))) ∙ twice in
    sym (all_distinct-twice (row_ids persons) i p.row_id (rw (length-map persons (λ q. q.row_id)) within)
    ((λ j. stands_in (here j) (take-map (λ q. q.row_id) i persons j)) ∙ stands))

-- a person whose id is new
pub persons_distinct : (persons : List Person) (i : ℕ) (p : Person) → i < length persons → p ≡ get_or persons i p → number_of p.row_id (row_ids (take i persons)) ≡ None → all_distinct (row_ids (take i persons)) ≡ true → all_distinct (row_ids (take (i + 1) persons)) ≡ true
persons_distinct persons i p within is new all =
    ap all_distinct (row_ids-more persons i p within is)
    ∙ all_distinct-push (row_ids (take i persons)) p.row_id all (sym (number_of-stands_in p.row_id (row_ids (take i persons))) ∙ ap is_some new)

pub persons_numbered : (persons : List Person) (i : ℕ) (p : Person) → i < length persons → p ≡ get_or persons i p → number_of p.row_id (row_ids (take i persons)) ≡ None → (id : List ℕ) → number_of id (row_ids (take (i + 1) persons)) ≡ cond (bytes_eq p.row_id id) (Some i) (number_of id (row_ids (take i persons)))
persons_numbered persons i p within is new id =
    ap (number_of id) (row_ids-more persons i p within is)
    ∙ (number_of-push id p.row_id (row_ids (take i persons)) new
    ∙ ap (λ n. cond (bytes_eq p.row_id id) (Some n) (number_of id (row_ids (take i persons)))) (row_ids-take persons i (omega arith)))

-- ---- the query's id beside them

pub hero_among-None : (query_id : List ℕ) (ids : List (List ℕ)) (query : Data) → is_some (number_of query_id ids) ≡ true → None ≡ hero_among query_id ids query
hero_among-None query_id ids query twice =
    sym (cond-false (fits_together query_id ids) (hero_cell ids query) None
    (and_right (nat_lt (length ids) (2 ^ 32)) _ (and_left _ (all_distinct ids) (not_from_true _ (sym (number_of-stands_in query_id ids) ∙ twice)))))

pub hero_among-Some : (query_id : List ℕ) (ids : List (List ℕ)) (query : Data) → length ids < 2 ^ 32 → is_some (number_of query_id ids) ≡ false → all_distinct ids ≡ true → hero_among query_id ids query ≡ hero_cell ids query
hero_among-Some query_id ids query short new all =
    cond-true (fits_together query_id ids) (hero_cell ids query) None
    (and_from _ _ (lt-ltb _ _ short) (and_from _ _ (not_from_false _ (sym (number_of-stands_in query_id ids) ∙ new)) all))
