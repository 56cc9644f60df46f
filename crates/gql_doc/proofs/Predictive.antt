-- Readers that look one token ahead read just what phrases are, and stop just where no phrase goes on: how this is seen of
-- a reader that is put together of others.
use Rattle.std.proofs.Common.{◌≡◌, ◌⊎◌, inl, inr, ℕ, zero, suc, ◌≤◌, Bool, true, false, ◌||◌, ◌&&◌, List, [], ◌∷◌, ◌++◌, length, Option, Some, None, Ok, Err, refl, sym, ap, subst, ◌∙◌, append_assoc, arith}
use Rattle.std.specs.Option.{option_and_then}
use Rattle.std.proofs.lemmas.List.{append-nil, append_cancel_right, length-append}
use Rattle.gql_lex.specs.Tokens.{Lexeme}
use Rattle.gql_doc.specs.Phrase.{Phrase, Splits, token, returns, either, never}
use Rattle.gql_doc.specs.Phrase as phrase
use Rattle.gql_doc.specs.Terminals.{is_opening}
use Rattle.gql_doc.specs.Nesting.{room_behind, room_after}
use Rattle.gql_doc.specs.inner.Reading.{Reading, Reader, behind, gives, next_is, take, pick, shut}
use Rattle.gql_doc.specs.inner.Reading as reading
use Rattle.gql_doc.specs.declared.parser.Stop.{Stop}
use Rattle.gql_doc.specs.declared.parser.Stop.TheVariants as stop
use Rattle.gql_doc.proofs.Sets.{Set, no_tokens, union, only_if, has, disjoint, disjoint-has, has-union, or_left, or_right}

-- ---- what a reader finds, and where it stops

-- some phrase begins so
pub record Begun {A : Type 0} (p : Phrase A) (tokens : List Lexeme) : Type 0 where
  pub more : List Lexeme
  pub value : A
  pub is : p (tokens ++ more) value

-- a phrase, behind which `after` may be opened where `before` may be before it
pub record Found {A : Type 0} (before after : ℕ) (p : Phrase A) (tokens : List Lexeme) (value : A) (rest : List Lexeme) : Type 0 where
  pub used : List Lexeme
  pub whole : tokens ≡ used ++ rest
  pub is : p used value
  pub room : room_after before used ≡ Some after

-- the next token opens what may not be opened, and some phrase goes on so
pub record Deep {A : Type 0} (p : Phrase A) (done rest : List Lexeme) : Type 0 where
  pub next : Lexeme
  pub more : List Lexeme
  pub is : rest ≡ next ∷ more
  pub opens : is_opening next ≡ true
  pub begun : Begun p (done ++ next ∷ [])

abbrev pub Cause : {A : Type 0} → ℕ → Phrase A → Stop → (done rest : List Lexeme) → Type 0
Cause room p stop.Unexpected done rest = (left : ℕ) × (room_after room done ≡ Some left)
Cause room p stop.TooDeep done rest = (room_after room done ≡ Some 0) × Deep p done rest
Cause room p stop.NoMemory done rest = ⊥

-- some phrase begins as far as the reader came
pub record Stopped {A : Type 0} (room : ℕ) (p : Phrase A) (tokens : List Lexeme) (why : Stop) (rest : List Lexeme) : Type 0 where
  pub done : List Lexeme
  pub whole : tokens ≡ done ++ rest
  pub begun : Begun p done
  pub cause : Cause room p why done rest

pub record IsDeep {A : Type 0} (read : Reading A) : Type 0 where
  pub rest : List Lexeme
  pub is : read ≡ Err (stop.TooDeep, rest)

-- the value and what is left, unless something is opened too deep
abbrev pub Reads : {A : Type 0} → Reading A → A → List Lexeme → Type 0
Reads read value rest = (read ≡ Ok (value, rest)) ⊎ IsDeep read

-- ---- the next token

abbrev pub next : List Lexeme → Option Lexeme
next [] = None
next (token ∷ tokens) = Some token

-- the next token isn't of the set
abbrev pub Clear : Set → List Lexeme → Type 0
Clear set tokens = next_is (has set) tokens ≡ false

-- what a reader does up to some place hangs on the tokens before it and the next one behind it alone
pub record IsLocal {A : Type 0} (reader : Reader A) : Type 0 where
  pub ok : (u v rest other : List Lexeme) (value : A) → next rest ≡ next other → reader (u ++ rest) ≡ Ok (value, v ++ rest) → reader (u ++ other) ≡ Ok (value, v ++ other)
  pub err : (u v rest other : List Lexeme) (why : Stop) → next rest ≡ next other → reader (u ++ rest) ≡ Err (why, v ++ rest) → reader (u ++ other) ≡ Err (why, v ++ other)

-- A reader of `p`, behind which `after` may be opened where `before` may be before it, reads `q`. Phrases of `q` begin with
-- tokens of `first`; a token of `follow` might go on with one; `empty` says whether no tokens may be one. Two phrases, since
-- what is read nests as deep as there is room, and what begins may nest one deeper.
pub record Predictive {A : Type 0} (before after : ℕ) (p q : Phrase A) (reader : Reader A) (first follow : Set) (empty : Bool) : Type 0 where
  pub found : (tokens rest : List Lexeme) (value : A) → reader tokens ≡ Ok (value, rest) → Found before after p tokens value rest
  pub stopped : (tokens rest : List Lexeme) (why : Stop) → reader tokens ≡ Err (why, rest) → Stopped before p tokens why rest
  pub begun : Begun p []
  pub solid : (value : A) → p [] value → empty ≡ true
  pub begins : (token : Lexeme) (tokens : List Lexeme) (value : A) → q (token ∷ tokens) value → has first token ≡ true
  pub blank : (value : A) → q [] value → empty ≡ true
  pub reads : (tokens rest : List Lexeme) (value : A) → q tokens value → Clear follow rest → Reads (reader (tokens ++ rest)) value rest
  pub local : IsLocal reader

-- ---- lemmas on answers, lists and rooms

value_in : {A : Type 0} → A → Reading A → A
value_in other (Ok x) = x.0
value_in other (Err e) = other

rest_in : {A : Type 0} → Reading A → List Lexeme
rest_in (Ok x) = x.1
rest_in (Err e) = e.1

why_in : {A : Type 0} → Reading A → Stop
why_in (Ok x) = stop.NoMemory
why_in (Err e) = e.0

pub same_value : {A : Type 0} {a b : A} {s t : List Lexeme} → (let x : Reading A = Ok (a, s) in let y : Reading A = Ok (b, t) in x ≡ y) → a ≡ b
unfolding value_in
same_value {A} {a} {b} {s} {t} h = ap (value_in a) h

pub same_rest : {A : Type 0} {a b : A} {s t : List Lexeme} → (let x : Reading A = Ok (a, s) in let y : Reading A = Ok (b, t) in x ≡ y) → s ≡ t
unfolding rest_in
same_rest h = ap rest_in h

pub same_why : {A : Type 0} {a b : Stop} {s t : List Lexeme} → (let x : Reading A = Err (a, s) in let y : Reading A = Err (b, t) in x ≡ y) → a ≡ b
unfolding why_in
same_why h = ap why_in h

pub same_stop : {A : Type 0} {a b : Stop} {s t : List Lexeme} → (let x : Reading A = Err (a, s) in let y : Reading A = Err (b, t) in x ≡ y) → s ≡ t
unfolding rest_in
same_stop h = ap rest_in h

pub room_after-append : (room : ℕ) (u v : List Lexeme) → room_after room (u ++ v) ≡ option_and_then (λ left. room_after left v) (room_after room u)
room_after-append room [] v = refl
room_after-append room (token ∷ u) v = by (room_behind room token) (λ left. room_after-append left u v)
  where
    by : (o : Option ℕ) → ((left : ℕ) → room_after left (u ++ v) ≡ option_and_then (λ n. room_after n v) (room_after left u)) → option_and_then (λ left. room_after left (u ++ v)) o ≡ option_and_then (λ left. room_after left v) (option_and_then (λ left. room_after left u) o)
    by None e = refl
    by (Some left) e = e left

-- behind one part, and then behind the other
pub room_both : (room left : ℕ) (u v : List Lexeme) (o : Option ℕ) → room_after room u ≡ Some left → room_after left v ≡ o → room_after room (u ++ v) ≡ o
room_both room left u v o first second = room_after-append room u v ∙ ap (option_and_then (λ n. room_after n v)) first ∙ second

-- ---- no token

pub returns-predictive : {A : Type 0} {room : ℕ} (value : A) → Predictive room room (returns value) (returns value) (gives value) no_tokens no_tokens true
returns-predictive {A} {room} value = record {
  found = λ tokens rest other h. record {
    used = [];
    whole = same_rest h;
    is = (refl, sym (same_value h));
    room = refl;
  };
  stopped = λ tokens rest why h. absurd cc;
  begun = record { more = []; value = value; is = (refl, refl) };
  solid = λ other h. refl;
  begins = λ token tokens other h. absurd cc;
  blank = λ other h. refl;
  reads = λ tokens rest other h clear. inl (λ i. Ok (sym h.1 i, ap (λ t. t ++ rest) h.0 i));
  local = record {
    ok = λ u v rest other found same h. λ i. Ok (same_value h i, ap (λ t. t ++ other) (append_cancel_right u v rest (same_rest h)) i);
    err = λ u v rest other why same h. absurd cc;
  };
}

-- ---- one token

pub take_by : (test : Lexeme → Bool) (token : Lexeme) (tokens : List Lexeme) (b : Bool) → test token ≡ b → take test (token ∷ tokens) ≡ (elim b [ true ↦ Ok (token, tokens) | false ↦ Err (stop.Unexpected, token ∷ tokens) ])
take_by test token tokens true e = rw e refl
take_by test token tokens false e = rw e refl

take_found : {before after : ℕ} (test : Lexeme → Bool) → ((t : Lexeme) → test t ≡ true → room_behind before t ≡ Some after)
    → (tokens rest : List Lexeme) (value : Lexeme) → take test tokens ≡ Ok (value, rest) → Found before after (token test) tokens value rest
take_found test level [] rest value h = absurd cc
take_found {before} {after} test level (t ∷ tokens) rest value h = by (test t) refl
  where
    by : (b : Bool) → test t ≡ b → Found before after (token test) (t ∷ tokens) value rest
    by true e =
        let ok = sym (take_by test t tokens true e) ∙ h in
        let is : t ≡ value = same_value ok in
        record {
          used = value ∷ [];
          whole = λ i. is i ∷ same_rest ok i;
          is = (refl, ap test (sym is) ∙ e);
          room = ap (option_and_then (λ left. Some left)) (level value (ap test (sym is) ∙ e));
        }
    by false e = let no = sym (take_by test t tokens false e) ∙ h in absurd cc

take_stopped : (before : ℕ) (test : Lexeme → Bool) → Begun (token test) []
    → (tokens rest : List Lexeme) (why : Stop) → take test tokens ≡ Err (why, rest) → Stopped before (token test) tokens why rest
take_stopped before test begun [] rest why h = record {
  done = [];
  whole = same_stop h;
  begun = begun;
  cause = subst (λ w. Cause before (token test) w [] rest) (same_why h) (before, refl);
}
take_stopped before test begun (t ∷ tokens) rest why h = by (test t) refl
  where
    by : (b : Bool) → test t ≡ b → Stopped before (token test) (t ∷ tokens) why rest
    by true e = let no = sym (take_by test t tokens true e) ∙ h in absurd cc
    by false e =
        let stops = sym (take_by test t tokens false e) ∙ h in
        record {
          done = [];
          whole = same_stop stops;
          begun = begun;
          cause = subst (λ w. Cause before (token test) w [] rest) (same_why stops) (before, refl);
        }

take_yes : (test : Lexeme → Bool) (token : Lexeme) (tokens : List Lexeme) → test token ≡ true → take test (token ∷ tokens) ≡ Ok (token, tokens)
take_yes test token tokens e = take_by test token tokens true e

take_no : (test : Lexeme → Bool) (token : Lexeme) (tokens : List Lexeme) → test token ≡ false → take test (token ∷ tokens) ≡ Err (stop.Unexpected, token ∷ tokens)
take_no test token tokens e = take_by test token tokens false e

longer : (v rest : List Lexeme) (token : Lexeme) → rest ≡ v ++ token ∷ rest → ⊥
longer v rest token h = omega (arith, ap length h, length-append v (token ∷ rest))

take_ok : (test : Lexeme → Bool) (u v rest other : List Lexeme) (value : Lexeme) (b : Bool) → next rest ≡ next other → next_is test (u ++ rest) ≡ b → take test (u ++ rest) ≡ Ok (value, v ++ rest) → take test (u ++ other) ≡ Ok (value, v ++ other)
take_ok test [] v [] other value b same e h = absurd cc
take_ok test [] v (t ∷ rest) other value true same e h = absurd (longer v rest t (same_rest (sym (take_yes test t rest e) ∙ h)))
take_ok test [] v (t ∷ rest) other value false same e h = let no = sym (take_no test t rest e) ∙ h in absurd cc
take_ok test (t ∷ u) v rest other value true same e h =
    let done = sym (take_yes test t (u ++ rest) e) ∙ h in
    take_yes test t (u ++ other) e ∙ (λ i. Ok (same_value done i, append_cancel_right u v rest (same_rest done) i ++ other))
take_ok test (t ∷ u) v rest other value false same e h = let no = sym (take_no test t (u ++ rest) e) ∙ h in absurd cc

take_err : (test : Lexeme → Bool) (u v rest other : List Lexeme) (why : Stop) (b : Bool) → next rest ≡ next other → next_is test (u ++ rest) ≡ b → take test (u ++ rest) ≡ Err (why, v ++ rest) → take test (u ++ other) ≡ Err (why, v ++ other)
take_err test [] v [] [] why b same e h = h
take_err test [] v [] (o ∷ other) why b same e h = absurd cc
take_err test [] v (t ∷ rest) [] why b same e h = absurd cc
take_err test [] v (t ∷ rest) (o ∷ other) why true same e h = let no = sym (take_yes test t rest e) ∙ h in absurd cc
take_err test [] v (t ∷ rest) (o ∷ other) why false same e h =
    let stops = sym (take_no test t rest e) ∙ h in
    let one : t ≡ o = cc in
    take_no test o other (ap test (sym one) ∙ e) ∙ (λ i. Err (same_why stops i, append_cancel_right [] v (t ∷ rest) (same_stop stops) i ++ o ∷ other))
take_err test (t ∷ u) v rest other why true same e h = let no = sym (take_yes test t (u ++ rest) e) ∙ h in absurd cc
take_err test (t ∷ u) v rest other why false same e h =
    let stops = sym (take_no test t (u ++ rest) e) ∙ h in
    take_no test t (u ++ other) e ∙ (λ i. Err (same_why stops i, append_cancel_right (t ∷ u) v rest (same_stop stops) i ++ other))

pub token-predictive : {before after : ℕ} (test : Lexeme → Bool) (set : Set) (example : Lexeme) → test example ≡ true
    → ((t : Lexeme) → test t ≡ true → has set t ≡ true) → ((t : Lexeme) → test t ≡ true → room_behind before t ≡ Some after)
    → Predictive before after (token test) (token test) (take test) set no_tokens false
token-predictive {before = before} test set example passes covers level = record {
  found = take_found test level;
  stopped = take_stopped before test (record { more = example ∷ []; value = example; is = (refl, passes) });
  begun = record { more = example ∷ []; value = example; is = (refl, passes) };
  solid = λ value h. let no = h.0 in absurd cc;
  begins = λ t tokens value h. let same = h.0 in let is : t ≡ value = cc in covers t (ap test is ∙ h.1);
  blank = λ value h. let no = h.0 in absurd cc;
  reads = λ tokens rest value h clear. inl (ap (λ ts. take test (ts ++ rest)) h.0 ∙ take_yes test value rest h.1);
  local = record {
    ok = λ u v rest other value same h. take_ok test u v rest other value _ same refl h;
    err = λ u v rest other why same h. take_err test u v rest other why _ same refl h;
  };
}

-- ---- one behind another

bind_found : {A B : Type 0} {n m k : ℕ} {p : Phrase A} {f : A → Phrase B} {r : Reader A} {s : A → Reader B}
    → ((tokens rest : List Lexeme) (a : A) → r tokens ≡ Ok (a, rest) → Found n m p tokens a rest)
    → ((a : A) (tokens rest : List Lexeme) (b : B) → s a tokens ≡ Ok (b, rest) → Found m k (f a) tokens b rest)
    → (tokens rest : List Lexeme) (b : B) (x : Reading A) → r tokens ≡ x → behind x s ≡ Ok (b, rest) → Found n k (phrase.◌>>=◌ p f) tokens b rest
bind_found {n = n} {m = m} {k = k} first second tokens rest b (Ok x) e h =
    let one = first tokens x.1 x.0 e in
    let two = second x.0 x.1 rest b h in
    record {
      used = one.used ++ two.used;
      whole = one.whole ∙ ap (λ t. one.used ++ t) two.whole ∙ sym (append_assoc one.used two.used rest);
      is = (x.0, record { front = one.used; back = two.used; whole = refl; front_is = one.is; back_is = two.is });
      room = room_both n m one.used two.used (Some k) one.room two.room;
    }
bind_found first second tokens rest b (Err y) e h = absurd cc

-- what some phrase begins with goes on as the whole does
pub begun_first : {A B : Type 0} {p : Phrase A} {f : A → Phrase B} (tokens : List Lexeme) → Begun p tokens → ((a : A) → Begun (f a) []) → Begun (phrase.◌>>=◌ p f) tokens
begun_first tokens one two = record {
  more = one.more ++ (two one.value).more;
  value = (two one.value).value;
  is = (one.value, record { front = tokens ++ one.more; back = (two one.value).more; whole = sym (append_assoc tokens one.more (two one.value).more); front_is = one.is; back_is = (two one.value).is });
}

begun_second : {A B : Type 0} {p : Phrase A} {f : A → Phrase B} (u tokens : List Lexeme) (a : A) → p u a → Begun (f a) tokens → Begun (phrase.◌>>=◌ p f) (u ++ tokens)
begun_second u tokens a one two = record {
  more = two.more;
  value = two.value;
  is = (a, record { front = u; back = tokens ++ two.more; whole = append_assoc u tokens two.more; front_is = one; back_is = two.is });
}

cause_first : {A B : Type 0} (n : ℕ) (p : Phrase A) (f : A → Phrase B) (why : Stop) (done rest : List Lexeme) → ((a : A) → Begun (f a) []) → Cause n p why done rest → Cause n (phrase.◌>>=◌ p f) why done rest
cause_first n p f stop.Unexpected done rest two c = c
cause_first n p f stop.TooDeep done rest two c = (c.0, record { next = c.1.next; more = c.1.more; is = c.1.is; opens = c.1.opens; begun = begun_first (done ++ c.1.next ∷ []) c.1.begun two })
cause_first n p f stop.NoMemory done rest two c = c

cause_second : {A B : Type 0} (n m : ℕ) (p : Phrase A) (f : A → Phrase B) (why : Stop) (u done rest : List Lexeme) (a : A) → p u a → room_after n u ≡ Some m → Cause m (f a) why done rest → Cause n (phrase.◌>>=◌ p f) why (u ++ done) rest
cause_second n m p f stop.Unexpected u done rest a one room c = (c.0, room_both n m u done (Some c.0) room c.1)
cause_second n m p f stop.TooDeep u done rest a one room c = (
  room_both n m u done (Some 0) room c.0,
  record { next = c.1.next; more = c.1.more; is = c.1.is; opens = c.1.opens; begun = subst (Begun (phrase.◌>>=◌ p f)) (sym (append_assoc u done (c.1.next ∷ []))) (begun_second u (done ++ c.1.next ∷ []) a one c.1.begun) },
)
cause_second n m p f stop.NoMemory u done rest a one room c = c

bind_stopped : {A B : Type 0} (n m : ℕ) (p : Phrase A) (f : A → Phrase B) {r : Reader A} {s : A → Reader B}
    → ((tokens rest : List Lexeme) (a : A) → r tokens ≡ Ok (a, rest) → Found n m p tokens a rest)
    → ((tokens rest : List Lexeme) (why : Stop) → r tokens ≡ Err (why, rest) → Stopped n p tokens why rest)
    → ((a : A) (tokens rest : List Lexeme) (why : Stop) → s a tokens ≡ Err (why, rest) → Stopped m (f a) tokens why rest)
    → ((a : A) → Begun (f a) [])
    → (tokens rest : List Lexeme) (why : Stop) (x : Reading A) → r tokens ≡ x → behind x s ≡ Err (why, rest) → Stopped n (phrase.◌>>=◌ p f) tokens why rest
bind_stopped n m p f found stops second begun tokens rest why (Ok x) e h =
    let one = found tokens x.1 x.0 e in
    let two = second x.0 x.1 rest why h in
    record {
      done = one.used ++ two.done;
      whole = one.whole ∙ ap (λ t. one.used ++ t) two.whole ∙ sym (append_assoc one.used two.done rest);
      begun = begun_second one.used two.done x.0 one.is two.begun;
      cause = cause_second n m p f why one.used two.done rest x.0 one.is one.room two.cause;
    }
bind_stopped n m p f found stops second begun tokens rest why (Err y) e h =
    let one = stops tokens rest why (e ∙ (λ i. Err (same_why h i, same_stop h i))) in
    record { done = one.done; whole = one.whole; begun = begun_first one.done one.begun begun; cause = cause_first n p f why one.done rest begun one.cause }

nil_both : {A : Type 0} (u v : List A) → [] ≡ u ++ v → (u ≡ []) × (v ≡ [])
nil_both [] v h = (refl, sym h)
nil_both (x ∷ u) v h = absurd cc

both_true : (a b : Bool) → a ≡ true → b ≡ true → (a && b) ≡ true
both_true true b e f = f
both_true false b e f = cc

only_has : (e : Bool) (s : Set) (t : Lexeme) → e ≡ true → has s t ≡ true → has (only_if e s) t ≡ true
only_has true s t e h = h
only_has false s t e h = cc

has_left : (s t : Set) (token : Lexeme) → has s token ≡ true → has (union s t) token ≡ true
has_left s t token h = has-union s t token ∙ or_left (has s token) (has t token) h

has_right : (s t : Set) (token : Lexeme) → has t token ≡ true → has (union s t) token ≡ true
has_right s t token h = has-union s t token ∙ or_right (has s token) (has t token) h

or_no : (a b : Bool) → (a || b) ≡ false → (a ≡ false) × (b ≡ false)
or_no true b h = cc
or_no false b h = (refl, h)

clear_left : (s t : Set) (tokens : List Lexeme) → Clear (union s t) tokens → Clear s tokens
clear_left s t [] h = refl
clear_left s t (token ∷ tokens) h = (or_no (has s token) (has t token) (sym (has-union s t token) ∙ h)).0

clear_right : (s t : Set) (tokens : List Lexeme) → Clear (union s t) tokens → Clear t tokens
clear_right s t [] h = refl
clear_right s t (token ∷ tokens) h = (or_no (has s token) (has t token) (sym (has-union s t token) ∙ h)).1

clear_only : (e : Bool) (s : Set) (tokens : List Lexeme) → e ≡ true → Clear (only_if e s) tokens → Clear s tokens
clear_only true s tokens e h = h
clear_only false s tokens e h = cc

bind_begins : {A B : Type 0} (q : Phrase A) (g : A → Phrase B) (F1 F2 : Set) (e1 : Bool)
    → ((t : Lexeme) (ts : List Lexeme) (a : A) → q (t ∷ ts) a → has F1 t ≡ true) → ((a : A) → q [] a → e1 ≡ true)
    → ((a : A) (t : Lexeme) (ts : List Lexeme) (b : B) → g a (t ∷ ts) b → has F2 t ≡ true)
    → (t : Lexeme) (ts u v : List Lexeme) (a : A) (b : B) → t ∷ ts ≡ u ++ v → q u a → g a v b → has (union F1 (only_if e1 F2)) t ≡ true
bind_begins q g F1 F2 e1 first blank second t ts [] v a b h one two =
    has_right F1 (only_if e1 F2) t (only_has e1 F2 t (blank a one) (second a t ts b (subst (λ w. g a w b) (sym h) two)))
bind_begins q g F1 F2 e1 first blank second t ts (x ∷ u) v a b h one two =
    let is : t ≡ x = cc in
    has_left F1 (only_if e1 F2) t (ap (has F1) is ∙ first x u a one)

-- behind the first part stands the second, or what stands behind both
bind_clear : {A B : Type 0} (g : A → Phrase B) (F2 N1 N2 : Set) (e2 : Bool)
    → ((a : A) (t : Lexeme) (ts : List Lexeme) (b : B) → g a (t ∷ ts) b → has F2 t ≡ true) → ((a : A) (b : B) → g a [] b → e2 ≡ true)
    → ((t : Lexeme) → has F2 t ≡ true → has N1 t ≡ false)
    → (v rest : List Lexeme) (a : A) (b : B) → g a v b → Clear (union N2 (only_if e2 N1)) rest → Clear N1 (v ++ rest)
bind_clear g F2 N1 N2 e2 second blank apart [] rest a b two clear = clear_only e2 N1 rest (blank a b two) (clear_right N2 (only_if e2 N1) rest clear)
bind_clear g F2 N1 N2 e2 second blank apart (t ∷ v) rest a b two clear = apart t (second a t v b two)

bind_reads : {A B : Type 0} (r : Reader A) (s : A → Reader B) (tokens rest : List Lexeme) (a : A) (b : B)
    → Reads (r tokens) a rest → (after : List Lexeme) → Reads (s a rest) b after → Reads (behind (r tokens) s) b after
bind_reads r s tokens rest a b (inl e) after (inl h) = inl (ap (λ x. behind x s) e ∙ h)
bind_reads r s tokens rest a b (inl e) after (inr deep) = inr (record { rest = deep.rest; is = ap (λ x. behind x s) e ∙ deep.is })
bind_reads r s tokens rest a b (inr deep) after h = inr (record { rest = deep.rest; is = ap (λ x. behind x s) deep.is })

bind_ok : {A B : Type 0} {r : Reader A} {s : A → Reader B} → IsLocal r → ((a : A) → IsLocal (s a))
    → ((a : A) (tokens rest : List Lexeme) (b : B) → s a tokens ≡ Ok (b, rest) → (u : List Lexeme) × (tokens ≡ u ++ rest))
    → (u v rest other : List Lexeme) (b : B) (x : Reading A) → next rest ≡ next other → r (u ++ rest) ≡ x → behind x s ≡ Ok (b, v ++ rest) → behind (r (u ++ other)) s ≡ Ok (b, v ++ other)
bind_ok {s = s} one two shrinks u v rest other b (Ok x) same e h =
    let used = shrinks x.0 x.1 (v ++ rest) b h in
    let whole : x.1 ≡ (used.0 ++ v) ++ rest = used.1 ∙ sym (append_assoc used.0 v rest) in
    ap (λ y. behind y s) (one.ok u (used.0 ++ v) rest other x.0 same (e ∙ ap (λ w. Ok (x.0, w)) whole))
    ∙ (two x.0).ok (used.0 ++ v) v rest other b same (ap (s x.0) (sym whole) ∙ h)
bind_ok one two shrinks u v rest other b (Err y) same e h = absurd cc

bind_err : {A B : Type 0} {r : Reader A} {s : A → Reader B} → IsLocal r → ((a : A) → IsLocal (s a))
    → ((a : A) (tokens rest : List Lexeme) (why : Stop) → s a tokens ≡ Err (why, rest) → (u : List Lexeme) × (tokens ≡ u ++ rest))
    → (u v rest other : List Lexeme) (why : Stop) (x : Reading A) → next rest ≡ next other → r (u ++ rest) ≡ x → behind x s ≡ Err (why, v ++ rest) → behind (r (u ++ other)) s ≡ Err (why, v ++ other)
bind_err {s = s} one two shrinks u v rest other why (Ok x) same e h =
    let used = shrinks x.0 x.1 (v ++ rest) why h in
    let whole : x.1 ≡ (used.0 ++ v) ++ rest = used.1 ∙ sym (append_assoc used.0 v rest) in
    ap (λ y. behind y s) (one.ok u (used.0 ++ v) rest other x.0 same (e ∙ ap (λ w. Ok (x.0, w)) whole))
    ∙ (two x.0).err (used.0 ++ v) v rest other why same (ap (s x.0) (sym whole) ∙ h)
bind_err {s = s} one two shrinks u v rest other why (Err y) same e h =
    ap (λ y. behind y s) (one.err u v rest other why same (e ∙ (λ i. Err (same_why h i, same_stop h i))))

pub bind_apart-predictive : {A B : Type 0} {n m k : ℕ} {p q : Phrase A} {f g : A → Phrase B} {r : Reader A} {s : A → Reader B} {F1 N1 F2 N2 : Set} {e1 e2 : Bool}
    → Predictive n m p q r F1 N1 e1 → ((a : A) → Predictive m k (f a) (g a) (s a) F2 N2 e2) → ((t : Lexeme) → has F2 t ≡ true → has N1 t ≡ false)
    → Predictive n k (phrase.◌>>=◌ p f) (phrase.◌>>=◌ q g) (reading.◌>>=◌ r s) (union F1 (only_if e1 F2)) (union N2 (only_if e2 N1)) (e1 && e2)
bind_apart-predictive {n = n} {m = m} {p = p} {q = q} {f = f} {g = g} {r = r} {s = s} {F1 = F1} {N1 = N1} {F2 = F2} {N2 = N2} {e1 = e1} {e2 = e2} one two apart = record {
  found = λ tokens rest b h. bind_found one.found (λ a. (two a).found) tokens rest b (r tokens) refl h;
  stopped = λ tokens rest why h. bind_stopped n m p f one.found one.stopped (λ a. (two a).stopped) (λ a. (two a).begun) tokens rest why (r tokens) refl h;
  begun = begun_first [] one.begun (λ a. (two a).begun);
  solid = λ b h. let none = nil_both h.1.front h.1.back h.1.whole in
      both_true e1 e2 (one.solid h.0 (subst (λ w. p w h.0) none.0 h.1.front_is)) ((two h.0).solid b (subst (λ w. f h.0 w b) none.1 h.1.back_is));
  begins = λ t ts b h. bind_begins q g F1 F2 e1 one.begins one.blank (λ a. (two a).begins) t ts h.1.front h.1.back h.0 b h.1.whole h.1.front_is h.1.back_is;
  blank = λ b h. let none = nil_both h.1.front h.1.back h.1.whole in
      both_true e1 e2 (one.blank h.0 (subst (λ w. q w h.0) none.0 h.1.front_is)) ((two h.0).blank b (subst (λ w. g h.0 w b) none.1 h.1.back_is));
  reads = λ tokens rest b h clear.
      let whole : tokens ++ rest ≡ h.1.front ++ (h.1.back ++ rest) = ap (λ w. w ++ rest) h.1.whole ∙ append_assoc h.1.front h.1.back rest in
      subst (λ w. Reads (behind (r w) s) b rest) (sym whole)
      (bind_reads r s (h.1.front ++ (h.1.back ++ rest)) (h.1.back ++ rest) h.0 b
      (one.reads h.1.front (h.1.back ++ rest) h.0 h.1.front_is (bind_clear g F2 N1 N2 e2 (λ a. (two a).begins) (λ a. (two a).blank) apart h.1.back rest h.0 b h.1.back_is clear))
      rest ((two h.0).reads h.1.back rest b h.1.back_is (clear_left N2 (only_if e2 N1) rest clear)));
  local = record {
    ok = λ u v rest other b same h. bind_ok one.local (λ a. (two a).local) (λ a tokens rest b h. let found = (two a).found tokens rest b h in (found.used, found.whole)) u v rest other b (r (u ++ rest)) same refl h;
    err = λ u v rest other why same h. bind_err one.local (λ a. (two a).local) (λ a tokens rest why h. let stops = (two a).stopped tokens rest why h in (stops.done, stops.whole)) u v rest other why (r (u ++ rest)) same refl h;
  };
}

pub bind-predictive : {A B : Type 0} {n m k : ℕ} {p q : Phrase A} {f g : A → Phrase B} {r : Reader A} {s : A → Reader B} {F1 N1 F2 N2 : Set} {e1 e2 : Bool}
    → Predictive n m p q r F1 N1 e1 → ((a : A) → Predictive m k (f a) (g a) (s a) F2 N2 e2) → disjoint F2 N1 ≡ true
    → Predictive n k (phrase.◌>>=◌ p f) (phrase.◌>>=◌ q g) (reading.◌>>=◌ r s) (union F1 (only_if e1 F2)) (union N2 (only_if e2 N1)) (e1 && e2)
bind-predictive {N1 = N1} {F2 = F2} one two apart = bind_apart-predictive one two (λ t h. disjoint-has F2 N1 t apart h)

-- ---- one of two

pick_by : {A : Type 0} (test : Lexeme → Bool) (r s : Reader A) (tokens : List Lexeme) (b : Bool) → next_is test tokens ≡ b → pick test r s tokens ≡ (elim b [ true ↦ r tokens | false ↦ s tokens ])
pick_by test r s tokens true e = rw e refl
pick_by test r s tokens false e = rw e refl

pub pick_yes : {A : Type 0} (test : Lexeme → Bool) (r s : Reader A) (tokens : List Lexeme) → next_is test tokens ≡ true → pick test r s tokens ≡ r tokens
pick_yes test r s tokens e = pick_by test r s tokens true e

pub pick_no : {A : Type 0} (test : Lexeme → Bool) (r s : Reader A) (tokens : List Lexeme) → next_is test tokens ≡ false → pick test r s tokens ≡ s tokens
pick_no test r s tokens e = pick_by test r s tokens false e

begun_left : {A : Type 0} (p q : Phrase A) (tokens : List Lexeme) → Begun p tokens → Begun (either p q) tokens
begun_left p q tokens b = record { more = b.more; value = b.value; is = inl b.is }

pub begun_right : {A : Type 0} (p q : Phrase A) (tokens : List Lexeme) → Begun q tokens → Begun (either p q) tokens
begun_right p q tokens b = record { more = b.more; value = b.value; is = inr b.is }

-- what some phrase of the one goes on with, some phrase of the other does
pub wider_cause : {A B : Type 0} (n : ℕ) (p : Phrase A) (q : Phrase B) → ((tokens : List Lexeme) → Begun p tokens → Begun q tokens) → (why : Stop) (done rest : List Lexeme) → Cause n p why done rest → Cause n q why done rest
wider_cause n p q wider stop.Unexpected done rest c = c
wider_cause n p q wider stop.TooDeep done rest c = (c.0, record { next = c.1.next; more = c.1.more; is = c.1.is; opens = c.1.opens; begun = wider (done ++ c.1.next ∷ []) c.1.begun })
wider_cause n p q wider stop.NoMemory done rest c = c

pub wider_stopped : {A B : Type 0} (n : ℕ) (p : Phrase A) (q : Phrase B) → ((tokens : List Lexeme) → Begun p tokens → Begun q tokens) → (tokens : List Lexeme) (why : Stop) (rest : List Lexeme) → Stopped n p tokens why rest → Stopped n q tokens why rest
wider_stopped n p q wider tokens why rest s = record { done = s.done; whole = s.whole; begun = wider s.done s.begun; cause = wider_cause n p q wider why s.done rest s.cause }

pick_found : {A : Type 0} {n m : ℕ} (p1 p2 : Phrase A) {r s : Reader A} (test : Lexeme → Bool)
    → ((tokens rest : List Lexeme) (a : A) → r tokens ≡ Ok (a, rest) → Found n m p1 tokens a rest)
    → ((tokens rest : List Lexeme) (a : A) → s tokens ≡ Ok (a, rest) → Found n m p2 tokens a rest)
    → (tokens rest : List Lexeme) (a : A) (b : Bool) → next_is test tokens ≡ b → pick test r s tokens ≡ Ok (a, rest) → Found n m (either p1 p2) tokens a rest
pick_found p1 p2 {r = r} {s = s} test one two tokens rest a true e h =
    let f = one tokens rest a (sym (pick_yes test r s tokens e) ∙ h) in record { used = f.used; whole = f.whole; is = inl f.is; room = f.room }
pick_found p1 p2 {r = r} {s = s} test one two tokens rest a false e h =
    let f = two tokens rest a (sym (pick_no test r s tokens e) ∙ h) in record { used = f.used; whole = f.whole; is = inr f.is; room = f.room }

pick_stopped : {A : Type 0} {n : ℕ} (p1 p2 : Phrase A) {r s : Reader A} (test : Lexeme → Bool)
    → ((tokens rest : List Lexeme) (why : Stop) → r tokens ≡ Err (why, rest) → Stopped n p1 tokens why rest)
    → ((tokens rest : List Lexeme) (why : Stop) → s tokens ≡ Err (why, rest) → Stopped n p2 tokens why rest)
    → (tokens rest : List Lexeme) (why : Stop) (b : Bool) → next_is test tokens ≡ b → pick test r s tokens ≡ Err (why, rest) → Stopped n (either p1 p2) tokens why rest
pick_stopped {n = n} p1 p2 {r = r} {s = s} test one two tokens rest why true e h =
    wider_stopped n p1 (either p1 p2) (begun_left p1 p2) tokens why rest (one tokens rest why (sym (pick_yes test r s tokens e) ∙ h))
pick_stopped {n = n} p1 p2 {r = r} {s = s} test one two tokens rest why false e h =
    wider_stopped n p2 (either p1 p2) (begun_right p1 p2) tokens why rest (two tokens rest why (sym (pick_no test r s tokens e) ∙ h))

-- the next token of two lists with one front, and the same next token behind it, is one
pub next_append : (u rest other : List Lexeme) → next rest ≡ next other → next (u ++ rest) ≡ next (u ++ other)
next_append [] rest other same = same
next_append (t ∷ u) rest other same = refl

test_of : (Lexeme → Bool) → Option Lexeme → Bool
test_of test None = false
test_of test (Some token) = test token

test_of-next : (test : Lexeme → Bool) (tokens : List Lexeme) → next_is test tokens ≡ test_of test (next tokens)
unfolding test_of
test_of-next test [] = refl
test_of-next test (t ∷ tokens) = refl

pub next_is-append : (test : Lexeme → Bool) (u rest other : List Lexeme) → next rest ≡ next other → next_is test (u ++ rest) ≡ next_is test (u ++ other)
next_is-append test u rest other same = test_of-next test (u ++ rest) ∙ ap (test_of test) (next_append u rest other same) ∙ sym (test_of-next test (u ++ other))

pick_local : {A : Type 0} {r s : Reader A} (test : Lexeme → Bool) → IsLocal r → IsLocal s → IsLocal (pick test r s)
pick_local {A} {r} {s} test one two = record {
  ok = λ u v rest other a same h. ok u v rest other a (next_is test (u ++ rest)) same refl h;
  err = λ u v rest other why same h. err u v rest other why (next_is test (u ++ rest)) same refl h;
}
  where
    ok : (u v rest other : List Lexeme) (a : A) (b : Bool) → next rest ≡ next other → next_is test (u ++ rest) ≡ b → pick test r s (u ++ rest) ≡ Ok (a, v ++ rest) → pick test r s (u ++ other) ≡ Ok (a, v ++ other)
    ok u v rest other a true same e h = pick_yes test r s (u ++ other) (sym (next_is-append test u rest other same) ∙ e) ∙ one.ok u v rest other a same (sym (pick_yes test r s (u ++ rest) e) ∙ h)
    ok u v rest other a false same e h = pick_no test r s (u ++ other) (sym (next_is-append test u rest other same) ∙ e) ∙ two.ok u v rest other a same (sym (pick_no test r s (u ++ rest) e) ∙ h)

    err : (u v rest other : List Lexeme) (why : Stop) (b : Bool) → next rest ≡ next other → next_is test (u ++ rest) ≡ b → pick test r s (u ++ rest) ≡ Err (why, v ++ rest) → pick test r s (u ++ other) ≡ Err (why, v ++ other)
    err u v rest other why true same e h = pick_yes test r s (u ++ other) (sym (next_is-append test u rest other same) ∙ e) ∙ one.err u v rest other why same (sym (pick_yes test r s (u ++ rest) e) ∙ h)
    err u v rest other why false same e h = pick_no test r s (u ++ other) (sym (next_is-append test u rest other same) ∙ e) ∙ two.err u v rest other why same (sym (pick_no test r s (u ++ rest) e) ∙ h)

not_false : (b : Bool) → (b ≡ true → ⊥) → b ≡ false
not_false true h = absurd (h refl)
not_false false h = refl

-- no token of the set comes, so none passes the test
pub fails_next : (test : Lexeme → Bool) (T : Set) → ((t : Lexeme) → test t ≡ true → has T t ≡ true) → (tokens : List Lexeme) → Clear T tokens → next_is test tokens ≡ false
fails_next test T covers [] clear = refl
fails_next test T covers (t ∷ tokens) clear = not_false (test t) (λ e. let h = covers t e in absurd cc)

pick_reads : {A : Type 0} (q1 q2 : Phrase A) (r s : Reader A) (N1 N2 T : Set) (e2 : Bool) (test : Lexeme → Bool)
    → ((tokens rest : List Lexeme) (a : A) → q1 tokens a → Clear N1 rest → Reads (r (tokens ++ rest)) a rest)
    → ((tokens rest : List Lexeme) (a : A) → q2 tokens a → Clear N2 rest → Reads (s (tokens ++ rest)) a rest)
    → ((a : A) → q1 [] a → ⊥) → ((a : A) → q2 [] a → e2 ≡ true)
    → ((t : Lexeme) (ts : List Lexeme) (a : A) → q1 (t ∷ ts) a → test t ≡ true) → ((t : Lexeme) (ts : List Lexeme) (a : A) → q2 (t ∷ ts) a → test t ≡ false)
    → ((t : Lexeme) → test t ≡ true → has T t ≡ true)
    → (tokens rest : List Lexeme) (a : A) → either q1 q2 tokens a → Clear (union N1 (union N2 (only_if e2 T))) rest → Reads (pick test r s (tokens ++ rest)) a rest
pick_reads q1 q2 r s N1 N2 T e2 test one two solid blank passes fails covers [] rest a (inl h) clear = absurd (solid a h)
pick_reads q1 q2 r s N1 N2 T e2 test one two solid blank passes fails covers (t ∷ tokens) rest a (inl h) clear =
    subst (λ x. Reads x a rest) (sym (pick_yes test r s (t ∷ (tokens ++ rest)) (passes t tokens a h))) (one (t ∷ tokens) rest a h (clear_left N1 (union N2 (only_if e2 T)) rest clear))
pick_reads q1 q2 r s N1 N2 T e2 test one two solid blank passes fails covers [] rest a (inr h) clear =
    let right = clear_right N1 (union N2 (only_if e2 T)) rest clear in
    subst (λ x. Reads x a rest) (sym (pick_no test r s rest (fails_next test T covers rest (clear_only e2 T rest (blank a h) (clear_right N2 (only_if e2 T) rest right))))) (two [] rest a h (clear_left N2 (only_if e2 T) rest right))
pick_reads q1 q2 r s N1 N2 T e2 test one two solid blank passes fails covers (t ∷ tokens) rest a (inr h) clear =
    subst (λ x. Reads x a rest) (sym (pick_no test r s (t ∷ (tokens ++ rest)) (fails t tokens a h))) (two (t ∷ tokens) rest a h (clear_left N2 (only_if e2 T) rest (clear_right N1 (union N2 (only_if e2 T)) rest clear)))

pub false_true : {A : Type 0} → (let x : Bool = false in let y : Bool = true in x ≡ y) → A
false_true h = absurd cc

pub pick-predictive : {A : Type 0} {n m : ℕ} {p1 p2 q1 q2 : Phrase A} {r s : Reader A} {F1 N1 F2 N2 : Set} {e2 : Bool} (test : Lexeme → Bool) (T : Set)
    → Predictive n m p1 q1 r F1 N1 false → Predictive n m p2 q2 s F2 N2 e2
    → ((t : Lexeme) (ts : List Lexeme) (a : A) → q1 (t ∷ ts) a → test t ≡ true) → ((t : Lexeme) (ts : List Lexeme) (a : A) → q2 (t ∷ ts) a → test t ≡ false)
    → ((t : Lexeme) → test t ≡ true → has T t ≡ true)
    → Predictive n m (either p1 p2) (either q1 q2) (pick test r s) (union F1 F2) (union N1 (union N2 (only_if e2 T))) e2
pick-predictive {p1 = p1} {p2 = p2} {q1 = q1} {q2 = q2} {r = r} {s = s} {F1 = F1} {N1 = N1} {F2 = F2} {N2 = N2} {e2 = e2} test T one two passes fails covers = record {
  found = λ tokens rest a h. pick_found p1 p2 test one.found two.found tokens rest a (next_is test tokens) refl h;
  stopped = λ tokens rest why h. pick_stopped p1 p2 test one.stopped two.stopped tokens rest why (next_is test tokens) refl h;
  begun = begun_left p1 p2 [] one.begun;
  solid = λ a h. elim h [ inl x ↦ false_true (one.solid a x) | inr x ↦ two.solid a x ];
  begins = λ t ts a h. elim h [ inl x ↦ has_left F1 F2 t (one.begins t ts a x) | inr x ↦ has_right F1 F2 t (two.begins t ts a x) ];
  blank = λ a h. elim h [ inl x ↦ false_true (one.blank a x) | inr x ↦ two.blank a x ];
  reads = λ tokens rest a h clear. pick_reads q1 q2 r s N1 N2 T e2 test one.reads two.reads (λ b x. false_true (one.blank b x)) two.blank passes fails covers tokens rest a h clear;
  local = pick_local test one.local two.local;
}

-- the test is for the tokens that the first begins with
pub pick_first-predictive : {A : Type 0} {n m : ℕ} {p1 p2 q1 q2 : Phrase A} {r s : Reader A} {T N1 F2 N2 : Set} {e2 : Bool} (test : Lexeme → Bool)
    → ((t : Lexeme) → test t ≡ has T t)
    → Predictive n m p1 q1 r T N1 false → Predictive n m p2 q2 s F2 N2 e2 → disjoint F2 T ≡ true
    → Predictive n m (either p1 p2) (either q1 q2) (pick test r s) (union T F2) (union N1 (union N2 (only_if e2 T))) e2
pick_first-predictive {T = T} {F2 = F2} test exact one two apart = pick-predictive test T one two
    (λ t ts a h. exact t ∙ one.begins t ts a h) (λ t ts a h. exact t ∙ disjoint-has F2 T t apart (two.begins t ts a h)) (λ t h. sym (exact t) ∙ h)

-- ---- other phrases for the same

-- phrases that are the same for the one, and fewer for the other
pub other-predictive : {A : Type 0} {n m : ℕ} {p q : Phrase A} {r : Reader A} {F N : Set} {e : Bool} (p' q' : Phrase A)
    → ((tokens : List Lexeme) (a : A) → p tokens a → p' tokens a) → ((tokens : List Lexeme) (a : A) → p' tokens a → p tokens a)
    → ((tokens : List Lexeme) (a : A) → q' tokens a → q tokens a)
    → Predictive n m p q r F N e → Predictive n m p' q' r F N e
other-predictive {n = n} {p = p} p' q' there back fewer one = record {
  found = λ tokens rest a h. let f = one.found tokens rest a h in record { used = f.used; whole = f.whole; is = there f.used a f.is; room = f.room };
  stopped = λ tokens rest why h. wider_stopped n p p' wider tokens why rest (one.stopped tokens rest why h);
  begun = wider [] one.begun;
  solid = λ a h. one.solid a (back [] a h);
  begins = λ t ts a h. one.begins t ts a (fewer (t ∷ ts) a h);
  blank = λ a h. one.blank a (fewer [] a h);
  reads = λ tokens rest a h clear. one.reads tokens rest a (fewer tokens a h) clear;
  local = one.local;
}
  where
    wider : (tokens : List Lexeme) → Begun p tokens → Begun p' tokens
    wider tokens b = record { more = b.more; value = b.value; is = there (tokens ++ b.more) b.value b.is }

-- ---- where nothing may be opened

shut_by : {A : Type 0} (test : Lexeme → Bool) (tokens : List Lexeme) (b : Bool) → next_is test tokens ≡ b → shut {A = A} test tokens ≡ Err (elim b [ true ↦ stop.TooDeep | false ↦ stop.Unexpected ], tokens)
shut_by test tokens true e = rw e refl
shut_by test tokens false e = rw e refl

shut_stopped : {A : Type 0} (p : Phrase A) (test : Lexeme → Bool) → Begun p [] → ((t : Lexeme) → test t ≡ true → (is_opening t ≡ true) × Begun p (t ∷ []))
    → (tokens rest : List Lexeme) (why : Stop) (b : Bool) → next_is test tokens ≡ b → shut {A = A} test tokens ≡ Err (why, rest) → Stopped 0 p tokens why rest
shut_stopped {A} p test begun opens tokens rest why false e h =
    let is = sym (shut_by {A = A} test tokens false e) ∙ h in
    record { done = []; whole = same_stop is; begun = begun; cause = subst (λ w. Cause 0 p w [] rest) (same_why is) (0, refl) }
shut_stopped {A} p test begun opens [] rest why true e h = false_true e
shut_stopped {A} p test begun opens (t ∷ tokens) rest why true e h =
    let is = sym (shut_by {A = A} test (t ∷ tokens) true e) ∙ h in
    record {
      done = [];
      whole = same_stop is;
      begun = begun;
      cause = subst (λ w. Cause 0 p w [] rest) (same_why is) (refl, record { next = t; more = tokens; is = sym (same_stop is); opens = (opens t e).0; begun = (opens t e).1 });
    }

shut_found : {A B : Type 0} (test : Lexeme → Bool) (tokens rest : List Lexeme) (a : A) (b : Bool) → next_is test tokens ≡ b → shut {A = A} test tokens ≡ Ok (a, rest) → B
shut_found {A} test tokens rest a true e h = let is = sym (shut_by {A = A} test tokens true e) ∙ h in absurd cc
shut_found {A} test tokens rest a false e h = let is = sym (shut_by {A = A} test tokens false e) ∙ h in absurd cc

shut_err : {A : Type 0} (test : Lexeme → Bool) (u v rest other : List Lexeme) (why : Stop) (b : Bool) → next rest ≡ next other → next_is test (u ++ rest) ≡ b → shut {A = A} test (u ++ rest) ≡ Err (why, v ++ rest) → shut {A = A} test (u ++ other) ≡ Err (why, v ++ other)
shut_err {A} test u v rest other why b same e h =
    let is = sym (shut_by {A = A} test (u ++ rest) b e) ∙ h in
    shut_by test (u ++ other) b (sym (next_is-append test u rest other same) ∙ e) ∙ (λ i. Err (same_why is i, append_cancel_right u v rest (same_stop is) i ++ other))

pub shut-predictive : {A : Type 0} {m : ℕ} (p q : Phrase A) (test : Lexeme → Bool) (F : Set) → Begun p []
    → ((a : A) → p [] a → ⊥) → ((a : A) → q [] a → ⊥)
    → ((t : Lexeme) → test t ≡ true → (is_opening t ≡ true) × Begun p (t ∷ []))
    → ((t : Lexeme) (ts : List Lexeme) (a : A) → q (t ∷ ts) a → test t ≡ true) → ((t : Lexeme) → test t ≡ true → has F t ≡ true)
    → Predictive 0 m p q (shut test) F no_tokens false
shut-predictive {A} p q test F begun solid blank opens passes covers = record {
  found = λ tokens rest a h. shut_found test tokens rest a (next_is test tokens) refl h;
  stopped = λ tokens rest why h. shut_stopped p test begun opens tokens rest why (next_is test tokens) refl h;
  begun = begun;
  solid = λ a h. absurd (solid a h);
  begins = λ t ts a h. covers t (passes t ts a h);
  blank = λ a h. absurd (blank a h);
  reads = reads;
  local = record {
    ok = λ u v rest other a same h. shut_found test (u ++ rest) (v ++ rest) a (next_is test (u ++ rest)) refl h;
    err = λ u v rest other why same h. shut_err test u v rest other why (next_is test (u ++ rest)) same refl h;
  };
}
  where
    reads : (tokens rest : List Lexeme) (a : A) → q tokens a → Clear no_tokens rest → Reads (shut {A = A} test (tokens ++ rest)) a rest
    reads [] rest a h clear = absurd (blank a h)
    reads (t ∷ tokens) rest a h clear = inr (record { rest = t ∷ (tokens ++ rest); is = shut_by test (t ∷ (tokens ++ rest)) true (passes t tokens a h) })

-- ---- any number

abbrev more_of : {A : Type 0} (p : Phrase A) → A → Phrase (List A)
more_of p a = phrase.◌>>=◌ (phrase.many p) (λ vs. returns (a ∷ vs))

abbrev more_by : {A : Type 0} → Reader (List A) → A → Reader (List A)
more_by r a = reading.◌>>=◌ r (λ vs. gives (a ∷ vs))

many_more : {A : Type 0} (p : Phrase A) (tokens : List Lexeme) (vs : List A) → phrase.◌>>=◌ p (more_of p) tokens vs → phrase.many p tokens vs
many_more p tokens vs h =
    let inner = h.1.back_is in
    subst (phrase.many p tokens) (sym inner.1.back_is.1)
    (record {
      front = h.1.front;
      back = h.1.back;
      whole = h.1.whole;
      front_is = h.1.front_is;
      back_is = subst (λ w. phrase.many p w inner.0) (sym (append-nil inner.1.front) ∙ ap (λ w. inner.1.front ++ w) (sym inner.1.back_is.0) ∙ sym inner.1.whole) inner.1.front_is;
    })

many_none : {A : Type 0} (p : Phrase A) (tokens : List Lexeme) (vs : List A) → tokens ≡ [] → vs ≡ [] → phrase.many p tokens vs
many_none p tokens vs e f = subst (phrase.many p tokens) (sym f) e

pub many_begun : {A : Type 0} (p : Phrase A) → Begun (phrase.many p) []
many_begun p = record { more = []; value = []; is = refl }

pub more_begun : {A : Type 0} (p : Phrase A) (a : A) → Begun (more_of p a) []
more_begun p a = begun_first [] (many_begun p) (λ vs. record { more = []; value = a ∷ vs; is = (refl, refl) })

gives_found : {A : Type 0} {n : ℕ} (a : A) (tokens rest : List Lexeme) (value : A) → gives a tokens ≡ Ok (value, rest) → Found n n (returns a) tokens value rest
gives_found {n = n} a = (returns-predictive {room = n} a).found

gives_stopped : {A : Type 0} (n : ℕ) (a : A) (tokens rest : List Lexeme) (why : Stop) → gives a tokens ≡ Err (why, rest) → Stopped n (returns a) tokens why rest
gives_stopped n a = (returns-predictive {room = n} a).stopped

module _ {A : Type 0} (n : ℕ) (p : Phrase A) (r : Reader A) (test : Lexeme → Bool)
    (found : (tokens rest : List Lexeme) (a : A) → r tokens ≡ Ok (a, rest) → Found n n p tokens a rest)
    (stops : (tokens rest : List Lexeme) (why : Stop) → r tokens ≡ Err (why, rest) → Stopped n p tokens why rest)
    (begun : Begun p []) where
  many_found : (f : ℕ) (tokens rest : List Lexeme) (vs : List A) → reading.many_at f test r tokens ≡ Ok (vs, rest) → Found n n (phrase.many p) tokens vs rest
  many_found zero tokens rest vs h = record { used = []; whole = same_rest h; is = many_none p [] vs refl (sym (same_value h)); room = refl }
  many_found (suc f) tokens rest vs h =
      let one = pick_found (phrase.◌>>=◌ p (more_of p)) (returns []) test
      (λ ts rs vs h. bind_found found (λ a ts rs bs h. bind_found (many_found f) (λ cs ts rs bs h. gives_found (a ∷ cs) ts rs bs h) ts rs bs (reading.many_at f test r ts) refl h) ts rs vs (r ts) refl h)
      (gives_found []) tokens rest vs (next_is test tokens) refl h in
      record {
        used = one.used;
        whole = one.whole;
        room = one.room;
        is = elim one.is [ inl x ↦ many_more p one.used vs x | inr x ↦ many_none p one.used vs x.0 x.1 ];
      }

  -- where the first comes
  more_found : (f : ℕ) (tokens rest : List Lexeme) (vs : List A) → behind (r tokens) (more_by (reading.many_at f test r)) ≡ Ok (vs, rest) → Found n n (phrase.◌>>=◌ p (more_of p)) tokens vs rest
  more_found f tokens rest vs h = bind_found found (λ a ts rs bs h. bind_found (many_found f) (λ cs ts rs bs h. gives_found (a ∷ cs) ts rs bs h) ts rs bs (reading.many_at f test r ts) refl h) tokens rest vs (r tokens) refl h

  many_stopped : (f : ℕ) (tokens rest : List Lexeme) (why : Stop) → reading.many_at f test r tokens ≡ Err (why, rest) → Stopped n (phrase.many p) tokens why rest
  many_stopped zero tokens rest why h = absurd cc
  many_stopped (suc f) tokens rest why h =
      let one = pick_stopped {n = n} (phrase.◌>>=◌ p (more_of p)) (returns []) test
      (λ ts rs why h. bind_stopped n n p (more_of p) found stops
      (λ a ts rs why h. bind_stopped n n (phrase.many p) (λ cs. returns (a ∷ cs)) (many_found f) (many_stopped f) (λ cs. gives_stopped n (a ∷ cs)) (λ cs. record { more = []; value = a ∷ cs; is = (refl, refl) }) ts rs why (reading.many_at f test r ts) refl h)
      (more_begun p) ts rs why (r ts) refl h)
      (gives_stopped n []) tokens rest why (next_is test tokens) refl h in
      wider_stopped n (either (phrase.◌>>=◌ p (more_of p)) (returns [])) (phrase.many p)
      (λ ts b. record { more = b.more; value = b.value; is = elim b.is [ inl x ↦ many_more p (ts ++ b.more) b.value x | inr x ↦ many_none p (ts ++ b.more) b.value x.0 x.1 ] })
      tokens why rest one

  more_stopped : (f : ℕ) (tokens rest : List Lexeme) (why : Stop) → behind (r tokens) (more_by (reading.many_at f test r)) ≡ Err (why, rest) → Stopped n (phrase.◌>>=◌ p (more_of p)) tokens why rest
  more_stopped f tokens rest why h = bind_stopped n n p (more_of p) found stops
      (λ a ts rs why h. bind_stopped n n (phrase.many p) (λ cs. returns (a ∷ cs)) (many_found f) (many_stopped f) (λ cs. gives_stopped n (a ∷ cs)) (λ cs. record { more = []; value = a ∷ cs; is = (refl, refl) }) ts rs why (reading.many_at f test r ts) refl h)
      (more_begun p) tokens rest why (r tokens) refl h

many_yes : {A : Type 0} (test : Lexeme → Bool) (r : Reader A) (f : ℕ) (tokens : List Lexeme) → next_is test tokens ≡ true → reading.many_at (suc f) test r tokens ≡ behind (r tokens) (more_by (reading.many_at f test r))
many_yes test r f tokens e = rw e refl

many_no : {A : Type 0} (test : Lexeme → Bool) (r : Reader A) (f : ℕ) (tokens : List Lexeme) → next_is test tokens ≡ false → reading.many_at f test r tokens ≡ Ok ([], tokens)
many_no test r zero tokens e = refl
many_no test r (suc f) tokens e = rw e refl

many_nil : {A : Type 0} (test : Lexeme → Bool) (r : Reader A) (f : ℕ) → reading.many_at f test r [] ≡ Ok ([], [])
many_nil test r f = many_no test r f [] refl

-- ---- any number: what is read

many_begins : {A : Type 0} (q : Phrase A) (F : Set) → ((t : Lexeme) (ts : List Lexeme) (a : A) → q (t ∷ ts) a → has F t ≡ true) → ((a : A) → q [] a → ⊥)
    → (t : Lexeme) (ts : List Lexeme) (vs : List A) → phrase.many q (t ∷ ts) vs → has F t ≡ true
many_begins q F begins blank t ts [] h = absurd cc
many_begins {A} q F begins blank t ts (a ∷ vs) h = by h.front h.whole h.front_is
  where
    by : (front : List Lexeme) → t ∷ ts ≡ front ++ h.back → q front a → has F t ≡ true
    by [] e is = absurd (blank a is)
    by (x ∷ front) e is = let same : t ≡ x = cc in ap (has F) same ∙ begins x front a is

some_more : (front back : List Lexeme) (f : ℕ) → (front ≡ [] → ⊥) → length (front ++ back) ≤ f → (g : ℕ) × (f ≡ suc g) × (length back ≤ g)
some_more [] back f some le = absurd (some refl)
some_more (t ∷ front) back zero some le = absurd (omega arith)
some_more (t ∷ front) back (suc f) some le = (f, refl, omega (arith, length-append front back))

many_reads : {A : Type 0} (q : Phrase A) (r : Reader A) (F N T : Set) (test : Lexeme → Bool)
    → ((tokens rest : List Lexeme) (a : A) → q tokens a → Clear N rest → Reads (r (tokens ++ rest)) a rest)
    → ((t : Lexeme) (ts : List Lexeme) (a : A) → q (t ∷ ts) a → has F t ≡ true) → ((a : A) → q [] a → ⊥)
    → ((t : Lexeme) → has F t ≡ true → test t ≡ true) → ((t : Lexeme) → test t ≡ true → has T t ≡ true) → disjoint F N ≡ true
    → (f : ℕ) (tokens rest : List Lexeme) (vs : List A) → length (tokens ++ rest) ≤ f → phrase.many q tokens vs → Clear (union T N) rest → Reads (reading.many_at f test r (tokens ++ rest)) vs rest
many_reads q r F N T test reads begins blank passes covers apart f tokens rest [] le h clear =
    inl (ap (λ ts. reading.many_at f test r (ts ++ rest)) h ∙ many_no test r f rest (fails_next test T covers rest (clear_left T N rest clear)))
many_reads {A} q r F N T test reads begins blank passes covers apart f tokens rest (a ∷ vs) le h clear =
    subst (λ w. Reads (reading.many_at f test r w) (a ∷ vs) rest) (sym whole) (subst (λ g. Reads (reading.many_at g test r (h.front ++ (h.back ++ rest))) (a ∷ vs) rest) (sym less.1) (subst (λ x. Reads x (a ∷ vs) rest) (sym (many_yes test r less.0 (h.front ++ (h.back ++ rest)) yes_first)) (turn (λ g le. many_reads q r F N T test reads begins blank passes covers apart g h.back rest vs le h.back_is clear))))
  where
    whole : tokens ++ rest ≡ h.front ++ (h.back ++ rest)
    whole = ap (λ w. w ++ rest) h.whole ∙ append_assoc h.front h.back rest

    solid : h.front ≡ [] → ⊥
    solid e = blank a (subst (λ w. q w a) e h.front_is)

    less : (g : ℕ) × (f ≡ suc g) × (length (h.back ++ rest) ≤ g)
    less = some_more h.front (h.back ++ rest) f solid (subst (λ w. length w ≤ f) whole le)

    first_passes : (front : List Lexeme) → q front a → next_is test (front ++ (h.back ++ rest)) ≡ true
    first_passes [] is = absurd (blank a is)
    first_passes (x ∷ front) is = passes x (begins x front a is)

    yes_first : next_is test (h.front ++ (h.back ++ rest)) ≡ true
    yes_first = first_passes h.front h.front_is

    behind_clear : (back : List Lexeme) → phrase.many q back vs → Clear N (back ++ rest)
    behind_clear [] is = clear_right T N rest clear
    behind_clear (x ∷ back) is = disjoint-has F N x apart (many_begins q F begins blank x back vs is)

    turn : ((g : ℕ) → length (h.back ++ rest) ≤ g → Reads (reading.many_at g test r (h.back ++ rest)) vs rest) → Reads (behind (r (h.front ++ (h.back ++ rest))) (more_by (reading.many_at less.0 test r))) (a ∷ vs) rest
    turn others = bind_reads r (more_by (reading.many_at less.0 test r)) (h.front ++ (h.back ++ rest)) (h.back ++ rest) a (a ∷ vs)
        (reads h.front (h.back ++ rest) a h.front_is (behind_clear h.back h.back_is)) rest
        (bind_reads (reading.many_at less.0 test r) (λ bs. gives (a ∷ bs)) (h.back ++ rest) rest vs (a ∷ vs) (others less.0 less.2) rest (inl refl))

-- ---- any number: what it hangs on

nothing_at : (u rest other : List Lexeme) → next rest ≡ next other → u ++ rest ≡ [] → (u ≡ []) × (rest ≡ []) × (other ≡ [])
nothing_at [] [] [] same e = (refl, refl, refl)
nothing_at [] [] (o ∷ other) same e = absurd cc
nothing_at [] (t ∷ rest) other same e = absurd cc
nothing_at (t ∷ u) rest other same e = absurd cc

at_most_none : (tokens : List Lexeme) → length tokens ≤ 0 → tokens ≡ []
at_most_none [] le = refl
at_most_none (t ∷ tokens) le = absurd (omega arith)

next_same : (u rest other : List Lexeme) → next rest ≡ next other → u ++ other ≡ [] → u ++ rest ≡ []
next_same [] rest other same e = by rest same e
  where
    by : (rest : List Lexeme) → next rest ≡ next other → other ≡ [] → rest ≡ []
    by [] same e = refl
    by (t ∷ rest) same e = let no : Some t ≡ None = same ∙ ap next e in absurd cc
next_same (t ∷ u) rest other same e = absurd cc

module _ {A : Type 0} (p : Phrase A) (r : Reader A) (test : Lexeme → Bool) (n : ℕ)
    (found : (tokens rest : List Lexeme) (a : A) → r tokens ≡ Ok (a, rest) → Found n n p tokens a rest)
    (stops : (tokens rest : List Lexeme) (why : Stop) → r tokens ≡ Err (why, rest) → Stopped n p tokens why rest)
    (solid : (a : A) → p [] a → ⊥) (begun : Begun p []) (one : IsLocal r) where
  shorter : (tokens rest : List Lexeme) (a : A) (f : ℕ) → length tokens ≤ suc f → r tokens ≡ Ok (a, rest) → length rest ≤ f
  shorter tokens rest a f le h = let is = found tokens rest a h in by is.used is.whole is.is
    where
      by : (used : List Lexeme) → tokens ≡ used ++ rest → p used a → length rest ≤ f
      by [] e is = absurd (solid a is)
      by (t ∷ used) e is = omega (arith, ap length e, length-append used rest)

  -- behind all, the next token doesn't pass
  ends_turn : (f : ℕ) → ((tokens rest : List Lexeme) (vs : List A) → length tokens ≤ f → reading.many_at f test r tokens ≡ Ok (vs, rest) → next_is test rest ≡ false)
      → (tokens rest : List Lexeme) (vs : List A) (x : Reading A) (y : Reading (List A)) → length tokens ≤ suc f → r tokens ≡ x → reading.many_at f test r (rest_in x) ≡ y
      → behind x (more_by (reading.many_at f test r)) ≡ Ok (vs, rest) → next_is test rest ≡ false
  unfolding rest_in
  ends_turn f others tokens rest vs (Err e) y le reads turn h = absurd cc
  ends_turn f others tokens rest vs (Ok x) (Err e) le reads turn h = let no = sym (ap (λ w. behind w (λ bs. gives (x.0 ∷ bs))) turn) ∙ h in absurd cc
  ends_turn f others tokens rest vs (Ok x) (Ok y) le reads turn h =
      let done = sym (ap (λ w. behind w (λ bs. gives (x.0 ∷ bs))) turn) ∙ h in
      others x.1 rest y.0 (shorter tokens x.1 x.0 f le reads) (turn ∙ (λ i. Ok (y.0, same_rest done i)))

  ends_by : (f : ℕ) → ((tokens rest : List Lexeme) (vs : List A) → length tokens ≤ f → reading.many_at f test r tokens ≡ Ok (vs, rest) → next_is test rest ≡ false)
      → (tokens rest : List Lexeme) (vs : List A) (b : Bool) → length tokens ≤ suc f → next_is test tokens ≡ b → reading.many_at (suc f) test r tokens ≡ Ok (vs, rest) → next_is test rest ≡ false
  ends_by f others tokens rest vs true le e h = ends_turn f others tokens rest vs (r tokens) (reading.many_at f test r (rest_in (r tokens))) le refl refl (sym (many_yes test r f tokens e) ∙ h)
  ends_by f others tokens rest vs false le e h = ap (next_is test) (sym (same_rest (sym (many_no test r (suc f) tokens e) ∙ h))) ∙ e

  pub many_ends : (f : ℕ) (tokens rest : List Lexeme) (vs : List A) → length tokens ≤ f → reading.many_at f test r tokens ≡ Ok (vs, rest) → next_is test rest ≡ false
  many_ends zero tokens rest vs le h = ap (next_is test) (sym (same_rest h) ∙ at_most_none tokens le)
  many_ends (suc f) tokens rest vs le h = ends_by f (many_ends f) tokens rest vs (next_is test tokens) le refl h

  -- what the turn after the first leaves
  many_used : (f : ℕ) (tokens rest : List Lexeme) (vs : List A) → reading.many_at f test r tokens ≡ Ok (vs, rest) → (u : List Lexeme) × (tokens ≡ u ++ rest)
  many_used f tokens rest vs h = let is = many_found n p r test found stops begun f tokens rest vs h in (is.used, is.whole)

  many_done : (f : ℕ) (tokens rest : List Lexeme) (why : Stop) → reading.many_at f test r tokens ≡ Err (why, rest) → (u : List Lexeme) × (tokens ≡ u ++ rest)
  many_done f tokens rest why h = let is = many_stopped n p r test found stops begun f tokens rest why h in (is.done, is.whole)

  abbrev KeepsOk : ℕ → ℕ → Type 0
  KeepsOk f g = (u v rest other : List Lexeme) (vs : List A) → next rest ≡ next other → length (u ++ rest) ≤ f → length (u ++ other) ≤ g
      → reading.many_at f test r (u ++ rest) ≡ Ok (vs, v ++ rest) → reading.many_at g test r (u ++ other) ≡ Ok (vs, v ++ other)

  abbrev KeepsErr : ℕ → ℕ → Type 0
  KeepsErr f g = (u v rest other : List Lexeme) (why : Stop) → next rest ≡ next other → length (u ++ rest) ≤ f → length (u ++ other) ≤ g
      → reading.many_at f test r (u ++ rest) ≡ Err (why, v ++ rest) → reading.many_at g test r (u ++ other) ≡ Err (why, v ++ other)

  -- nothing is left
  ok_end : (f g : ℕ) (u v rest other : List Lexeme) (vs : List A) → next rest ≡ next other → u ++ rest ≡ [] → reading.many_at f test r (u ++ rest) ≡ Ok (vs, v ++ rest) → reading.many_at g test r (u ++ other) ≡ Ok (vs, v ++ other)
  ok_end f g u v rest other vs same e h =
      let all = nothing_at u rest other same e in
      let told : reading.many_at f test r [] ≡ Ok (vs, v ++ []) = ap (reading.many_at f test r) (sym e) ∙ h ∙ (λ i. Ok (vs, v ++ all.1 i)) in
      (λ i. reading.many_at g test r (all.0 i ++ all.2 i)) ∙ many_nil test r g ∙ sym (many_nil test r f) ∙ told ∙ (λ i. Ok (vs, v ++ sym all.2 i))

  err_end : (f g : ℕ) (u v rest other : List Lexeme) (why : Stop) → next rest ≡ next other → u ++ rest ≡ [] → reading.many_at f test r (u ++ rest) ≡ Err (why, v ++ rest) → reading.many_at g test r (u ++ other) ≡ Err (why, v ++ other)
  err_end f g u v rest other why same e h = let told = sym (ap (reading.many_at f test r) e ∙ many_nil test r f) ∙ h in absurd cc

  -- one more turn
  ok_turn : (f g : ℕ) → KeepsOk f g → (u v rest other : List Lexeme) (vs : List A) (x : Reading A) (y : Reading (List A)) → next rest ≡ next other → length (u ++ rest) ≤ suc f → length (u ++ other) ≤ suc g
      → r (u ++ rest) ≡ x → reading.many_at f test r (rest_in x) ≡ y
      → behind x (more_by (reading.many_at f test r)) ≡ Ok (vs, v ++ rest) → behind (r (u ++ other)) (more_by (reading.many_at g test r)) ≡ Ok (vs, v ++ other)
  unfolding rest_in
  ok_turn f g keeps u v rest other vs (Err e) y same le le2 reads turn h = absurd cc
  ok_turn f g keeps u v rest other vs (Ok x) (Err e) same le le2 reads turn h = let no = sym (ap (λ w. behind w (λ bs. gives (x.0 ∷ bs))) turn) ∙ h in absurd cc
  ok_turn f g keeps u v rest other vs (Ok x) (Ok y) same le le2 reads turn h =
      let done = sym (ap (λ w. behind w (λ bs. gives (x.0 ∷ bs))) turn) ∙ h in
      let last : y.1 ≡ v ++ rest = same_rest done in
      let used = many_used f x.1 (v ++ rest) y.0 (turn ∙ (λ i. Ok (y.0, last i))) in
      let whole : x.1 ≡ (used.0 ++ v) ++ rest = used.1 ∙ sym (append_assoc used.0 v rest) in
      let first : r (u ++ other) ≡ Ok (x.0, (used.0 ++ v) ++ other) = one.ok u (used.0 ++ v) rest other x.0 same (reads ∙ (λ i. Ok (x.0, whole i))) in
      let short = shorter (u ++ rest) x.1 x.0 f le reads in
      let others = keeps (used.0 ++ v) v rest other y.0 same (subst (λ w. length w ≤ f) whole short) (shorter (u ++ other) ((used.0 ++ v) ++ other) x.0 g le2 first)
      (ap (reading.many_at f test r) (sym whole) ∙ turn ∙ (λ i. Ok (y.0, last i))) in
      ap (λ w. behind w (more_by (reading.many_at g test r))) first ∙ ap (λ w. behind w (λ bs. gives (x.0 ∷ bs))) others ∙ (λ i. Ok (same_value done i, v ++ other))

  err_turn : (f g : ℕ) → KeepsErr f g → (u v rest other : List Lexeme) (why : Stop) (x : Reading A) (y : Reading (List A)) → next rest ≡ next other → length (u ++ rest) ≤ suc f → length (u ++ other) ≤ suc g
      → r (u ++ rest) ≡ x → reading.many_at f test r (rest_in x) ≡ y
      → behind x (more_by (reading.many_at f test r)) ≡ Err (why, v ++ rest) → behind (r (u ++ other)) (more_by (reading.many_at g test r)) ≡ Err (why, v ++ other)
  unfolding rest_in
  err_turn f g keeps u v rest other why (Err e) y same le le2 reads turn h =
      ap (λ w. behind w (more_by (reading.many_at g test r))) (one.err u v rest other why same (reads ∙ (λ i. Err (same_why h i, same_stop h i))))
  err_turn f g keeps u v rest other why (Ok x) (Ok y) same le le2 reads turn h = let no = sym (ap (λ w. behind w (λ bs. gives (x.0 ∷ bs))) turn) ∙ h in absurd cc
  err_turn f g keeps u v rest other why (Ok x) (Err y) same le le2 reads turn h =
      let done = sym (ap (λ w. behind w (λ bs. gives (x.0 ∷ bs))) turn) ∙ h in
      let told : reading.many_at f test r x.1 ≡ Err (why, v ++ rest) = turn ∙ (λ i. Err (same_why done i, same_stop done i)) in
      let used = many_done f x.1 (v ++ rest) why told in
      let whole : x.1 ≡ (used.0 ++ v) ++ rest = used.1 ∙ sym (append_assoc used.0 v rest) in
      let first : r (u ++ other) ≡ Ok (x.0, (used.0 ++ v) ++ other) = one.ok u (used.0 ++ v) rest other x.0 same (reads ∙ (λ i. Ok (x.0, whole i))) in
      let short = shorter (u ++ rest) x.1 x.0 f le reads in
      let others = keeps (used.0 ++ v) v rest other why same (subst (λ w. length w ≤ f) whole short) (shorter (u ++ other) ((used.0 ++ v) ++ other) x.0 g le2 first)
      (ap (reading.many_at f test r) (sym whole) ∙ told) in
      ap (λ w. behind w (more_by (reading.many_at g test r))) first ∙ ap (λ w. behind w (λ bs. gives (x.0 ∷ bs))) others

  ok_by : (f g : ℕ) → KeepsOk f g → (u v rest other : List Lexeme) (vs : List A) (b : Bool) → next rest ≡ next other → length (u ++ rest) ≤ suc f → length (u ++ other) ≤ suc g → next_is test (u ++ rest) ≡ b
      → reading.many_at (suc f) test r (u ++ rest) ≡ Ok (vs, v ++ rest) → reading.many_at (suc g) test r (u ++ other) ≡ Ok (vs, v ++ other)
  ok_by f g keeps u v rest other vs true same le le2 e h =
      many_yes test r g (u ++ other) (sym (next_is-append test u rest other same) ∙ e)
      ∙ ok_turn f g keeps u v rest other vs (r (u ++ rest)) (reading.many_at f test r (rest_in (r (u ++ rest)))) same le le2 refl refl (sym (many_yes test r f (u ++ rest) e) ∙ h)
  ok_by f g keeps u v rest other vs false same le le2 e h =
      let done = sym (many_no test r (suc f) (u ++ rest) e) ∙ h in
      many_no test r (suc g) (u ++ other) (sym (next_is-append test u rest other same) ∙ e)
      ∙ (λ i. Ok (same_value done i, append_cancel_right u v rest (same_rest done) i ++ other))

  err_by : (f g : ℕ) → KeepsErr f g → (u v rest other : List Lexeme) (why : Stop) (b : Bool) → next rest ≡ next other → length (u ++ rest) ≤ suc f → length (u ++ other) ≤ suc g → next_is test (u ++ rest) ≡ b
      → reading.many_at (suc f) test r (u ++ rest) ≡ Err (why, v ++ rest) → reading.many_at (suc g) test r (u ++ other) ≡ Err (why, v ++ other)
  err_by f g keeps u v rest other why true same le le2 e h =
      many_yes test r g (u ++ other) (sym (next_is-append test u rest other same) ∙ e)
      ∙ err_turn f g keeps u v rest other why (r (u ++ rest)) (reading.many_at f test r (rest_in (r (u ++ rest)))) same le le2 refl refl (sym (many_yes test r f (u ++ rest) e) ∙ h)
  err_by f g keeps u v rest other why false same le le2 e h = let no = sym (many_no test r (suc f) (u ++ rest) e) ∙ h in absurd cc

  many_ok : (f g : ℕ) → KeepsOk f g
  many_ok zero g u v rest other vs same le le2 h = ok_end zero g u v rest other vs same (at_most_none (u ++ rest) le) h
  many_ok (suc f) zero u v rest other vs same le le2 h = ok_end (suc f) zero u v rest other vs same (next_same u rest other same (at_most_none (u ++ other) le2)) h
  many_ok (suc f) (suc g) u v rest other vs same le le2 h = ok_by f g (many_ok f g) u v rest other vs (next_is test (u ++ rest)) same le le2 refl h

  many_err : (f g : ℕ) → KeepsErr f g
  many_err zero g u v rest other why same le le2 h = err_end zero g u v rest other why same (at_most_none (u ++ rest) le) h
  many_err (suc f) zero u v rest other why same le le2 h = err_end (suc f) zero u v rest other why same (next_same u rest other same (at_most_none (u ++ other) le2)) h
  many_err (suc f) (suc g) u v rest other why same le le2 h = err_by f g (many_err f g) u v rest other why (next_is test (u ++ rest)) same le le2 refl h

  pub many_local : IsLocal (reading.many test r)
  many_local = record {
    ok = λ u v rest other vs same h. many_ok (length (u ++ rest)) (length (u ++ other)) u v rest other vs same (omega arith) (omega arith) h;
    err = λ u v rest other why same h. many_err (length (u ++ rest)) (length (u ++ other)) u v rest other why same (omega arith) (omega arith) h;
  }

pub many-predictive : {A : Type 0} {n : ℕ} {p q : Phrase A} {r : Reader A} {F N : Set} (test : Lexeme → Bool) (T : Set)
    → ((t : Lexeme) → has F t ≡ true → test t ≡ true) → ((t : Lexeme) → test t ≡ true → has T t ≡ true) → disjoint F N ≡ true
    → Predictive n n p q r F N false → Predictive n n (phrase.many p) (phrase.many q) (reading.many test r) F (union T N) true
many-predictive {n = n} {p = p} {q = q} {r = r} {F = F} {N = N} test T passes covers apart one = record {
  found = λ tokens rest vs h. many_found n p r test one.found one.stopped one.begun (length tokens) tokens rest vs h;
  stopped = λ tokens rest why h. many_stopped n p r test one.found one.stopped one.begun (length tokens) tokens rest why h;
  begun = many_begun p;
  solid = λ vs h. refl;
  begins = λ t ts vs h. many_begins q F one.begins (λ a x. false_true (one.blank a x)) t ts vs h;
  blank = λ vs h. refl;
  reads = λ tokens rest vs h clear. many_reads q r F N T test one.reads one.begins (λ a x. false_true (one.blank a x)) passes covers apart (length (tokens ++ rest)) tokens rest vs (omega arith) h clear;
  local = many_local p r test n one.found one.stopped (λ a x. false_true (one.solid a x)) one.begun one.local;
}

-- ---- at least one

some_turn : {A : Type 0} (test : Lexeme → Bool) (r : Reader A) (tokens : List Lexeme) → next_is test tokens ≡ true → (f : ℕ) × (reading.many test r tokens ≡ behind (r tokens) (more_by (reading.many_at f test r)))
some_turn test r [] e = false_true e
some_turn test r (t ∷ tokens) e =
    let k : length (t ∷ tokens) ≡ suc (length tokens) = omega arith in
    (length tokens, ap (λ f. reading.many_at f test r (t ∷ tokens)) k ∙ many_yes test r (length tokens) (t ∷ tokens) e)

abbrev none_comes : {A : Type 0} → Reader A
none_comes tokens = Err (stop.Unexpected, tokens)

module _ {A : Type 0} (n : ℕ) (p : Phrase A) (r : Reader A) (test : Lexeme → Bool)
    (found : (tokens rest : List Lexeme) (a : A) → r tokens ≡ Ok (a, rest) → Found n n p tokens a rest)
    (stops : (tokens rest : List Lexeme) (why : Stop) → r tokens ≡ Err (why, rest) → Stopped n p tokens why rest)
    (begun : Begun p []) where
  some_begun : Begun (phrase.some p) []
  some_begun = begun_first [] begun (more_begun p)

  some_found : (tokens rest : List Lexeme) (vs : List A) (b : Bool) → next_is test tokens ≡ b → reading.some test r tokens ≡ Ok (vs, rest) → Found n n (phrase.some p) tokens vs rest
  some_found tokens rest vs true e h =
      let turn = some_turn test r tokens e in
      more_found n p r test found stops begun turn.0 tokens rest vs (sym turn.1 ∙ sym (pick_yes test (reading.many test r) none_comes tokens e) ∙ h)
  some_found tokens rest vs false e h = let no = sym (pick_no test (reading.many test r) none_comes tokens e) ∙ h in absurd cc

  some_stopped : (tokens rest : List Lexeme) (why : Stop) (b : Bool) → next_is test tokens ≡ b → reading.some test r tokens ≡ Err (why, rest) → Stopped n (phrase.some p) tokens why rest
  some_stopped tokens rest why true e h =
      let turn = some_turn test r tokens e in
      more_stopped n p r test found stops begun turn.0 tokens rest why (sym turn.1 ∙ sym (pick_yes test (reading.many test r) none_comes tokens e) ∙ h)
  some_stopped tokens rest why false e h =
      let is = sym (pick_no test (reading.many test r) none_comes tokens e) ∙ h in
      record { done = []; whole = same_stop is; begun = some_begun; cause = subst (λ w. Cause n (phrase.some p) w [] rest) (same_why is) (n, refl) }

none_local : {A : Type 0} → IsLocal (none_comes {A = A})
none_local = record {
  ok = λ u v rest other a same h. absurd cc;
  err = λ u v rest other why same h. λ i. Err (same_why h i, append_cancel_right u v rest (same_stop h) i ++ other);
}

some_is_more : {A : Type 0} (q : Phrase A) (tokens : List Lexeme) (vs : List A) → phrase.some q tokens vs → phrase.many q tokens vs
some_is_more q tokens vs h = many_more q tokens vs h

some_nil : {A : Type 0} (q : Phrase A) → ((a : A) → q [] a → ⊥) → (vs : List A) → phrase.some q [] vs → ⊥
some_nil q blank vs h = let none = nil_both h.1.front h.1.back h.1.whole in blank h.0 (subst (λ w. q w h.0) none.0 h.1.front_is)

pub some-predictive : {A : Type 0} {n : ℕ} {p q : Phrase A} {r : Reader A} {F N : Set} (test : Lexeme → Bool) (T : Set)
    → ((t : Lexeme) → has F t ≡ true → test t ≡ true) → ((t : Lexeme) → test t ≡ true → has T t ≡ true) → disjoint F N ≡ true
    → Predictive n n p q r F N false → Predictive n n (phrase.some p) (phrase.some q) (reading.some test r) F (union T N) false
some-predictive {A} {n = n} {p = p} {q = q} {r = r} {F = F} {N = N} test T passes covers apart one = record {
  found = λ tokens rest vs h. some_found n p r test one.found one.stopped one.begun tokens rest vs (next_is test tokens) refl h;
  stopped = λ tokens rest why h. some_stopped n p r test one.found one.stopped one.begun tokens rest why (next_is test tokens) refl h;
  begun = some_begun n p r test one.found one.stopped one.begun;
  solid = λ vs h. absurd (some_nil p (λ a x. false_true (one.solid a x)) vs h);
  begins = λ t ts vs h. many_begins q F one.begins (λ a x. false_true (one.blank a x)) t ts vs (some_is_more q (t ∷ ts) vs h);
  blank = λ vs h. absurd (some_nil q (λ a x. false_true (one.blank a x)) vs h);
  reads = reads;
  local = pick_local test (many_local p r test n one.found one.stopped (λ a x. false_true (one.solid a x)) one.begun one.local) none_local;
}
  where
    reads : (tokens rest : List Lexeme) (vs : List A) → phrase.some q tokens vs → Clear (union T N) rest → Reads (reading.some test r (tokens ++ rest)) vs rest
    reads [] rest vs h clear = absurd (some_nil q (λ a x. false_true (one.blank a x)) vs h)
    reads (t ∷ tokens) rest vs h clear =
        let all = some_is_more q (t ∷ tokens) vs h in
        subst (λ x. Reads x vs rest) (sym (pick_yes test (reading.many test r) none_comes (t ∷ (tokens ++ rest)) (passes t (many_begins q F one.begins (λ a x. false_true (one.blank a x)) t tokens vs all))))
        (many_reads q r F N T test one.reads one.begins (λ a x. false_true (one.blank a x)) passes covers apart (length (t ∷ (tokens ++ rest))) (t ∷ tokens) rest vs (omega arith) all clear)

-- ---- a token that stands nowhere

-- a reader that takes no token of a set
pub forbid-predictive : {A : Type 0} {n m : ℕ} {p q : Phrase A} {s : Reader A} {F N : Set} (test : Lexeme → Bool)
    → ((t : Lexeme) → has F t ≡ true → test t ≡ false)
    → Predictive n m p q s F N false → Predictive n m (either never p) (either never q) (pick test none_comes s) F N false
forbid-predictive {A} {n = n} {m = m} {p = p} {q = q} {s = s} {F = F} {N = N} test fails one = record {
  found = λ tokens rest a h. found tokens rest a (next_is test tokens) refl h;
  stopped = λ tokens rest why h. wider_stopped n p (either never p) (begun_right never p) tokens why rest (stopped tokens rest why (next_is test tokens) refl h);
  begun = begun_right never p [] one.begun;
  solid = λ a h. elim h [ inl x ↦ absurd x | inr x ↦ one.solid a x ];
  begins = λ t ts a h. elim h [ inl x ↦ absurd x | inr x ↦ one.begins t ts a x ];
  blank = λ a h. elim h [ inl x ↦ absurd x | inr x ↦ one.blank a x ];
  reads = λ tokens rest a h clear. elim h [ inl x ↦ absurd x | inr x ↦ reads tokens rest a x clear ];
  local = pick_local test none_local one.local;
}
  where
    found : (tokens rest : List Lexeme) (a : A) (b : Bool) → next_is test tokens ≡ b → pick test none_comes s tokens ≡ Ok (a, rest) → Found n m (either never p) tokens a rest
    found tokens rest a true e h = let no = sym (pick_yes test none_comes s tokens e) ∙ h in absurd cc
    found tokens rest a false e h = let f = one.found tokens rest a (sym (pick_no test none_comes s tokens e) ∙ h) in record { used = f.used; whole = f.whole; is = inr f.is; room = f.room }

    stopped : (tokens rest : List Lexeme) (why : Stop) (b : Bool) → next_is test tokens ≡ b → pick test none_comes s tokens ≡ Err (why, rest) → Stopped n p tokens why rest
    stopped tokens rest why true e h =
        let is = sym (pick_yes test none_comes s tokens e) ∙ h in
        record { done = []; whole = same_stop is; begun = one.begun; cause = subst (λ w. Cause n p w [] rest) (same_why is) (n, refl) }
    stopped tokens rest why false e h = one.stopped tokens rest why (sym (pick_no test none_comes s tokens e) ∙ h)

    reads : (tokens rest : List Lexeme) (a : A) → q tokens a → Clear N rest → Reads (pick test none_comes s (tokens ++ rest)) a rest
    reads [] rest a h clear = false_true (one.blank a h)
    reads (t ∷ tokens) rest a h clear =
        subst (λ x. Reads x a rest) (sym (pick_no test none_comes s (t ∷ (tokens ++ rest)) (fails t (one.begins t tokens a h)))) (one.reads (t ∷ tokens) rest a h clear)
