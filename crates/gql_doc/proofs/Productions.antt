-- The parser's readers read the productions of the grammar, and stop where no document goes on.
use Rattle.std.proofs.Common.{◌≡◌, inl, inr, ℕ, zero, suc, Bool, true, false, ◌||◌, ◌&&◌, not, List, [], ◌∷◌, ◌++◌, Option, Some, None, length, Ok, Err, refl, sym, ap, subst, ◌∙◌, codes, arith}
use Rattle.std.specs.Str.{bytes_eq}
use Rattle.std.proofs.lemmas.List.{append-nil}
use Rattle.std.proofs.lemmas.Slice.Eq.{bytes_eq-Decides}
use Rattle.gql_tree.specs.declared.delivery.Spot.{Spot}
use Rattle.gql_lex.specs.Tokens.{Lexeme}
use Rattle.gql_lex.specs.declared.token.TokenKind.{TokenKind}
use Rattle.gql_lex.specs.declared.token.TokenKind.TheVariants as kind
use Rattle.gql_doc.specs.Phrase.{Phrase, token, returns, either, never}
use Rattle.gql_doc.specs.Phrase as phrase
use Rattle.gql_doc.specs.Grammar as grammar
use Rattle.gql_doc.specs.inner.Reading.{Reader, gives, next_is, take, pick, shut}
use Rattle.gql_doc.specs.inner.Reading as reading
use Rattle.gql_doc.specs.StringValue.{string_value}
use Rattle.gql_doc.specs.Terminals.{is_punctuator, is_name, is_number, is_string, is_word, is_fragment_name, is_enum_value, is_operation_type, is_opening, is_closing}
use Rattle.gql_doc.specs.Nesting.{room_behind}
use Rattle.gql_doc.specs.declared.parser.Stop.TheVariants as stop
use Rattle.gql_doc.proofs.Sets.{Set, no_tokens, this, names, numbers, strings, all_tokens, union, only_if, has, disjoint, disjoint-has, has-union, or_left, or_right, is_punctuator-has, is_name-has, is_number-has, is_string-has}
use Rattle.gql_doc.proofs.Predictive.{Begun, Predictive, returns-predictive, token-predictive, bind-predictive, bind_apart-predictive, pick-predictive, pick_first-predictive, other-predictive, shut-predictive, many-predictive, some-predictive, forbid-predictive, many_ends, false_true, pick_yes, pick_no, same_rest}
use Rattle.gql_model.specs.declared.syntax.Literal.{Literal}
use Rattle.gql_model.specs.declared.syntax.Literal.TheVariants as literal
use Rattle.gql_model.specs.declared.syntax.Argument.{roll-Argument}
use Rattle.gql_model.specs.declared.syntax.TypeRef.{TypeRef}
use Rattle.gql_model.specs.declared.syntax.TypeRef.TheVariants as type
use Rattle.gql_model.specs.declared.syntax.Selection.{Selection}
use Rattle.gql_model.specs.declared.syntax.Selection.TheVariants as selection
use Rattle.gql_model.specs.declared.syntax.InlineNode.{roll-InlineNode}
use Rattle.gql_model.specs.declared.syntax.FieldNode.{roll-FieldNode}
use Rattle.gql_model.specs.declared.syntax.Definition.{Definition}
use Rattle.gql_model.specs.declared.syntax.Document.{Document}

-- ---- single tokens

-- a token for each class
pub a_token : TokenKind → List ℕ → Lexeme
a_token k text = record { kind = k; text = text; start = 0; spot = record { line = 0; column = 0 } }

opening : Set
opening = union (this (codes "[")) (this (codes "{"))

closing : Set
closing = union (this (codes "]")) (this (codes "}"))

two_punctuators : (a b : List ℕ) (t : Lexeme) → (is_punctuator a t || is_punctuator b t) ≡ has (union (this a) (this b)) t
two_punctuators a b t = (λ i. is_punctuator-has a t i || is_punctuator-has b t i) ∙ sym (has-union (this a) (this b) t)

behind_plain : (n : ℕ) (t : Lexeme) (a b : Bool) → is_opening t ≡ a → is_closing t ≡ b → a ≡ false → b ≡ false → room_behind n t ≡ Some n
behind_plain n t a b opens closes e f = rw (opens, closes, e, f) refl

-- tokens of a set with no braces and brackets leave the room as it is
pub level_plain : (F : Set) (n : ℕ) → disjoint F (union (this (codes "[")) (this (codes "{"))) ≡ true → disjoint F (union (this (codes "]")) (this (codes "}"))) ≡ true → (t : Lexeme) → has F t ≡ true → room_behind n t ≡ Some n
level_plain F n one two t h = behind_plain n t _ _ refl refl
    (two_punctuators (codes "[") (codes "{") t ∙ disjoint-has F (union (this (codes "[")) (this (codes "{"))) t one h)
    (two_punctuators (codes "]") (codes "}") t ∙ disjoint-has F (union (this (codes "]")) (this (codes "}"))) t two h)

level_opens : (n : ℕ) (t : Lexeme) → is_opening t ≡ true → room_behind (suc n) t ≡ Some n
level_opens n t e = rw e refl

level_closes : (F : Set) (n : ℕ) → disjoint F (union (this (codes "[")) (this (codes "{"))) ≡ true → (t : Lexeme) → has F t ≡ true → is_closing t ≡ true → room_behind n t ≡ Some (suc n)
level_closes F n one t h e =
    let no = two_punctuators (codes "[") (codes "{") t ∙ disjoint-has F (union (this (codes "[")) (this (codes "{"))) t one h in
    rw (no, e) refl

pub punctuator_example : (text : List ℕ) → is_punctuator text (a_token kind.Punctuator text) ≡ true
unfolding a_token
punctuator_example text = (bytes_eq-Decides text text).1 refl

-- a punctuator that is no brace or bracket
pub punctuator-predictive : {n : ℕ} (text : List ℕ) → disjoint (this text) (union (this (codes "[")) (this (codes "{"))) ≡ true → disjoint (this text) (union (this (codes "]")) (this (codes "}"))) ≡ true
    → Predictive n n (grammar.punctuator text) (grammar.punctuator text) (reading.punctuator text) (this text) no_tokens false
punctuator-predictive {n = n} text one two = token-predictive (is_punctuator text) (this text) (a_token kind.Punctuator text) (punctuator_example text)
    (λ t h. sym (is_punctuator-has text t) ∙ h) (λ t h. level_plain (this text) n one two t (sym (is_punctuator-has text t) ∙ h))

pub opens-predictive : {n : ℕ} (text : List ℕ) → ((t : Lexeme) → is_punctuator text t ≡ true → is_opening t ≡ true)
    → Predictive (suc n) n (grammar.punctuator text) (grammar.punctuator text) (reading.punctuator text) (this text) no_tokens false
opens-predictive {n = n} text opens = token-predictive (is_punctuator text) (this text) (a_token kind.Punctuator text) (punctuator_example text)
    (λ t h. sym (is_punctuator-has text t) ∙ h) (λ t h. level_opens n t (opens t h))

pub closes-predictive : {n : ℕ} (text : List ℕ) → disjoint (this text) (union (this (codes "[")) (this (codes "{"))) ≡ true → ((t : Lexeme) → is_punctuator text t ≡ true → is_closing t ≡ true)
    → Predictive n (suc n) (grammar.punctuator text) (grammar.punctuator text) (reading.punctuator text) (this text) no_tokens false
closes-predictive {n = n} text one closes = token-predictive (is_punctuator text) (this text) (a_token kind.Punctuator text) (punctuator_example text)
    (λ t h. sym (is_punctuator-has text t) ∙ h) (λ t h. level_closes (this text) n one t (sym (is_punctuator-has text t) ∙ h) (closes t h))

bracket_opens : (t : Lexeme) → is_punctuator (codes "[") t ≡ true → is_opening t ≡ true
bracket_opens t h = or_left (is_punctuator (codes "[") t) (is_punctuator (codes "{") t) h

pub brace_opens : (t : Lexeme) → is_punctuator (codes "{") t ≡ true → is_opening t ≡ true
brace_opens t h = or_right (is_punctuator (codes "[") t) (is_punctuator (codes "{") t) h

bracket_closes : (t : Lexeme) → is_punctuator (codes "]") t ≡ true → is_closing t ≡ true
bracket_closes t h = or_left (is_punctuator (codes "]") t) (is_punctuator (codes "}") t) h

pub brace_closes : (t : Lexeme) → is_punctuator (codes "}") t ≡ true → is_closing t ≡ true
brace_closes t h = or_right (is_punctuator (codes "]") t) (is_punctuator (codes "}") t) h

pub name-predictive : {n : ℕ} → Predictive n n grammar.name grammar.name reading.name names no_tokens false
unfolding a_token
name-predictive {n = n} = token-predictive is_name names (a_token kind.Name (codes "a")) refl (λ t h. sym (is_name-has t) ∙ h) (λ t h. level_plain names n refl refl t (sym (is_name-has t) ∙ h))

pub and_first : (a b : Bool) → (a && b) ≡ true → a ≡ true
and_first true b h = refl
and_first false b h = h

-- a test that only names pass
pub word-predictive : {n : ℕ} (test : Lexeme → Bool) (example : Lexeme) → test example ≡ true → ((t : Lexeme) → test t ≡ true → is_name t ≡ true) → Predictive n n (token test) (token test) (take test) names no_tokens false
word-predictive {n = n} test example passes only = token-predictive test names example passes (λ t h. sym (is_name-has t) ∙ only t h) (λ t h. level_plain names n refl refl t (sym (is_name-has t) ∙ only t h))

pub word_is_name : (word : List ℕ) (t : Lexeme) → is_word word t ≡ true → is_name t ≡ true
word_is_name word t h = and_first (is_name t) _ h

fragment_name_is_name : (t : Lexeme) → is_fragment_name t ≡ true → is_name t ≡ true
fragment_name_is_name t h = and_first (is_name t) _ h

pub type_is_name : (t : Lexeme) → is_operation_type t ≡ true → is_name t ≡ true
type_is_name t h = by (is_name t) refl h
  where
    by : (b : Bool) → is_name t ≡ b → is_operation_type t ≡ true → is_name t ≡ true
    by true e h = e
    by false e h = let no : is_operation_type t ≡ false = rw e refl in let both = sym no ∙ h in absurd cc

-- ---- what stands between two punctuators

pub between-predictive : {A : Type 0} {a b c d : ℕ} {p q : Phrase A} {r : Reader A} {F N : Set} (e : Bool) (first last : List ℕ)
    → Predictive a b (grammar.punctuator first) (grammar.punctuator first) (reading.punctuator first) (this first) no_tokens false
    → Predictive b c p q r F N e
    → Predictive c d (grammar.punctuator last) (grammar.punctuator last) (reading.punctuator last) (this last) no_tokens false
    → disjoint (this last) N ≡ true → disjoint (union F (only_if e (this last))) no_tokens ≡ true
    → Predictive a d (grammar.between first p last) (grammar.between first q last) (reading.between first r last) (this first) no_tokens false
between-predictive true first last one inside two apart fresh =
    bind-predictive one (λ first. bind-predictive inside (λ value. bind-predictive two (λ _. returns-predictive (first.spot, value)) refl) apart) fresh
between-predictive false first last one inside two apart fresh =
    bind-predictive one (λ first. bind-predictive inside (λ value. bind-predictive two (λ _. returns-predictive (first.spot, value)) refl) apart) fresh

-- ---- values

abbrev value_first : Bool → Set
value_first true = union numbers (union strings (union names (union (this (codes "[")) (this (codes "{")))))
value_first false = union (this (codes "$")) (union numbers (union strings (union names (union (this (codes "[")) (this (codes "{"))))))

number-predictive : {n : ℕ} → Predictive n n (token is_number) (token is_number) (take is_number) numbers no_tokens false
unfolding a_token
number-predictive {n = n} = token-predictive is_number numbers (a_token kind.Int (codes "1")) refl (λ t h. sym (is_number-has t) ∙ h) (λ t h. level_plain numbers n refl refl t (sym (is_number-has t) ∙ h))

pub string-predictive : {n : ℕ} → Predictive n n (token is_string) (token is_string) (take is_string) strings no_tokens false
unfolding a_token
string-predictive {n = n} = token-predictive is_string strings (a_token kind.Quoted (codes "")) refl (λ t h. sym (is_string-has t) ∙ h) (λ t h. level_plain strings n refl refl t (sym (is_string-has t) ∙ h))

variable-predictive : {n : ℕ} → Predictive n n (grammar.variable false) (grammar.variable false) (reading.variable false) (this (codes "$")) no_tokens false
variable-predictive = bind-predictive (punctuator-predictive (codes "$") refl refl) (λ dollar. bind-predictive name-predictive (λ word. returns-predictive (literal.Variable word.text dollar.spot)) refl) refl

-- the productions of a value, in the order in which the parser looks for them
abbrev number_value : Phrase Literal
number_value = phrase.◌>>=◌ (token is_number) (λ number. returns (literal.Int number.text number.spot))

abbrev string_value_of : Phrase Literal
string_value_of = phrase.◌>>=◌ (token is_string) (λ string. returns (literal.Text (string_value string.kind string.text) string.spot))

abbrev word_of : Phrase Literal
word_of = phrase.◌>>=◌ grammar.name (λ word. returns (grammar.word_value word))

abbrev unfixed : Phrase Literal → Phrase Literal
unfixed nested = either number_value (either string_value_of (either word_of nested))

abbrev unfixed_reader : Reader Literal → Reader Literal
unfixed_reader nested =
    pick is_number (reading.◌>>=◌ (take is_number) (λ number. gives (literal.Int number.text number.spot)))
    (pick is_string (reading.◌>>=◌ (take is_string) (λ string. gives (literal.Text (string_value string.kind string.text) string.spot)))
    (pick is_name reading.word nested))

unfixed-predictive : {n : ℕ} {p q : Phrase Literal} {r : Reader Literal} → Predictive n n p q r (union (this (codes "[")) (this (codes "{"))) no_tokens false
    → Predictive n n (unfixed p) (unfixed q) (unfixed_reader r) (union numbers (union strings (union names (union (this (codes "[")) (this (codes "{")))))) no_tokens false
unfixed-predictive nested =
    pick_first-predictive is_number is_number-has (bind-predictive number-predictive (λ number. returns-predictive (literal.Int number.text number.spot)) refl)
    (pick_first-predictive is_string is_string-has (bind-predictive string-predictive (λ string. returns-predictive (literal.Text (string_value string.kind string.text) string.spot)) refl)
    (pick_first-predictive is_name is_name-has (bind-predictive name-predictive (λ word. returns-predictive (grammar.word_value word)) refl) nested refl) refl) refl

dollar_no : (t : Lexeme) → has (value_first true) t ≡ true → is_punctuator (codes "$") t ≡ false
dollar_no t h = is_punctuator-has (codes "$") t ∙ disjoint-has (value_first true) (this (codes "$")) t refl h

values-predictive : {n : ℕ} {p q : Phrase Literal} {r : Reader Literal} (constant : Bool) → Predictive n n p q r (union (this (codes "[")) (this (codes "{"))) no_tokens false
    → Predictive n n (either (grammar.variable constant) (unfixed p)) (either (grammar.variable constant) (unfixed q)) (reading.value_or constant r) (value_first constant) no_tokens false
values-predictive true nested = forbid-predictive (is_punctuator (codes "$")) dollar_no (unfixed-predictive nested)
values-predictive false nested = pick_first-predictive (is_punctuator (codes "$")) (is_punctuator-has (codes "$")) variable-predictive (unfixed-predictive nested) refl

-- what a value is with no brackets and braces, and with them, is one of these
to_right : {A : Type 0} (v w x y z : Phrase A) (tokens : List Lexeme) (a : A) → either (either v (either w (either x y))) z tokens a → either v (either w (either x (either y z))) tokens a
to_right v w x y z tokens a (inl (inl h)) = inl h
to_right v w x y z tokens a (inl (inr (inl h))) = inr (inl h)
to_right v w x y z tokens a (inl (inr (inr (inl h)))) = inr (inr (inl h))
to_right v w x y z tokens a (inl (inr (inr (inr h)))) = inr (inr (inr (inl h)))
to_right v w x y z tokens a (inr h) = inr (inr (inr (inr h)))

to_left : {A : Type 0} (v w x y z : Phrase A) (tokens : List Lexeme) (a : A) → either v (either w (either x (either y z))) tokens a → either (either v (either w (either x y))) z tokens a
to_left v w x y z tokens a (inl h) = inl (inl h)
to_left v w x y z tokens a (inr (inl h)) = inl (inr (inl h))
to_left v w x y z tokens a (inr (inr (inl h))) = inl (inr (inr (inl h)))
to_left v w x y z tokens a (inr (inr (inr (inl h)))) = inl (inr (inr (inr h)))
to_left v w x y z tokens a (inr (inr (inr (inr h)))) = inr h

-- list and object values whose items nest at most so deep
abbrev nested_of : Bool → ℕ → Phrase Literal
nested_of constant depth = either (grammar.list_value (grammar.value constant depth)) (grammar.object_value (grammar.value constant depth))

-- those within a depth: none where there is none
abbrev nested_within : Bool → ℕ → Phrase Literal
nested_within constant zero = never
nested_within constant (suc depth) = nested_of constant depth

token_first : {A : Type 0} (test : Lexeme → Bool) (f : Lexeme → Phrase A) (t : Lexeme) (tokens : List Lexeme) (a : A) → phrase.◌>>=◌ (token test) f (t ∷ tokens) a → test t ≡ true
token_first test f t tokens a h = by h.1.front h.1.whole h.1.front_is
  where
    by : (front : List Lexeme) → t ∷ tokens ≡ front ++ h.1.back → token test front h.0 → test t ≡ true
    by [] e is = let no = is.0 in absurd cc
    by (x ∷ front) e is = let same = is.0 in let one : t ≡ h.0 = cc in ap test one ∙ is.1

token_empty : {A : Type 0} (test : Lexeme → Bool) (f : Lexeme → Phrase A) (a : A) → phrase.◌>>=◌ (token test) f [] a → ⊥
token_empty test f a h = by h.1.front h.1.whole h.1.front_is
  where
    by : (front : List Lexeme) → [] ≡ front ++ h.1.back → token test front h.0 → ⊥
    by [] e is = let no = is.0 in absurd cc
    by (x ∷ front) e is = absurd cc

-- what stands behind the first punctuator
abbrev behind_first : {A : Type 0} → Phrase A → List ℕ → Lexeme → Phrase (Spot × A)
behind_first p last first = phrase.◌>>=◌ p (λ value. phrase.◌>>◌ (grammar.punctuator last) (returns (first.spot, value)))

-- what begins with what stands between two punctuators begins with the first
pub between_first : {A B : Type 0} (first last : List ℕ) (p : Phrase A) (f : Spot × A → Phrase B) (t : Lexeme) (tokens : List Lexeme) (b : B) → phrase.◌>>=◌ (grammar.between first p last) f (t ∷ tokens) b → is_punctuator first t ≡ true
between_first first last p f t tokens b h = by h.1.front h.1.whole h.1.front_is
  where
    by : (front : List Lexeme) → t ∷ tokens ≡ front ++ h.1.back → grammar.between first p last front h.0 → is_punctuator first t ≡ true
    by [] e is = absurd (token_empty (is_punctuator first) (behind_first p last) h.0 is)
    by (x ∷ front) e is = let same : t ≡ x = cc in ap (is_punctuator first) same ∙ token_first (is_punctuator first) (behind_first p last) x front h.0 is

nil_first : {A : Type 0} (u v : List A) → [] ≡ u ++ v → u ≡ []
nil_first [] v h = refl
nil_first (x ∷ u) v h = absurd cc

pub between_empty : {A B : Type 0} (first last : List ℕ) (p : Phrase A) (f : Spot × A → Phrase B) (b : B) → phrase.◌>>=◌ (grammar.between first p last) f [] b → ⊥
between_empty first last p f b h = token_empty (is_punctuator first) (behind_first p last) h.0 (subst (λ w. grammar.between first p last w h.0) (nil_first h.1.front h.1.back h.1.whole) h.1.front_is)

-- ---- list and object values

begins_value-has : (t : Lexeme) → reading.begins_value t ≡ has (value_first false) t
begins_value-has t =
    (λ i. is_punctuator-has (codes "$") t i || (is_number-has t i || (is_string-has t i || (is_name-has t i || two_punctuators (codes "[") (codes "{") t i))))
    ∙ (λ i. has (this (codes "$")) t || (has numbers t || (has strings t || sym (has-union names (union (this (codes "[")) (this (codes "{"))) t) i)))
    ∙ (λ i. has (this (codes "$")) t || (has numbers t || sym (has-union strings (union names (union (this (codes "[")) (this (codes "{")))) t) i))
    ∙ (λ i. has (this (codes "$")) t || sym (has-union numbers (union strings (union names (union (this (codes "[")) (this (codes "{"))))) t) i)
    ∙ sym (has-union (this (codes "$")) (union numbers (union strings (union names (union (this (codes "[")) (this (codes "{")))))) t)

value_first-all : (constant : Bool) (t : Lexeme) → has (value_first constant) t ≡ true → has (value_first false) t ≡ true
value_first-all true t h = has-union (this (codes "$")) (value_first true) t ∙ or_right (has (this (codes "$")) t) (has (value_first true) t) h
value_first-all false t h = h

value_apart : (constant : Bool) → disjoint (value_first constant) no_tokens ≡ true
value_apart true = refl
value_apart false = refl

value_fresh : (constant : Bool) → disjoint (union (value_first constant) (only_if true (this (codes "]")))) no_tokens ≡ true
value_fresh true = refl
value_fresh false = refl

list-predictive : {n : ℕ} {p q : Phrase Literal} {r : Reader Literal} (constant : Bool) → Predictive n n p q r (value_first constant) no_tokens false
    → Predictive (suc n) (suc n) (grammar.list_value p) (grammar.list_value q) (reading.list_value r) (this (codes "[")) no_tokens false
list-predictive constant item =
    bind-predictive (between-predictive true (codes "[") (codes "]") (opens-predictive (codes "[") bracket_opens)
    (many-predictive reading.begins_value (value_first false) (λ t h. begins_value-has t ∙ value_first-all constant t h) (λ t h. sym (begins_value-has t) ∙ h) (value_apart constant) item)
    (closes-predictive (codes "]") refl bracket_closes) refl (value_fresh constant))
    (λ list. returns-predictive (literal.List list.1 list.0)) refl

pub argument-predictive : {n : ℕ} {p q : Phrase Literal} {r : Reader Literal} (constant : Bool) → Predictive n n p q r (value_first constant) no_tokens false
    → Predictive n n (grammar.argument p) (grammar.argument q) (reading.argument r) names no_tokens false
unfolding reading.argument
argument-predictive true value =
    bind-predictive name-predictive (λ word. bind-predictive (punctuator-predictive (codes ":") refl refl) (λ _. bind-predictive value (λ it. returns-predictive (roll-Argument (record { name = word.text; value = it; spot = word.spot }))) refl) refl) refl
argument-predictive false value =
    bind-predictive name-predictive (λ word. bind-predictive (punctuator-predictive (codes ":") refl refl) (λ _. bind-predictive value (λ it. returns-predictive (roll-Argument (record { name = word.text; value = it; spot = word.spot }))) refl) refl) refl

object-predictive : {n : ℕ} {p q : Phrase Literal} {r : Reader Literal} (constant : Bool) → Predictive n n p q r (value_first constant) no_tokens false
    → Predictive (suc n) (suc n) (grammar.object_value p) (grammar.object_value q) (reading.object_value r) (this (codes "{")) no_tokens false
object-predictive constant value =
    bind-predictive (between-predictive true (codes "{") (codes "}") (opens-predictive (codes "{") brace_opens)
    (many-predictive is_name names (λ t h. is_name-has t ∙ h) (λ t h. sym (is_name-has t) ∙ h) refl (argument-predictive constant value))
    (closes-predictive (codes "}") refl brace_closes) refl refl)
    (λ object. returns-predictive (literal.Object object.1 object.0)) refl

-- what stands between two punctuators, whole
between_whole : {A : Type 0} (first last : List ℕ) (p : Phrase A) (t : Lexeme) (inside : List Lexeme) (value : A) → is_punctuator first t ≡ true → p inside value
    → grammar.between first p last (t ∷ (inside ++ a_token kind.Punctuator last ∷ [])) (t.spot, value)
between_whole first last p t inside value opens is =
    let end = a_token kind.Punctuator last in (
      t,
      record {
        front = t ∷ [];
        back = inside ++ end ∷ [];
        whole = refl;
        front_is = (refl, opens);
        back_is = (
          value,
          record {
            front = inside;
            back = end ∷ [];
            whole = refl;
            front_is = is;
            back_is = (end, record { front = end ∷ []; back = []; whole = refl; front_is = (refl, punctuator_example last); back_is = (refl, refl) });
          },
        );
      },
    )

-- what is made of it, behind the first punctuator
pub between_begun : {A B : Type 0} (first last : List ℕ) (p : Phrase A) (make : Spot × A → B) (t : Lexeme) (inside : List Lexeme) (value : A) → is_punctuator first t ≡ true → p inside value
    → Begun (phrase.◌>>=◌ (grammar.between first p last) (λ x. returns (make x))) (t ∷ [])
between_begun first last p make t inside value opens is =
    let rest = inside ++ a_token kind.Punctuator last ∷ [] in
    record {
      more = rest;
      value = make (t.spot, value);
      is = (
        (t.spot, value),
        record { front = t ∷ rest; back = []; whole = ap (λ (l : List Lexeme). t ∷ l) (sym (append-nil rest)); back_is = (refl, refl); front_is = between_whole first last p t inside value opens is },
      );
    }

-- an empty list and an empty object
list_begun : (p : Phrase Literal) (t : Lexeme) → is_punctuator (codes "[") t ≡ true → Begun (grammar.list_value p) (t ∷ [])
list_begun p t opens = between_begun (codes "[") (codes "]") (phrase.many p) (λ list. literal.List list.1 list.0) t [] [] opens refl

object_begun : (p : Phrase Literal) (t : Lexeme) → is_punctuator (codes "{") t ≡ true → Begun (grammar.object_value p) (t ∷ [])
object_begun p t opens = between_begun (codes "{") (codes "}") (phrase.many (grammar.argument p)) (λ object. literal.Object object.1 object.0) t [] [] opens refl

or_else : {A : Type 0} (a b : Bool) → (a || b) ≡ true → (a ≡ true → A) → (b ≡ true → A) → A
or_else true b h f g = f refl
or_else false b h f g = g h

nested_begun : (constant : Bool) (depth : ℕ) (t : Lexeme) → reading.begins_nested t ≡ true → Begun (nested_of constant depth) (t ∷ [])
nested_begun constant depth t h = or_else (is_punctuator (codes "[") t) (is_punctuator (codes "{") t) h
    (λ e. let b = list_begun (grammar.value constant depth) t e in record { more = b.more; value = b.value; is = inl b.is })
    (λ e. let b = object_begun (grammar.value constant depth) t e in record { more = b.more; value = b.value; is = inr b.is })

nested_begun_none : (constant : Bool) (depth : ℕ) → Begun (nested_of constant depth) []
unfolding a_token
nested_begun_none constant depth =
    let b = list_begun (grammar.value constant depth) (a_token kind.Punctuator (codes "[")) (punctuator_example (codes "[")) in
    record { more = a_token kind.Punctuator (codes "[") ∷ b.more; value = b.value; is = inl b.is }

nested_passes : (constant : Bool) (depth : ℕ) (t : Lexeme) (ts : List Lexeme) (a : Literal) → nested_of constant depth (t ∷ ts) a → reading.begins_nested t ≡ true
nested_passes constant depth t ts a (inl h) = or_left (is_punctuator (codes "[") t) (is_punctuator (codes "{") t) (between_first (codes "[") (codes "]") (phrase.many (grammar.value constant depth)) (λ x. returns (literal.List x.1 x.0)) t ts a h)
nested_passes constant depth t ts a (inr h) = or_right (is_punctuator (codes "[") t) (is_punctuator (codes "{") t) (between_first (codes "{") (codes "}") (phrase.many (grammar.argument (grammar.value constant depth))) (λ x. returns (literal.Object x.1 x.0)) t ts a h)

nested_empty : (constant : Bool) (depth : ℕ) (a : Literal) → nested_of constant depth [] a → ⊥
nested_empty constant depth a (inl h) = between_empty (codes "[") (codes "]") (phrase.many (grammar.value constant depth)) (λ x. returns (literal.List x.1 x.0)) a h
nested_empty constant depth a (inr h) = between_empty (codes "{") (codes "}") (phrase.many (grammar.argument (grammar.value constant depth))) (λ x. returns (literal.Object x.1 x.0)) a h

within_passes : (constant : Bool) (depth : ℕ) (t : Lexeme) (ts : List Lexeme) (a : Literal) → nested_within constant depth (t ∷ ts) a → reading.begins_nested t ≡ true
within_passes constant zero t ts a h = absurd h
within_passes constant (suc depth) t ts a h = nested_passes constant depth t ts a h

within_empty : (constant : Bool) (depth : ℕ) (a : Literal) → nested_within constant depth [] a → ⊥
within_empty constant zero a h = h
within_empty constant (suc depth) a h = nested_empty constant depth a h

value_within : (constant : Bool) (depth : ℕ) (tokens : List Lexeme) (a : Literal) → grammar.value constant depth tokens a → either (grammar.variable constant) (unfixed (nested_within constant depth)) tokens a
value_within constant zero tokens a h = to_right (grammar.variable constant) number_value string_value_of word_of never tokens a (inl h)
value_within constant (suc depth) tokens a h = to_right (grammar.variable constant) number_value string_value_of word_of (nested_of constant depth) tokens a h

value_from : (constant : Bool) (n k : ℕ) → Predictive n n (nested_of constant n) (nested_within constant k) (reading.nested constant n) (union (this (codes "[")) (this (codes "{"))) no_tokens false
    → Predictive n n (grammar.value constant (suc n)) (grammar.value constant k) (reading.value constant n) (value_first constant) no_tokens false
value_from constant n k nested = other-predictive (grammar.value constant (suc n)) (grammar.value constant k)
    (to_left (grammar.variable constant) number_value string_value_of word_of (nested_of constant n))
    (to_right (grammar.variable constant) number_value string_value_of word_of (nested_of constant n))
    (value_within constant k) (values-predictive constant nested)

nested_from : (constant : Bool) (n k : ℕ) → Predictive n n (grammar.value constant (suc n)) (grammar.value constant k) (reading.value constant n) (value_first constant) no_tokens false
    → Predictive (suc n) (suc n) (nested_of constant (suc n)) (nested_of constant k) (reading.nested_value (reading.value constant n)) (union (this (codes "[")) (this (codes "{"))) no_tokens false
nested_from constant n k value = pick_first-predictive (is_punctuator (codes "[")) (is_punctuator-has (codes "[")) (list-predictive constant value) (object-predictive constant value) refl

nested-predictive : (constant : Bool) (n k : ℕ) → Predictive n n (nested_of constant n) (nested_within constant k) (reading.nested constant n) (union (this (codes "[")) (this (codes "{"))) no_tokens false
unfolding reading.nested
nested-predictive constant zero k = shut-predictive (nested_of constant 0) (nested_within constant k) reading.begins_nested (union (this (codes "[")) (this (codes "{"))) (nested_begun_none constant 0)
    (nested_empty constant 0) (within_empty constant k) (λ t h. (h, nested_begun constant 0 t h)) (within_passes constant k) (λ t h. sym (two_punctuators (codes "[") (codes "{") t) ∙ h)
nested-predictive constant (suc n) (suc k) = nested_from constant n k (value_from constant n k (nested-predictive constant n k))
nested-predictive constant (suc n) zero = other-predictive (nested_of constant (suc n)) never (λ tokens a h. h) (λ tokens a h. h) (λ tokens a h. absurd h)
    (nested_from constant n zero (value_from constant n zero (nested-predictive constant n zero)))

pub value-predictive : (constant : Bool) (n k : ℕ) → Predictive n n (grammar.value constant (suc n)) (grammar.value constant k) (reading.value constant n) (value_first constant) no_tokens false
value-predictive constant n k = value_from constant n k (nested-predictive constant n k)

-- ---- arguments and directives

-- the punctuators of these texts
abbrev these : List (List ℕ) → Set
these texts = record { punctuators = texts; words = []; names = false; numbers = false; strings = false; all = false }

-- a phrase or nothing, where the next token tells
pub listed-predictive : {A : Type 0} {n : ℕ} {p q : Phrase (List A)} {r : Reader (List A)} (text : List ℕ)
    → Predictive n n p q r (this text) no_tokens false
    → Predictive n n (phrase.listed p) (phrase.listed q) (reading.listed (is_punctuator text) r) (this text) (this text) true
listed-predictive text one = pick_first-predictive (is_punctuator text) (is_punctuator-has text) one (returns-predictive []) refl

pub optional-predictive : {A : Type 0} {n : ℕ} {p q : Phrase A} {r : Reader A} (text : List ℕ)
    → Predictive n n p q r (this text) no_tokens false
    → Predictive n n (phrase.optional p) (phrase.optional q) (reading.optional (is_punctuator text) r) (this text) (this text) true
optional-predictive text one = pick_first-predictive (is_punctuator text) (is_punctuator-has text) (bind-predictive one (λ a. returns-predictive (Some a)) refl) (returns-predictive None) refl

arguments-predictive : (constant : Bool) (n k : ℕ) → Predictive n n (grammar.arguments constant (suc n)) (grammar.arguments constant k) (reading.arguments constant n) (this (codes "(")) (this (codes "(")) true
unfolding reading.arguments
arguments-predictive constant n k = listed-predictive (codes "(")
    (bind-predictive (between-predictive false (codes "(") (codes ")") (punctuator-predictive (codes "(") refl refl)
    (some-predictive is_name names (λ t h. is_name-has t ∙ h) (λ t h. sym (is_name-has t) ∙ h) refl (argument-predictive constant (value-predictive constant n k)))
    (punctuator-predictive (codes ")") refl refl) refl refl)
    (λ all. returns-predictive all.1) refl)

pub directive-predictive : (constant : Bool) (n k : ℕ) → Predictive n n (grammar.directive constant (suc n)) (grammar.directive constant k) (reading.directive constant n) (this (codes "@")) (this (codes "(")) false
unfolding reading.directive
directive-predictive constant n k =
    bind-predictive (punctuator-predictive (codes "@") refl refl) (λ at. bind-predictive name-predictive (λ word. bind-predictive (arguments-predictive constant n k) (λ given.
    returns-predictive (record { name = word.text; arguments = given; spot = at.spot })) refl) refl) refl

pub directives-predictive : (constant : Bool) (n k : ℕ) → Predictive n n (grammar.directives constant (suc n)) (grammar.directives constant k) (reading.directives constant n) (this (codes "@")) (these (codes "@" ∷ codes "(" ∷ [])) true
unfolding reading.directives
directives-predictive constant n k = many-predictive (is_punctuator (codes "@")) (this (codes "@")) (λ t h. is_punctuator-has (codes "@") t ∙ h) (λ t h. sym (is_punctuator-has (codes "@") t) ∙ h) refl (directive-predictive constant n k)

-- ---- variables and types

pub named_type-predictive : {n : ℕ} → Predictive n n grammar.named_type grammar.named_type reading.named_type names no_tokens false
named_type-predictive = bind-predictive name-predictive (λ word. returns-predictive (type.Named word.text word.spot)) refl

pub non_null-predictive : {n : ℕ} (inner : TypeRef) → Predictive n n (grammar.maybe_non_null inner) (grammar.maybe_non_null inner) (reading.maybe_non_null inner) (this (codes "!")) (this (codes "!")) true
non_null-predictive inner = pick_first-predictive (is_punctuator (codes "!")) (is_punctuator-has (codes "!")) (bind-predictive (punctuator-predictive (codes "!") refl refl) (λ _. returns-predictive (type.NonNull inner)) refl) (returns-predictive inner) refl

abbrev type_of : Phrase TypeRef → Phrase TypeRef
type_of nested = phrase.◌>>=◌ (either grammar.named_type nested) grammar.maybe_non_null

abbrev list_within : ℕ → Phrase TypeRef
list_within zero = never
list_within (suc depth) = grammar.list_type (grammar.type_ref depth)

type_within : (depth : ℕ) (tokens : List Lexeme) (a : TypeRef) → grammar.type_ref depth tokens a → type_of (list_within depth) tokens a
type_within zero tokens a h = (h.0, record { front = h.1.front; back = h.1.back; whole = h.1.whole; front_is = inl h.1.front_is; back_is = h.1.back_is })
type_within (suc depth) tokens a h = h

type_from : {n : ℕ} {p q : Phrase TypeRef} {r : Reader TypeRef} → Predictive n n p q r (this (codes "[")) no_tokens false
    → Predictive n n (type_of p) (type_of q) (reading.type_or r) (union names (this (codes "["))) (this (codes "!")) false
type_from nested = bind-predictive (pick_first-predictive is_name is_name-has named_type-predictive nested refl) non_null-predictive refl

type_begun : (depth : ℕ) (t : Lexeme) → is_punctuator (codes "[") t ≡ true → Begun (grammar.list_type (grammar.type_ref depth)) (t ∷ [])
unfolding a_token
type_begun depth t opens =
    between_begun (codes "[") (codes "]") (grammar.type_ref depth) (λ list. type.List list.1) t (a_token kind.Name (codes "a") ∷ []) (type.Named (codes "a") (record { line = 0; column = 0 })) opens (by depth)
  where
    named : grammar.named_type (a_token kind.Name (codes "a") ∷ []) (type.Named (codes "a") (record { line = 0; column = 0 }))
    named = (a_token kind.Name (codes "a"), record { front = a_token kind.Name (codes "a") ∷ []; back = []; whole = refl; front_is = (refl, refl); back_is = (refl, refl) })

    by : (d : ℕ) → grammar.type_ref d (a_token kind.Name (codes "a") ∷ []) (type.Named (codes "a") (record { line = 0; column = 0 }))
    by zero = (type.Named (codes "a") (record { line = 0; column = 0 }), record { front = a_token kind.Name (codes "a") ∷ []; back = []; whole = refl; front_is = named; back_is = inr (refl, refl) })
    by (suc d) = (type.Named (codes "a") (record { line = 0; column = 0 }), record { front = a_token kind.Name (codes "a") ∷ []; back = []; whole = refl; front_is = inl named; back_is = inr (refl, refl) })

type_begun_none : (depth : ℕ) → Begun (grammar.list_type (grammar.type_ref depth)) []
unfolding a_token
type_begun_none depth =
    let b = type_begun depth (a_token kind.Punctuator (codes "[")) (punctuator_example (codes "[")) in
    record { more = a_token kind.Punctuator (codes "[") ∷ b.more; value = b.value; is = b.is }

list_passes : (depth : ℕ) (t : Lexeme) (ts : List Lexeme) (a : TypeRef) → list_within depth (t ∷ ts) a → is_punctuator (codes "[") t ≡ true
list_passes zero t ts a h = absurd h
list_passes (suc depth) t ts a h = between_first (codes "[") (codes "]") (grammar.type_ref depth) (λ x. returns (type.List x.1)) t ts a h

list_empty : (depth : ℕ) (a : TypeRef) → list_within depth [] a → ⊥
list_empty zero a h = h
list_empty (suc depth) a h = between_empty (codes "[") (codes "]") (grammar.type_ref depth) (λ x. returns (type.List x.1)) a h

list_type_from : (n k : ℕ) → Predictive n n (grammar.type_ref (suc n)) (grammar.type_ref k) (reading.type_or (reading.list_type n)) (union names (this (codes "["))) (this (codes "!")) false
    → Predictive (suc n) (suc n) (grammar.list_type (grammar.type_ref (suc n))) (grammar.list_type (grammar.type_ref k)) (reading.◌>>=◌ (reading.between (codes "[") (reading.type_or (reading.list_type n)) (codes "]")) (λ list. gives (type.List list.1))) (this (codes "[")) no_tokens false
list_type_from n k item =
    bind-predictive (between-predictive false (codes "[") (codes "]") (opens-predictive (codes "[") bracket_opens) item (closes-predictive (codes "]") refl bracket_closes) refl refl) (λ list. returns-predictive (type.List list.1)) refl

type_at : (n k : ℕ) → Predictive n n (grammar.list_type (grammar.type_ref n)) (list_within k) (reading.list_type n) (this (codes "[")) no_tokens false
    → Predictive n n (grammar.type_ref (suc n)) (grammar.type_ref k) (reading.type_or (reading.list_type n)) (union names (this (codes "["))) (this (codes "!")) false
type_at n k nested = other-predictive (grammar.type_ref (suc n)) (grammar.type_ref k) (λ tokens a h. h) (λ tokens a h. h) (type_within k) (type_from nested)

list_type-predictive : (n k : ℕ) → Predictive n n (grammar.list_type (grammar.type_ref n)) (list_within k) (reading.list_type n) (this (codes "[")) no_tokens false
unfolding reading.list_type
list_type-predictive zero k = shut-predictive (grammar.list_type (grammar.type_ref 0)) (list_within k) (is_punctuator (codes "[")) (this (codes "[")) (type_begun_none 0)
    (λ a h. between_empty (codes "[") (codes "]") (grammar.type_ref 0) (λ x. returns (type.List x.1)) a h) (list_empty k) (λ t h. (bracket_opens t h, type_begun 0 t h)) (list_passes k) (λ t h. sym (is_punctuator-has (codes "[") t) ∙ h)
list_type-predictive (suc n) (suc k) = list_type_from n k (type_at n k (list_type-predictive n k))
list_type-predictive (suc n) zero = other-predictive (grammar.list_type (grammar.type_ref (suc n))) never (λ tokens a h. h) (λ tokens a h. h) (λ tokens a h. absurd h)
    (list_type_from n zero (type_at n zero (list_type-predictive n zero)))

pub type_ref-predictive : (n k : ℕ) → Predictive n n (grammar.type_ref (suc n)) (grammar.type_ref k) (reading.type_ref n) (union names (this (codes "["))) (this (codes "!")) false
unfolding reading.type_ref
type_ref-predictive n k = type_at n k (list_type-predictive n k)

pub default-predictive : (n k : ℕ) → Predictive n n (grammar.default_value (suc n)) (grammar.default_value k) (reading.default_value n) (this (codes "=")) no_tokens false
unfolding reading.default_value
default-predictive n k = bind-predictive (punctuator-predictive (codes "=") refl refl) (λ _. value-predictive true n k) refl

pub variable_definition-predictive : (n k : ℕ) → Predictive n n (grammar.variable_definition (suc n)) (grammar.variable_definition k) (reading.variable_definition n) (this (codes "$")) (these (codes "@" ∷ codes "(" ∷ codes "=" ∷ codes "!" ∷ [])) false
unfolding reading.variable_definition reading.behind_colon
variable_definition-predictive n k =
    bind-predictive (punctuator-predictive (codes "$") refl refl) (λ dollar. bind-predictive name-predictive (λ word. bind-predictive (punctuator-predictive (codes ":") refl refl) (λ _.
    bind-predictive (type_ref-predictive n k) (λ kind. bind-predictive (optional-predictive (codes "=") (default-predictive n k)) (λ default. bind-predictive (directives-predictive true n k) (λ used.
    returns-predictive (record { name = word.text; kind = kind; default = default; directives = used; spot = dollar.spot })) refl) refl) refl) refl) refl) refl

variable_definitions-predictive : (n k : ℕ) → Predictive n n (grammar.variable_definitions (suc n)) (grammar.variable_definitions k) (reading.variable_definitions n) (this (codes "(")) (this (codes "(")) true
unfolding reading.variable_definitions
variable_definitions-predictive n k = listed-predictive (codes "(")
    (bind-predictive (between-predictive false (codes "(") (codes ")") (punctuator-predictive (codes "(") refl refl)
    (some-predictive (is_punctuator (codes "$")) (this (codes "$")) (λ t h. is_punctuator-has (codes "$") t ∙ h) (λ t h. sym (is_punctuator-has (codes "$") t) ∙ h) refl (variable_definition-predictive n k))
    (punctuator-predictive (codes ")") refl refl) refl refl)
    (λ all. returns-predictive all.1) refl)

-- ---- selections

-- what begins with a phrase that passes a test begins so
pub first_bind : {A B : Type 0} (test : Lexeme → Bool) (q : Phrase A) (f : A → Phrase B) → ((t : Lexeme) (ts : List Lexeme) (a : A) → q (t ∷ ts) a → test t ≡ true) → ((a : A) → q [] a → ⊥)
    → (t : Lexeme) (ts : List Lexeme) (b : B) → phrase.◌>>=◌ q f (t ∷ ts) b → test t ≡ true
first_bind test q f passes empty t ts b h = by h.1.front h.1.whole h.1.front_is
  where
    by : (front : List Lexeme) → t ∷ ts ≡ front ++ h.1.back → q front h.0 → test t ≡ true
    by [] e is = absurd (empty h.0 is)
    by (x ∷ front) e is = let same : t ≡ x = cc in ap test same ∙ passes x front h.0 is

pub empty_bind : {A B : Type 0} (q : Phrase A) (f : A → Phrase B) → ((a : A) → q [] a → ⊥) → (b : B) → phrase.◌>>=◌ q f [] b → ⊥
empty_bind q f empty b h = empty h.0 (subst (λ w. q w h.0) (nil_first h.1.front h.1.back h.1.whole) h.1.front_is)

aliased-predictive : {n : ℕ} → Predictive n n grammar.aliased grammar.aliased reading.aliased (this (codes ":")) no_tokens false
aliased-predictive = bind-predictive (punctuator-predictive (codes ":") refl refl) (λ _. name-predictive) refl

pub a_word : List ℕ → Lexeme
a_word text = a_token kind.Name text

a_word_is : is_fragment_name (a_word (codes "a")) ≡ true
unfolding a_token a_word
a_word_is = refl

pub word_example : (word : List ℕ) → is_word word (a_word word) ≡ true
unfolding a_token a_word
word_example word = (bytes_eq-Decides word word).1 refl

pub an_enum_value : is_enum_value (a_word (codes "a")) ≡ true
unfolding a_token a_word
an_enum_value = refl

on_is : is_word (codes "on") (a_word (codes "on")) ≡ true
unfolding a_token a_word
on_is = refl

on-predictive : {n : ℕ} → Predictive n n grammar.type_condition grammar.type_condition reading.type_condition names no_tokens false
on-predictive = bind-predictive (word-predictive (is_word (codes "on")) (a_word (codes "on")) on_is (word_is_name (codes "on"))) (λ _. name-predictive) refl

one_token : (test : Lexeme → Bool) (t : Lexeme) (ts : List Lexeme) (a : Lexeme) → token test (t ∷ ts) a → test t ≡ true
one_token test t ts a h = let same = h.0 in let is : t ≡ a = cc in ap test is ∙ h.1

no_token : (test : Lexeme → Bool) (a : Lexeme) → token test [] a → ⊥
no_token test a h = let no = h.0 in absurd cc

condition_on : (t : Lexeme) (ts : List Lexeme) (a : Option Lexeme) → phrase.◌>>=◌ grammar.type_condition (λ word. returns (Some word)) (t ∷ ts) a → is_word (codes "on") t ≡ true
condition_on = first_bind (is_word (codes "on")) grammar.type_condition (λ word. returns (Some word))
    (first_bind (is_word (codes "on")) (token (is_word (codes "on"))) (λ _. grammar.name) (one_token (is_word (codes "on"))) (no_token (is_word (codes "on"))))
    (empty_bind (token (is_word (codes "on"))) (λ _. grammar.name) (no_token (is_word (codes "on"))))

condition-predictive : {n : ℕ} → Predictive n n (phrase.optional grammar.type_condition) (phrase.optional grammar.type_condition) (reading.optional reading.is_on reading.type_condition) names names true
condition-predictive = pick-predictive reading.is_on names (bind-predictive on-predictive (λ word. returns-predictive (Some word)) refl) (returns-predictive None)
    condition_on (λ t ts a h. let no = h.0 in absurd cc) (λ t h. sym (is_name-has t) ∙ word_is_name (codes "on") t h)

not_both_names : (a b : Bool) → (a && b) ≡ true → (a && not b) ≡ false
not_both_names true true h = refl
not_both_names true false h = absurd cc
not_both_names false b h = refl

on_is_no_fragment : (t : Lexeme) → is_word (codes "on") t ≡ true → is_fragment_name t ≡ false
on_is_no_fragment t h = not_both_names (is_name t) _ h

and_none : (a b : Bool) → a ≡ false → (a && b) ≡ false
and_none true b h = absurd cc
and_none false b h = refl

no_name_no_fragment : (t : Lexeme) → has (these (codes "@" ∷ codes "{" ∷ [])) t ≡ true → is_fragment_name t ≡ false
no_name_no_fragment t h = and_none (is_name t) _ (is_name-has t ∙ disjoint-has (these (codes "@" ∷ codes "{" ∷ [])) names t refl h)

module _ (n k : ℕ) (p q : Phrase (List Selection)) (r : Reader (List Selection)) (inner : Predictive n n p q r (this (codes "{")) no_tokens false) where
  field-predictive : Predictive n n (grammar.field (suc n) p) (grammar.field k q) (reading.field n r) names (these (codes "{" ∷ codes "@" ∷ codes "(" ∷ codes "(" ∷ codes ":" ∷ [])) false
  unfolding reading.field reading.behind_name reading.behind_names
  field-predictive =
      bind-predictive name-predictive (λ first. bind-predictive (optional-predictive (codes ":") aliased-predictive) (λ second. bind-predictive (arguments-predictive false n k) (λ given.
      bind-predictive (directives-predictive false n k) (λ used. bind-predictive (listed-predictive (codes "{") inner) (λ inside. returns-predictive _) refl) refl) refl) refl) refl

  spread-predictive : Predictive n n (grammar.spread (suc n)) (grammar.spread k) (reading.spread n) names (these (codes "@" ∷ codes "(" ∷ [])) false
  unfolding reading.spread
  spread-predictive =
      bind-predictive (word-predictive is_fragment_name (a_word (codes "a")) a_word_is fragment_name_is_name) (λ word. bind-predictive (directives-predictive false n k) (λ used. returns-predictive _) refl) refl

  -- behind the type condition
  abbrev behind_condition : ℕ → Phrase (List Selection) → Spot → Option Lexeme → Phrase Selection
  behind_condition depth sets dots condition = phrase.◌>>=◌ (grammar.directives false depth) (λ used. phrase.◌>>=◌ sets (λ inside. returns (selection.Inline (roll-InlineNode (record { condition = grammar.condition_text condition; directives = used; selections = inside; spot = grammar.inline_spot dots condition })))))

  behind-predictive : (dots : Spot) (condition : Option Lexeme) → Predictive n n (behind_condition (suc n) p dots condition) (behind_condition k q dots condition)
      (reading.◌>>=◌ (reading.directives false n) (λ used. reading.◌>>=◌ r (λ inside. gives (selection.Inline (roll-InlineNode (record { condition = grammar.condition_text condition; directives = used; selections = inside; spot = grammar.inline_spot dots condition }))))))
      (these (codes "@" ∷ codes "{" ∷ [])) no_tokens false
  behind-predictive dots condition = bind-predictive (directives-predictive false n k) (λ used. bind-predictive inner (λ inside. returns-predictive _) refl) refl

  inline-predictive : (dots : Spot) → Predictive n n (grammar.inline_fragment (suc n) p dots) (grammar.inline_fragment k q dots) (reading.inline_fragment n r dots) (union names (these (codes "@" ∷ codes "{" ∷ []))) no_tokens false
  unfolding reading.inline_fragment
  inline-predictive dots = bind-predictive condition-predictive (behind-predictive dots) refl

  inline_no_name : (dots : Spot) (t : Lexeme) (ts : List Lexeme) (a : Selection) → grammar.inline_fragment k q dots (t ∷ ts) a → is_fragment_name t ≡ false
  inline_no_name dots t ts a h = by h.1.front h.1.back h.1.whole h.1.front_is h.1.back_is
    where
      by : (front back : List Lexeme) → t ∷ ts ≡ front ++ back → phrase.optional grammar.type_condition front h.0 → behind_condition k q dots h.0 back a → is_fragment_name t ≡ false
      by [] back e is more = no_name_no_fragment t ((behind-predictive dots h.0).begins t ts a (subst (λ w. behind_condition k q dots h.0 w a) (sym e) more))
      by (x ∷ front) back e (inl is) more = let same : t ≡ x = cc in on_is_no_fragment t (ap (is_word (codes "on")) same ∙ condition_on x front h.0 is)
      by (x ∷ front) back e (inr is) more = let no = is.0 in absurd cc

  spread_name : (t : Lexeme) (ts : List Lexeme) (a : Selection) → grammar.spread k (t ∷ ts) a → is_fragment_name t ≡ true
  spread_name = first_bind is_fragment_name (token is_fragment_name) _ (one_token is_fragment_name) (no_token is_fragment_name)

  pub selection-predictive : Predictive n n (grammar.any_selection (suc n) p) (grammar.any_selection k q) (reading.any_selection n r) (union names (this (codes "..."))) (these (codes "{" ∷ codes "@" ∷ codes "(" ∷ codes "(" ∷ codes ":" ∷ codes "@" ∷ codes "(" ∷ [])) false
  unfolding reading.any_selection
  selection-predictive = pick_first-predictive is_name is_name-has field-predictive
      (bind-predictive (punctuator-predictive (codes "...") refl refl) (λ dots.
      pick-predictive is_fragment_name names spread-predictive (inline-predictive dots.spot) spread_name (inline_no_name dots.spot) (λ t h. sym (is_name-has t) ∙ fragment_name_is_name t h)) refl) refl

begins_selection-has : (t : Lexeme) → reading.begins_selection t ≡ has (union names (this (codes "..."))) t
begins_selection-has t = (λ i. is_name-has t i || is_punctuator-has (codes "...") t i) ∙ sym (has-union names (this (codes "...")) t)

a_field : Selection
a_field = selection.Field (roll-FieldNode (record { alias = None; name = codes "a"; arguments = []; directives = []; selections = []; spot = record { line = 0; column = 0 } }))

field_begun : (depth : ℕ) (sets : Phrase (List Selection)) → grammar.any_selection depth sets (a_word (codes "a") ∷ []) a_field
unfolding a_token a_word a_field
field_begun depth sets =
    let word = a_word (codes "a") in
    inl (
      word,
      record {
        front = word ∷ [];
        back = [];
        whole = refl;
        front_is = (refl, refl);
        back_is = (
          None,
          record {
            front = [];
            back = [];
            whole = refl;
            front_is = inr (refl, refl);
            back_is = (
              [],
              record {
                front = [];
                back = [];
                whole = refl;
                front_is = inr (refl, refl);
                back_is = (
                  [],
                  record {
                    front = [];
                    back = [];
                    whole = refl;
                    front_is = refl;
                    back_is = ([], record { front = []; back = []; whole = refl; front_is = inr (refl, refl); back_is = (refl, refl) });
                  },
                );
              },
            );
          },
        );
      },
    )

set_begun : (t : Lexeme) → is_punctuator (codes "{") t ≡ true → Begun (grammar.selection_set 1) (t ∷ [])
set_begun t opens =
    let word = a_word (codes "a") in
    record {
      more = word ∷ a_token kind.Punctuator (codes "}") ∷ [];
      value = (t.spot, a_field ∷ []);
      is = between_whole (codes "{") (codes "}") (phrase.some (grammar.any_selection 0 (grammar.selections 0))) t (word ∷ []) (a_field ∷ []) opens (
        a_field,
        record {
          front = word ∷ [];
          back = [];
          whole = refl;
          front_is = field_begun 0 _;
          back_is = ([], record { front = []; back = []; whole = refl; front_is = refl; back_is = (refl, refl) });
        },
      );
    }

set_begun_none : Begun (grammar.selection_set 1) []
set_begun_none =
    let b = set_begun (a_token kind.Punctuator (codes "{")) (punctuator_example (codes "{")) in
    record { more = a_token kind.Punctuator (codes "{") ∷ b.more; value = b.value; is = b.is }

set_passes : (depth : ℕ) (t : Lexeme) (ts : List Lexeme) (a : Spot × List Selection) → grammar.selection_set depth (t ∷ ts) a → is_punctuator (codes "{") t ≡ true
set_passes zero t ts a h = absurd h
set_passes (suc depth) t ts a h = token_first (is_punctuator (codes "{")) (behind_first (phrase.some (grammar.any_selection depth (grammar.selections depth))) (codes "}")) t ts a h

set_empty : (depth : ℕ) (a : Spot × List Selection) → grammar.selection_set depth [] a → ⊥
set_empty zero a h = h
set_empty (suc depth) a h = token_empty (is_punctuator (codes "{")) (behind_first (phrase.some (grammar.any_selection depth (grammar.selections depth))) (codes "}")) a h

selections_from : (n k : ℕ) → Predictive n n (grammar.selection_set (suc n)) (grammar.selection_set k) (reading.selection_set n) (this (codes "{")) no_tokens false
    → Predictive n n (grammar.selections (suc n)) (grammar.selections k) (reading.selections n) (this (codes "{")) no_tokens false
unfolding reading.selections
selections_from n k set = bind-predictive set (λ it. returns-predictive it.1) refl

set_from : (n k : ℕ) → Predictive n n (grammar.selection_set (suc n)) (grammar.selection_set k) (reading.selection_set n) (this (codes "{")) no_tokens false
    → Predictive (suc n) (suc n) (grammar.selection_set (suc (suc n))) (grammar.selection_set (suc k)) (reading.between (codes "{") (reading.some reading.begins_selection (reading.any_selection n (reading.selections n))) (codes "}")) (this (codes "{")) no_tokens false
set_from n k set =
    between-predictive false (codes "{") (codes "}") (opens-predictive (codes "{") brace_opens)
    (some-predictive reading.begins_selection (union names (this (codes "..."))) (λ t h. begins_selection-has t ∙ h) (λ t h. sym (begins_selection-has t) ∙ h) refl
    (selection-predictive n k (grammar.selections (suc n)) (grammar.selections k) (reading.selections n) (selections_from n k set)))
    (closes-predictive (codes "}") refl brace_closes) refl refl

selection_set-predictive : (n k : ℕ) → Predictive n n (grammar.selection_set (suc n)) (grammar.selection_set k) (reading.selection_set n) (this (codes "{")) no_tokens false
unfolding reading.selection_set reading.selections
selection_set-predictive zero k = shut-predictive (grammar.selection_set 1) (grammar.selection_set k) (is_punctuator (codes "{")) (this (codes "{")) set_begun_none
    (set_empty 1) (set_empty k) (λ t h. (brace_opens t h, set_begun t h)) (set_passes k) (λ t h. sym (is_punctuator-has (codes "{") t) ∙ h)
selection_set-predictive (suc n) (suc k) = set_from n k (selection_set-predictive n k)
selection_set-predictive (suc n) zero = other-predictive (grammar.selection_set (suc (suc n))) never (λ tokens a h. h) (λ tokens a h. h) (λ tokens a h. absurd h)
    (set_from n zero (selection_set-predictive n zero))

pub selections-predictive : (n k : ℕ) → Predictive n n (grammar.selections (suc n)) (grammar.selections k) (reading.selections n) (this (codes "{")) no_tokens false
selections-predictive n k = selections_from n k (selection_set-predictive n k)

-- ---- definitions

short-predictive : (n k : ℕ) → Predictive n n (grammar.short_operation (suc n)) (grammar.short_operation k) (reading.short_operation n) (this (codes "{")) no_tokens false
unfolding reading.short_operation
short-predictive n k = bind-predictive (selection_set-predictive n k) (λ set. returns-predictive _) refl

pub query_is : is_operation_type (a_word (codes "query")) ≡ true
unfolding a_token a_word
query_is = refl

fragment_is : is_word (codes "fragment") (a_word (codes "fragment")) ≡ true
unfolding a_token a_word
fragment_is = refl

name_optional-predictive : {n : ℕ} → Predictive n n (phrase.optional grammar.name) (phrase.optional grammar.name) (reading.optional is_name reading.name) names names true
name_optional-predictive = pick_first-predictive is_name is_name-has (bind-predictive name-predictive (λ word. returns-predictive (Some word)) refl) (returns-predictive None) refl

operation-predictive : (n k : ℕ) → Predictive n n (grammar.operation_definition (suc n)) (grammar.operation_definition k) (reading.operation_definition n) names no_tokens false
unfolding reading.operation_definition
operation-predictive n k =
    bind-predictive (word-predictive is_operation_type (a_word (codes "query")) query_is type_is_name) (λ kind. bind-predictive name_optional-predictive (λ word. bind-predictive (variable_definitions-predictive n k) (λ variables.
    bind-predictive (directives-predictive false n k) (λ used. bind-predictive (selections-predictive n k) (λ inside. returns-predictive _) refl) refl) refl) refl) refl

fragment-predictive : (n k : ℕ) → Predictive n n (grammar.fragment_definition (suc n)) (grammar.fragment_definition k) (reading.fragment_definition n) names no_tokens false
unfolding reading.fragment_definition
fragment-predictive n k =
    bind-predictive (word-predictive (is_word (codes "fragment")) (a_word (codes "fragment")) fragment_is (word_is_name (codes "fragment"))) (λ _. bind-predictive (word-predictive is_fragment_name (a_word (codes "a")) a_word_is fragment_name_is_name) (λ word.
    bind-predictive on-predictive (λ condition. bind-predictive (directives-predictive false n k) (λ used. bind-predictive (selections-predictive n k) (λ inside. returns-predictive _) refl) refl) refl) refl) refl

operation_first : (k : ℕ) (t : Lexeme) (ts : List Lexeme) (a : Definition) → grammar.operation_definition k (t ∷ ts) a → is_operation_type t ≡ true
operation_first k = first_bind is_operation_type (token is_operation_type) _ (one_token is_operation_type) (no_token is_operation_type)

fragment_first : (k : ℕ) (t : Lexeme) (ts : List Lexeme) (a : Definition) → grammar.fragment_definition k (t ∷ ts) a → is_word (codes "fragment") t ≡ true
fragment_first k = first_bind (is_word (codes "fragment")) (token (is_word (codes "fragment"))) _ (one_token (is_word (codes "fragment"))) (no_token (is_word (codes "fragment")))

and_second : (a b : Bool) → (a && b) ≡ true → b ≡ true
and_second true b h = h
and_second false b h = absurd cc

-- a token's text where it is a word
word_text : (word : List ℕ) (t : Lexeme) → is_word word t ≡ true → t.text ≡ word
word_text word t h = (bytes_eq-Decides t.text word).0 (and_second (is_name t) _ h)

both_false : (a : Bool) → (a && false) || ((a && false) || (a && false)) ≡ false
both_false true = refl
both_false false = refl

fragment_no_type : (t : Lexeme) → is_word (codes "fragment") t ≡ true → is_operation_type t ≡ false
fragment_no_type t h =
    (λ i. (is_name t && bytes_eq (word_text (codes "fragment") t h i) (codes "query")) || ((is_name t && bytes_eq (word_text (codes "fragment") t h i) (codes "mutation")) || (is_name t && bytes_eq (word_text (codes "fragment") t h i) (codes "subscription"))))
    ∙ both_false (is_name t)

pub definition-predictive : (n k : ℕ) → Predictive n n (grammar.any_definition (suc n)) (grammar.any_definition k) (reading.any_definition n) (union (this (codes "{")) names) no_tokens false
unfolding reading.any_definition
definition-predictive n k = pick_first-predictive (is_punctuator (codes "{")) (is_punctuator-has (codes "{")) (short-predictive n k)
    (pick-predictive is_operation_type names (operation-predictive n k) (fragment-predictive n k) (operation_first k) (λ t ts a h. fragment_no_type t (fragment_first k t ts a h)) (λ t h. sym (is_name-has t) ∙ type_is_name t h)) refl

-- ---- documents

pub document-predictive : (n k : ℕ) → Predictive n n (grammar.document (suc n)) (grammar.document k) (reading.document n) (union (this (codes "{")) names) all_tokens false
unfolding reading.document
document-predictive n k =
    bind_apart-predictive (some-predictive reading.is_any all_tokens (λ t h. refl) (λ t h. refl) refl (definition-predictive n k)) (λ all. returns-predictive (record { definitions = all }))
    (λ t h. let no = disjoint-has no_tokens no_tokens t refl h in absurd cc)

pub nothing_next : (tokens : List Lexeme) → next_is reading.is_any tokens ≡ false → tokens ≡ []
nothing_next [] h = refl
nothing_next (t ∷ tokens) h = absurd cc

-- what is read one after another to the end leaves nothing
some_whole : {A : Type 0} {n : ℕ} {p q : Phrase A} {r : Reader A} {F N : Set} → Predictive n n p q r F N false
    → (tokens rest : List Lexeme) (all : List A) (b : Bool) → next_is reading.is_any tokens ≡ b → reading.some reading.is_any r tokens ≡ Ok (all, rest) → rest ≡ []
some_whole {n = n} {p = p} {r = r} one tokens rest all true e h =
    nothing_next rest (many_ends p r reading.is_any n one.found one.stopped (λ a x. false_true (one.solid a x)) one.begun one.local (length tokens) tokens rest all (omega arith)
    (sym (pick_yes reading.is_any (reading.many reading.is_any r) (λ ts. Err (stop.Unexpected, ts)) tokens e) ∙ h))
some_whole {r = r} one tokens rest all false e h = let no = sym (pick_no reading.is_any (reading.many reading.is_any r) (λ ts. Err (stop.Unexpected, ts)) tokens e) ∙ h in absurd cc

whole_by : {A B : Type 0} {n : ℕ} {p q : Phrase A} {r : Reader A} {F N : Set} (make : List A → B) → Predictive n n p q r F N false
    → (tokens rest : List Lexeme) (it : B) (x : reading.Reading (List A)) → reading.some reading.is_any r tokens ≡ x → reading.behind x (λ all. gives (make all)) ≡ Ok (it, rest) → rest ≡ []
whole_by make one tokens rest it (Ok x) e h = sym (same_rest h) ∙ some_whole one tokens x.1 x.0 (next_is reading.is_any tokens) refl e
whole_by make one tokens rest it (Err y) e h = absurd cc

pub to_the_end : {A B : Type 0} {n : ℕ} {p q : Phrase A} {r : Reader A} {F N : Set} (make : List A → B) → Predictive n n p q r F N false
    → (tokens rest : List Lexeme) (it : B) → reading.◌>>=◌ (reading.some reading.is_any r) (λ all. gives (make all)) tokens ≡ Ok (it, rest) → rest ≡ []
to_the_end {r = r} make one tokens rest it h = whole_by make one tokens rest it (reading.some reading.is_any r tokens) refl h

-- a document that is read leaves nothing
pub document_whole : (n : ℕ) (tokens rest : List Lexeme) (it : Document) → reading.document n tokens ≡ Ok (it, rest) → rest ≡ []
unfolding reading.document
document_whole n = to_the_end (λ all. record { definitions = all }) (definition-predictive n n)
