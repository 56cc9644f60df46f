-- The readers of type definitions read the productions of their grammar, and stop where no document goes on.
use Rattle.std.proofs.Common.{◌≡◌, ℕ, zero, suc, Bool, true, false, ◌||◌, List, [], ◌∷◌, Some, None, Ok, refl, sym, ◌∙◌, codes}
use Rattle.gql_lex.specs.Tokens.{Lexeme}
use Rattle.gql_lex.specs.declared.token.TokenKind.TheVariants as kind
use Rattle.gql_doc.specs.Phrase.{Phrase, token, returns, never}
use Rattle.gql_doc.specs.Phrase as phrase
use Rattle.gql_doc.specs.Grammar as base
use Rattle.gql_doc.specs.TypeGrammar as grammar
use Rattle.gql_doc.specs.Terminals.{is_punctuator, is_name, is_string, is_word, is_enum_value, is_operation_type}
use Rattle.gql_doc.specs.inner.Reading.{Reader, take, gives}
use Rattle.gql_doc.specs.inner.Reading as shared
use Rattle.gql_doc.specs.inner.TypeReading as reading
use Rattle.gql_doc.proofs.Sets.{Set, no_tokens, this, this_word, names, strings, all_tokens, union, only_if, has, disjoint, disjoint-has, has-union, is_punctuator-has, is_name-has, is_string-has, is_word-has}
use Rattle.gql_doc.proofs.Predictive.{Begun, Predictive, begun_first, begun_right, many_begun, more_begun, returns-predictive, token-predictive, bind-predictive, bind_apart-predictive, pick_first-predictive, other-predictive, shut-predictive, many-predictive, some-predictive}
use Rattle.gql_doc.proofs.Productions.{a_token, a_word, word_example, an_enum_value, query_is, punctuator_example, level_plain, punctuator-predictive, opens-predictive, closes-predictive, brace_opens, brace_closes, name-predictive, word-predictive, string-predictive, between-predictive, between_begun, between_first, between_empty, listed-predictive, optional-predictive, directives-predictive, named_type-predictive, non_null-predictive, type_ref-predictive, default-predictive, type_is_name, and_first, to_the_end}
use Rattle.gql_model.specs.declared.type_syntax.TypeDocument.{TypeDocument}

-- the punctuators and the words of these texts
abbrev some_of : List (List ℕ) → List (List ℕ) → Set
some_of texts words = record { punctuators = texts; words = words; names = false; numbers = false; strings = false; all = false }

-- ---- names

keyword-predictive : {n : ℕ} (word : List ℕ) → Predictive n n (token (is_word word)) (token (is_word word)) (take (is_word word)) (this_word word) no_tokens false
keyword-predictive {n = n} word = token-predictive (is_word word) (this_word word) (a_word word) (word_example word)
    (λ t h. sym (is_word-has word t) ∙ h) (λ t h. level_plain (this_word word) n refl refl t (sym (is_word-has word t) ∙ h))

description-predictive : {n : ℕ} → Predictive n n grammar.description grammar.description reading.description strings strings true
description-predictive = pick_first-predictive is_string is_string-has (bind-predictive string-predictive (λ it. returns-predictive (Some it)) refl) (returns-predictive None) refl

pub named-predictive : {n : ℕ} → Predictive n n grammar.named grammar.named reading.named names no_tokens false
named-predictive = bind-predictive name-predictive (λ word. returns-predictive (grammar.name_at word)) refl

module _ (text : List ℕ) (opens : disjoint (this text) (union (this (codes "[")) (this (codes "{"))) ≡ true) (closes : disjoint (this text) (union (this (codes "]")) (this (codes "}"))) ≡ true) where
  separated-predictive : {n : ℕ} → Predictive n n (grammar.separated text) (grammar.separated text) (reading.separated text) (this text) no_tokens false
  unfolding reading.separated
  separated-predictive = bind-predictive (punctuator-predictive text opens closes) (λ _. named-predictive) refl

  names-predictive : {n : ℕ} → Predictive n n (grammar.names text) (grammar.names text) (reading.names text) (union (this text) names) (this text) false
  unfolding reading.names reading.names_behind
  names-predictive =
      bind-predictive (optional-predictive text (punctuator-predictive text opens closes)) (λ _. bind-predictive named-predictive (λ first.
      bind-predictive (many-predictive (is_punctuator text) (this text) (λ t h. is_punctuator-has text t ∙ h) (λ t h. sym (is_punctuator-has text t) ∙ h) refl separated-predictive) (λ others.
      returns-predictive _) refl) refl) refl

-- ---- braces

-- items in braces
braced_from : {A : Type 0} {n : ℕ} {p q : Phrase A} {r : Reader A} {F N : Set} (test : Lexeme → Bool) (T : Set)
    → ((t : Lexeme) → has F t ≡ true → test t ≡ true) → ((t : Lexeme) → test t ≡ true → has T t ≡ true) → disjoint F N ≡ true
    → disjoint (this (codes "}")) (union T N) ≡ true → disjoint (union F (only_if false (this (codes "}")))) no_tokens ≡ true
    → Predictive n n p q r F N false
    → Predictive (suc n) (suc n) (phrase.◌>>=◌ (base.between (codes "{") (phrase.some p) (codes "}")) (λ all. returns all.1)) (phrase.◌>>=◌ (base.between (codes "{") (phrase.some q) (codes "}")) (λ all. returns all.1))
    (shared.◌>>=◌ (shared.between (codes "{") (shared.some test r) (codes "}")) (λ all. gives all.1)) (this (codes "{")) no_tokens false
braced_from test T passes covers apart closed fresh one =
    bind-predictive (between-predictive false (codes "{") (codes "}") (opens-predictive (codes "{") brace_opens) (some-predictive test T passes covers apart one) (closes-predictive (codes "}") refl brace_closes) closed fresh)
    (λ all. returns-predictive all.1) refl

braced_begun : {A : Type 0} (item : ℕ → Phrase A) → Begun (item 0) [] → (t : Lexeme) → is_punctuator (codes "{") t ≡ true → Begun (grammar.braced 1 item) (t ∷ [])
braced_begun item one t opens =
    let all = begun_first [] one (more_begun (item 0)) in
    between_begun (codes "{") (codes "}") (phrase.some (item 0)) (λ x. x.1) t all.more all.value opens all.is

braced_begun_none : {A : Type 0} (item : ℕ → Phrase A) → Begun (item 0) [] → Begun (grammar.braced 1 item) []
braced_begun_none item one =
    let b = braced_begun item one (a_token kind.Punctuator (codes "{")) (punctuator_example (codes "{")) in
    record { more = a_token kind.Punctuator (codes "{") ∷ b.more; value = b.value; is = b.is }

braced_passes : {A : Type 0} (item : ℕ → Phrase A) (depth : ℕ) (t : Lexeme) (ts : List Lexeme) (a : List A) → grammar.braced depth item (t ∷ ts) a → is_punctuator (codes "{") t ≡ true
braced_passes item zero t ts a h = absurd h
braced_passes item (suc depth) t ts a h = between_first (codes "{") (codes "}") (phrase.some (item depth)) (λ x. returns x.1) t ts a h

braced_empty : {A : Type 0} (item : ℕ → Phrase A) (depth : ℕ) (a : List A) → grammar.braced depth item [] a → ⊥
braced_empty item zero a h = h
braced_empty item (suc depth) a h = between_empty (codes "{") (codes "}") (phrase.some (item depth)) (λ x. returns x.1) a h

module _ {A : Type 0} (item : ℕ → Phrase A) (reader : ℕ → Reader A) (F N : Set) (test : Lexeme → Bool) (T : Set)
    (passes : (t : Lexeme) → has F t ≡ true → test t ≡ true) (covers : (t : Lexeme) → test t ≡ true → has T t ≡ true) (apart : disjoint F N ≡ true)
    (closed : disjoint (this (codes "}")) (union T N) ≡ true) (fresh : disjoint (union F (only_if false (this (codes "}")))) no_tokens ≡ true)
    (begun : Begun (item 0) []) (one : (n k : ℕ) → Predictive n n (item (suc n)) (item k) (reader n) F N false) where
  braced-predictive : (n k : ℕ) → Predictive n n (grammar.braced (suc n) item) (grammar.braced k item) (reading.braced n test reader) (this (codes "{")) no_tokens false
  unfolding reading.braced
  braced-predictive zero k = shut-predictive (grammar.braced 1 item) (grammar.braced k item) (is_punctuator (codes "{")) (this (codes "{")) (braced_begun_none item begun)
      (braced_empty item 1) (braced_empty item k) (λ t h. (brace_opens t h, braced_begun item begun t h)) (braced_passes item k) (λ t h. sym (is_punctuator-has (codes "{") t) ∙ h)
  braced-predictive (suc n) (suc k) = braced_from test T passes covers apart closed fresh (one n k)
  braced-predictive (suc n) zero = other-predictive (grammar.braced (suc (suc n)) item) never (λ tokens a h. h) (λ tokens a h. h) (λ tokens a h. absurd h)
      (braced_from test T passes covers apart closed fresh (one n 0))

-- ---- arguments, fields and input fields

abbrev described : Set
described = union strings names

begins_described-has : (t : Lexeme) → reading.begins_described t ≡ has described t
begins_described-has t = (λ i. is_string-has t i || is_name-has t i) ∙ sym (has-union strings names t)

pub input_value-predictive : (n k : ℕ) → Predictive n n (grammar.input_value (suc n)) (grammar.input_value k) (reading.input_value n) described (some_of (codes "@" ∷ codes "(" ∷ codes "=" ∷ codes "!" ∷ []) []) false
unfolding reading.input_value
input_value-predictive n k =
    bind-predictive description-predictive (λ _. bind-predictive named-predictive (λ name. bind-predictive (punctuator-predictive (codes ":") refl refl) (λ _.
    bind-predictive (type_ref-predictive n k) (λ kind. bind-predictive (optional-predictive (codes "=") (default-predictive n k)) (λ default. bind-predictive (directives-predictive true n k) (λ used.
    returns-predictive _) refl) refl) refl) refl) refl) refl

arguments-predictive : (n k : ℕ) → Predictive n n (grammar.arguments_definition (suc n)) (grammar.arguments_definition k) (reading.arguments_definition n) (this (codes "(")) (this (codes "(")) true
unfolding reading.arguments_definition
arguments-predictive n k = listed-predictive (codes "(")
    (bind-predictive (between-predictive false (codes "(") (codes ")") (punctuator-predictive (codes "(") refl refl)
    (some-predictive reading.begins_described described (λ t h. begins_described-has t ∙ h) (λ t h. sym (begins_described-has t) ∙ h) refl (input_value-predictive n k))
    (punctuator-predictive (codes ")") refl refl) refl refl)
    (λ all. returns-predictive all.1) refl)

pub field-predictive : (n k : ℕ) → Predictive n n (grammar.field_definition (suc n)) (grammar.field_definition k) (reading.field_definition n) described (some_of (codes "@" ∷ codes "(" ∷ codes "!" ∷ []) []) false
unfolding reading.field_definition
field-predictive n k =
    bind-predictive description-predictive (λ _. bind-predictive named-predictive (λ name. bind-predictive (arguments-predictive n k) (λ arguments. bind-predictive (punctuator-predictive (codes ":") refl refl) (λ _.
    bind-predictive (type_ref-predictive n k) (λ kind. bind-predictive (directives-predictive true n k) (λ used. returns-predictive _) refl) refl) refl) refl) refl) refl

-- what may begin such an item, whatever the depth
type_begun : Begun (base.type_ref 0) []
type_begun = begun_first [] (named_type-predictive {n = 0}).begun (λ t. (non_null-predictive {n = 0} t).begun)

no_default : Begun (phrase.optional (base.default_value 0)) []
no_default = begun_right _ _ [] (returns-predictive {room = 0} None).begun

no_arguments : Begun (grammar.arguments_definition 0) []
no_arguments = begun_right _ _ [] (returns-predictive {room = 0} []).begun

input_begun : Begun (grammar.input_value 0) []
input_begun =
    begun_first [] (description-predictive {n = 0}).begun (λ _. begun_first [] (named-predictive {n = 0}).begun (λ name. begun_first [] (punctuator-predictive {n = 0} (codes ":") refl refl).begun (λ _.
    begun_first [] type_begun (λ kind. begun_first [] no_default (λ default. begun_first [] (many_begun (base.directive true 0)) (λ used. (returns-predictive {room = 0} _).begun))))))

field_begun : Begun (grammar.field_definition 0) []
field_begun =
    begun_first [] (description-predictive {n = 0}).begun (λ _. begun_first [] (named-predictive {n = 0}).begun (λ name. begun_first [] no_arguments (λ arguments. begun_first [] (punctuator-predictive {n = 0} (codes ":") refl refl).begun (λ _.
    begun_first [] type_begun (λ kind. begun_first [] (many_begun (base.directive true 0)) (λ used. (returns-predictive {room = 0} _).begun))))))

fields-predictive : (n k : ℕ) → Predictive n n (grammar.fields_definition (suc n)) (grammar.fields_definition k) (reading.fields_definition n) (this (codes "{")) (this (codes "{")) true
unfolding reading.fields_definition
fields-predictive n k = listed-predictive (codes "{") (braced-predictive grammar.field_definition reading.field_definition described (some_of (codes "@" ∷ codes "(" ∷ codes "!" ∷ []) []) reading.begins_described described
    (λ t h. begins_described-has t ∙ h) (λ t h. sym (begins_described-has t) ∙ h) refl refl refl field_begun field-predictive n k)

input_fields-predictive : (n k : ℕ) → Predictive n n (phrase.listed (grammar.braced (suc n) grammar.input_value)) (phrase.listed (grammar.braced k grammar.input_value)) (reading.input_fields n) (this (codes "{")) (this (codes "{")) true
unfolding reading.input_fields
input_fields-predictive n k = listed-predictive (codes "{") (braced-predictive grammar.input_value reading.input_value described (some_of (codes "@" ∷ codes "(" ∷ codes "=" ∷ codes "!" ∷ []) []) reading.begins_described described
    (λ t h. begins_described-has t ∙ h) (λ t h. sym (begins_described-has t) ∙ h) refl refl refl input_begun input_value-predictive n k)

implements-predictive : {n : ℕ} → Predictive n n grammar.implements grammar.implements reading.implements (this_word (codes "implements")) (some_of (codes "&" ∷ []) (codes "implements" ∷ [])) true
unfolding reading.implements
implements-predictive = pick_first-predictive reading.is_implements (is_word-has (codes "implements"))
    (bind-predictive (keyword-predictive (codes "implements")) (λ _. names-predictive (codes "&") refl refl) refl) (returns-predictive []) refl

-- ---- types

scalar-predictive : (n k : ℕ) → Predictive n n (grammar.scalar_definition (suc n)) (grammar.scalar_definition k) (reading.scalar_definition n) (this_word (codes "scalar")) (some_of (codes "@" ∷ codes "(" ∷ []) []) false
unfolding reading.scalar_definition
scalar-predictive n k = bind-predictive (keyword-predictive (codes "scalar")) (λ _. bind-predictive named-predictive (λ name. bind-predictive (directives-predictive true n k) (λ used. returns-predictive _) refl) refl) refl

object-predictive : (n k : ℕ) → Predictive n n (grammar.object_definition (suc n)) (grammar.object_definition k) (reading.object_definition n) (this_word (codes "type")) (some_of (codes "{" ∷ codes "@" ∷ codes "(" ∷ codes "&" ∷ []) (codes "implements" ∷ [])) false
unfolding reading.object_definition
object-predictive n k =
    bind-predictive (keyword-predictive (codes "type")) (λ _. bind-predictive named-predictive (λ name. bind-predictive implements-predictive (λ implemented.
    bind-predictive (directives-predictive true n k) (λ used. bind-predictive (fields-predictive n k) (λ fields. returns-predictive _) refl) refl) refl) refl) refl

interface-predictive : (n k : ℕ) → Predictive n n (grammar.interface_definition (suc n)) (grammar.interface_definition k) (reading.interface_definition n) (this_word (codes "interface")) (some_of (codes "{" ∷ codes "@" ∷ codes "(" ∷ codes "&" ∷ []) (codes "implements" ∷ [])) false
unfolding reading.interface_definition
interface-predictive n k =
    bind-predictive (keyword-predictive (codes "interface")) (λ _. bind-predictive named-predictive (λ name. bind-predictive implements-predictive (λ implemented.
    bind-predictive (directives-predictive true n k) (λ used. bind-predictive (fields-predictive n k) (λ fields. returns-predictive _) refl) refl) refl) refl) refl

members-predictive : {n : ℕ} → Predictive n n grammar.union_members grammar.union_members reading.union_members (this (codes "=")) (some_of (codes "|" ∷ codes "=" ∷ []) []) true
unfolding reading.union_members
members-predictive = pick_first-predictive (is_punctuator (codes "=")) (is_punctuator-has (codes "="))
    (bind-predictive (punctuator-predictive (codes "=") refl refl) (λ _. names-predictive (codes "|") refl refl) refl) (returns-predictive []) refl

union-predictive : (n k : ℕ) → Predictive n n (grammar.union_definition (suc n)) (grammar.union_definition k) (reading.union_definition n) (this_word (codes "union")) (some_of (codes "|" ∷ codes "=" ∷ codes "@" ∷ codes "(" ∷ []) []) false
unfolding reading.union_definition
union-predictive n k =
    bind-predictive (keyword-predictive (codes "union")) (λ _. bind-predictive named-predictive (λ name. bind-predictive (directives-predictive true n k) (λ used.
    bind-predictive members-predictive (λ members. returns-predictive _) refl) refl) refl) refl

pub enum_value-predictive : (n k : ℕ) → Predictive n n (grammar.enum_value (suc n)) (grammar.enum_value k) (reading.enum_value n) described (some_of (codes "@" ∷ codes "(" ∷ []) []) false
unfolding reading.enum_value
enum_value-predictive n k =
    bind-predictive description-predictive (λ _. bind-predictive (word-predictive is_enum_value (a_word (codes "a")) an_enum_value (λ t h. and_first (is_name t) _ h)) (λ word.
    bind-predictive (directives-predictive true n k) (λ used. returns-predictive _) refl) refl) refl

enum_value_begun : Begun (grammar.enum_value 0) []
enum_value_begun =
    begun_first [] (description-predictive {n = 0}).begun (λ _. begun_first [] (word-predictive {n = 0} is_enum_value (a_word (codes "a")) an_enum_value (λ t h. and_first (is_name t) _ h)).begun (λ word.
    begun_first [] (many_begun (base.directive true 0)) (λ used. (returns-predictive {room = 0} _).begun)))

enum_values-predictive : (n k : ℕ) → Predictive n n (phrase.listed (grammar.braced (suc n) grammar.enum_value)) (phrase.listed (grammar.braced k grammar.enum_value)) (reading.enum_values n) (this (codes "{")) (this (codes "{")) true
unfolding reading.enum_values
enum_values-predictive n k = listed-predictive (codes "{") (braced-predictive grammar.enum_value reading.enum_value described (some_of (codes "@" ∷ codes "(" ∷ []) []) reading.begins_described described
    (λ t h. begins_described-has t ∙ h) (λ t h. sym (begins_described-has t) ∙ h) refl refl refl enum_value_begun enum_value-predictive n k)

enum-predictive : (n k : ℕ) → Predictive n n (grammar.enum_definition (suc n)) (grammar.enum_definition k) (reading.enum_definition n) (this_word (codes "enum")) (some_of (codes "{" ∷ codes "@" ∷ codes "(" ∷ []) []) false
unfolding reading.enum_definition
enum-predictive n k =
    bind-predictive (keyword-predictive (codes "enum")) (λ _. bind-predictive named-predictive (λ name. bind-predictive (directives-predictive true n k) (λ used.
    bind-predictive (enum_values-predictive n k) (λ values. returns-predictive _) refl) refl) refl) refl

input-predictive : (n k : ℕ) → Predictive n n (grammar.input_definition (suc n)) (grammar.input_definition k) (reading.input_definition n) (this_word (codes "input")) (some_of (codes "{" ∷ codes "@" ∷ codes "(" ∷ []) []) false
unfolding reading.input_definition
input-predictive n k =
    bind-predictive (keyword-predictive (codes "input")) (λ _. bind-predictive named-predictive (λ name. bind-predictive (directives-predictive true n k) (λ used.
    bind-predictive (input_fields-predictive n k) (λ fields. returns-predictive _) refl) refl) refl) refl

type-predictive : (n k : ℕ) → Predictive n n (grammar.type_definition (suc n)) (grammar.type_definition k) (reading.type_definition n) (some_of [] (codes "scalar" ∷ codes "type" ∷ codes "interface" ∷ codes "union" ∷ codes "enum" ∷ codes "input" ∷ [])) (some_of (codes "@" ∷ codes "(" ∷ codes "{" ∷ codes "@" ∷ codes "(" ∷ codes "&" ∷ codes "{" ∷ codes "@" ∷ codes "(" ∷ codes "&" ∷ codes "|" ∷ codes "=" ∷ codes "@" ∷ codes "(" ∷ codes "{" ∷ codes "@" ∷ codes "(" ∷ codes "{" ∷ codes "@" ∷ codes "(" ∷ []) (codes "implements" ∷ codes "implements" ∷ [])) false
unfolding reading.type_definition
type-predictive n k =
    pick_first-predictive (is_word (codes "scalar")) (is_word-has (codes "scalar")) (scalar-predictive n k)
    (pick_first-predictive (is_word (codes "type")) (is_word-has (codes "type")) (object-predictive n k)
    (pick_first-predictive (is_word (codes "interface")) (is_word-has (codes "interface")) (interface-predictive n k)
    (pick_first-predictive (is_word (codes "union")) (is_word-has (codes "union")) (union-predictive n k)
    (pick_first-predictive (is_word (codes "enum")) (is_word-has (codes "enum")) (enum-predictive n k)
    (input-predictive n k) refl) refl) refl) refl) refl

-- ---- schemas, directives and documents

pub root_type-predictive : {n : ℕ} → Predictive n n grammar.root_type grammar.root_type reading.root_type names no_tokens false
unfolding reading.root_type
root_type-predictive = bind-predictive (word-predictive is_operation_type (a_word (codes "query")) query_is type_is_name) (λ word. bind-predictive (punctuator-predictive (codes ":") refl refl) (λ _.
    bind-predictive named-predictive (λ name. returns-predictive _) refl) refl) refl

root_types-predictive : (n k : ℕ) → Predictive n n (grammar.braced (suc n) (λ _. grammar.root_type)) (grammar.braced k (λ _. grammar.root_type)) (reading.root_types n) (this (codes "{")) no_tokens false
unfolding reading.root_types
root_types-predictive = braced-predictive (λ _. grammar.root_type) (λ _. reading.root_type) names no_tokens is_name names
    (λ t h. is_name-has t ∙ h) (λ t h. sym (is_name-has t) ∙ h) refl refl refl (root_type-predictive {n = 0}).begun (λ n k. root_type-predictive)

schema-predictive : (n k : ℕ) → Predictive n n (grammar.schema_definition (suc n)) (grammar.schema_definition k) (reading.schema_definition n) (this_word (codes "schema")) no_tokens false
unfolding reading.schema_definition
schema-predictive n k = bind-predictive (keyword-predictive (codes "schema")) (λ word. bind-predictive (directives-predictive true n k) (λ used. bind-predictive (root_types-predictive n k) (λ roots. returns-predictive _) refl) refl) refl

repeatable-predictive : {n : ℕ} → Predictive n n (phrase.optional (token (is_word (codes "repeatable")))) (phrase.optional (token (is_word (codes "repeatable")))) (reading.maybe (is_word (codes "repeatable"))) (this_word (codes "repeatable")) (this_word (codes "repeatable")) true
repeatable-predictive = pick_first-predictive (is_word (codes "repeatable")) (is_word-has (codes "repeatable")) (bind-predictive (keyword-predictive (codes "repeatable")) (λ it. returns-predictive (Some it)) refl) (returns-predictive None) refl

directive_definition-predictive : (n k : ℕ) → Predictive n n (grammar.directive_definition (suc n)) (grammar.directive_definition k) (reading.directive_definition n) (this_word (codes "directive")) (this (codes "|")) false
unfolding reading.directive_definition
directive_definition-predictive n k =
    bind-predictive (keyword-predictive (codes "directive")) (λ _. bind-predictive (punctuator-predictive (codes "@") refl refl) (λ _. bind-predictive named-predictive (λ name. bind-predictive (arguments-predictive n k) (λ arguments.
    bind-predictive repeatable-predictive (λ _. bind-predictive (keyword-predictive (codes "on")) (λ _. bind-predictive (names-predictive (codes "|") refl refl) (λ locations. returns-predictive _) refl) refl) refl) refl) refl) refl) refl

undescribed-predictive : (n k : ℕ) → Predictive n n (grammar.undescribed_definition (suc n)) (grammar.undescribed_definition k) (reading.undescribed_definition n) (some_of [] (codes "schema" ∷ codes "directive" ∷ codes "scalar" ∷ codes "type" ∷ codes "interface" ∷ codes "union" ∷ codes "enum" ∷ codes "input" ∷ [])) (some_of (codes "|" ∷ codes "@" ∷ codes "(" ∷ codes "{" ∷ codes "@" ∷ codes "(" ∷ codes "&" ∷ codes "{" ∷ codes "@" ∷ codes "(" ∷ codes "&" ∷ codes "|" ∷ codes "=" ∷ codes "@" ∷ codes "(" ∷ codes "{" ∷ codes "@" ∷ codes "(" ∷ codes "{" ∷ codes "@" ∷ codes "(" ∷ []) (codes "implements" ∷ codes "implements" ∷ [])) false
unfolding reading.undescribed_definition
undescribed-predictive n k =
    pick_first-predictive (is_word (codes "schema")) (is_word-has (codes "schema")) (schema-predictive n k)
    (pick_first-predictive (is_word (codes "directive")) (is_word-has (codes "directive")) (directive_definition-predictive n k) (type-predictive n k) refl) refl

-- what begins a definition, and what goes on with one
abbrev definition_first : Set
definition_first = union strings (some_of [] (codes "schema" ∷ codes "directive" ∷ codes "scalar" ∷ codes "type" ∷ codes "interface" ∷ codes "union" ∷ codes "enum" ∷ codes "input" ∷ []))

abbrev definition_follow : Set
definition_follow = (some_of (codes "|" ∷ codes "@" ∷ codes "(" ∷ codes "{" ∷ codes "@" ∷ codes "(" ∷ codes "&" ∷ codes "{" ∷ codes "@" ∷ codes "(" ∷ codes "&" ∷ codes "|" ∷ codes "=" ∷ codes "@" ∷ codes "(" ∷ codes "{" ∷ codes "@" ∷ codes "(" ∷ codes "{" ∷ codes "@" ∷ codes "(" ∷ []) (codes "implements" ∷ codes "implements" ∷ []))

pub definition-predictive : (n k : ℕ) → Predictive n n (grammar.system_definition (suc n)) (grammar.system_definition k) (reading.system_definition n) definition_first definition_follow false
unfolding reading.system_definition
definition-predictive n k = bind-predictive description-predictive (λ _. undescribed-predictive n k) refl

pub document_first : Set
document_first = definition_first

pub document_follow : Set
document_follow = union all_tokens definition_follow

pub document-predictive : (n k : ℕ) → Predictive n n (grammar.type_document (suc n)) (grammar.type_document k) (reading.type_document n) document_first document_follow false
unfolding reading.type_document document_first document_follow
document-predictive n k =
    bind_apart-predictive (some-predictive shared.is_any all_tokens (λ t h. refl) (λ t h. refl) refl (definition-predictive n k)) (λ all. returns-predictive (record { definitions = all }))
    (λ t h. let no = disjoint-has no_tokens no_tokens t refl h in absurd cc)

-- a document that is read leaves nothing
pub document_whole : (n : ℕ) (tokens rest : List Lexeme) (it : TypeDocument) → reading.type_document n tokens ≡ Ok (it, rest) → rest ≡ []
unfolding reading.type_document
document_whole n = to_the_end (λ all. record { definitions = all }) (definition-predictive n n)
