-- Readers by how many braces and brackets may still be opened.
use Rattle.std.proofs.Common.{codes, ◌≡◌, ℕ, suc, ◌-◌, ◌<◌, Bool, List, ap, arith}
use Rattle.gql_lex.specs.Tokens.{Lexeme}
use Rattle.gql_doc.specs.Terminals.{is_punctuator}
use Rattle.gql_doc.specs.inner.TypeReading.{braced}
use Rattle.gql_doc.specs.inner.Reading.{Reader, ◌>>=◌, gives, between, some, nested, nested_value, value, shut, begins_nested, type_ref, list_type, selection_set, any_selection, selections, begins_selection}
use Rattle.gql_model.specs.declared.syntax.TypeRef.TheVariants as type

pub nested_more : (constant : Bool) (room : ℕ) → 0 < room → nested constant room ≡ nested_value (value constant (room - 1))
unfolding nested
nested_more constant room some = let e : room ≡ suc (room - 1) = omega arith in ap (nested constant) e

pub nested_none : (constant : Bool) → nested constant 0 ≡ shut begins_nested
unfolding nested
nested_none constant = λ i. shut begins_nested

pub list_type_more : (room : ℕ) → 0 < room → list_type room ≡ (between (codes "[") (type_ref (room - 1)) (codes "]") >>= λ list. gives (type.List list.1))
unfolding list_type type_ref
list_type_more room some = let e : room ≡ suc (room - 1) = omega arith in ap list_type e

pub list_type_none : list_type 0 ≡ shut (is_punctuator (codes "["))
unfolding list_type
list_type_none = λ i. shut (is_punctuator (codes "["))

pub selection_set_more : (room : ℕ) → 0 < room → selection_set room ≡ between (codes "{") (some begins_selection (any_selection (room - 1) (selections (room - 1)))) (codes "}")
unfolding selection_set selections
selection_set_more room more = let e : room ≡ suc (room - 1) = omega arith in ap selection_set e

pub selection_set_none : selection_set 0 ≡ shut (is_punctuator (codes "{"))
unfolding selection_set
selection_set_none = λ i. shut (is_punctuator (codes "{"))

pub braced_more : {A : Type 0} (room : ℕ) (test : Lexeme → Bool) (item : ℕ → Reader A) → 0 < room → braced room test item ≡ (between (codes "{") (some test (item (room - 1))) (codes "}") >>= λ all. gives all.1)
unfolding braced
braced_more room test item more = let e : room ≡ suc (room - 1) = omega arith in ap (λ n. braced n test item) e

pub braced_none : {A : Type 0} (test : Lexeme → Bool) (item : ℕ → Reader A) → braced 0 test item ≡ shut (is_punctuator (codes "{"))
unfolding braced
braced_none test item = λ i. shut (is_punctuator (codes "{"))
