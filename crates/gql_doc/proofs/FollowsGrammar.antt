-- Each phrase of the grammar is kept by tokens that are alike, and its value is the same up to places.
use Rattle.std.proofs.Common.{◌≡◌, ℕ, zero, suc, Bool, true, false, List, [], map, Option, Some, None, refl, sym, ◌∙◌, ap}
use Rattle.std.specs.Prelude.{◌&&◌, ◌||◌, not, if◌then◌else◌, option_map, codes}
use Rattle.std.specs.Str.{bytes_eq}
use Rattle.gql_tree.specs.declared.delivery.Spot.{Spot}
use Rattle.gql_lex.specs.Tokens.{Lexeme}
use Rattle.gql_doc.specs.StringValue.{string_value}
use Rattle.gql_doc.specs.Phrase.{Phrase, token}
use Rattle.gql_doc.specs.Terminals.{is_punctuator, is_name, is_number, is_string, is_word, is_fragment_name, is_operation_type}
use Rattle.gql_doc.specs.Grammar
use Rattle.gql_doc.specs.Unplaced.{nowhere, unplaced_value, unplaced_argument, unplaced_directive, unplaced_type, unplaced_variable, unplaced_selection, unplaced_definition, unplaced}
use Rattle.gql_doc.proofs.UnplacedForms.{unplaced_Variable, unplaced_Int, unplaced_Text, unplaced_Bool, unplaced_Null, unplaced_Enum, unplaced_List, unplaced_Object, unplaced_argument-roll, unplaced_Named, unplaced_ListType, unplaced_NonNull, unplaced_Field, unplaced_Spread, unplaced_Inline}
use Rattle.gql_doc.proofs.Words.{and_left, operation_type_named}
use Rattle.gql_doc.proofs.Follows.{Alike, Follows, By, Any, OptionSame, follows_token, follows_returns, follows_bind, follows_either, follows_never, follows_many, follows_some, follows_optional, follows_listed}
use Rattle.gql_model.specs.declared.syntax.Literal.{Literal}
use Rattle.gql_model.specs.declared.syntax.Literal.TheVariants as literal
use Rattle.gql_model.specs.declared.syntax.Argument.{roll-Argument}
use Rattle.gql_model.specs.declared.syntax.TypeRef.{TypeRef}
use Rattle.gql_model.specs.declared.syntax.TypeRef.TheVariants as type
use Rattle.gql_model.specs.declared.syntax.FieldNode.{roll-FieldNode}
use Rattle.gql_model.specs.declared.syntax.InlineNode.{roll-InlineNode}
use Rattle.gql_model.specs.declared.syntax.Selection.{Selection}
use Rattle.gql_model.specs.declared.syntax.Selection.TheVariants as selection
use Rattle.gql_model.specs.declared.syntax.OperationKind.{OperationKind}
use Rattle.gql_model.specs.declared.syntax.OperationKind.TheVariants as operation
use Rattle.gql_model.specs.declared.syntax.Definition.TheVariants as definition

-- ---- tokens

abbrev pub SameText : Lexeme → Lexeme → Type 0
SameText t o = t.text ≡ o.text

-- a test of a name is a test of its kind and its text
same_word : (test : Bool → List ℕ → Bool) (t o : Lexeme) → Alike t o → is_name t ≡ true → test (is_name t) t.text ≡ true → test (is_name o) o.text ≡ true
same_word test t o alike named h = (λ i. test (alike.names i) (sym (alike.name named) i)) ∙ h

pub follows_punctuator : (text : List ℕ) → Follows (Grammar.punctuator text) (Grammar.punctuator text) (Any {A = Lexeme} {B = Lexeme})
follows_punctuator text = follows_token (is_punctuator text) (λ t o alike h. (alike.punctuators text ∙ h, tt))

pub follows_name : Follows Grammar.name Grammar.name SameText
follows_name = follows_token is_name (λ t o alike h. (alike.names ∙ h, alike.name h))

follows_number : Follows (token is_number) (token is_number) SameText
follows_number = follows_token is_number (λ t o alike h. (alike.numbers ∙ h, alike.number h))

follows_string : Follows (token is_string) (token is_string) (λ t o. string_value t.kind t.text ≡ string_value o.kind o.text)
follows_string = follows_token is_string (λ t o alike h. (alike.strings ∙ h, alike.string h))

follows_word : (word : List ℕ) → Follows (token (is_word word)) (token (is_word word)) (Any {A = Lexeme} {B = Lexeme})
follows_word word = follows_token (is_word word) (λ t o alike h. (same_word (λ b text. b && bytes_eq text word) t o alike (and_left _ _ h) h, tt))

follows_fragment_name : Follows (token is_fragment_name) (token is_fragment_name) SameText
follows_fragment_name = follows_token is_fragment_name (λ t o alike h. (same_word (λ b text. b && not (bytes_eq text (codes "on"))) t o alike (and_left _ _ h) h, alike.name (and_left _ _ h)))

operation_test : Bool → List ℕ → Bool
operation_test b text = (b && bytes_eq text (codes "query")) || ((b && bytes_eq text (codes "mutation")) || (b && bytes_eq text (codes "subscription")))

follows_operation_type : Follows (token is_operation_type) (token is_operation_type) SameText
unfolding operation_test
follows_operation_type = follows_token is_operation_type (λ t o alike h.
    let named : is_name t ≡ true = operation_type_named t h in
    (same_word operation_test t o alike named h, alike.name named))

-- what stands between two punctuators
pub follows_between : {A B : Type 0} {p : Phrase A} {q : Phrase B} {S : A → B → Type 0} (opening closing : List ℕ) → Follows p q S → Follows (Grammar.between opening p closing) (Grammar.between opening q closing) (λ x y. S x.1 y.1)
follows_between opening closing inside =
    follows_bind (follows_punctuator opening) (λ a b _. follows_bind inside (λ x y same. follows_bind (follows_punctuator closing) (λ c d _. follows_returns same)))

-- ---- values

abbrev SameValue : Literal → Literal → Type 0
SameValue = By unplaced_value

-- a word means the same anywhere
word_by : Bool → Bool → Bool → List ℕ → Spot → Literal
word_by a b c text spot = if a then literal.Bool true spot else (if b then literal.Bool false spot else (if c then literal.Null spot else literal.Enum text spot))

unplaced_word : (a b c : Bool) (text : List ℕ) (spot : Spot) → unplaced_value (word_by a b c text spot) ≡ word_by a b c text nowhere
unfolding word_by
unplaced_word true b c text spot = unplaced_Bool true spot
unplaced_word false true c text spot = unplaced_Bool false spot
unplaced_word false false true text spot = unplaced_Null spot
unplaced_word false false false text spot = unplaced_Enum text spot

word_of : List ℕ → Spot → Literal
word_of text spot = word_by (bytes_eq text (codes "true")) (bytes_eq text (codes "false")) (bytes_eq text (codes "null")) text spot

unplaced_word_of : (text : List ℕ) (spot : Spot) → unplaced_value (word_of text spot) ≡ word_of text nowhere
unfolding word_of
unplaced_word_of text spot = unplaced_word _ _ _ text spot

word_same : (t o : Lexeme) → SameText t o → SameValue (Grammar.word_value t) (Grammar.word_value o)
unfolding word_by word_of
word_same t o same = unplaced_word_of t.text t.spot ∙ (ap (λ text. word_of text nowhere) same ∙ sym (unplaced_word_of o.text o.spot))

follows_variable : (constant : Bool) → Follows (Grammar.variable constant) (Grammar.variable constant) SameValue
follows_variable true = follows_never
follows_variable false = follows_bind (follows_punctuator (codes "$")) (λ a b _. follows_bind follows_name (λ t o same.
    follows_returns (unplaced_Variable t.text a.spot ∙ (ap (λ name. literal.Variable name nowhere) same ∙ sym (unplaced_Variable o.text b.spot)))))

follows_simple : (constant : Bool) → Follows (Grammar.simple_value constant) (Grammar.simple_value constant) SameValue
follows_simple constant =
    follows_either (follows_variable constant)
    (follows_either (follows_bind follows_number (λ t o same. follows_returns (unplaced_Int t.text t.spot ∙ (ap (λ digits. literal.Int digits nowhere) same ∙ sym (unplaced_Int o.text o.spot)))))
    (follows_either (follows_bind follows_string (λ t o same. follows_returns (unplaced_Text _ t.spot ∙ (ap (λ text. literal.Text text nowhere) same ∙ sym (unplaced_Text _ o.spot)))))
    (follows_bind follows_name (λ t o same. follows_returns (word_same t o same)))))

follows_argument : {p q : Phrase Literal} → Follows p q SameValue → Follows (Grammar.argument p) (Grammar.argument q) (By unplaced_argument)
follows_argument value =
    follows_bind follows_name (λ t o same. follows_bind (follows_punctuator (codes ":")) (λ c d _. follows_bind value (λ x y is. follows_returns (
    unplaced_argument-roll (record { name = t.text; value = x; spot = t.spot })
    ∙ ((λ i. roll-Argument (record { name = same i; value = is i; spot = nowhere }))
    ∙ sym (unplaced_argument-roll (record { name = o.text; value = y; spot = o.spot })))))))

pub follows_value : (constant : Bool) (depth : ℕ) → Follows (Grammar.value constant depth) (Grammar.value constant depth) SameValue
follows_value constant zero = follows_simple constant
follows_value constant (suc depth) =
    let inside : Follows (Grammar.value constant depth) (Grammar.value constant depth) SameValue = follows_value constant depth in
    follows_either (follows_simple constant)
    (follows_either
    (follows_bind (follows_between (codes "[") (codes "]") (follows_many unplaced_value inside)) (λ x y same.
    follows_returns (unplaced_List x.1 x.0 ∙ (ap (λ items. literal.List items nowhere) same ∙ sym (unplaced_List y.1 y.0)))))
    (follows_bind (follows_between (codes "{") (codes "}") (follows_many unplaced_argument (follows_argument inside))) (λ x y same.
    follows_returns (unplaced_Object x.1 x.0 ∙ (ap (λ members. literal.Object members nowhere) same ∙ sym (unplaced_Object y.1 y.0))))))

follows_arguments : (constant : Bool) (depth : ℕ) → Follows (Grammar.arguments constant depth) (Grammar.arguments constant depth) (By (map unplaced_argument))
follows_arguments constant depth =
    follows_listed unplaced_argument (follows_bind (follows_between (codes "(") (codes ")") (follows_some unplaced_argument (follows_argument (follows_value constant depth)))) (λ x y same. follows_returns same))

follows_directive : (constant : Bool) (depth : ℕ) → Follows (Grammar.directive constant depth) (Grammar.directive constant depth) (By unplaced_directive)
follows_directive constant depth =
    follows_bind (follows_punctuator (codes "@")) (λ a b _. follows_bind follows_name (λ t o same. follows_bind (follows_arguments constant depth) (λ xs ys given.
    follows_returns (λ i. record { name = same i; arguments = given i; spot = nowhere }))))

follows_directives : (constant : Bool) (depth : ℕ) → Follows (Grammar.directives constant depth) (Grammar.directives constant depth) (By (map unplaced_directive))
follows_directives constant depth = follows_many unplaced_directive (follows_directive constant depth)

-- ---- variables

abbrev SameType : TypeRef → TypeRef → Type 0
SameType = By unplaced_type

follows_maybe_non_null : (x y : TypeRef) → SameType x y → Follows (Grammar.maybe_non_null x) (Grammar.maybe_non_null y) SameType
follows_maybe_non_null x y same =
    follows_either
    (follows_bind (follows_punctuator (codes "!")) (λ a b _. follows_returns (unplaced_NonNull x ∙ (ap type.NonNull same ∙ sym (unplaced_NonNull y)))))
    (follows_returns same)

follows_named_type : Follows Grammar.named_type Grammar.named_type SameType
follows_named_type = follows_bind follows_name (λ t o same. follows_returns (unplaced_Named t.text t.spot ∙ (ap (λ name. type.Named name nowhere) same ∙ sym (unplaced_Named o.text o.spot))))

follows_type : (depth : ℕ) → Follows (Grammar.type_ref depth) (Grammar.type_ref depth) SameType
follows_type zero = follows_bind follows_named_type follows_maybe_non_null
follows_type (suc depth) =
    let inside : Follows (Grammar.type_ref depth) (Grammar.type_ref depth) SameType = follows_type depth in
    follows_bind
    (follows_either follows_named_type (follows_bind (follows_between (codes "[") (codes "]") inside) (λ x y same.
    follows_returns (unplaced_ListType x.1 ∙ (ap type.List same ∙ sym (unplaced_ListType y.1))))))
    follows_maybe_non_null

follows_default : (depth : ℕ) → Follows (Grammar.default_value depth) (Grammar.default_value depth) SameValue
follows_default depth = follows_bind (follows_punctuator (codes "=")) (λ a b _. follows_value true depth)

default_same : (x y : Option Literal) → OptionSame SameValue x y → option_map unplaced_value x ≡ option_map unplaced_value y
default_same None None h = refl
default_same None (Some y) h = absurd h
default_same (Some x) None h = absurd h
default_same (Some x) (Some y) h = ap Some h

follows_variable_definition : (depth : ℕ) → Follows (Grammar.variable_definition depth) (Grammar.variable_definition depth) (By unplaced_variable)
follows_variable_definition depth =
    follows_bind (follows_punctuator (codes "$")) (λ a b _. follows_bind follows_name (λ t o same. follows_bind (follows_punctuator (codes ":")) (λ c d _.
    follows_bind (follows_type depth) (λ k l kinds. follows_bind (follows_optional (follows_default depth)) (λ x y defaults.
    follows_bind (follows_directives true depth) (λ us vs used.
    let default : option_map unplaced_value x ≡ option_map unplaced_value y = default_same x y defaults in
    follows_returns (λ i. record { name = same i; kind = kinds i; default = default i; directives = used i; spot = nowhere })))))))

follows_variable_definitions : (depth : ℕ) → Follows (Grammar.variable_definitions depth) (Grammar.variable_definitions depth) (By (map unplaced_variable))
follows_variable_definitions depth =
    follows_listed unplaced_variable (follows_bind (follows_between (codes "(") (codes ")") (follows_some unplaced_variable (follows_variable_definition depth))) (λ x y same. follows_returns same))

-- ---- selections

follows_aliased : Follows Grammar.aliased Grammar.aliased SameText
follows_aliased = follows_bind (follows_punctuator (codes ":")) (λ a b _. follows_name)

alias_same : (t o : Lexeme) (x y : Option Lexeme) → SameText t o → OptionSame SameText x y → Grammar.alias_by t x ≡ Grammar.alias_by o y
alias_same t o None None same h = refl
alias_same t o None (Some y) same h = absurd h
alias_same t o (Some x) None same h = absurd h
alias_same t o (Some x) (Some y) same h = ap Some same

name_same : (t o : Lexeme) (x y : Option Lexeme) → SameText t o → OptionSame SameText x y → Grammar.name_by t x ≡ Grammar.name_by o y
name_same t o None None same h = same
name_same t o None (Some y) same h = absurd h
name_same t o (Some x) None same h = absurd h
name_same t o (Some x) (Some y) same h = h

text_same : (x y : Option Lexeme) → OptionSame SameText x y → Grammar.name_text x ≡ Grammar.name_text y
text_same None None h = refl
text_same None (Some y) h = absurd h
text_same (Some x) None h = absurd h
text_same (Some x) (Some y) h = ap Some h

condition_same : (x y : Option Lexeme) → OptionSame SameText x y → Grammar.condition_text x ≡ Grammar.condition_text y
condition_same None None h = refl
condition_same None (Some y) h = absurd h
condition_same (Some x) None h = absurd h
condition_same (Some x) (Some y) h = ap Some h

abbrev SameSelections : List Selection → List Selection → Type 0
SameSelections = By (map unplaced_selection)

follows_field : (depth : ℕ) {p q : Phrase (List Selection)} → Follows p q SameSelections → Follows (Grammar.field depth p) (Grammar.field depth q) (By unplaced_selection)
follows_field depth inner =
    follows_bind follows_name (λ t o same. follows_bind (follows_optional follows_aliased) (λ x y seconds.
    follows_bind (follows_arguments false depth) (λ gs hs given. follows_bind (follows_directives false depth) (λ us vs used.
    follows_bind (follows_listed unplaced_selection inner) (λ ss rs inside.
    let alias : Grammar.alias_by t x ≡ Grammar.alias_by o y = alias_same t o x y same seconds in
    let name : Grammar.name_by t x ≡ Grammar.name_by o y = name_same t o x y same seconds in
    follows_returns (
    unplaced_Field (record { alias = Grammar.alias_by t x; name = Grammar.name_by t x; arguments = gs; directives = us; selections = ss; spot = t.spot })
    ∙ ((λ i. selection.Field (roll-FieldNode (record { alias = alias i; name = name i; arguments = given i; directives = used i; selections = inside i; spot = nowhere })))
    ∙ sym (unplaced_Field (record { alias = Grammar.alias_by o y; name = Grammar.name_by o y; arguments = hs; directives = vs; selections = rs; spot = o.spot })))))))))

follows_spread : (depth : ℕ) → Follows (Grammar.spread depth) (Grammar.spread depth) (By unplaced_selection)
follows_spread depth =
    follows_bind follows_fragment_name (λ t o same. follows_bind (follows_directives false depth) (λ us vs used. follows_returns (
    unplaced_Spread (record { name = t.text; directives = us; spot = t.spot })
    ∙ ((λ i. selection.Spread (record { name = same i; directives = used i; spot = nowhere }))
    ∙ sym (unplaced_Spread (record { name = o.text; directives = vs; spot = o.spot }))))))

follows_condition : Follows Grammar.type_condition Grammar.type_condition SameText
follows_condition = follows_bind (follows_word (codes "on")) (λ a b _. follows_name)

follows_inline : (depth : ℕ) {p q : Phrase (List Selection)} (s r : Spot) → Follows p q SameSelections → Follows (Grammar.inline_fragment depth p s) (Grammar.inline_fragment depth q r) (By unplaced_selection)
follows_inline depth s r inner =
    follows_bind (follows_optional follows_condition) (λ x y conditions. follows_bind (follows_directives false depth) (λ us vs used. follows_bind inner (λ ss rs inside.
    let condition : Grammar.condition_text x ≡ Grammar.condition_text y = condition_same x y conditions in
    follows_returns (
    unplaced_Inline (record { condition = Grammar.condition_text x; directives = us; selections = ss; spot = Grammar.inline_spot s x })
    ∙ ((λ i. selection.Inline (roll-InlineNode (record { condition = condition i; directives = used i; selections = inside i; spot = nowhere })))
    ∙ sym (unplaced_Inline (record { condition = Grammar.condition_text y; directives = vs; selections = rs; spot = Grammar.inline_spot r y })))))))

follows_selection : (depth : ℕ) {p q : Phrase (List Selection)} → Follows p q SameSelections → Follows (Grammar.any_selection depth p) (Grammar.any_selection depth q) (By unplaced_selection)
follows_selection depth inner =
    follows_either (follows_field depth inner)
    (follows_bind (follows_punctuator (codes "...")) (λ a b _. follows_either (follows_spread depth) (follows_inline depth a.spot b.spot inner)))

pub follows_selection_set : (depth : ℕ) → Follows (Grammar.selection_set depth) (Grammar.selection_set depth) (λ x y. SameSelections x.1 y.1)
follows_selection_set zero = follows_never
follows_selection_set (suc depth) =
    let set : Follows (Grammar.selection_set depth) (Grammar.selection_set depth) (λ x y. SameSelections x.1 y.1) = follows_selection_set depth in
    follows_between (codes "{") (codes "}") (follows_some unplaced_selection (follows_selection depth (follows_bind set (λ x y same. follows_returns same))))

follows_selections : (depth : ℕ) → Follows (Grammar.selections depth) (Grammar.selections depth) SameSelections
follows_selections depth = follows_bind (follows_selection_set depth) (λ x y same. follows_returns same)

-- ---- definitions

follows_short : (depth : ℕ) → Follows (Grammar.short_operation depth) (Grammar.short_operation depth) (By unplaced_definition)
follows_short depth = follows_bind (follows_selection_set depth) (λ x y same.
    follows_returns (λ i. definition.Operation (record { kind = operation.Query; name = None; variables = []; directives = []; selections = same i; spot = nowhere })))

-- the type of an operation by its word
kind_of : List ℕ → OperationKind
kind_of text = if bytes_eq text (codes "query") then operation.Query else (if bytes_eq text (codes "mutation") then operation.Mutation else operation.Subscription)

kind_same : (t o : Lexeme) → SameText t o → Grammar.operation_kind t ≡ Grammar.operation_kind o
unfolding kind_of
kind_same t o same = ap kind_of same

follows_operation : (depth : ℕ) → Follows (Grammar.operation_definition depth) (Grammar.operation_definition depth) (By unplaced_definition)
follows_operation depth =
    follows_bind follows_operation_type (λ t o same. follows_bind (follows_optional follows_name) (λ x y names.
    follows_bind (follows_variable_definitions depth) (λ gs hs variables. follows_bind (follows_directives false depth) (λ us vs used.
    follows_bind (follows_selections depth) (λ ss rs inside.
    let kind : Grammar.operation_kind t ≡ Grammar.operation_kind o = kind_same t o same in
    let name : Grammar.name_text x ≡ Grammar.name_text y = text_same x y names in
    follows_returns (λ i. definition.Operation (record { kind = kind i; name = name i; variables = variables i; directives = used i; selections = inside i; spot = nowhere })))))))

follows_fragment : (depth : ℕ) → Follows (Grammar.fragment_definition depth) (Grammar.fragment_definition depth) (By unplaced_definition)
follows_fragment depth =
    follows_bind (follows_word (codes "fragment")) (λ a b _. follows_bind follows_fragment_name (λ t o same.
    follows_bind follows_condition (λ x y conditions. follows_bind (follows_directives false depth) (λ us vs used.
    follows_bind (follows_selections depth) (λ ss rs inside.
    follows_returns (λ i. definition.Fragment (record { name = same i; condition = conditions i; condition_spot = nowhere; directives = used i; selections = inside i; spot = nowhere })))))))

follows_definition : (depth : ℕ) → Follows (Grammar.any_definition depth) (Grammar.any_definition depth) (By unplaced_definition)
follows_definition depth = follows_either (follows_short depth) (follows_either (follows_operation depth) (follows_fragment depth))

-- tokens that are alike are the same document up to places
pub follows_document : (depth : ℕ) → Follows (Grammar.document depth) (Grammar.document depth) (By unplaced)
follows_document depth = follows_bind (follows_some unplaced_definition (follows_definition depth)) (λ xs ys same. follows_returns (λ i. record { definitions = same i }))
