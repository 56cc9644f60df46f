-- What is printed of each phrase of the grammar.
use Rattle.std.proofs.Common.{◌≡◌, ℕ, zero, suc, Bool, true, false, List, [], ◌∷◌, ◌++◌, flat_map, Option, Some, None, refl, sym, ◌∙◌, ap, append_assoc}
use Rattle.std.specs.Prelude.{◌&&◌, ◌||◌, if◌then◌else◌, codes}
use Rattle.std.specs.Str.{bytes_eq}
use Rattle.std.proofs.lemmas.Slice.Eq.{bytes_eq-Decides}
use Rattle.gql_tree.specs.declared.delivery.Spot.{Spot}
use Rattle.gql_lex.specs.Tokens.{Lexeme}
use Rattle.gql_doc.specs.StringValue.{string_value}
use Rattle.gql_doc.specs.Phrase.{Phrase, token, some, optional}
use Rattle.gql_lex.specs.declared.token.TokenKind.{TokenKind}
use Rattle.gql_lex.specs.declared.token.TokenKind.TheVariants as kind
use Rattle.gql_doc.specs.Terminals.{is_punctuator, is_punctuator_kind, is_name, is_name_kind, is_number, is_number_kind, is_string, is_string_kind, is_word, is_fragment_name, is_operation_type}
use Rattle.gql_doc.specs.Grammar
use Rattle.gql_doc.specs.Pieces.{Piece}
use Rattle.gql_doc.specs.Printed.{punctuator, word, number, string, enclosed, printed_list, printed_value, printed_argument, printed_arguments, printed_directive, printed_directives, printed_type, printed_default, printed_variable, printed_variables, printed_alias, printed_condition, printed_selection, printed_selections, type_condition, operation_word, printed_name, printed_fragment, printed_definition}
use Rattle.gql_doc.proofs.PrintedForms.{printed_Variable, printed_Int, printed_Text, printed_Bool, printed_Null, printed_Enum, printed_List, printed_Object, argument-roll, printed_Named, printed_ListType, printed_NonNull, printed_Field, printed_Spread, printed_Inline, field-roll, inline-roll}
use Rattle.gql_doc.proofs.Words.{and_left, and_right, operation_type_named}
use Rattle.gql_doc.proofs.Prints.{reprint_of, Prints, prints_token, prints_returns, prints_bind, prints_bind_by, prints_either, prints_never, prints_many, prints_some, printed_option, prints_optional, prints_listed}
use Rattle.gql_model.specs.declared.syntax.Literal.{Literal}
use Rattle.gql_model.specs.declared.syntax.Literal.TheVariants as literal
use Rattle.gql_model.specs.declared.syntax.TypeRef.{TypeRef}
use Rattle.gql_model.specs.declared.syntax.Selection.{Selection}
use Rattle.gql_model.specs.declared.syntax.OperationKind.TheVariants as operation
use Rattle.gql_model.specs.declared.syntax.Definition.{Definition}
use Rattle.gql_model.specs.declared.syntax.Definition.TheVariants as definition

-- ---- tokens

punctuator_shown : (k : TokenKind) (own text : List ℕ) → (is_punctuator_kind k && bytes_eq own text) ≡ true → punctuator text ≡ reprint_of k own
punctuator_shown kind.Punctuator own text h = ap punctuator (sym ((bytes_eq-Decides own text).0 h))
punctuator_shown kind.Name own text h = absurd (cc)
punctuator_shown kind.Int own text h = absurd (cc)
punctuator_shown kind.Quoted own text h = absurd (cc)
punctuator_shown kind.Block own text h = absurd (cc)

name_shown : (k : TokenKind) (text : List ℕ) → is_name_kind k ≡ true → word text ≡ reprint_of k text
name_shown kind.Name text h = refl
name_shown kind.Int text h = absurd (cc)
name_shown kind.Punctuator text h = absurd (cc)
name_shown kind.Quoted text h = absurd (cc)
name_shown kind.Block text h = absurd (cc)

number_shown : (k : TokenKind) (text : List ℕ) → is_number_kind k ≡ true → number text ≡ reprint_of k text
number_shown kind.Int text h = refl
number_shown kind.Name text h = absurd (cc)
number_shown kind.Punctuator text h = absurd (cc)
number_shown kind.Quoted text h = absurd (cc)
number_shown kind.Block text h = absurd (cc)

string_shown : (k : TokenKind) (text : List ℕ) → is_string_kind k ≡ true → string (string_value k text) ≡ reprint_of k text
string_shown kind.Quoted text h = refl
string_shown kind.Block text h = refl
string_shown kind.Int text h = absurd (cc)
string_shown kind.Name text h = absurd (cc)
string_shown kind.Punctuator text h = absurd (cc)

prints_punctuator : (text : List ℕ) → Prints [] (Grammar.punctuator text) (λ t. punctuator text ∷ [])
prints_punctuator text = prints_token (is_punctuator text) (λ t h. ap (λ q. q ∷ []) (punctuator_shown t.kind t.text text h))

prints_name : Prints [] Grammar.name (λ t. word t.text ∷ [])
prints_name = prints_token is_name (λ t h. ap (λ q. q ∷ []) (name_shown t.kind t.text h))

prints_number : Prints [] (token is_number) (λ t. number t.text ∷ [])
prints_number = prints_token is_number (λ t h. ap (λ q. q ∷ []) (number_shown t.kind t.text h))

prints_string : Prints [] (token is_string) (λ t. string (string_value t.kind t.text) ∷ [])
prints_string = prints_token is_string (λ t h. ap (λ q. q ∷ []) (string_shown t.kind t.text h))

prints_word : (text : List ℕ) → Prints [] (token (is_word text)) (λ t. word text ∷ [])
prints_word text = prints_token (is_word text) (λ t h. ap (λ q. q ∷ []) (ap word (sym ((bytes_eq-Decides t.text text).0 (and_right _ _ h))) ∙ name_shown t.kind t.text (and_left _ _ h)))

prints_fragment_name : Prints [] (token is_fragment_name) (λ t. word t.text ∷ [])
prints_fragment_name = prints_token is_fragment_name (λ t h. ap (λ q. q ∷ []) (name_shown t.kind t.text (and_left _ _ h)))

-- the word of an operation's type
kind_by : (b q m s : Bool) (text : List ℕ) → (q ≡ true → text ≡ codes "query") → (m ≡ true → text ≡ codes "mutation") → (s ≡ true → text ≡ codes "subscription") → (b && q) || ((b && m) || (b && s)) ≡ true
    → operation_word (if q then operation.Query else (if m then operation.Mutation else operation.Subscription)) ≡ text
kind_by true true m s text is_query is_mutation is_subscription h = sym (is_query refl)
kind_by true false true s text is_query is_mutation is_subscription h = sym (is_mutation refl)
kind_by true false false true text is_query is_mutation is_subscription h = sym (is_subscription refl)
kind_by true false false false text is_query is_mutation is_subscription h = absurd (cc)
kind_by false q m s text is_query is_mutation is_subscription h = absurd (cc)

prints_operation_type : Prints [] (token is_operation_type) (λ t. word (operation_word (Grammar.operation_kind t)) ∷ [])
prints_operation_type = prints_token is_operation_type (λ t h.
    let q : Bool = bytes_eq t.text (codes "query") in
    let m : Bool = bytes_eq t.text (codes "mutation") in
    let s : Bool = bytes_eq t.text (codes "subscription") in
    ap (λ p. p ∷ []) (
    ap word (kind_by (is_name t) q m s t.text (bytes_eq-Decides t.text (codes "query")).0 (bytes_eq-Decides t.text (codes "mutation")).0 (bytes_eq-Decides t.text (codes "subscription")).0 h)
    ∙ name_shown t.kind t.text (operation_type_named t h)))

-- ---- between punctuators

prints_between : {A : Type 0} {p : Phrase A} {f : A → List Piece} (opening closing : List ℕ) → Prints [] p f → Prints [] (Grammar.between opening p closing) (λ x. enclosed opening (f x.1) closing)
prints_between opening closing inside =
    prints_bind (prints_punctuator opening) (λ a. prints_bind inside (λ x. prints_bind (prints_punctuator closing) (λ c. prints_returns refl)))

filled : {A : Type 0} (f : A → List Piece) (opening : List ℕ) (xs : List A) (x : A) (others : List A) (closing : List ℕ) → xs ≡ x ∷ others → printed_list f opening xs closing ≡ enclosed opening (flat_map f xs) closing
filled f opening [] x others closing h = absurd (cc)
filled f opening (y ∷ ys) x others closing h = refl

-- a list that isn't empty
prints_between_list : {A : Type 0} {p : Phrase A} (f : A → List Piece) (opening closing : List ℕ) → Prints [] p f → Prints [] (Grammar.between opening (some p) closing) (λ x. printed_list f opening x.1 closing)
prints_between_list f opening closing item =
    prints_bind (prints_punctuator opening) (λ a. prints_bind_by (prints_some f item) (λ xs front is. prints_bind (prints_punctuator closing) (λ c.
    prints_returns (filled f opening xs is.0 is.1.back_is.0 closing is.1.back_is.1.back_is.1))))

-- behind what is printed already
prints_after : {A : Type 0} {before : List Piece} {p : Phrase A} {f : A → List Piece} → Prints [] p f → Prints before p (λ a. before ++ f a)
prints_after {before = before} first = record { prints = λ tokens value h. ap (λ l. before ++ l) (first.prints tokens value h) }

-- ---- values

word_by : (a b c : Bool) (text : List ℕ) (spot : Spot) → (a ≡ true → text ≡ codes "true") → (b ≡ true → text ≡ codes "false") → (c ≡ true → text ≡ codes "null")
    → printed_value (if a then literal.Bool true spot else (if b then literal.Bool false spot else (if c then literal.Null spot else literal.Enum text spot))) ≡ word text ∷ []
word_by true b c text spot is_true is_false is_null = printed_Bool true spot ∙ ap (λ l. word l ∷ []) (sym (is_true refl))
word_by false true c text spot is_true is_false is_null = printed_Bool false spot ∙ ap (λ l. word l ∷ []) (sym (is_false refl))
word_by false false true text spot is_true is_false is_null = printed_Null spot ∙ ap (λ l. word l ∷ []) (sym (is_null refl))
word_by false false false text spot is_true is_false is_null = printed_Enum text spot

word_prints : (t : Lexeme) → printed_value (Grammar.word_value t) ≡ word t.text ∷ []
word_prints t = word_by (bytes_eq t.text (codes "true")) (bytes_eq t.text (codes "false")) (bytes_eq t.text (codes "null")) t.text t.spot
    (bytes_eq-Decides t.text (codes "true")).0 (bytes_eq-Decides t.text (codes "false")).0 (bytes_eq-Decides t.text (codes "null")).0

prints_variable : (constant : Bool) → Prints [] (Grammar.variable constant) printed_value
prints_variable true = prints_never
prints_variable false = prints_bind (prints_punctuator (codes "$")) (λ a. prints_bind prints_name (λ t. prints_returns (printed_Variable t.text a.spot)))

prints_simple : (constant : Bool) → Prints [] (Grammar.simple_value constant) printed_value
prints_simple constant =
    prints_either (prints_variable constant)
    (prints_either (prints_bind prints_number (λ t. prints_returns (printed_Int t.text t.spot)))
    (prints_either (prints_bind prints_string (λ t. prints_returns (printed_Text _ t.spot)))
    (prints_bind prints_name (λ t. prints_returns (word_prints t)))))

prints_argument : {p : Phrase Literal} → Prints [] p printed_value → Prints [] (Grammar.argument p) printed_argument
prints_argument value =
    prints_bind prints_name (λ t. prints_bind (prints_punctuator (codes ":")) (λ c. prints_bind value (λ x.
    prints_returns (argument-roll (record { name = t.text; value = x; spot = t.spot })))))

prints_value : (constant : Bool) (depth : ℕ) → Prints [] (Grammar.value constant depth) printed_value
prints_value constant zero = prints_simple constant
prints_value constant (suc depth) =
    let inside : Prints [] (Grammar.value constant depth) printed_value = prints_value constant depth in
    prints_either (prints_simple constant)
    (prints_either
    (prints_bind (prints_between (codes "[") (codes "]") (prints_many printed_value inside)) (λ x. prints_returns (printed_List x.1 x.0)))
    (prints_bind (prints_between (codes "{") (codes "}") (prints_many printed_argument (prints_argument inside))) (λ x. prints_returns (printed_Object x.1 x.0))))

prints_arguments : (constant : Bool) (depth : ℕ) → Prints [] (Grammar.arguments constant depth) printed_arguments
prints_arguments constant depth =
    prints_listed printed_argument (codes "(") (codes ")") (prints_bind (prints_between_list printed_argument (codes "(") (codes ")") (prints_argument (prints_value constant depth))) (λ x. prints_returns refl))

prints_directive : (constant : Bool) (depth : ℕ) → Prints [] (Grammar.directive constant depth) printed_directive
prints_directive constant depth =
    prints_bind (prints_punctuator (codes "@")) (λ a. prints_bind prints_name (λ t. prints_bind (prints_arguments constant depth) (λ xs. prints_returns refl)))

pub prints_directives : (constant : Bool) (depth : ℕ) → Prints [] (Grammar.directives constant depth) printed_directives
prints_directives constant depth = prints_many printed_directive (prints_directive constant depth)

-- ---- variables

prints_maybe_non_null : (x : TypeRef) → Prints (printed_type x) (Grammar.maybe_non_null x) printed_type
prints_maybe_non_null x = prints_either (prints_bind (prints_punctuator (codes "!")) (λ a. prints_returns (printed_NonNull x))) (prints_returns refl)

prints_named_type : Prints [] Grammar.named_type printed_type
prints_named_type = prints_bind prints_name (λ t. prints_returns (printed_Named t.text t.spot))

prints_type : (depth : ℕ) → Prints [] (Grammar.type_ref depth) printed_type
prints_type zero = prints_bind prints_named_type prints_maybe_non_null
prints_type (suc depth) =
    let inside : Prints [] (Grammar.type_ref depth) printed_type = prints_type depth in
    prints_bind
    (prints_either prints_named_type (prints_bind (prints_between (codes "[") (codes "]") inside) (λ x. prints_returns (printed_ListType x.1))))
    prints_maybe_non_null

prints_default : (depth : ℕ) → Prints [] (Grammar.default_value depth) (λ x. punctuator (codes "=") ∷ printed_value x)
prints_default depth = prints_bind (prints_punctuator (codes "=")) (λ a. prints_after (prints_value true depth))

default_is : (x : Option Literal) → printed_default x ≡ printed_option (λ (it : Literal). punctuator (codes "=") ∷ printed_value it) x
default_is None = refl
default_is (Some x) = refl

prints_variable_definition : (depth : ℕ) → Prints [] (Grammar.variable_definition depth) printed_variable
prints_variable_definition depth =
    prints_bind (prints_punctuator (codes "$")) (λ a. prints_bind prints_name (λ t. prints_bind (prints_punctuator (codes ":")) (λ c.
    prints_bind (prints_type depth) (λ k. prints_bind (prints_optional (prints_default depth)) (λ x. prints_bind (prints_directives true depth) (λ us.
    prints_returns (ap (λ l. punctuator (codes "$") ∷ word t.text ∷ punctuator (codes ":") ∷ l) (
    ap (λ l. printed_type k ++ (l ++ printed_directives us)) (default_is x)
    ∙ sym (append_assoc (printed_type k) (printed_option (λ (it : Literal). punctuator (codes "=") ∷ printed_value it) x) (printed_directives us))))))))))

pub prints_variable_definitions : (depth : ℕ) → Prints [] (Grammar.variable_definitions depth) printed_variables
prints_variable_definitions depth =
    prints_listed printed_variable (codes "(") (codes ")") (prints_bind (prints_between_list printed_variable (codes "(") (codes ")") (prints_variable_definition depth)) (λ x. prints_returns refl))

-- ---- selections

prints_aliased : Prints [] Grammar.aliased (λ t. punctuator (codes ":") ∷ word t.text ∷ [])
prints_aliased = prints_bind (prints_punctuator (codes ":")) (λ a. prints_after prints_name)

aliased_piece : Lexeme → List Piece
aliased_piece t = punctuator (codes ":") ∷ word t.text ∷ []

-- the parts of a field in the order of its tokens
field_parts : (t : Lexeme) (x : Option Lexeme) (given used inside : List Piece)
    → printed_alias (Grammar.alias_by t x) ++ (word (Grammar.name_by t x) ∷ (given ++ (used ++ inside))) ≡ ((((word t.text ∷ []) ++ printed_option aliased_piece x) ++ given) ++ used) ++ inside
unfolding aliased_piece
field_parts t None given used inside = ap (λ l. word t.text ∷ l) (sym (append_assoc given used inside))
field_parts t (Some s) given used inside = ap (λ l. word t.text ∷ punctuator (codes ":") ∷ word s.text ∷ l) (sym (append_assoc given used inside))

abbrev printed_inside : List Selection → List Piece
printed_inside xs = printed_list printed_selection (codes "{") xs (codes "}")

prints_field : (depth : ℕ) {p : Phrase (List Selection)} → Prints [] p printed_inside → Prints [] (Grammar.field depth p) printed_selection
unfolding aliased_piece
prints_field depth inner =
    prints_bind prints_name (λ t. prints_bind (prints_optional prints_aliased) (λ x. prints_bind (prints_arguments false depth) (λ gs.
    prints_bind (prints_directives false depth) (λ us. prints_bind (prints_listed printed_selection (codes "{") (codes "}") inner) (λ ss. prints_returns (
    printed_Field _
    ∙ (field-roll (record { alias = Grammar.alias_by t x; name = Grammar.name_by t x; arguments = gs; directives = us; selections = ss; spot = t.spot })
    ∙ field_parts t x (printed_arguments gs) (printed_directives us) (printed_inside ss))))))))

prints_spread : (depth : ℕ) → Prints (punctuator (codes "...") ∷ []) (Grammar.spread depth) printed_selection
prints_spread depth =
    prints_bind prints_fragment_name (λ t. prints_bind (prints_directives false depth) (λ us.
    prints_returns (printed_Spread (record { name = t.text; directives = us; spot = t.spot }))))

prints_condition : Prints [] Grammar.type_condition (λ t. type_condition t.text)
prints_condition = prints_bind (prints_word (codes "on")) (λ a. prints_after prints_name)

condition_piece : Lexeme → List Piece
condition_piece t = type_condition t.text

inline_parts : (x : Option Lexeme) (used inside : List Piece) → punctuator (codes "...") ∷ (printed_condition (Grammar.condition_text x) ++ (used ++ inside)) ≡ (((punctuator (codes "...") ∷ []) ++ printed_option condition_piece x) ++ used) ++ inside
unfolding condition_piece
inline_parts None used inside = refl
inline_parts (Some s) used inside = refl

prints_inline : (depth : ℕ) {p : Phrase (List Selection)} (spot : Spot) → Prints [] p printed_selections → Prints (punctuator (codes "...") ∷ []) (Grammar.inline_fragment depth p spot) printed_selection
unfolding condition_piece
prints_inline depth spot inner =
    prints_bind (prints_optional prints_condition) (λ x. prints_bind (prints_directives false depth) (λ us. prints_bind inner (λ ss. prints_returns (
    printed_Inline _
    ∙ (inline-roll (record { condition = Grammar.condition_text x; directives = us; selections = ss; spot = Grammar.inline_spot spot x })
    ∙ inline_parts x (printed_directives us) (printed_selections ss))))))

prints_selection : (depth : ℕ) {p : Phrase (List Selection)} → Prints [] p printed_inside → Prints [] p printed_selections → Prints [] (Grammar.any_selection depth p) printed_selection
prints_selection depth inside set =
    prints_either (prints_field depth inside)
    (prints_bind (prints_punctuator (codes "...")) (λ d. prints_either (prints_spread depth) (prints_inline depth d.spot set)))

-- of the items of a set
record PrintsSet (depth : ℕ) : Type 0 where
  inside : Prints [] (Grammar.selections depth) printed_inside
  set : Prints [] (Grammar.selections depth) printed_selections

prints_set : (depth : ℕ) → PrintsSet depth
prints_set zero = record { inside = prints_bind prints_never (λ x. prints_returns refl); set = prints_bind prints_never (λ x. prints_returns refl) }
prints_set (suc depth) =
    let inner : PrintsSet depth = prints_set depth in
    let item : Prints [] (Grammar.any_selection depth (Grammar.selections depth)) printed_selection = prints_selection depth inner.inside inner.set in
    record {
      inside = prints_bind (prints_between_list printed_selection (codes "{") (codes "}") item) (λ x. prints_returns refl);
      set = prints_bind (prints_between (codes "{") (codes "}") (prints_some printed_selection item)) (λ x. prints_returns refl);
    }

pub prints_selections : (depth : ℕ) → Prints [] (Grammar.selections depth) printed_selections
prints_selections depth = (prints_set depth).set

-- ---- definitions

name_is : (x : Option Lexeme) → printed_name (Grammar.name_text x) ≡ printed_option (λ (t : Lexeme). word t.text ∷ []) x
name_is None = refl
name_is (Some t) = refl

pub prints_optional_name : Prints [] (optional Grammar.name) (λ x. printed_name (Grammar.name_text x))
prints_optional_name = record { prints = λ tokens x h. name_is x ∙ (prints_optional prints_name).prints tokens x h }

-- an operation with its word, even if it need not be printed
abbrev pub long_printed : Definition → List Piece
long_printed (definition.Operation it) = (word (operation_word it.kind) ∷ (printed_name it.name ++ (printed_variables it.variables ++ printed_directives it.directives))) ++ printed_selections it.selections
long_printed (definition.Fragment it) = printed_fragment it

pub prints_operation : (depth : ℕ) → Prints [] (Grammar.operation_definition depth) long_printed
prints_operation depth =
    prints_bind prints_operation_type (λ t. prints_bind prints_optional_name (λ x. prints_bind (prints_variable_definitions depth) (λ vs.
    prints_bind (prints_directives false depth) (λ us. prints_bind (prints_selections depth) (λ ss.
    prints_returns (ap (λ l. word (operation_word (Grammar.operation_kind t)) ∷ (l ++ printed_selections ss)) (sym (append_assoc (printed_name (Grammar.name_text x)) (printed_variables vs) (printed_directives us)))))))))

pub prints_fragment : (depth : ℕ) → Prints [] (Grammar.fragment_definition depth) printed_definition
prints_fragment depth =
    prints_bind (prints_word (codes "fragment")) (λ a. prints_bind prints_fragment_name (λ t. prints_bind prints_condition (λ c.
    prints_bind (prints_directives false depth) (λ us. prints_bind (prints_selections depth) (λ ss. prints_returns refl)))))

pub prints_short : (depth : ℕ) → Prints [] (Grammar.short_operation depth) printed_definition
prints_short depth = record { prints = λ tokens it h. ap printed_definition h.1.back_is.1 ∙ (prints_selections depth).prints tokens h.0.1 (h.0, record { front = h.1.front; back = h.1.back; whole = h.1.whole; front_is = h.1.front_is; back_is = (h.1.back_is.0, refl) }) }
