-- What the grammar of documents takes from tokens: the places in a document are those of tokens, and its strings are values of tokens.
use Rattle.std.proofs.Common.{◌≡◌, sym, subst, ℕ, zero, suc, Bool, true, false, cond, List, [], ◌∷◌, ◌++◌, Option, Some, None, inl, inr}
use Rattle.std.specs.Prelude.{IfSome, codes}
use Rattle.std.specs.Str.{bytes_eq}
use Rattle.std.specs.List.{AllByRecursion as Each}
use Rattle.gql_tree.specs.declared.Spot.{Spot}
use Rattle.gql_lex.specs.Tokens.{Lexeme}
use Rattle.gql_doc.specs.StringValue.{string_value}
use Rattle.gql_doc.specs.Terminals.{is_string, is_number, is_fragment_name, is_word, is_operation_type}
use Rattle.gql_doc.specs.Phrase.{Phrase, token, returns, ◌>>=◌, either, never, many, some, optional, listed}
use Rattle.gql_doc.specs.Grammar.{punctuator, name, between, word_value, variable, simple_value, argument, list_value, object_value, value, arguments, directive, directives, variable_definitions, aliased, alias_by, name_by, field, spread, condition_text, inline_spot, type_condition, inline_fragment, any_selection, selection_set, selections, operation_kind, name_text, short_operation, operation_definition, fragment_definition, any_definition, IsDocument}
use Rattle.gql_model.specs.declared.syntax.Literal.{Literal, out-Literal}
use Rattle.gql_model.specs.declared.syntax.Literal.TheVariants.{outs-Variable, outs-Int, outs-Text, outs-Bool, outs-Null, outs-Enum, outs-List, outs-Object}
use Rattle.gql_model.specs.declared.syntax.Literal.TheVariants as literal
use Rattle.gql_model.specs.declared.syntax.Literal.TheOpen.{Literal-F}
use Rattle.gql_model.specs.declared.syntax.Argument.{Argument, out-Argument, roll-Argument, out-roll-Argument}
use Rattle.gql_model.specs.declared.syntax.DirectiveUse.{DirectiveUse}
use Rattle.gql_model.specs.declared.syntax.SpreadNode.{SpreadNode}
use Rattle.gql_model.specs.declared.syntax.Selection.{Selection, out-Selection}
use Rattle.gql_model.specs.declared.syntax.Selection.TheVariants.{outs-Field, outs-Spread, outs-Inline}
use Rattle.gql_model.specs.declared.syntax.Selection.TheVariants as selection
use Rattle.gql_model.specs.declared.syntax.Selection.TheOpen.{Selection-F}
use Rattle.gql_model.specs.declared.syntax.FieldNode.{out-FieldNode, roll-FieldNode, out-roll-FieldNode}
use Rattle.gql_model.specs.declared.syntax.InlineNode.{out-InlineNode, roll-InlineNode, out-roll-InlineNode}
use Rattle.gql_model.specs.declared.syntax.VariableDef.{VariableDef}
use Rattle.gql_model.specs.declared.syntax.OperationKind.TheVariants as operation
use Rattle.gql_model.specs.declared.syntax.Definition.{Definition}
use Rattle.gql_model.specs.declared.syntax.Definition.TheVariants as definition
use Rattle.gql_model.specs.declared.syntax.Document.{Document}
use Rattle.gql_tool.specs.hero.Shape.{AnySelection, Field, Inline, AnyArgument, AnyValue}

each_parts : {A : Type 0} (Q : A → Type 0) (xs ys : List A) → Each Q (xs ++ ys) → Each Q xs × Each Q ys
each_parts Q [] ys h = (tt, h)
each_parts Q (x ∷ xs) ys h = (let more = each_parts Q xs ys h.1 in ((h.0, more.0), more.1))

-- nothing is asked
abbrev pub Anything : {A : Type 0} → A → Type 0
Anything x = Unit {0}

module _ (P : Spot → Type 0) (L : List ℕ → Type 0) where
  -- a token has a place and, as a string, a value
  abbrev pub TokenIs : Lexeme → Type 0
  TokenIs t = P t.spot × (is_string t ≡ true → L (string_value t.kind t.text))

  -- a phrase of such tokens means such a thing
  abbrev Gives : {A : Type 0} → Phrase A → (A → Type 0) → Type 0
  Gives {A} p Q = (tokens : List Lexeme) (it : A) → Each TokenIs tokens → p tokens it → Q it

  -- ---- phrases

  anything : {A : Type 0} (p : Phrase A) → Gives p Anything
  anything p tokens it fine is = tt

  behind : {A B : Type 0} (p : Phrase A) (f : A → Phrase B) (Q : A → Type 0) (S : B → Type 0) → Gives p Q → ((x : A) → Q x → Gives (f x) S) → Gives (p >>= f) S
  behind p f Q S first then tokens it fine (x, split) =
      let parts = each_parts TokenIs split.front split.back (subst (Each TokenIs) split.whole fine) in
      then x (first split.front x parts.0 split.front_is) split.back it parts.1 split.back_is

  meaning : {A : Type 0} (x : A) (Q : A → Type 0) → Q x → Gives (returns x) Q
  meaning x Q h tokens it fine is = subst Q (sym is.1) h

  one_of : {A : Type 0} (p q : Phrase A) (Q : A → Type 0) → Gives p Q → Gives q Q → Gives (either p q) Q
  one_of p q Q left right tokens it fine (inl is) = left tokens it fine is
  one_of p q Q left right tokens it fine (inr is) = right tokens it fine is

  none : {A : Type 0} (Q : A → Type 0) → Gives never Q
  none Q tokens it fine is = absurd is

  each_of : {A : Type 0} (p : Phrase A) (Q : A → Type 0) → Gives p Q → Gives (many p) (Each Q)
  each_of p Q one tokens [] fine is = tt
  each_of p Q one tokens (x ∷ xs) fine split =
      let parts = each_parts TokenIs split.front split.back (subst (Each TokenIs) split.whole fine) in
      (one split.front x parts.0 split.front_is, each_of p Q one split.back xs parts.1 split.back_is)

  some_of : {A : Type 0} (p : Phrase A) (Q : A → Type 0) → Gives p Q → Gives (some p) (Each Q)
  some_of p Q one =
      behind p (λ x. many p >>= λ xs. returns (x ∷ xs)) Q (Each Q) one (λ x h.
      behind (many p) (λ xs. returns (x ∷ xs)) (Each Q) (Each Q) (each_of p Q one) (λ xs hs. meaning (x ∷ xs) (Each Q) (h, hs)))

  listed_of : {A : Type 0} (p : Phrase (List A)) (Q : A → Type 0) → Gives p (Each Q) → Gives (listed p) (Each Q)
  listed_of p Q all = one_of p (returns []) (Each Q) all (meaning [] (Each Q) tt)

  token_of : (test : Lexeme → Bool) → Gives (token test) (λ t. TokenIs t × (test t ≡ true))
  token_of test tokens it fine is = ((subst (Each TokenIs) is.0 fine).0, is.1)

  -- a token by its place
  spot_of : (test : Lexeme → Bool) → Gives (token test) (λ t. P t.spot)
  spot_of test tokens it fine is = (token_of test tokens it fine is).0.0

  between_of : {A : Type 0} (opening : List ℕ) (inside : Phrase A) (closing : List ℕ) (Q : A → Type 0) → Gives inside Q → Gives (between opening inside closing) (λ x. P x.0 × Q x.1)
  between_of {A} opening inside closing Q one =
      behind (punctuator opening) (λ first. inside >>= λ x. punctuator closing >>= λ _. returns (first.spot, x)) (λ t. P t.spot) (λ x. P x.0 × Q x.1) (spot_of _) (λ first at.
      behind inside (λ x. punctuator closing >>= λ _. returns (first.spot, x)) Q (λ x. P x.0 × Q x.1) one (λ x h.
      behind (punctuator closing) (λ _. returns (first.spot, x)) Anything (λ x. P x.0 × Q x.1) (anything _) (λ last _. meaning (first.spot, x) (λ x. P x.0 × Q x.1) (at, h))))

  -- ---- values

  abbrev pub ValueIs : AnyValue → Type 0
  ValueIs (Literal-F.Text value spot) = L value
  ValueIs _ = Unit {0}

  abbrev pub LiteralIs : Literal → Type 0
  LiteralIs x = ValueIs (out-Literal x)

  abbrev pub ArgumentIs : Argument → Type 0
  ArgumentIs x = LiteralIs (out-Argument x).value

  abbrev pub DirectiveIs : DirectiveUse → Type 0
  DirectiveIs x = Each ArgumentIs x.arguments

  -- whichever a test takes
  chosen : {A : Type 0} (Q : A → Type 0) (b : Bool) (x y : A) → Q x → Q y → Q (cond b x y)
  chosen Q true x y h k = h
  chosen Q false x y h k = k

  variable_gives : (constant : Bool) → Gives (variable constant) LiteralIs
  variable_gives true = none LiteralIs
  variable_gives false =
      behind (punctuator (codes "$")) (λ dollar. name >>= λ word. returns (literal.Variable word.text dollar.spot)) Anything LiteralIs (anything _) (λ dollar _.
      behind name (λ word. returns (literal.Variable word.text dollar.spot)) Anything LiteralIs (anything _) (λ word _.
      meaning (literal.Variable word.text dollar.spot) LiteralIs (subst ValueIs (sym (outs-Variable word.text dollar.spot)) tt)))

  number_gives : Gives (token is_number >>= λ number. returns (literal.Int number.text number.spot)) LiteralIs
  number_gives = behind (token is_number) (λ number. returns (literal.Int number.text number.spot)) Anything LiteralIs (anything _) (λ number _. meaning (literal.Int number.text number.spot) LiteralIs (subst ValueIs (sym (outs-Int number.text number.spot)) tt))

  string_gives : Gives (token is_string >>= λ string. returns (literal.Text (string_value string.kind string.text) string.spot)) LiteralIs
  string_gives =
      behind (token is_string) (λ string. returns (literal.Text (string_value string.kind string.text) string.spot)) (λ t. TokenIs t × (is_string t ≡ true)) LiteralIs (token_of is_string)
      (λ string h. meaning (literal.Text (string_value string.kind string.text) string.spot) LiteralIs (subst ValueIs (sym (outs-Text (string_value string.kind string.text) string.spot)) (h.0.1 h.1)))

  word_is : (word : Lexeme) → LiteralIs (word_value word)
  word_is word =
      chosen LiteralIs (bytes_eq word.text (codes "true")) _ _ (subst ValueIs (sym (outs-Bool true word.spot)) tt)
      (chosen LiteralIs (bytes_eq word.text (codes "false")) _ _ (subst ValueIs (sym (outs-Bool false word.spot)) tt)
      (chosen LiteralIs (bytes_eq word.text (codes "null")) _ _ (subst ValueIs (sym (outs-Null word.spot)) tt)
      (subst ValueIs (sym (outs-Enum word.text word.spot)) tt)))

  word_gives : Gives (name >>= λ word. returns (word_value word)) LiteralIs
  word_gives = behind name (λ word. returns (word_value word)) Anything LiteralIs (anything _) (λ word _. meaning (word_value word) LiteralIs (word_is word))

  simple_gives : (constant : Bool) → Gives (simple_value constant) LiteralIs
  simple_gives constant =
      one_of (variable constant) _ LiteralIs (variable_gives constant)
      (one_of (token is_number >>= λ number. returns (literal.Int number.text number.spot)) _ LiteralIs number_gives
      (one_of (token is_string >>= λ string. returns (literal.Text (string_value string.kind string.text) string.spot)) (name >>= λ word. returns (word_value word)) LiteralIs string_gives word_gives))

  argument_gives : (inner : Phrase Literal) → Gives inner LiteralIs → Gives (argument inner) ArgumentIs
  argument_gives inner one =
      let made : Lexeme → Literal → Argument = λ word it. roll-Argument (record { name = word.text; value = it; spot = word.spot }) in
      behind name (λ word. punctuator (codes ":") >>= λ _. inner >>= λ it. returns (made word it)) Anything ArgumentIs (anything _) (λ word _.
      behind (punctuator (codes ":")) (λ _. inner >>= λ it. returns (made word it)) Anything ArgumentIs (anything _) (λ colon _.
      behind inner (λ it. returns (made word it)) LiteralIs ArgumentIs one (λ it h.
      meaning (made word it) ArgumentIs (subst (λ (a : AnyArgument). LiteralIs a.value) (sym (out-roll-Argument (record { name = word.text; value = it; spot = word.spot }))) h))))

  list_gives : (item : Phrase Literal) → Gives (list_value item) LiteralIs
  list_gives item = behind (between (codes "[") (many item) (codes "]")) (λ list. returns (literal.List list.1 list.0)) Anything LiteralIs (anything _) (λ list _. meaning (literal.List list.1 list.0) LiteralIs (subst ValueIs (sym (outs-List list.1 list.0)) tt))

  object_gives : (inner : Phrase Literal) → Gives (object_value inner) LiteralIs
  object_gives inner =
      behind (between (codes "{") (many (argument inner)) (codes "}")) (λ object. returns (literal.Object object.1 object.0)) Anything LiteralIs (anything _)
      (λ object _. meaning (literal.Object object.1 object.0) LiteralIs (subst ValueIs (sym (outs-Object object.1 object.0)) tt))

  value_gives : (constant : Bool) (depth : ℕ) → Gives (value constant depth) LiteralIs
  value_gives constant zero = simple_gives constant
  value_gives constant (suc depth) =
      one_of (simple_value constant) _ LiteralIs (simple_gives constant)
      (one_of (list_value (value constant depth)) (object_value (value constant depth)) LiteralIs (list_gives (value constant depth)) (object_gives (value constant depth)))

  arguments_give : (constant : Bool) (depth : ℕ) → Gives (arguments constant depth) (Each ArgumentIs)
  arguments_give constant depth =
      listed_of (between (codes "(") (some (argument (value constant depth))) (codes ")") >>= λ all. returns all.1) ArgumentIs
      (behind (between (codes "(") (some (argument (value constant depth))) (codes ")")) (λ all. returns all.1) (λ x. P x.0 × Each ArgumentIs x.1) (Each ArgumentIs)
      (between_of (codes "(") (some (argument (value constant depth))) (codes ")") (Each ArgumentIs) (some_of (argument (value constant depth)) ArgumentIs (argument_gives (value constant depth) (value_gives constant depth))))
      (λ all h. meaning all.1 (Each ArgumentIs) h.1))

  directive_gives : (constant : Bool) (depth : ℕ) → Gives (directive constant depth) DirectiveIs
  directive_gives constant depth =
      let made : Lexeme → Lexeme → List Argument → DirectiveUse = λ at word given. record { name = word.text; arguments = given; spot = at.spot } in
      behind (punctuator (codes "@")) (λ at. name >>= λ word. arguments constant depth >>= λ given. returns (made at word given)) Anything DirectiveIs (anything _) (λ at _.
      behind name (λ word. arguments constant depth >>= λ given. returns (made at word given)) Anything DirectiveIs (anything _) (λ word _.
      behind (arguments constant depth) (λ given. returns (made at word given)) (Each ArgumentIs) DirectiveIs (arguments_give constant depth) (λ given h.
      meaning (made at word given) DirectiveIs h)))

  directives_give : (constant : Bool) (depth : ℕ) → Gives (directives constant depth) (Each DirectiveIs)
  directives_give constant depth = each_of (directive constant depth) DirectiveIs (directive_gives constant depth)

  -- ---- selections, by how deep one looks

  module _ (Below : Selection → Type 0) where
    abbrev pub FieldIs : Field → Type 0
    FieldIs f = P f.spot × Each Below f.selections

    abbrev pub InlineIs : Inline → Type 0
    InlineIs f = P f.spot × (Each DirectiveIs f.directives × Each Below f.selections)

    abbrev pub LayerIs : AnySelection → Type 0
    LayerIs (Selection-F.Field f) = FieldIs (out-FieldNode f)
    LayerIs (Selection-F.Spread f) = Unit {0}
    LayerIs (Selection-F.Inline f) = InlineIs (out-InlineNode f)

    abbrev pub HereIs : Selection → Type 0
    HereIs s = LayerIs (out-Selection s)

    field_gives : (depth : ℕ) (inner : Phrase (List Selection)) → Gives inner (Each Below) → Gives (field depth inner) HereIs
    field_gives depth inner one =
        let layer : Lexeme → Option Lexeme → List Argument → List DirectiveUse → List Selection → Field = λ first second given used inside. record { alias = alias_by first second; name = name_by first second; arguments = given; directives = used; selections = inside; spot = first.spot } in
        let made : Lexeme → Option Lexeme → List Argument → List DirectiveUse → List Selection → Selection = λ first second given used inside. selection.Field (roll-FieldNode (layer first second given used inside)) in
        behind name (λ first. optional aliased >>= λ second. arguments false depth >>= λ given. directives false depth >>= λ used. listed inner >>= λ inside. returns (made first second given used inside)) (λ t. P t.spot) HereIs (spot_of _) (λ first at.
        behind (optional aliased) (λ second. arguments false depth >>= λ given. directives false depth >>= λ used. listed inner >>= λ inside. returns (made first second given used inside)) Anything HereIs (anything _) (λ second _.
        behind (arguments false depth) (λ given. directives false depth >>= λ used. listed inner >>= λ inside. returns (made first second given used inside)) Anything HereIs (anything _) (λ given _.
        behind (directives false depth) (λ used. listed inner >>= λ inside. returns (made first second given used inside)) Anything HereIs (anything _) (λ used _.
        behind (listed inner) (λ inside. returns (made first second given used inside)) (Each Below) HereIs (listed_of inner Below one) (λ inside h.
        meaning (made first second given used inside) HereIs
        (subst LayerIs (sym (outs-Field (roll-FieldNode (layer first second given used inside))))
        (subst FieldIs (sym (out-roll-FieldNode (layer first second given used inside))) (at, h))))))))

    spread_gives : (depth : ℕ) → Gives (spread depth) HereIs
    spread_gives depth =
        let made : Lexeme → List DirectiveUse → SpreadNode = λ word used. record { name = word.text; directives = used; spot = word.spot } in
        behind (token is_fragment_name) (λ word. directives false depth >>= λ used. returns (selection.Spread (made word used))) Anything HereIs (anything _) (λ word _.
        behind (directives false depth) (λ used. returns (selection.Spread (made word used))) Anything HereIs (anything _) (λ used _.
        meaning (selection.Spread (made word used)) HereIs (subst LayerIs (sym (outs-Spread (made word used))) tt)))

    condition_gives : Gives (optional type_condition) (λ o. IfSome o (λ t. P t.spot))
    condition_gives =
        one_of (type_condition >>= λ word. returns (Some word)) (returns None) (λ o. IfSome o (λ t. P t.spot))
        (behind type_condition (λ word. returns (Some word)) (λ t. P t.spot) (λ o. IfSome o (λ t. P t.spot))
        (behind (token (is_word (codes "on"))) (λ _. name) Anything (λ t. P t.spot) (anything _) (λ on _. spot_of _))
        (λ word at. meaning (Some word) (λ o. IfSome o (λ t. P t.spot)) at))
        (meaning None (λ o. IfSome o (λ t. P t.spot)) tt)

    inline_at : (dots : Spot) (o : Option Lexeme) → P dots → IfSome o (λ t. P t.spot) → P (inline_spot dots o)
    inline_at dots None at h = at
    inline_at dots (Some word) at h = h

    inline_gives : (depth : ℕ) (inner : Phrase (List Selection)) (dots : Spot) → P dots → Gives inner (Each Below) → Gives (inline_fragment depth inner dots) HereIs
    inline_gives depth inner dots at one =
        let layer : Option Lexeme → List DirectiveUse → List Selection → Inline = λ condition used inside. record { condition = condition_text condition; directives = used; selections = inside; spot = inline_spot dots condition } in
        let made : Option Lexeme → List DirectiveUse → List Selection → Selection = λ condition used inside. selection.Inline (roll-InlineNode (layer condition used inside)) in
        behind (optional type_condition) (λ condition. directives false depth >>= λ used. inner >>= λ inside. returns (made condition used inside)) (λ o. IfSome o (λ t. P t.spot)) HereIs condition_gives (λ condition word_at.
        behind (directives false depth) (λ used. inner >>= λ inside. returns (made condition used inside)) (Each DirectiveIs) HereIs (directives_give false depth) (λ used ds.
        behind inner (λ inside. returns (made condition used inside)) (Each Below) HereIs one (λ inside h.
        meaning (made condition used inside) HereIs
        (subst LayerIs (sym (outs-Inline (roll-InlineNode (layer condition used inside))))
        (subst InlineIs (sym (out-roll-InlineNode (layer condition used inside))) (inline_at dots condition at word_at, (ds, h)))))))

    selection_gives : (depth : ℕ) (inner : Phrase (List Selection)) → Gives inner (Each Below) → Gives (any_selection depth inner) HereIs
    selection_gives depth inner one =
        one_of (field depth inner) (punctuator (codes "...") >>= λ dots. either (spread depth) (inline_fragment depth inner dots.spot)) HereIs (field_gives depth inner one)
        (behind (punctuator (codes "...")) (λ dots. either (spread depth) (inline_fragment depth inner dots.spot)) (λ t. P t.spot) HereIs (spot_of _)
        (λ dots at. one_of (spread depth) (inline_fragment depth inner dots.spot) HereIs (spread_gives depth) (inline_gives depth inner dots.spot at one)))

  -- what is so of a selection as deep as one looks
  abbrev pub SelectionIs : ℕ → Selection → Type 0
  SelectionIs zero s = Unit {0}
  SelectionIs (suc n) s = HereIs (SelectionIs n) s

  set_gives : (n depth : ℕ) → Gives (selection_set depth) (λ x. P x.0 × Each (SelectionIs n) x.1)
  set_gives n zero = none (λ x. P x.0 × Each (SelectionIs n) x.1)
  set_gives zero (suc depth) = between_of (codes "{") (some (any_selection depth (selection_set depth >>= λ set. returns set.1))) (codes "}") (Each (SelectionIs zero)) (λ tokens it fine is. each_nothing it)
    where
      each_nothing : (xs : List Selection) → Each (SelectionIs zero) xs
      each_nothing [] = tt
      each_nothing (x ∷ xs) = (tt, each_nothing xs)
  set_gives (suc n) (suc depth) =
      between_of (codes "{") (some (any_selection depth (selection_set depth >>= λ set. returns set.1))) (codes "}") (Each (SelectionIs (suc n)))
      (some_of (any_selection depth (selection_set depth >>= λ set. returns set.1)) (SelectionIs (suc n))
      (selection_gives (SelectionIs n) depth (selection_set depth >>= λ set. returns set.1)
      (behind (selection_set depth) (λ set. returns set.1) (λ x. P x.0 × Each (SelectionIs n) x.1) (Each (SelectionIs n)) (set_gives n depth) (λ set h. meaning set.1 (Each (SelectionIs n)) h.1))))

  selections_give : (n depth : ℕ) → Gives (selections depth) (Each (SelectionIs n))
  selections_give n depth = behind (selection_set depth) (λ set. returns set.1) (λ x. P x.0 × Each (SelectionIs n) x.1) (Each (SelectionIs n)) (set_gives n depth) (λ set h. meaning set.1 (Each (SelectionIs n)) h.1)

  -- ---- definitions

  abbrev pub DefinitionIs : ℕ → Definition → Type 0
  DefinitionIs n (definition.Operation op) = P op.spot × Each (SelectionIs n) op.selections
  DefinitionIs n (definition.Fragment f) = Unit {0}

  short_gives : (n depth : ℕ) → Gives (short_operation depth) (DefinitionIs n)
  short_gives n depth =
      let made : Spot × List Selection → Definition = λ set. definition.Operation (record { kind = operation.Query; name = None; variables = []; directives = []; selections = set.1; spot = set.0 }) in
      behind (selection_set depth) (λ set. returns (made set)) (λ x. P x.0 × Each (SelectionIs n) x.1) (DefinitionIs n) (set_gives n depth) (λ set h. meaning (made set) (DefinitionIs n) h)

  operation_gives : (n depth : ℕ) → Gives (operation_definition depth) (DefinitionIs n)
  operation_gives n depth =
      let made : Lexeme → Option Lexeme → List VariableDef → List DirectiveUse → List Selection → Definition = λ kind word variables used inside. definition.Operation (record { kind = operation_kind kind; name = name_text word; variables = variables; directives = used; selections = inside; spot = kind.spot }) in
      behind (token is_operation_type) (λ kind. optional name >>= λ word. variable_definitions depth >>= λ variables. directives false depth >>= λ used. selections depth >>= λ inside. returns (made kind word variables used inside)) (λ t. P t.spot) (DefinitionIs n) (spot_of _) (λ kind at.
      behind (optional name) (λ word. variable_definitions depth >>= λ variables. directives false depth >>= λ used. selections depth >>= λ inside. returns (made kind word variables used inside)) Anything (DefinitionIs n) (anything _) (λ word _.
      behind (variable_definitions depth) (λ variables. directives false depth >>= λ used. selections depth >>= λ inside. returns (made kind word variables used inside)) Anything (DefinitionIs n) (anything _) (λ variables _.
      behind (directives false depth) (λ used. selections depth >>= λ inside. returns (made kind word variables used inside)) Anything (DefinitionIs n) (anything _) (λ used _.
      behind (selections depth) (λ inside. returns (made kind word variables used inside)) (Each (SelectionIs n)) (DefinitionIs n) (selections_give n depth) (λ inside h.
      meaning (made kind word variables used inside) (DefinitionIs n) (at, h))))))

  fragment_gives : (n depth : ℕ) → Gives (fragment_definition depth) (DefinitionIs n)
  fragment_gives n depth =
      let made : Lexeme → Lexeme → List DirectiveUse → List Selection → Definition = λ word condition used inside. definition.Fragment (record { name = word.text; condition = condition.text; condition_spot = condition.spot; directives = used; selections = inside; spot = word.spot }) in
      behind (token (is_word (codes "fragment"))) (λ _. token is_fragment_name >>= λ word. type_condition >>= λ condition. directives false depth >>= λ used. selections depth >>= λ inside. returns (made word condition used inside)) Anything (DefinitionIs n) (anything _) (λ first _.
      behind (token is_fragment_name) (λ word. type_condition >>= λ condition. directives false depth >>= λ used. selections depth >>= λ inside. returns (made word condition used inside)) Anything (DefinitionIs n) (anything _) (λ word _.
      behind type_condition (λ condition. directives false depth >>= λ used. selections depth >>= λ inside. returns (made word condition used inside)) Anything (DefinitionIs n) (anything _) (λ condition _.
      behind (directives false depth) (λ used. selections depth >>= λ inside. returns (made word condition used inside)) Anything (DefinitionIs n) (anything _) (λ used _.
      behind (selections depth) (λ inside. returns (made word condition used inside)) Anything (DefinitionIs n) (anything _) (λ inside _.
      meaning (made word condition used inside) (DefinitionIs n) tt)))))

  definition_gives : (n depth : ℕ) → Gives (any_definition depth) (DefinitionIs n)
  definition_gives n depth =
      one_of (short_operation depth) (either (operation_definition depth) (fragment_definition depth)) (DefinitionIs n) (short_gives n depth)
      (one_of (operation_definition depth) (fragment_definition depth) (DefinitionIs n) (operation_gives n depth) (fragment_gives n depth))

  -- a document of such tokens
  pub document_gives : (n : ℕ) (tokens : List Lexeme) (it : Document) → Each TokenIs tokens → IsDocument tokens it → Each (DefinitionIs n) it.definitions
  document_gives n tokens it fine (depth, is) =
      let made : List Definition → Document = λ all. record { definitions = all } in
      behind (some (any_definition depth)) (λ all. returns (made all)) (Each (DefinitionIs n)) (λ d. Each (DefinitionIs n) d.definitions) (some_of (any_definition depth) (DefinitionIs n) (definition_gives n depth))
      (λ all h. meaning (made all) (λ d. Each (DefinitionIs n) d.definitions) h) tokens it fine is
