-- The tokens that are printed: those of a document, where a query that needs no word has none.
use Rattle.std.proofs.Common.{◌≡◌, ℕ, ◌⊎◌, inl, inr, true, false, List, [], ◌∷◌, ◌++◌, map, flat_map, Option, Some, None, refl, sym, ◌∙◌, ap, subst}
use Rattle.std.specs.Prelude.{option_and_then}
use Rattle.std.proofs.lemmas.List.{append-nil, map-append}
use Rattle.gql_lex.specs.Tokens.{Lexeme}
use Rattle.gql_lex.specs.declared.token.TokenKind.TheVariants as kind
use Rattle.gql_doc.specs.StringValue.{string_value}
use Rattle.gql_doc.specs.Quoting.{quoted_text}
use Rattle.gql_doc.specs.Phrase.{Phrase, many, some}
use Rattle.gql_doc.specs.Terminals.{is_string, is_operation_type}
use Rattle.gql_doc.specs.Nesting.{room_behind, room_after}
use Rattle.gql_doc.specs.Grammar
use Rattle.gql_doc.specs.Pieces.{Piece}
use Rattle.gql_doc.specs.Printed.{word, printed_name, printed_variables, printed_directives, printed_selections, operation_word, operation_head, printed_definition, printed}
use Rattle.gql_doc.specs.Unplaced.{nowhere, unplaced_variable, unplaced_directive, unplaced_selection, unplaced_definition, unplaced}
use Rattle.gql_doc.proofs.Words.{operation_type_named}
use Rattle.gql_doc.proofs.Follows.{room_by, name_opens_none}
use Rattle.gql_doc.proofs.Pieces.{IsWritten}
use Rattle.gql_doc.proofs.Prints.{reprint}
use Rattle.gql_doc.proofs.PrintsGrammar.{prints_optional_name, prints_variable_definitions, prints_directives, prints_selections, long_printed, prints_operation, prints_fragment, prints_short}
use Rattle.gql_model.specs.declared.syntax.DirectiveUse.{DirectiveUse}
use Rattle.gql_model.specs.declared.syntax.VariableDef.{VariableDef}
use Rattle.gql_model.specs.declared.syntax.Selection.{Selection}
use Rattle.gql_model.specs.declared.syntax.OperationKind.{OperationKind}
use Rattle.gql_model.specs.declared.syntax.OperationKind.TheVariants as operation
use Rattle.gql_model.specs.declared.syntax.OperationDef.{OperationDef}
use Rattle.gql_model.specs.declared.syntax.Definition.{Definition}
use Rattle.gql_model.specs.declared.syntax.Definition.TheVariants as definition
use Rattle.gql_model.specs.declared.syntax.Document.{Document}

-- ---- what holds of each token

-- a token is written right, and where it is a string its value, written between quotes, is read again
pub record ReadsBack (t : Lexeme) : Type 0 where
  pub back : is_string t ≡ true → string_value kind.Quoted (quoted_text (string_value t.kind t.text)) ≡ string_value t.kind t.text
  pub written : IsWritten (reprint t)

abbrev pub EachReadsBack : List Lexeme → Type 0
EachReadsBack [] = Unit {0}
EachReadsBack (t ∷ ts) = ReadsBack t × EachReadsBack ts

each_left : (a b : List Lexeme) → EachReadsBack (a ++ b) → EachReadsBack a
each_left [] b h = tt
each_left (t ∷ ts) b h = (h.0, each_left ts b h.1)

each_right : (a b : List Lexeme) → EachReadsBack (a ++ b) → EachReadsBack b
each_right [] b h = h
each_right (t ∷ ts) b h = each_right ts b h.1

each_both : (a b : List Lexeme) → EachReadsBack a → EachReadsBack b → EachReadsBack (a ++ b)
each_both [] b h k = k
each_both (t ∷ ts) b h k = (h.0, each_both ts b h.1 k)

-- ---- fewer tokens

-- tokens that nest as others do, and have their strings alone
pub record Keeps (tokens short : List Lexeme) : Type 0 where
  pub room : (room : ℕ) → room_after room short ≡ room_after room tokens
  pub strings : EachReadsBack tokens → EachReadsBack short

keeps_same : (tokens : List Lexeme) → Keeps tokens tokens
keeps_same tokens = record { room = λ room. refl; strings = λ h. h }

and_then_both : (a b : List Lexeme) (left : Option ℕ) → ((room : ℕ) → room_after room (a ++ b) ≡ option_and_then (λ l. room_after l b) (room_after room a))
    → option_and_then (λ l. room_after l (a ++ b)) left ≡ option_and_then (λ l. room_after l b) (option_and_then (λ l. room_after l a) left)
and_then_both a b None h = refl
and_then_both a b (Some room) h = h room

-- behind some tokens and then others
after_both : (a b : List Lexeme) (room : ℕ) → room_after room (a ++ b) ≡ option_and_then (λ l. room_after l b) (room_after room a)
after_both [] b room = refl
after_both (t ∷ ts) b room = and_then_both ts b (room_behind room t) (after_both ts b)

keeps_both : {a b c d : List Lexeme} → Keeps a c → Keeps b d → Keeps (a ++ b) (c ++ d)
keeps_both {a = a} {b = b} {c = c} {d = d} first second = record {
  room = λ room.
      after_both c d room
      ∙ (ap (option_and_then (λ l. room_after l d)) (first.room room)
      ∙ (room_by b d second.room (room_after room a)
      ∙ sym (after_both a b room)));
  strings = λ h. each_both c d (first.strings (each_left a b h)) (second.strings (each_right a b h));
}

-- without a word at the front
keeps_behind : (t : Lexeme) (tokens : List Lexeme) → is_operation_type t ≡ true → Keeps (t ∷ tokens) tokens
keeps_behind t tokens h =
    record {
      room = λ room. sym (ap (option_and_then (λ l. room_after l tokens)) (name_opens_none t room (operation_type_named t h)));
      strings = λ each. each.1;
    }

-- ---- definitions

-- tokens of the same phrase, up to places, that are printed one for one
pub record Shorter {A : Type 0} (p : Phrase A) (same : A → A) (print : A → List Piece) (tokens : List Lexeme) (value : A) : Type 0 where
  pub short : List Lexeme
  pub it : A
  pub is : p short it
  pub again : same it ≡ same value
  pub prints : print value ≡ map reprint short
  pub keeps : Keeps tokens short

head_cases : (kind : OperationKind) (name : Option (List ℕ)) (variables : List VariableDef) (directives : List DirectiveUse)
    → (operation_head kind name variables directives ≡ word (operation_word kind) ∷ (printed_name name ++ (printed_variables variables ++ printed_directives directives)))
    ⊎ ((kind ≡ operation.Query) × (name ≡ None) × (variables ≡ []) × (directives ≡ []))
head_cases operation.Query None [] [] = inr (refl, refl, refl, refl)
head_cases operation.Query None [] (x ∷ xs) = inl refl
head_cases operation.Query None (x ∷ xs) directives = inl refl
head_cases operation.Query (Some name) variables directives = inl refl
head_cases operation.Mutation name variables directives = inl refl
head_cases operation.Subscription name variables directives = inl refl

no_tokens : (tokens : List Lexeme) → [] ≡ map reprint tokens → tokens ≡ []
no_tokens [] h = refl
no_tokens (t ∷ ts) h = absurd (cc)

-- the parts of an operation
abbrev name_of : Definition → Option (List ℕ)
name_of (definition.Operation it) = it.name
name_of (definition.Fragment it) = None

abbrev variables_of : Definition → List VariableDef
variables_of (definition.Operation it) = it.variables
variables_of (definition.Fragment it) = []

abbrev directives_of : Definition → List DirectiveUse
directives_of (definition.Operation it) = it.directives
directives_of (definition.Fragment it) = it.directives

abbrev selections_of : Definition → List Selection
selections_of (definition.Operation it) = it.selections
selections_of (definition.Fragment it) = it.selections

abbrev ShorterDefinition : ℕ → List Lexeme → Definition → Type 0
ShorterDefinition depth = Shorter (Grammar.any_definition depth) unplaced_definition printed_definition

long_operation : (depth : ℕ) (tokens : List Lexeme) (d : Definition) → Grammar.operation_definition depth tokens d → printed_definition d ≡ long_printed d → ShorterDefinition depth tokens d
long_operation depth tokens d h same = record {
  short = tokens;
  it = d;
  is = inr (inl h);
  again = refl;
  prints = same ∙ (prints_operation depth).prints tokens d h;
  keeps = keeps_same tokens;
}

-- a query that is its selection set alone
plain_operation : (depth : ℕ) (tokens : List Lexeme) (it : OperationDef) → Grammar.operation_definition depth tokens (definition.Operation it)
    → (it.kind ≡ operation.Query) × (it.name ≡ None) × (it.variables ≡ []) × (it.directives ≡ []) → ShorterDefinition depth tokens (definition.Operation it)
plain_operation depth tokens it h plain =
    let s1 = h.1 in
    let s2 = s1.back_is.1 in
    let s3 = s2.back_is.1 in
    let s4 = s3.back_is.1 in
    let s5 = s4.back_is.1 in
    let made = s5.back_is.1 in
    let name_none : s2.front ≡ [] = no_tokens s2.front (ap printed_name (sym plain.1 ∙ ap name_of made) ∙ prints_optional_name.prints s2.front s1.back_is.0 s2.front_is) in
    let variables_none : s3.front ≡ [] = no_tokens s3.front (ap printed_variables (sym plain.2 ∙ ap variables_of made) ∙ (prints_variable_definitions depth).prints s3.front s2.back_is.0 s3.front_is) in
    let directives_none : s4.front ≡ [] = no_tokens s4.front (ap printed_directives (sym plain.3 ∙ ap directives_of made) ∙ (prints_directives false depth).prints s4.front s3.back_is.0 s4.front_is) in
    let set = s5.front_is.0 in
    let inside = s5.front_is.1 in
    let selected : it.selections ≡ set.1 = ap selections_of made ∙ inside.back_is.1 in
    let end : s4.back ≡ s5.front = s5.whole ∙ (ap (λ l. s5.front ++ l) s5.back_is.0 ∙ append-nil s5.front) in
    let rest : s1.back ≡ s5.front = s2.whole ∙ ((λ i. name_none i ++ s2.back) ∙ (s3.whole ∙ ((λ i. variables_none i ++ s3.back) ∙ (s4.whole ∙ ((λ i. directives_none i ++ s4.back) ∙ end))))) in
    let all : tokens ≡ h.0 ∷ s5.front = s1.whole ∙ (λ i. s1.front_is.0 i ++ rest i) in
    record {
      short = s5.front;
      it = definition.Operation (record { kind = operation.Query; name = None; variables = []; directives = []; selections = set.1; spot = set.0 });
      is = inl (set, record { front = inside.front; back = inside.back; whole = inside.whole; front_is = inside.front_is; back_is = (inside.back_is.0, refl) });
      again = λ i. definition.Operation (record {
        kind = sym plain.0 i;
        name = sym plain.1 i;
        variables = map unplaced_variable (sym plain.2 i);
        directives = map unplaced_directive (sym plain.3 i);
        selections = map unplaced_selection (sym selected i);
        spot = nowhere;
      });
      prints =
          (λ i. operation_head (plain.0 i) (plain.1 i) (plain.2 i) (plain.3 i) ++ printed_selections (ap selections_of made i))
          ∙ (prints_selections depth).prints s5.front s4.back_is.0 s5.front_is;
      keeps = subst (λ l. Keeps l s5.front) (sym all) (keeps_behind h.0 s5.front s1.front_is.1);
    }

operation_by : (depth : ℕ) (tokens : List Lexeme) (it : OperationDef) → Grammar.operation_definition depth tokens (definition.Operation it)
    → (operation_head it.kind it.name it.variables it.directives ≡ word (operation_word it.kind) ∷ (printed_name it.name ++ (printed_variables it.variables ++ printed_directives it.directives)))
    ⊎ ((it.kind ≡ operation.Query) × (it.name ≡ None) × (it.variables ≡ []) × (it.directives ≡ [])) → ShorterDefinition depth tokens (definition.Operation it)
operation_by depth tokens it h (inl same) = long_operation depth tokens (definition.Operation it) h (ap (λ l. l ++ printed_selections it.selections) same)
operation_by depth tokens it h (inr plain) = plain_operation depth tokens it h plain

shorter_operation : (depth : ℕ) (tokens : List Lexeme) (d : Definition) → Grammar.operation_definition depth tokens d → ShorterDefinition depth tokens d
shorter_operation depth tokens (definition.Operation it) h = operation_by depth tokens it h (head_cases it.kind it.name it.variables it.directives)
shorter_operation depth tokens (definition.Fragment it) h = long_operation depth tokens (definition.Fragment it) h refl

shorter_definition : (depth : ℕ) (tokens : List Lexeme) (d : Definition) → Grammar.any_definition depth tokens d → ShorterDefinition depth tokens d
shorter_definition depth tokens d (inl h) = record { short = tokens; it = d; is = inl h; again = refl; prints = (prints_short depth).prints tokens d h; keeps = keeps_same tokens }
shorter_definition depth tokens d (inr (inl h)) = shorter_operation depth tokens d h
shorter_definition depth tokens d (inr (inr h)) = record { short = tokens; it = d; is = inr (inr h); again = refl; prints = (prints_fragment depth).prints tokens d h; keeps = keeps_same tokens }

-- ---- documents

shorter_many : (depth : ℕ) (tokens : List Lexeme) (ds : List Definition) → many (Grammar.any_definition depth) tokens ds
    → Shorter (many (Grammar.any_definition depth)) (map unplaced_definition) (flat_map printed_definition) tokens ds
shorter_many depth tokens [] h = record { short = []; it = []; is = refl; again = refl; prints = refl; keeps = subst (λ l. Keeps l []) (sym h) (keeps_same []) }
shorter_many depth tokens (d ∷ ds) h =
    let one : ShorterDefinition depth h.front d = shorter_definition depth h.front d h.front_is in
    let others : Shorter (many (Grammar.any_definition depth)) (map unplaced_definition) (flat_map printed_definition) h.back ds = shorter_many depth h.back ds h.back_is in
    record {
      short = one.short ++ others.short;
      it = one.it ∷ others.it;
      is = record { front = one.short; back = others.short; whole = refl; front_is = one.is; back_is = others.is };
      again = λ i. one.again i ∷ others.again i;
      prints = (λ i. one.prints i ++ others.prints i) ∙ sym (map-append reprint one.short others.short);
      keeps = subst (λ l. Keeps l (one.short ++ others.short)) (sym h.whole) (keeps_both one.keeps others.keeps);
    }

-- `p+` with its first item
record Begun {A : Type 0} (p : Phrase A) (tokens : List Lexeme) (xs : List A) : Type 0 where
  first : A
  others : List A
  all : xs ≡ first ∷ others
  is : many p tokens (first ∷ others)

begun : {A : Type 0} (p : Phrase A) (tokens : List Lexeme) (xs : List A) → some p tokens xs → Begun p tokens xs
begun p tokens xs h =
    let s1 = h.1 in
    let s2 = s1.back_is.1 in
    let rest : s1.back ≡ s2.front = s2.whole ∙ (ap (λ l. s2.front ++ l) s2.back_is.0 ∙ append-nil s2.front) in
    record {
      first = h.0;
      others = s1.back_is.0;
      all = s2.back_is.1;
      is = record { front = s1.front; back = s1.back; whole = s1.whole; front_is = s1.front_is; back_is = subst (λ l. many p l s1.back_is.0) (sym rest) s2.front_is };
    }

shorter_some : (depth : ℕ) (tokens : List Lexeme) (d : Definition) (ds : List Definition) → many (Grammar.any_definition depth) tokens (d ∷ ds)
    → Shorter (some (Grammar.any_definition depth)) (map unplaced_definition) (flat_map printed_definition) tokens (d ∷ ds)
shorter_some depth tokens d ds h =
    let one : ShorterDefinition depth h.front d = shorter_definition depth h.front d h.front_is in
    let others : Shorter (many (Grammar.any_definition depth)) (map unplaced_definition) (flat_map printed_definition) h.back ds = shorter_many depth h.back ds h.back_is in
    record {
      short = one.short ++ others.short;
      it = one.it ∷ others.it;
      is = (
        one.it,
        record {
          front = one.short;
          back = others.short;
          whole = refl;
          front_is = one.is;
          back_is = (others.it, record { front = others.short; back = []; whole = sym (append-nil others.short); front_is = others.is; back_is = (refl, refl) });
        },
      );
      again = λ i. one.again i ∷ others.again i;
      prints = (λ i. one.prints i ++ others.prints i) ∙ sym (map-append reprint one.short others.short);
      keeps = subst (λ l. Keeps l (one.short ++ others.short)) (sym h.whole) (keeps_both one.keeps others.keeps);
    }

pub shorter_document : (depth : ℕ) (tokens : List Lexeme) (d : Document) → Grammar.document depth tokens d → Shorter (Grammar.document depth) unplaced printed tokens d
shorter_document depth tokens d h =
    let split = h.1 in
    let list : Begun (Grammar.any_definition depth) split.front h.0 = begun (Grammar.any_definition depth) split.front h.0 split.front_is in
    let found : Shorter (some (Grammar.any_definition depth)) (map unplaced_definition) (flat_map printed_definition) split.front (list.first ∷ list.others) = shorter_some depth split.front list.first list.others list.is in
    let made : d ≡ record { definitions = list.first ∷ list.others } = split.back_is.1 ∙ (λ i. record { definitions = list.all i }) in
    let all : tokens ≡ split.front = split.whole ∙ (ap (λ l. split.front ++ l) split.back_is.0 ∙ append-nil split.front) in
    record {
      short = found.short;
      it = record { definitions = found.it };
      is = (found.it, record { front = found.short; back = []; whole = sym (append-nil found.short); front_is = found.is; back_is = (refl, refl) });
      again = (λ i. record { definitions = found.again i }) ∙ ap unplaced (sym made);
      prints = ap printed made ∙ found.prints;
      keeps = subst (λ l. Keeps l found.short) (sym all) found.keeps;
    }
