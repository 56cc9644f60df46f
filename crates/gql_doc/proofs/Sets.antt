-- Sets of tokens, and which have none in common.
use Rattle.std.proofs.Common.{◌≡◌, ◌⊎◌, inl, inr, ℕ, Bool, true, false, ◌||◌, ◌&&◌, not, List, [], ◌∷◌, ◌++◌, refl, sym, ap, ◌∙◌}
use Rattle.std.specs.Str.{bytes_eq}
use Rattle.std.proofs.lemmas.Slice.Eq.{bytes_eq-Decides}
use Rattle.gql_lex.specs.Tokens.{Lexeme}
use Rattle.gql_doc.specs.Terminals.{is_punctuator, is_punctuator_kind, is_name, is_name_kind, is_number, is_number_kind, is_string, is_string_kind, is_word}
use Rattle.gql_lex.specs.declared.token.TokenKind.{TokenKind}
use Rattle.gql_lex.specs.declared.token.TokenKind.TheVariants as kind

-- the punctuators and the names of these texts, and whether all names, numbers, strings, and all tokens are in it
pub record Set : Type 0 where
  pub punctuators : List (List ℕ)
  pub words : List (List ℕ)
  pub names : Bool
  pub numbers : Bool
  pub strings : Bool
  pub all : Bool

abbrev pub no_tokens : Set
no_tokens = record { punctuators = []; words = []; names = false; numbers = false; strings = false; all = false }

-- a punctuator
abbrev pub this : List ℕ → Set
this text = record { punctuators = text ∷ []; words = []; names = false; numbers = false; strings = false; all = false }

-- a name
abbrev pub this_word : List ℕ → Set
this_word text = record { punctuators = []; words = text ∷ []; names = false; numbers = false; strings = false; all = false }

abbrev pub names : Set
names = record { punctuators = []; words = []; names = true; numbers = false; strings = false; all = false }

abbrev pub numbers : Set
numbers = record { punctuators = []; words = []; names = false; numbers = true; strings = false; all = false }

abbrev pub strings : Set
strings = record { punctuators = []; words = []; names = false; numbers = false; strings = true; all = false }

abbrev pub all_tokens : Set
all_tokens = record { punctuators = []; words = []; names = false; numbers = false; strings = false; all = true }

abbrev pub union : Set → Set → Set
union s t = record { punctuators = s.punctuators ++ t.punctuators; words = s.words ++ t.words; names = s.names || t.names; numbers = s.numbers || t.numbers; strings = s.strings || t.strings; all = s.all || t.all }

-- the set where the test is true, and else the empty one
abbrev pub only_if : Bool → Set → Set
only_if true s = s
only_if false s = no_tokens

abbrev pub among : List (List ℕ) → List ℕ → Bool
among [] text = false
among (one ∷ others) text = bytes_eq text one || among others text

abbrev pub has_of : Set → TokenKind → List ℕ → Bool
has_of s kind.Punctuator text = among s.punctuators text
has_of s kind.Name text = s.names || among s.words text
has_of s kind.Int text = s.numbers
has_of s kind.Quoted text = s.strings
has_of s kind.Block text = s.strings

abbrev pub has : Set → Lexeme → Bool
has s token = s.all || has_of s token.kind token.text

abbrev pub none_among : List (List ℕ) → List (List ℕ) → Bool
none_among [] others = true
none_among (text ∷ texts) others = not (among others text) && none_among texts others

-- whether a set has names at all
abbrev pub some_names : Bool → List (List ℕ) → Bool
some_names true words = true
some_names false [] = false
some_names false (word ∷ words) = true

-- whether no name is in both
abbrev pub names_apart : Set → Set → Bool
names_apart s t = not (s.names && some_names t.names t.words) && (not (some_names s.names s.words && t.names) && none_among s.words t.words)

abbrev pub disjoint : Set → Set → Bool
disjoint s t = not (s.all || t.all) && (none_among s.punctuators t.punctuators && (names_apart s t && (not (s.numbers && t.numbers) && not (s.strings && t.strings))))

and_left : (a b : Bool) → a && b ≡ true → a ≡ true
and_left true b h = refl
and_left false b h = h

and_right : (a b : Bool) → a && b ≡ true → b ≡ true
and_right true b h = h
and_right false b h = cc

not_true : (a : Bool) → not a ≡ true → a ≡ false
not_true true h = cc
not_true false h = refl

not_both : (a b : Bool) → not (a && b) ≡ true → a ≡ true → b ≡ false
not_both true b h e = not_true b h
not_both false b h e = cc

or_cases : (a b : Bool) → a || b ≡ true → (a ≡ true) ⊎ (b ≡ true)
or_cases true b h = inl refl
or_cases false b h = inr h

pub or_left : (a b : Bool) → a ≡ true → a || b ≡ true
or_left true b h = refl
or_left false b h = cc

pub or_right : (a b : Bool) → b ≡ true → a || b ≡ true
or_right true b h = refl
or_right false b h = h

none_among-among : (texts others : List (List ℕ)) (text : List ℕ) → none_among texts others ≡ true → among texts text ≡ true → among others text ≡ false
none_among-among [] others text none h = cc
none_among-among (first ∷ texts) others text none h =
    elim (or_cases (bytes_eq text first) (among texts text) h) [
      | inl e ↦ ap (among others) ((bytes_eq-Decides text first).0 e) ∙ not_true (among others first) (and_left (not (among others first)) (none_among texts others) none)
      | inr e ↦ none_among-among texts others text (and_right (not (among others first)) (none_among texts others) none) e
    ]

abbrev apart : Set → Set → Bool
apart s t = none_among s.punctuators t.punctuators && (names_apart s t && (not (s.numbers && t.numbers) && not (s.strings && t.strings)))

-- a set that has a name has names
has_names : (n : Bool) (words : List (List ℕ)) (text : List ℕ) → n || among words text ≡ true → some_names n words ≡ true
has_names true words text h = refl
has_names false [] text h = h
has_names false (word ∷ words) text h = refl

-- and one that has none has no name
has_no_names : (n : Bool) (words : List (List ℕ)) (text : List ℕ) → some_names n words ≡ false → n || among words text ≡ false
has_no_names true words text h = h
has_no_names false [] text h = refl
has_no_names false (word ∷ words) text h = cc

neither : (a b : Bool) → a ≡ false → b ≡ false → a || b ≡ false
neither true b h e = cc
neither false b h e = e

disjoint-names : (s t : Set) (text : List ℕ) → names_apart s t ≡ true → s.names || among s.words text ≡ true → t.names || among t.words text ≡ false
disjoint-names s t text d h =
    let later = and_right (not (s.names && some_names t.names t.words)) _ d in
    elim (or_cases s.names (among s.words text) h) [
      | inl e ↦ has_no_names t.names t.words text (not_both s.names (some_names t.names t.words) (and_left (not (s.names && some_names t.names t.words)) _ d) e)
      | inr e ↦ neither t.names (among t.words text)
          (not_both (some_names s.names s.words) t.names (and_left (not (some_names s.names s.words && t.names)) _ later) (has_names s.names s.words text h))
          (none_among-among s.words t.words text (and_right (not (some_names s.names s.words && t.names)) _ later) e)
    ]

disjoint-has_of : (s t : Set) (k : TokenKind) (text : List ℕ) → apart s t ≡ true → has_of s k text ≡ true → has_of t k text ≡ false
disjoint-has_of s t kind.Punctuator text d h = none_among-among s.punctuators t.punctuators text (and_left (none_among s.punctuators t.punctuators) _ d) h
disjoint-has_of s t kind.Name text d h = disjoint-names s t text (and_left (names_apart s t) _ (and_right (none_among s.punctuators t.punctuators) _ d)) h
disjoint-has_of s t kind.Int text d h = not_both s.numbers t.numbers (and_left (not (s.numbers && t.numbers)) _ (and_right (names_apart s t) _ (and_right (none_among s.punctuators t.punctuators) _ d))) h
disjoint-has_of s t kind.Quoted text d h = not_both s.strings t.strings (and_right (not (s.numbers && t.numbers)) _ (and_right (names_apart s t) _ (and_right (none_among s.punctuators t.punctuators) _ d))) h
disjoint-has_of s t kind.Block text d h = not_both s.strings t.strings (and_right (not (s.numbers && t.numbers)) _ (and_right (names_apart s t) _ (and_right (none_among s.punctuators t.punctuators) _ d))) h

both_false : (a b : Bool) → not (a || b) ≡ true → (a ≡ false) × (b ≡ false)
both_false true b h = cc
both_false false true h = cc
both_false false false h = (refl, refl)

disjoint-has_by : (a b c d : Bool) → (a ≡ false) × (b ≡ false) → (c ≡ true → d ≡ false) → a || c ≡ true → b || d ≡ false
disjoint-has_by true b c d e f h = cc
disjoint-has_by false true c d e f h = cc
disjoint-has_by false false c d e f h = f h

-- what is in one of two sets that have nothing in common isn't in the other
pub disjoint-has : (s t : Set) (token : Lexeme) → disjoint s t ≡ true → has s token ≡ true → has t token ≡ false
disjoint-has s t token d h = disjoint-has_by s.all t.all (has_of s token.kind token.text) (has_of t token.kind token.text)
    (both_false s.all t.all (and_left (not (s.all || t.all)) (apart s t) d))
    (disjoint-has_of s t token.kind token.text (and_right (not (s.all || t.all)) (apart s t) d)) h

among-append : (a b : List (List ℕ)) (text : List ℕ) → among (a ++ b) text ≡ (among a text || among b text)
among-append [] b text = refl
among-append (one ∷ a) b text = by (bytes_eq text one) (among-append a b text)
  where
    by : (test : Bool) → among (a ++ b) text ≡ (among a text || among b text) → (test || among (a ++ b) text) ≡ ((test || among a text) || among b text)
    by true e = refl
    by false e = e

four : (a b c d : Bool) → (a || b) || (c || d) ≡ ((a || c) || (b || d))
four true b c d = refl
four false true true d = refl
four false true false d = refl
four false false c d = refl

names-append : (n m : Bool) (a b : List (List ℕ)) (text : List ℕ) → (n || m) || among (a ++ b) text ≡ ((n || among a text) || (m || among b text))
names-append n m a b text = ap (λ x. (n || m) || x) (among-append a b text) ∙ four n m (among a text) (among b text)

has_of-union : (s t : Set) (k : TokenKind) (text : List ℕ) → has_of (union s t) k text ≡ (has_of s k text || has_of t k text)
has_of-union s t kind.Punctuator text = among-append s.punctuators t.punctuators text
has_of-union s t kind.Name text = names-append s.names t.names s.words t.words text
has_of-union s t kind.Int text = refl
has_of-union s t kind.Quoted text = refl
has_of-union s t kind.Block text = refl

pub has-union : (s t : Set) (token : Lexeme) → has (union s t) token ≡ (has s token || has t token)
has-union s t token = ap (λ x. (s.all || t.all) || x) (has_of-union s t token.kind token.text) ∙ four s.all t.all (has_of s token.kind token.text) (has_of t token.kind token.text)

-- ---- the tests of the grammar

or_false : (a : Bool) → (a || false) ≡ a
or_false true = refl
or_false false = refl

punctuator_is : (k : TokenKind) (own text : List ℕ) → (is_punctuator_kind k && bytes_eq own text) ≡ has_of (this text) k own
punctuator_is kind.Punctuator own text = sym (or_false (bytes_eq own text))
punctuator_is kind.Name own text = refl
punctuator_is kind.Int own text = refl
punctuator_is kind.Quoted own text = refl
punctuator_is kind.Block own text = refl

pub is_punctuator-has : (text : List ℕ) (token : Lexeme) → is_punctuator text token ≡ has (this text) token
is_punctuator-has text token = punctuator_is token.kind token.text text

-- a test of a kind, and a set that has the same kinds
kind_is : (s : Set) (test : TokenKind → Bool) (k : TokenKind) (text : List ℕ) → test kind.Punctuator ≡ among s.punctuators text → test kind.Name ≡ has_of s kind.Name text → test kind.Int ≡ s.numbers → test kind.Quoted ≡ s.strings → test kind.Block ≡ s.strings
    → test k ≡ has_of s k text
kind_is s test kind.Punctuator text punctuators names numbers quoted block = punctuators
kind_is s test kind.Name text punctuators names numbers quoted block = names
kind_is s test kind.Int text punctuators names numbers quoted block = numbers
kind_is s test kind.Quoted text punctuators names numbers quoted block = quoted
kind_is s test kind.Block text punctuators names numbers quoted block = block

pub is_name-has : (token : Lexeme) → is_name token ≡ has names token
is_name-has token = kind_is names is_name_kind token.kind token.text refl refl refl refl refl

pub is_number-has : (token : Lexeme) → is_number token ≡ has numbers token
is_number-has token = kind_is numbers is_number_kind token.kind token.text refl refl refl refl refl

pub is_string-has : (token : Lexeme) → is_string token ≡ has strings token
is_string-has token = kind_is strings is_string_kind token.kind token.text refl refl refl refl refl

word_is : (k : TokenKind) (own text : List ℕ) → (is_name_kind k && bytes_eq own text) ≡ has_of (this_word text) k own
word_is kind.Punctuator own text = refl
word_is kind.Name own text = sym (or_false (bytes_eq own text))
word_is kind.Int own text = refl
word_is kind.Quoted own text = refl
word_is kind.Block own text = refl

pub is_word-has : (text : List ℕ) (token : Lexeme) → is_word text token ≡ has (this_word text) token
is_word-has text token = word_is token.kind token.text text
