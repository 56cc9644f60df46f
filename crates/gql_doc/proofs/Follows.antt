-- Tokens that say the same to the grammar: where some are a phrase, others that are alike are one of the same value.
use Rattle.std.proofs.Common.{◌≡◌, ℕ, suc, inl, inr, Bool, true, false, List, [], ◌∷◌, ◌++◌, map, Option, Some, None, refl, sym, ◌∙◌, ap, subst}
use Rattle.std.specs.Prelude.{◌&&◌, ◌||◌, codes, if◌then◌else◌, option_and_then}
use Rattle.std.specs.Str.{bytes_eq}
use Rattle.gql_lex.specs.Tokens.{Lexeme}
use Rattle.gql_doc.specs.StringValue.{string_value}
use Rattle.gql_doc.specs.Phrase.{Phrase, token, returns, ◌>>=◌, either, never, many, some, optional, listed}
use Rattle.gql_lex.specs.declared.token.TokenKind.{TokenKind}
use Rattle.gql_lex.specs.declared.token.TokenKind.TheVariants as kind
use Rattle.gql_doc.specs.Terminals.{is_punctuator, is_punctuator_kind, is_name, is_name_kind, is_number, is_string}
use Rattle.gql_doc.specs.Nesting.{taken, room_behind, room_after}

-- two tokens of one class, and of one text or one value where it matters
pub record Alike (token other : Lexeme) : Type 0 where
  pub punctuators : (text : List ℕ) → is_punctuator text other ≡ is_punctuator text token
  pub names : is_name other ≡ is_name token
  pub numbers : is_number other ≡ is_number token
  pub strings : is_string other ≡ is_string token
  pub name : is_name token ≡ true → token.text ≡ other.text
  pub number : is_number token ≡ true → token.text ≡ other.text
  pub string : is_string token ≡ true → string_value token.kind token.text ≡ string_value other.kind other.text

abbrev pub AreAlike : List Lexeme → List Lexeme → Type 0
AreAlike [] [] = Unit {0}
AreAlike [] (o ∷ os) = ⊥
AreAlike (t ∷ ts) [] = ⊥
AreAlike (t ∷ ts) (o ∷ os) = Alike t o × AreAlike ts os

-- the parts of a list that is like two lists behind one another
record Parted (front back others : List Lexeme) : Type 0 where
  first : List Lexeme
  last : List Lexeme
  whole : others ≡ first ++ last
  fronts : AreAlike front first
  backs : AreAlike back last

parted : (front back others : List Lexeme) → AreAlike (front ++ back) others → Parted front back others
parted [] back others h = record { first = []; last = others; whole = refl; fronts = tt; backs = h }
parted (t ∷ ts) back [] h = absurd h
parted (t ∷ ts) back (o ∷ os) h =
    let rest = parted ts back os h.1 in
    record { first = o ∷ rest.first; last = rest.last; whole = ap (λ l. o ∷ l) rest.whole; fronts = (h.0, rest.fronts); backs = rest.backs }

single : (t : Lexeme) (others : List Lexeme) → AreAlike (t ∷ []) others → (o : Lexeme) × (others ≡ o ∷ []) × Alike t o
single t [] h = absurd h
single t (o ∷ []) h = (o, refl, h.0)
single t (o ∷ p ∷ ps) h = absurd h.1

none : (others : List Lexeme) → AreAlike [] others → others ≡ []
none [] h = refl
none (o ∷ os) h = absurd h

-- ---- phrases

-- where tokens are one phrase, others that are alike are another, and the values are the same in this sense
pub record Follows {A B : Type 0} (p : Phrase A) (q : Phrase B) (Same : A → B → Type 0) : Type 0 where
  pub again : (tokens : List Lexeme) (value : A) → p tokens value → (others : List Lexeme) → AreAlike tokens others → (it : B) × q others it × Same value it

-- the same up to a function
abbrev pub By : {A C : Type 0} → (A → C) → A → A → Type 0
By u a b = u a ≡ u b

-- of any value
abbrev pub Any : {A B : Type 0} → A → B → Type 0
Any a b = Unit {0}

pub follows_token : {Same : Lexeme → Lexeme → Type 0} (test : Lexeme → Bool) → ((t o : Lexeme) → Alike t o → test t ≡ true → (test o ≡ true) × Same t o) → Follows (token test) (token test) Same
follows_token test keeps = record {
  again = λ tokens value h others alike.
      let at = single value others (subst (λ l. AreAlike l others) h.0 alike) in
      let kept = keeps value at.0 at.2 h.1 in
      (at.0, (at.1, kept.0), kept.1);
}

pub follows_returns : {A B : Type 0} {a : A} {b : B} {Same : A → B → Type 0} → Same a b → Follows (returns a) (returns b) Same
follows_returns {a = a} {b = b} {Same = Same} same = record {
  again = λ tokens value h others alike. (b, (none others (subst (λ l. AreAlike l others) h.0 alike), refl), subst (λ v. Same v b) (sym h.1) same);
}

pub follows_bind : {A B C D : Type 0} {p : Phrase A} {q : Phrase B} {f : A → Phrase C} {g : B → Phrase D} {S : A → B → Type 0} {T : C → D → Type 0}
    → Follows p q S → ((a : A) (b : B) → S a b → Follows (f a) (g b) T) → Follows (p >>= f) (q >>= g) T
follows_bind first behind = record {
  again = λ tokens value h others alike.
      let split = h.1 in
      let cut = parted split.front split.back others (subst (λ l. AreAlike l others) split.whole alike) in
      let one = first.again split.front h.0 split.front_is cut.first cut.fronts in
      let two = (behind h.0 one.0 one.2).again split.back value split.back_is cut.last cut.backs in
      (two.0, (one.0, record { front = cut.first; back = cut.last; whole = cut.whole; front_is = one.1; back_is = two.1 }), two.2);
}

pub follows_either : {A B : Type 0} {p p' : Phrase A} {q q' : Phrase B} {S : A → B → Type 0} → Follows p q S → Follows p' q' S → Follows (either p p') (either q q') S
follows_either left right = record {
  again = λ tokens value h others alike. elim h [
    | inl x ↦ (let one = left.again tokens value x others alike in (one.0, inl one.1, one.2))
    | inr y ↦ (let one = right.again tokens value y others alike in (one.0, inr one.1, one.2))
  ];
}

pub follows_never : {A B : Type 0} {S : A → B → Type 0} → Follows (never {A = A}) (never {A = B}) S
follows_never = record { again = λ tokens value h others alike. absurd h }

many_again : {A B C : Type 0} (u : A → C) (v : B → C) (p : Phrase A) (q : Phrase B) → Follows p q (λ a b. u a ≡ v b) → (tokens : List Lexeme) (values : List A) → many p tokens values → (others : List Lexeme) → AreAlike tokens others
    → (it : List B) × many q others it × (map u values ≡ map v it)
many_again u v p q first tokens [] h others alike = ([], none others (subst (λ l. AreAlike l others) h alike), refl)
many_again u v p q first tokens (x ∷ xs) h others alike =
    let cut = parted h.front h.back others (subst (λ l. AreAlike l others) h.whole alike) in
    let one = first.again h.front x h.front_is cut.first cut.fronts in
    let two = many_again u v p q first h.back xs h.back_is cut.last cut.backs in
    (one.0 ∷ two.0, record { front = cut.first; back = cut.last; whole = cut.whole; front_is = one.1; back_is = two.1 }, λ i. one.2 i ∷ two.2 i)

pub follows_many : {A C : Type 0} (u : A → C) {p q : Phrase A} → Follows p q (By u) → Follows (many p) (many q) (By (map u))
follows_many u {p = p} {q = q} first = record { again = many_again u u p q first }

pub follows_some : {A C : Type 0} (u : A → C) {p q : Phrase A} → Follows p q (By u) → Follows (some p) (some q) (By (map u))
follows_some u first = follows_bind first (λ a b same. follows_bind (follows_many u first) (λ xs ys sames. follows_returns (λ i. same i ∷ sames i)))

abbrev pub OptionSame : {A B : Type 0} → (A → B → Type 0) → Option A → Option B → Type 0
OptionSame S None None = Unit {0}
OptionSame S None (Some b) = ⊥
OptionSame S (Some a) None = ⊥
OptionSame S (Some a) (Some b) = S a b

pub follows_optional : {A B : Type 0} {p : Phrase A} {q : Phrase B} {S : A → B → Type 0} → Follows p q S → Follows (optional p) (optional q) (OptionSame S)
follows_optional first = follows_either (follows_bind first (λ a b same. follows_returns same)) (follows_returns tt)

pub follows_listed : {A C : Type 0} (u : A → C) {p q : Phrase (List A)} → Follows p q (By (map u)) → Follows (listed p) (listed q) (By (map u))
follows_listed u first = follows_either first (follows_returns refl)

-- ---- braces and brackets

-- the same room left, and then tokens that leave the same
pub room_by : (ts os : List Lexeme) → ((room : ℕ) → room_after room os ≡ room_after room ts) → (left : Option ℕ) → option_and_then (λ room. room_after room os) left ≡ option_and_then (λ room. room_after room ts) left
room_by ts os same None = refl
room_by ts os same (Some room) = same room

behind_alike : (room : ℕ) (t o : Lexeme) → Alike t o → room_behind room o ≡ room_behind room t
behind_alike room t o alike = λ i. if alike.punctuators (codes "[") i || alike.punctuators (codes "{") i then taken room else (if alike.punctuators (codes "]") i || alike.punctuators (codes "}") i then Some (suc room) else Some room)

-- a name opens and closes nothing
name_by : (kind : TokenKind) (own text : List ℕ) → is_name_kind kind ≡ true → (is_punctuator_kind kind && bytes_eq own text) ≡ false
name_by kind.Name own text h = refl
name_by kind.Int own text h = absurd (cc)
name_by kind.Punctuator own text h = absurd (cc)
name_by kind.Quoted own text h = absurd (cc)
name_by kind.Block own text h = absurd (cc)

pub name_opens_none : (t : Lexeme) (room : ℕ) → is_name t ≡ true → room_behind room t ≡ Some room
name_opens_none t room h =
    let no = λ (text : List ℕ). name_by t.kind t.text text h in
    λ i. if no (codes "[") i || no (codes "{") i then taken room else (if no (codes "]") i || no (codes "}") i then Some (suc room) else Some room)

-- tokens that are alike nest alike
pub room_alike : (ts os : List Lexeme) → AreAlike ts os → (room : ℕ) → room_after room os ≡ room_after room ts
room_alike [] [] h room = refl
room_alike [] (o ∷ os) h room = absurd h
room_alike (t ∷ ts) [] h room = absurd h
room_alike (t ∷ ts) (o ∷ os) h room =
    ap (option_and_then (λ left. room_after left os)) (behind_alike room t o h.0) ∙ room_by ts os (room_alike ts os h.1) (room_behind room t)
