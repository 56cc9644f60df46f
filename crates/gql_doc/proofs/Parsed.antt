-- From what the parser reads to what a text is.
use Rattle.std.proofs.Common.{◌≡◌, ◌⊎◌, inl, inr, ℕ, suc, true, false, List, [], ◌∷◌, ◌++◌, Some, None, IsSome, Result, Ok, Err, refl, sym, ap, subst, ◌∙◌, append_assoc}
use Rattle.std.specs.Option.{option_and_then}
use Rattle.std.proofs.lemmas.List.{append-nil}
use Rattle.gql_tree.specs.declared.delivery.Spot.{Spot}
use Rattle.gql_lex.specs.declared.refusal.LexRefusal.{LexRefusal}
use Rattle.gql_lex.specs.Tokens.{Lexeme, Lexes, End, Whole, Refused}
use Rattle.gql_lex.proofs.Determined.{Lexes-determined}
use Rattle.gql_doc.specs.Phrase.{Phrase}
use Rattle.gql_doc.specs.Terminals.{is_opening}
use Rattle.gql_doc.specs.Nesting.{room_behind, room_after, IsWithin, limit}
use Rattle.gql_doc.specs.Answer.{Begins, IsFine, Comes, IsUnexpected, IsTooDeep, IsWhole, AnswersBy}
use Rattle.gql_doc.specs.inner.Reading.{Reading, Reader}
use Rattle.gql_doc.specs.inner.Reading as reading
use Rattle.gql_doc.specs.inner.Left.{coming, end_by, end_of}
use Rattle.gql_doc.specs.inner.Outcomes.{outcome, found, next_spot, refusal_of}
use Rattle.gql_doc.specs.declared.parser.Stop.{Stop}
use Rattle.gql_doc.specs.declared.parser.Stop.TheVariants as stop
use Rattle.gql_doc.specs.declared.refusal.ParseRefusal.{ParseRefusal}
use Rattle.gql_doc.specs.declared.refusal.ParseRefusal.TheVariants as refusal
use Rattle.gql_doc.proofs.Coming.{coming-lexes}
use Rattle.gql_doc.proofs.Sets.{Set}
use Rattle.gql_doc.proofs.Predictive.{Begun, Stopped, IsDeep, Reads, Predictive, room_both, same_why}

-- a phrase of any depth
abbrev pub at_some_depth : {A : Type 0} → (ℕ → Phrase A) → Phrase A
at_some_depth language tokens it = (depth : ℕ) × language depth tokens it

-- a reader reads a language, and to the end of the tokens
pub record Readable {A : Type 0} (language : ℕ → Phrase A) (reader : Reader A) : Type 0 where
  pub first : Set
  pub follow : Set
  pub parses : (depth : ℕ) → Predictive limit limit (language (suc limit)) (language depth) reader first follow false
  pub whole : (tokens rest : List Lexeme) (it : A) → reader tokens ≡ Ok (it, rest) → rest ≡ []

within_some : (tokens : List Lexeme) (left : ℕ) → room_after limit tokens ≡ Some left → IsWithin tokens
within_some tokens left e = rw e refl

shut_room : (done more : List Lexeme) (token : Lexeme) → room_after limit done ≡ Some 0 → is_opening token ≡ true → room_after limit (done ++ token ∷ more) ≡ None
shut_room done more token room opens =
    let one : room_behind 0 token ≡ None = rw opens refl in
    room_both limit 0 done (token ∷ more) None room (ap (option_and_then (λ left. room_after left more)) one)

whole_end : {A : Type 0} (text : List ℕ) (end : End) (it : A) → end ≡ Whole → found it (end_by text end) ≡ Ok it
whole_end text Whole it h = refl
whole_end text (Refused fault) it h = absurd cc

-- where no token begins, none is left
pub none_next : (tokens : List Lexeme) → next_spot tokens ≡ None → tokens ≡ []
none_next [] h = refl
none_next (token ∷ tokens) h = absurd cc

module _ {A : Type 0} {language : ℕ → Phrase A} {reader : Reader A} (readable : Readable language reader) where
  begins_of : (tokens : List Lexeme) → Begun (language (suc limit)) tokens → Begins (at_some_depth language) tokens
  begins_of tokens b = (b.more, b.value, (suc limit, b.is))

  -- ---- a document

  is_of : (tokens rest : List Lexeme) (it : A) → reader tokens ≡ Ok (it, rest) → at_some_depth language tokens it × IsWithin tokens
  is_of tokens rest it h =
      let f = (readable.parses 0).found tokens rest it h in
      let whole : tokens ≡ f.used = f.whole ∙ ap (λ r. f.used ++ r) (readable.whole tokens rest it h) ∙ append-nil f.used in
      ((suc limit, subst (λ t. language (suc limit) t it) (sym whole) f.is), within_some tokens limit (ap (room_after limit) whole ∙ f.room))

  fine_of : (tokens : List Lexeme) (it : A) → at_some_depth language tokens it × IsWithin tokens → IsFine (at_some_depth language) tokens
  fine_of tokens it is = record { begins = ([], it, (is.0.0, subst (λ t. language is.0.0 t it) (sym (append-nil tokens)) is.0.1)); within = is.1 }

  -- nothing that is within is opened too deep
  not_deep : (tokens : List Lexeme) → IsWithin tokens → IsDeep (reader (tokens ++ [])) → ⊥
  not_deep tokens within deep =
      let s = (readable.parses 0).stopped (tokens ++ []) deep.rest stop.TooDeep deep.is in
      let d = s.cause.1 in
      let whole : tokens ≡ s.done ++ d.next ∷ d.more = sym (append-nil tokens) ∙ s.whole ∙ ap (λ r. s.done ++ r) d.is in
      let none : room_after limit tokens ≡ None = ap (room_after limit) whole ∙ shut_room s.done d.more d.next s.cause.0 d.opens in
      absurd (within_none tokens none within)
    where
      within_none : (tokens : List Lexeme) → room_after limit tokens ≡ None → IsWithin tokens → ⊥
      within_none tokens e h = let no = subst IsSome e h in absurd cc

  -- a document that is within is read
  pub is_read : (tokens : List Lexeme) (it : A) → at_some_depth language tokens it → IsWithin tokens → reader tokens ≡ Ok (it, [])
  is_read tokens it is within = ap reader (sym (append-nil tokens)) ∙ by ((readable.parses is.0).reads tokens [] it is.1 refl)
    where
      by : Reads (reader (tokens ++ [])) it [] → reader (tokens ++ []) ≡ Ok (it, [])
      by (inl h) = h
      by (inr deep) = absurd (not_deep tokens within deep)

  -- ---- what is in the way

  fine_at : (tokens rest : List Lexeme) → (s : Stopped limit (language (suc limit)) tokens stop.Unexpected rest) → IsFine (at_some_depth language) s.done
  fine_at tokens rest s = record { begins = begins_of s.done s.begun; within = within_some s.done s.cause.0 s.cause.1 }

  -- no document goes on with the token
  no_more : (done more : List Lexeme) (token : Lexeme) → reader (done ++ token ∷ more) ≡ Err (stop.Unexpected, token ∷ more) → Begins (at_some_depth language) (done ++ token ∷ []) → ⊥
  no_more done more token h (others, it, (depth, is)) =
      let whole : ((done ++ token ∷ []) ++ others) ++ [] ≡ done ++ token ∷ others = append-nil ((done ++ token ∷ []) ++ others) ∙ append_assoc done (token ∷ []) others in
      let stops : reader (((done ++ token ∷ []) ++ others) ++ []) ≡ Err (stop.Unexpected, token ∷ others) = ap reader whole ∙ (readable.parses 0).local.err done [] (token ∷ more) (token ∷ others) stop.Unexpected refl h in
      refuses (((done ++ token ∷ []) ++ others) ++ []) (token ∷ others) [] it stops ((readable.parses depth).reads ((done ++ token ∷ []) ++ others) [] it is refl)
    where
      refuses : (tokens rest left : List Lexeme) (it : A) → reader tokens ≡ Err (stop.Unexpected, rest) → Reads (reader tokens) it left → ⊥
      refuses tokens rest left it h (inl e) = let no = sym h ∙ e in absurd cc
      refuses tokens rest left it h (inr deep) = let no = same_why (sym h ∙ deep.is) in absurd cc

  -- no document ends here
  no_document : (tokens : List Lexeme) → reader tokens ≡ Err (stop.Unexpected, []) → (it : A) → at_some_depth language tokens it → ⊥
  no_document tokens h it is = by ((readable.parses is.0).reads tokens [] it is.1 refl)
    where
      by : Reads (reader (tokens ++ [])) it [] → ⊥
      by (inl e) = let no = sym h ∙ ap reader (sym (append-nil tokens)) ∙ e in absurd cc
      by (inr deep) = let no = same_why (sym h ∙ ap reader (sym (append-nil tokens)) ∙ deep.is) in absurd cc

  -- ---- the answer

  answer_found : (most : ℕ) (text : List ℕ) (tokens : List Lexeme) (end : End) (it : A) → Lexes [] text tokens end → at_some_depth language tokens it × IsWithin tokens → AnswersBy (at_some_depth language) most text (found it (end_by text end))
  answer_found most text tokens Whole it lexes is = record { tokens = tokens; all = lexes; document = is.0; within = is.1 }
  answer_found most text tokens (Refused fault) it lexes is = (tokens, lexes, fine_of tokens it is)

  -- the next token is in the way
  comes_of : (text : List ℕ) (tokens done more : List Lexeme) (token : Lexeme) (end : End) → Lexes [] text tokens end → tokens ≡ done ++ token ∷ more → IsFine (at_some_depth language) done → Comes (at_some_depth language) text done token
  comes_of text tokens done more token end lexes whole fine = record { more = more; end = end; tokens = subst (λ t. Lexes [] text t end) whole lexes; fine = fine }

  unexpected_token : (text : List ℕ) (tokens more : List Lexeme) (token : Lexeme) (end : End) → Lexes [] text tokens end → reader tokens ≡ Err (stop.Unexpected, token ∷ more) → IsUnexpected (at_some_depth language) text token.spot
  unexpected_token text tokens more token end lexes h =
      let s = (readable.parses 0).stopped tokens (token ∷ more) stop.Unexpected h in
      record {
        done = s.done;
        next = token;
        comes = comes_of text tokens s.done more token end lexes s.whole (fine_at tokens (token ∷ more) s);
        no_document = no_more s.done more token (ap reader (sym s.whole) ∙ h);
        place = refl;
      }

  deep_token : (text : List ℕ) (tokens more : List Lexeme) (token : Lexeme) (end : End) → Lexes [] text tokens end → reader tokens ≡ Err (stop.TooDeep, token ∷ more) → IsTooDeep (at_some_depth language) text token.spot
  deep_token text tokens more token end lexes h =
      let s = (readable.parses 0).stopped tokens (token ∷ more) stop.TooDeep h in
      let d = s.cause.1 in
      let same : token ≡ d.next = cc d.is in
      record {
        done = s.done;
        next = token;
        comes = comes_of text tokens s.done more token end lexes s.whole (record { begins = begins_of s.done s.begun; within = within_some s.done 0 s.cause.0 });
        begins = subst (λ t. Begins (at_some_depth language) (s.done ++ t ∷ [])) (sym same) (begins_of (s.done ++ d.next ∷ []) d.begun);
        beyond = λ within. let no = subst IsSome (shut_room s.done [] token s.cause.0 (ap is_opening same ∙ d.opens)) within in absurd cc;
        place = refl;
      }

  -- the tokens end inside a document
  ended : (most : ℕ) (text : List ℕ) (tokens : List Lexeme) (end : End) → Lexes [] text tokens end → reader tokens ≡ Err (stop.Unexpected, []) → AnswersBy (at_some_depth language) most text (outcome (Err (stop.Unexpected, [])) (end_by text end))
  ended most text tokens Whole lexes h =
      let s = (readable.parses 0).stopped tokens [] stop.Unexpected h in
      let whole : tokens ≡ s.done = s.whole ∙ append-nil s.done in
      inr (record { tokens = tokens; all = lexes; fine = subst (IsFine (at_some_depth language)) (sym whole) (fine_at tokens [] s); no_document = no_document tokens h; place = refl })
  ended most text tokens (Refused fault) lexes h =
      let s = (readable.parses 0).stopped tokens [] stop.Unexpected h in
      let whole : tokens ≡ s.done = s.whole ∙ append-nil s.done in
      (tokens, lexes, subst (IsFine (at_some_depth language)) (sym whole) (fine_at tokens [] s))

  answer_by : (most : ℕ) (text : List ℕ) (tokens : List Lexeme) (end : End) (x : Reading A) → Lexes [] text tokens end → reader tokens ≡ x → AnswersBy (at_some_depth language) most text (outcome x (end_by text end))
  answer_by most text tokens end (Ok (it, rest)) lexes h = answer_found most text tokens end it lexes (is_of tokens rest it h)
  answer_by most text tokens end (Err (stop.Unexpected, [])) lexes h = ended most text tokens end lexes h
  answer_by most text tokens end (Err (stop.Unexpected, token ∷ more)) lexes h = inl (unexpected_token text tokens more token end lexes h)
  answer_by most text tokens end (Err (stop.TooDeep, [])) lexes h = let s = (readable.parses 0).stopped tokens [] stop.TooDeep h in let no = s.cause.1.is in absurd cc
  answer_by most text tokens end (Err (stop.TooDeep, token ∷ more)) lexes h = deep_token text tokens more token end lexes h
  answer_by most text tokens end (Err (stop.NoMemory, rest)) lexes h = absurd ((readable.parses 0).stopped tokens rest stop.NoMemory h).cause

  -- what is made of the tokens of a text is the answer
  pub outcome-answers : (most : ℕ) (text : List ℕ) (tokens : List Lexeme) (end : End) → Lexes [] text tokens end → AnswersBy (at_some_depth language) most text (outcome (reader tokens) (end_by text end))
  outcome-answers most text tokens end lexes = answer_by most text tokens end (reader tokens) lexes refl

  -- a text that is a document gives it
  pub outcome-is : (text : List ℕ) (tokens : List Lexeme) (end : End) (it : A) → Lexes [] text tokens end → IsWhole (at_some_depth language) text it → outcome (reader tokens) (end_by text end) ≡ Ok it
  outcome-is text tokens end it lexes is =
      let same = Lexes-determined [] text tokens is.tokens end Whole lexes is.all in
      ap (λ x. outcome x (end_by text end)) (is_read tokens it (subst (λ t. at_some_depth language t it) (sym same.0) is.document) (subst IsWithin (sym same.0) is.within)) ∙ whole_end text end it same.1

  -- as `parse` has them
  abbrev pub IsOutcome : List ℕ → Result A ParseRefusal → Type 0
  IsOutcome text result = (result ≡ outcome (reader (coming [] text).tokens) (end_of text)) ⊎ (result ≡ Err refusal.NoMemory)

  pub Answers-either : (most : ℕ) (text : List ℕ) (result : Result A ParseRefusal) → IsOutcome text result → AnswersBy (at_some_depth language) most text result
  Answers-either most text result (inl e) = subst (AnswersBy (at_some_depth language) most text) (sym e) (outcome-answers most text (coming [] text).tokens (coming [] text).end (coming-lexes text))
  Answers-either most text result (inr e) = subst (AnswersBy (at_some_depth language) most text) (sym e) tt

  pub is-either : (text : List ℕ) (result : Result A ParseRefusal) (it : A) → IsOutcome text result → IsWhole (at_some_depth language) text it → (result ≡ Ok it) ⊎ (result ≡ Err refusal.NoMemory)
  is-either text result it (inl e) is = inl (e ∙ outcome-is text (coming [] text).tokens (coming [] text).end it (coming-lexes text) is)
  is-either text result it (inr e) is = inr e

-- what is made of where the parser stopped
pub Fails-outcome : {A : Type 0} (why : Stop) (left : List Lexeme) (x : Reading A) (end : Result Spot LexRefusal) (told : ParseRefusal) → reading.Fails why left x → told ≡ refusal_of why left end
    → (let r : Result A ParseRefusal = Err told in (r ≡ outcome x end) ⊎ (r ≡ Err refusal.NoMemory))
Fails-outcome stop.NoMemory left x end told fails is = inr (ap Err is)
Fails-outcome stop.Unexpected left x end told fails is = inl (ap Err is ∙ sym (ap (λ y. outcome y end) fails))
Fails-outcome stop.TooDeep left x end told fails is = inl (ap Err is ∙ sym (ap (λ y. outcome y end) fails))

-- what is made of a document
pub reads-outcome : {A : Type 0} (left : List Lexeme) (it : A) (x : Reading A) (end : Result Spot LexRefusal) (told : Result A ParseRefusal) → x ≡ Ok (it, left) → told ≡ found it end → told ≡ outcome x end
reads-outcome left it x end told reads is = is ∙ sym (ap (λ y. outcome y end) reads)
