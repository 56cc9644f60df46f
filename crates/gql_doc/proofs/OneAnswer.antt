-- A text has one answer.
use Rattle.std.proofs.Common.{◌≡◌, ◌⊎◌, inl, inr, ℕ, ◌≤◌, List, [], ◌∷◌, ◌++◌, Option, Some, None, IsSome, length, Result, Ok, Err, refl, sym, ap, subst, ◌∙◌, append_assoc, arith}
use Rattle.std.specs.Option.{option_and_then}
use Rattle.std.proofs.lemmas.List.{append-nil}
use Rattle.gql_lex.specs.Places.{spot_at}
use Rattle.gql_lex.specs.Tokens.{Lexeme, Lexes, End, Whole, Refused}
use Rattle.gql_lex.proofs.Determined.{Lexes-determined}
use Rattle.gql_doc.specs.Phrase.{Phrase}
use Rattle.gql_doc.specs.Nesting.{room_after, IsWithin, limit}
use Rattle.gql_doc.specs.Answer.{Begins, IsFine, IsUnexpected, IsTooDeep, IsWhole, AnswersBy, Answers, TypesAnswers, most_bytes, most_type_bytes}
use Rattle.gql_doc.specs.declared.refusal.ParseRefusal.{ParseRefusal}
use Rattle.gql_doc.specs.declared.refusal.ParseRefusal.TheVariants as refusal
use Rattle.gql_doc.specs.inner.Reading.{Reader}
use Rattle.gql_doc.proofs.Predictive.{room_after-append, same_value}
use Rattle.gql_doc.proofs.Parsed.{at_some_depth, Readable, is_read}
use Rattle.gql_doc.proofs.Languages.{documents, type_documents}
use Rattle.gql_model.specs.declared.syntax.Document.{Document}
use Rattle.gql_model.specs.declared.type_syntax.TypeDocument.{TypeDocument}

-- ---- fronts

-- of two fronts of one list, either a token behind the one is within the other, or the other way round, or they are one
record Longer (u : List Lexeme) (t : Lexeme) (v : List Lexeme) : Type 0 where
  more : List Lexeme
  is : v ≡ (u ++ t ∷ []) ++ more

compare : (u v : List Lexeme) (s t : Lexeme) (r q : List Lexeme) → u ++ s ∷ r ≡ v ++ t ∷ q → Longer u s v ⊎ (Longer v t u ⊎ ((u ≡ v) × (s ≡ t)))
compare [] [] s t r q e = inr (inr (refl, cc))
compare [] (y ∷ v) s t r q e = inl (record { more = v; is = (let same : s ≡ y = cc in ap (λ z. z ∷ v) (sym same)) })
compare (x ∷ u) [] s t r q e = inr (inl (record { more = u; is = (let same : x ≡ t = cc in ap (λ z. z ∷ u) same) }))
compare (x ∷ u) (y ∷ v) s t r q e =
    let same : x ≡ y = cc in
    let rest : u ++ s ∷ r ≡ v ++ t ∷ q = cc in
    elim (compare u v s t r q rest) [
      | inl h ↦ inl (record { more = h.more; is = (λ i. sym same i ∷ h.is i) })
      | inr (inl h) ↦ inr (inl (record { more = h.more; is = (λ i. same i ∷ h.is i) }))
      | inr (inr h) ↦ inr (inr ((λ i. same i ∷ h.0 i), h.1))
    ]

none_behind : (v : List Lexeme) (o : Option ℕ) → IsSome (option_and_then (λ n. room_after n v) o) → IsSome o
none_behind v None h = h
none_behind v (Some n) h = refl

-- what is within is so as far as one looks
within_front : (u more : List Lexeme) → IsWithin (u ++ more) → IsWithin u
within_front u more h = none_behind more (room_after limit u) (subst IsSome (room_after-append limit u more) h)

within_longer : (u : List Lexeme) (t : Lexeme) (v : List Lexeme) → Longer u t v → IsWithin v → IsWithin (u ++ t ∷ [])
within_longer u t v h w = within_front (u ++ t ∷ []) h.more (subst IsWithin h.is w)

same_tokens : (text : List ℕ) (ts us : List Lexeme) (s e : End) → Lexes [] text ts s → Lexes [] text us e → (ts ≡ us) × (s ≡ e)
same_tokens text ts us s e a b = Lexes-determined [] text ts us s e a b

module _ {A : Type 0} {language : ℕ → Phrase A} {reader : Reader A} (readable : Readable language reader) where
  -- some document begins as far as it begins further
  begins_front : (u more : List Lexeme) → Begins (at_some_depth language) (u ++ more) → Begins (at_some_depth language) u
  begins_front u more (others, it, (depth, is)) = (more ++ others, it, (depth, subst (λ w. language depth w it) (append_assoc u more others) is))

  begins_longer : (u : List Lexeme) (t : Lexeme) (v : List Lexeme) → Longer u t v → Begins (at_some_depth language) v → Begins (at_some_depth language) (u ++ t ∷ [])
  begins_longer u t v h b = begins_front (u ++ t ∷ []) h.more (subst (Begins (at_some_depth language)) h.is b)

  begins_document : (tokens : List Lexeme) (it : A) → at_some_depth language tokens it → Begins (at_some_depth language) tokens
  begins_document tokens it is = ([], it, (is.0, subst (λ w. language is.0 w it) (sym (append-nil tokens)) is.1))

  -- ---- what is in the way

  -- a token in the way is no front of what is fine
  abbrev Blocks : List Lexeme → Lexeme → Type 0
  Blocks done token = (v : List Lexeme) → Longer done token v → Begins (at_some_depth language) v → IsWithin v → ⊥

  -- a token that is unexpected, or one that is opened too deep
  record Blocked (done : List Lexeme) (token : Lexeme) : Type 0 where
    fine : IsFine (at_some_depth language) done
    blocks : Blocks done token

  -- two tokens of one text that are in the way are one
  one_block : (u v : List Lexeme) (s t : Lexeme) (r q : List Lexeme) → u ++ s ∷ r ≡ v ++ t ∷ q → Blocked u s → Blocked v t → (u ≡ v) × (s ≡ t)
  one_block u v s t r q e a b = elim (compare u v s t r q e) [
    | inl h ↦ absurd (a.blocks v h b.fine.begins b.fine.within)
    | inr (inl h) ↦ absurd (b.blocks u h a.fine.begins a.fine.within)
    | inr (inr h) ↦ h
  ]

  unexpected_blocks : (text : List ℕ) (spot : _) (h : IsUnexpected (at_some_depth language) text spot) → Blocked h.done h.next
  unexpected_blocks text spot h = record { fine = h.comes.fine; blocks = λ v l b w. h.no_document (begins_longer h.done h.next v l b) }

  deep_blocks : (text : List ℕ) (spot : _) (h : IsTooDeep (at_some_depth language) text spot) → Blocked h.done h.next
  deep_blocks text spot h = record { fine = h.comes.fine; blocks = λ v l b w. h.beyond (within_longer h.done h.next v l w) }

  -- no token of tokens that are fine is in the way
  not_blocked : (tokens done more : List Lexeme) (token : Lexeme) → IsFine (at_some_depth language) tokens → Blocked done token → tokens ≡ done ++ token ∷ more → ⊥
  not_blocked tokens done more token fine blocked e = blocked.blocks tokens (record { more = more; is = e ∙ sym (append_assoc done (token ∷ []) more) }) fine.begins fine.within

  fine_document : (text : List ℕ) (it : A) (is : IsWhole (at_some_depth language) text it) → IsFine (at_some_depth language) is.tokens
  fine_document text it is = record { begins = begins_document is.tokens it is.document; within = is.within }

  -- ---- the answers, two by two

  -- a token is in the way, and the answer says so
  record InWay (text : List ℕ) (answer : Result A ParseRefusal) : Type 0 where
    done : List Lexeme
    token : Lexeme
    more : List Lexeme
    end : End
    lexes : Lexes [] text (done ++ token ∷ more) end
    blocked : Blocked done token
    told : ((Begins (at_some_depth language) (done ++ token ∷ []) → ⊥) × (answer ≡ Err (refusal.Unexpected token.spot))) ⊎ (Begins (at_some_depth language) (done ++ token ∷ []) × (answer ≡ Err (refusal.TooDeep token.spot)))

  -- what the answer says of tokens that are fine as far as they go
  abbrev Ended : List ℕ → List Lexeme → End → Result A ParseRefusal → Type 0
  Ended text tokens (Refused fault) answer = (answer ≡ Err (refusal.Lex fault))
  Ended text tokens Whole answer = ((it : A) × at_some_depth language tokens it × IsWithin tokens × (answer ≡ Ok it)) ⊎ (((it : A) → at_some_depth language tokens it → ⊥) × (answer ≡ Err (refusal.Unexpected (spot_at text []))))

  record AtEnd (text : List ℕ) (answer : Result A ParseRefusal) : Type 0 where
    tokens : List Lexeme
    end : End
    lexes : Lexes [] text tokens end
    fine : IsFine (at_some_depth language) tokens
    told : Ended text tokens end answer

  sorted : (most : ℕ) (text : List ℕ) (answer : Result A ParseRefusal) → length text ≤ most → AnswersBy (at_some_depth language) most text answer → (answer ≡ Err refusal.NoMemory → ⊥) → InWay text answer ⊎ AtEnd text answer
  sorted most text (Ok it) short is some = inr (record { tokens = is.tokens; end = Whole; lexes = is.all; fine = fine_document text it is; told = inl (it, is.document, is.within, refl) })
  sorted most text (Err refusal.TooLong) short is some = absurd (omega arith)
  sorted most text (Err (refusal.Lex fault)) short is some = inr (record { tokens = is.0; end = Refused fault; lexes = is.1; fine = is.2; told = refl })
  sorted most text (Err (refusal.Unexpected spot)) short (inl is) some =
      inl (record { done = is.done; token = is.next; more = is.comes.more; end = is.comes.end; lexes = is.comes.tokens; blocked = unexpected_blocks text spot is; told = inl (is.no_document, ap (λ s. Err (refusal.Unexpected s)) is.place) })
  sorted most text (Err (refusal.Unexpected spot)) short (inr is) some =
      inr (record { tokens = is.tokens; end = Whole; lexes = is.all; fine = is.fine; told = inr (is.no_document, ap (λ s. Err (refusal.Unexpected s)) is.place) })
  sorted most text (Err (refusal.TooDeep spot)) short is some =
      inl (record { done = is.done; token = is.next; more = is.comes.more; end = is.comes.end; lexes = is.comes.tokens; blocked = deep_blocks text spot is; told = inr (is.begins, ap (λ s. Err (refusal.TooDeep s)) is.place) })
  sorted most text (Err refusal.NoMemory) short is some = absurd (some refl)

  both_in_way : (text : List ℕ) (a b : Result A ParseRefusal) → InWay text a → InWay text b → a ≡ b
  both_in_way text a b x y =
      let one = one_block x.done y.done x.token y.token x.more y.more (same_tokens text _ _ x.end y.end x.lexes y.lexes).0 x.blocked y.blocked in
      let moved : Begins (at_some_depth language) (y.done ++ y.token ∷ []) → Begins (at_some_depth language) (x.done ++ x.token ∷ []) = subst (Begins (at_some_depth language)) (λ i. sym one.0 i ++ sym one.1 i ∷ []) in
      let back : Begins (at_some_depth language) (x.done ++ x.token ∷ []) → Begins (at_some_depth language) (y.done ++ y.token ∷ []) = subst (Begins (at_some_depth language)) (λ i. one.0 i ++ one.1 i ∷ []) in
      by one.1 moved back x.told y.told
    where
      by : x.token ≡ y.token → (Begins (at_some_depth language) (y.done ++ y.token ∷ []) → Begins (at_some_depth language) (x.done ++ x.token ∷ [])) → (Begins (at_some_depth language) (x.done ++ x.token ∷ []) → Begins (at_some_depth language) (y.done ++ y.token ∷ []))
          → ((Begins (at_some_depth language) (x.done ++ x.token ∷ []) → ⊥) × (a ≡ Err (refusal.Unexpected x.token.spot))) ⊎ (Begins (at_some_depth language) (x.done ++ x.token ∷ []) × (a ≡ Err (refusal.TooDeep x.token.spot)))
          → ((Begins (at_some_depth language) (y.done ++ y.token ∷ []) → ⊥) × (b ≡ Err (refusal.Unexpected y.token.spot))) ⊎ (Begins (at_some_depth language) (y.done ++ y.token ∷ []) × (b ≡ Err (refusal.TooDeep y.token.spot))) → a ≡ b
      by same moved back (inl p) (inl q) = p.1 ∙ (λ i. Err (refusal.Unexpected (same i).spot)) ∙ sym q.1
      by same moved back (inl p) (inr q) = absurd (p.0 (moved q.0))
      by same moved back (inr p) (inl q) = absurd (q.0 (back p.0))
      by same moved back (inr p) (inr q) = p.1 ∙ (λ i. Err (refusal.TooDeep (same i).spot)) ∙ sym q.1

  ends_alike : (text : List ℕ) (ts us : List Lexeme) (s e : End) (a b : Result A ParseRefusal) → ts ≡ us → s ≡ e → Ended text ts s a → Ended text us e b → a ≡ b
  ends_alike text ts us Whole Whole a b same is (inl p) (inl q) =
      p.3 ∙ ap Ok (same_value (sym (is_read readable ts p.0 p.1 p.2) ∙ ap reader same ∙ is_read readable us q.0 q.1 q.2)) ∙ sym q.3
  ends_alike text ts us Whole Whole a b same is (inl p) (inr q) = absurd (q.0 p.0 (subst (λ w. at_some_depth language w p.0) same p.1))
  ends_alike text ts us Whole Whole a b same is (inr p) (inl q) = absurd (p.0 q.0 (subst (λ w. at_some_depth language w q.0) (sym same) q.1))
  ends_alike text ts us Whole Whole a b same is (inr p) (inr q) = p.1 ∙ sym q.1
  ends_alike text ts us Whole (Refused f) a b same is p q = absurd (cc)
  ends_alike text ts us (Refused f) Whole a b same is p q = absurd (cc)
  ends_alike text ts us (Refused f) (Refused g) a b same is p q = let one : f ≡ g = cc in p ∙ ap (λ x. Err (refusal.Lex x)) one ∙ sym q

  -- a text has one answer
  pub one_answer_of : (most : ℕ) (text : List ℕ) (a b : Result A ParseRefusal) → length text ≤ most → AnswersBy (at_some_depth language) most text a → AnswersBy (at_some_depth language) most text b → (a ≡ Err refusal.NoMemory → ⊥) → (b ≡ Err refusal.NoMemory → ⊥) → a ≡ b
  one_answer_of most text a b short is other some more = by (sorted most text a short is some) (sorted most text b short other more)
    where
      by : InWay text a ⊎ AtEnd text a → InWay text b ⊎ AtEnd text b → a ≡ b
      by (inl x) (inl y) = both_in_way text a b x y
      by (inl x) (inr y) = absurd (not_blocked y.tokens x.done x.more x.token y.fine x.blocked (same_tokens text _ _ y.end x.end y.lexes x.lexes).0)
      by (inr x) (inl y) = absurd (not_blocked x.tokens y.done y.more y.token x.fine y.blocked (same_tokens text _ _ x.end y.end x.lexes y.lexes).0)
      by (inr x) (inr y) = let same = same_tokens text x.tokens y.tokens x.end y.end x.lexes y.lexes in ends_alike text x.tokens y.tokens x.end y.end a b same.0 same.1 x.told y.told

-- a text that is asked for a document has one answer
pub one_answer : (text : List ℕ) (a b : Result Document ParseRefusal) → length text ≤ most_bytes → Answers text a → Answers text b → (a ≡ Err refusal.NoMemory → ⊥) → (b ≡ Err refusal.NoMemory → ⊥) → a ≡ b
one_answer = one_answer_of documents most_bytes

-- and one that is asked for type definitions
pub one_types_answer : (text : List ℕ) (a b : Result TypeDocument ParseRefusal) → length text ≤ most_type_bytes → TypesAnswers text a → TypesAnswers text b → (a ≡ Err refusal.NoMemory → ⊥) → (b ≡ Err refusal.NoMemory → ⊥) → a ≡ b
one_types_answer = one_answer_of type_documents most_type_bytes
