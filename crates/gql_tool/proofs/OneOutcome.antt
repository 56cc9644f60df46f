-- For the same words and files two right outcomes of `local` are equal.
use Rattle.std.proofs.Common.{◌≡◌, ◌⊎◌, refl, sym, ap, ◌∙◌, subst, inl, inr, ℕ, ◌<◌, ◌≤◌, arith, List, [], ◌∷◌, ◌++◌, length, Option, None, Some, Result, Ok, Err}
use Rattle.std.specs.Prelude.{codes}
use Rattle.std.specs.List.{AllByRecursion as Each}
use Rattle.gql_tree.specs.declared.Fault.{Fault}
use Rattle.gql_tree.specs.declared.Failure.{Failure}
use Rattle.gql_tree.specs.declared.Value.{Value}
use Rattle.gql_tree.specs.Json.{data_of}
use Rattle.gql_tree.specs.Forest.{Forest}
use Rattle.gql_tree.proofs.One.{one_response}
use Rattle.gql_payload.specs.ReportText.{report_text}
use Rattle.gql_model.specs.declared.syntax.Document.{Document}
use Rattle.gql_doc.specs.declared.refusal.ParseRefusal.{ParseRefusal}
use Rattle.gql_doc.specs.declared.refusal.ParseRefusal.TheVariants as refusal
use Rattle.gql_doc.specs.Answer.{Answers, most_bytes}
use Rattle.gql_doc.proofs.OneAnswer.{one_answer}
use Rattle.gql_io.specs.Files.{Files}
use Rattle.gql_tool.specs.declared.status.Status.TheVariants.{Done, StreamRefused}
use Rattle.gql_tool.specs.Outcome.{Outcome, Ways, AfterFile}
use Rattle.gql_tool.specs.hero.Built.{forest_of}
use Rattle.gql_tool.specs.Words.{Names}
use Rattle.gql_tool.specs.Judged.{Judgement, NoText, NoDocument, NotBuilt, Executed, Parses, Judged}
use Rattle.gql_tool.specs.Local.{Fits, part_limit, texts, body, IsMergedLine, IsDelivered, IsCutOff, up_to, Answered, RequestWays, LocalWays}

-- one outcome is right
abbrev IsOne : Ways → Type 0
IsOne ways = (a b : Outcome) → ways a → ways b → a ≡ b

-- ---- files

file_one : (file : Option (List ℕ)) (name : List ℕ) (next : List ℕ → Ways) → ((bytes : List ℕ) → IsOne (next bytes)) → IsOne (AfterFile file name next)
file_one None name next one a b h k = h ∙ sym k
file_one (Some bytes) name next one a b (inl h) (inl k) = h.1 ∙ sym k.1
file_one (Some bytes) name next one a b (inl h) (inr k) = absurd (omega (arith, h.0, k.0))
file_one (Some bytes) name next one a b (inr h) (inl k) = absurd (omega (arith, h.0, k.0))
file_one (Some bytes) name next one a b (inr h) (inr k) = one bytes a b h.1 k.1

-- ---- the request

-- the text is too long, or has an answer of the parser that isn't want of memory
abbrev IsParsed : List ℕ → Result Document ParseRefusal → Type 0
IsParsed text r = ((most_bytes < length text) × (r ≡ Err refusal.TooLong)) ⊎ ((length text ≤ most_bytes) × Answers text r × (r ≡ Err refusal.NoMemory → ⊥))

parsed : (text : List ℕ) (r : Result Document ParseRefusal) → Parses text r → IsParsed text r
parsed text (Ok it) h = inr (h.0, h.1, λ none. cc)
parsed text (Err refusal.TooLong) h = inl (h, refl)
parsed text (Err (refusal.Lex fault)) h = inr (h.0, h.1, λ none. cc)
parsed text (Err (refusal.Unexpected spot)) h = inr (h.0, h.1, λ none. cc)
parsed text (Err (refusal.TooDeep spot)) h = inr (h.0, h.1, λ none. cc)
parsed text (Err refusal.NoMemory) h = absurd h

parsed_one : (text : List ℕ) (a b : Result Document ParseRefusal) → IsParsed text a → IsParsed text b → a ≡ b
parsed_one text a b (inl h) (inl k) = h.1 ∙ sym k.1
parsed_one text a b (inl h) (inr k) = absurd (omega (arith, h.0, k.0))
parsed_one text a b (inr h) (inl k) = absurd (omega (arith, h.0, k.0))
parsed_one text a b (inr h) (inr k) = one_answer text a b h.0 h.1 k.1 h.2 k.2

parses_one : (text : List ℕ) (a b : Result Document ParseRefusal) → Parses text a → Parses text b → a ≡ b
parses_one text a b h k = parsed_one text a b (parsed text a h) (parsed text b k)

-- answers by what they hold
abbrev Answer : Type 0
Answer = Result Document ParseRefusal

abbrev ok : Document → Answer
ok it = Ok it

abbrev err : ParseRefusal → Answer
err why = Err why

ok_same : (a b : Document) → ok a ≡ ok b → a ≡ b
ok_same a b same = cc

err_same : (e f : ParseRefusal) → err e ≡ err f → e ≡ f
err_same e f same = cc

ok_not_err : (it : Document) (why : ParseRefusal) → ok it ≡ err why → ⊥
ok_not_err it why same = cc

document_one : (text : List ℕ) (a b : Document) → Parses text (Ok a) → Parses text (Ok b) → a ≡ b
document_one text a b h k = ok_same a b (parses_one text (Ok a) (Ok b) h k)

-- a text that is a document has no refusal
not_both : {A : Type 0} (text : List ℕ) (it : Document) (why : ParseRefusal) → Parses text (Ok it) → Parses text (Err why) → A
not_both text it why h k = absurd (ok_not_err it why (parses_one text (Ok it) (Err why) h k))

module _ (vars schema tables document : List ℕ) where
  abbrev asked : Document → Option Forest
  asked it = forest_of vars schema tables it

  built_apart : (a b : Document) (f : Forest) → a ≡ b → asked a ≡ None → asked b ≡ Some f → ⊥
  built_apart a b f same h k = let bad : None ≡ Some f = sym h ∙ (ap asked same ∙ k) in cc

  built_one : (a b : Document) (f g : Forest) → a ≡ b → asked a ≡ Some f → asked b ≡ Some g → f ≡ g
  built_one a b f g same h k = let one : Some f ≡ Some g = sym h ∙ (ap asked same ∙ k) in cc

  judgement_one : (a b : Judgement) → Judged vars schema tables document a → Judged vars schema tables document b → a ≡ b
  judgement_one NoText NoText h k = refl
  judgement_one NoText (NoDocument e) h k = absurd (h k.0)
  judgement_one NoText NotBuilt h k = absurd (h k.0)
  judgement_one NoText (Executed f) h k = absurd (h k.0)
  judgement_one (NoDocument e) NoText h k = absurd (k h.0)
  judgement_one (NoDocument e) (NoDocument i) h k = ap NoDocument (err_same e i (parses_one document (Err e) (Err i) h.1 k.1))
  judgement_one (NoDocument e) NotBuilt h k = not_both document k.1 e k.2 h.1
  judgement_one (NoDocument e) (Executed f) h k = not_both document k.1 e k.2 h.1
  judgement_one NotBuilt NoText h k = absurd (k h.0)
  judgement_one NotBuilt (NoDocument e) h k = not_both document h.1 e h.2 k.1
  judgement_one NotBuilt NotBuilt h k = refl
  judgement_one NotBuilt (Executed f) h k = absurd (built_apart h.1 k.1 f (document_one document h.1 k.1 h.2 k.2) h.3 k.3)
  judgement_one (Executed f) NoText h k = absurd (k h.0)
  judgement_one (Executed f) (NoDocument e) h k = not_both document h.1 e h.2 k.1
  judgement_one (Executed f) NotBuilt h k = absurd (built_apart k.1 h.1 f (document_one document k.1 h.1 k.2 h.2) k.3 h.3)
  judgement_one (Executed f) (Executed g) h k = ap Executed (built_one h.1 k.1 f g (document_one document h.1 k.1 h.2 k.2) h.3 k.3)

-- ---- the line of the defined response

report_one : (v w : Value) (es fs : List Fault) (xs ys : List Failure) → data_of v ≡ data_of w → es ≡ fs → xs ≡ ys → report_text v es xs ≡ report_text w fs ys
report_one v w es fs xs ys same errors failures = rw (same, errors, failures) refl

line_one : (f : Forest) (x y : List ℕ) → IsMergedLine f x → IsMergedLine f y → x ≡ y
line_one f x y h k =
    let one = one_response f h.value k.value h.errors k.errors h.failures k.failures h.merged k.merged in
    h.is_line ∙ (ap (λ (report : List ℕ). codes "merged " ++ (report ++ 10 ∷ [])) (report_one h.value k.value h.errors k.errors h.failures k.failures one.0 one.1 one.2) ∙ sym k.is_line)

-- ---- the first text that is too long

fits_not : {A : Type 0} (s t : List ℕ) → s ≡ t → Fits s → part_limit < length t → A
fits_not s t same fits long = absurd (omega (arith, ap (length {A = ℕ}) same, fits, long))

abbrev Parted : List (List ℕ) → List ℕ → List (List ℕ) → List (List ℕ)
Parted before text after = before ++ text ∷ after

first_long : (before other : List (List ℕ)) (text last : List ℕ) (after rest : List (List ℕ)) → Parted before text after ≡ Parted other last rest → Each Fits before → part_limit < length text → Each Fits other → part_limit < length last
    → (before ≡ other) × (text ≡ last) × (after ≡ rest)
first_long [] [] text last after rest same fit long fits longer = (refl, let e : text ≡ last = cc in e, let e : after ≡ rest = cc in e)
first_long [] (x ∷ xs) text last after rest same fit long fits longer = fits_not x text (let e : x ≡ text = cc in e) fits.0 long
first_long (x ∷ xs) [] text last after rest same fit long fits longer = fits_not x last (let e : x ≡ last = cc in e) fit.0 longer
first_long (x ∷ xs) (y ∷ ys) text last after rest same fit long fits longer =
    let head : x ≡ y = cc in
    let tail : Parted xs text after ≡ Parted ys last rest = cc in
    let one = first_long xs ys text last after rest tail fit.1 long fits.1 longer in
    ((λ i. head i ∷ one.0 i), one.1, one.2)

-- ---- the outcomes

module _ (f : Forest) where
  delivered_one : IsOne (IsDelivered f)
  delivered_one a b h k =
      h.is ∙ (ap (λ (line : List ℕ). (let o : Outcome = record { status = Done; bytes = body f ++ line } in o)) (line_one f h.line k.line h.is_merged k.is_merged) ∙ sym k.is)

  cut_off_one : IsOne (IsCutOff (texts f))
  cut_off_one a b h k =
      let one = first_long h.before k.before h.text k.text h.after k.after (sym h.all ∙ k.all) h.fit h.too_long k.fit k.too_long in
      h.is ∙ ((λ i. record { status = StreamRefused; bytes = up_to (one.0 i) (one.1 i) (one.2 i) }) ∙ sym k.is)

  fit_there : (before : List (List ℕ)) (text : List ℕ) (after : List (List ℕ)) → Each Fits (before ++ text ∷ after) → Fits text
  fit_there [] text after h = h.0
  fit_there (x ∷ before) text after h = fit_there before text after h.1

  not_cut_off : {A : Type 0} (a b : Outcome) → IsDelivered f a → IsCutOff (texts f) b → A
  not_cut_off a b h k = fits_not k.text k.text refl (fit_there k.before k.text k.after (subst (Each Fits) k.all h.fit)) k.too_long

answered_one : (is : Judgement) → IsOne (Answered is)
answered_one NoText a b h k = h ∙ sym k
answered_one (NoDocument refusal) a b h k = h ∙ sym k
answered_one NotBuilt a b h k = h ∙ sym k
answered_one (Executed f) a b (inl h) (inl k) = delivered_one f a b h k
answered_one (Executed f) a b (inl h) (inr k) = not_cut_off f a b h k
answered_one (Executed f) a b (inr h) (inl k) = not_cut_off f b a k h
answered_one (Executed f) a b (inr h) (inr k) = cut_off_one f a b h k

request_ways_one : (vars schema tables document : List ℕ) → IsOne (RequestWays vars schema tables document)
request_ways_one vars schema tables document a b h k =
    answered_one k.0 a b (subst (λ (is : Judgement). Answered is a) (judgement_one vars schema tables document h.0 k.0 h.1 k.1) h.2) k.2

pub local_one : (names : Names) (files : Files) → IsOne (LocalWays names files)
local_one names files =
    file_one (files names.schema) names.schema _ (λ s. file_one (files names.tables) names.tables _ (λ t. file_one (files names.document) names.document _ (λ d. request_ways_one names.vars s t d)))
