-- Answers of the reader of schemas, by those of the parser of type definitions.
use Rattle.std.proofs.Common.{◌≡◌, refl, sym, ◌∙◌, ap, subst, ℕ, ◌≤◌, ◌⊎◌, inl, inr, true≢false, List, length, Some, Result, Ok, Err}
use Rattle.std.specs.Prelude.{is_some}
use Rattle.gql_tree.specs.declared.delivery.Spot.{Spot}
use Rattle.gql_doc.specs.Answer.{IsTypes, TypesAnswers, most_type_bytes}
use Rattle.gql_doc.specs.declared.refusal.ParseRefusal.{ParseRefusal}
use Rattle.gql_doc.specs.declared.refusal.ParseRefusal.TheVariants as parse
use Rattle.gql_doc.proofs.OneAnswer.{one_types_answer}
use Rattle.gql_model.specs.declared.schema.Schema.{Schema}
use Rattle.gql_model.specs.declared.type_syntax.TypeDocument.{TypeDocument}
use Rattle.gql_model.specs.SaidSchema.{seen_schema}
use Rattle.gql_schema.specs.Answer.{Judges, SchemaAnswers, unread, seen_answer}
use Rattle.gql_schema.specs.declared.refusal.SchemaRefusal.{SchemaRefusal}
use Rattle.gql_schema.specs.declared.refusal.SchemaRefusal.TheVariants as refusal

-- answers of the parser that are the same
abbrev Same : Result TypeDocument ParseRefusal → Result TypeDocument ParseRefusal → Type 0
Same a b = a ≡ b

abbrev IsKnown : Result Schema SchemaRefusal → Type 0
IsKnown a = a ≡ Err refusal.NoMemory → ⊥

-- ---- of type definitions

judged_once : (d : TypeDocument) (a b : Result Schema SchemaRefusal) → Judges d a → Judges d b → IsKnown a → IsKnown b → seen_answer a ≡ seen_answer b
judged_once d (Ok s) (Ok t) p q known_a known_b =
    let same : Some (seen_schema s) ≡ Some (seen_schema t) = sym p.1 ∙ q.1 in
    let one : seen_schema s ≡ seen_schema t = cc in
    ap Ok one
judged_once d (Ok s) (Err (refusal.Rule n x)) p q known_a known_b = absurd (true≢false (sym (ap is_some (sym p.0 ∙ q))))
judged_once d (Err (refusal.Rule n x)) (Ok t) p q known_a known_b = absurd (true≢false (ap is_some (sym p ∙ q.0)))
judged_once d (Err (refusal.Rule n x)) (Err (refusal.Rule m y)) p q known_a known_b =
    let same : Some (n, x) ≡ Some (m, y) = sym p ∙ q in
    let one : (n, x) ≡ (m, y) = cc in
    ap (λ (rule : ℕ × Spot). Err (refusal.Rule rule.0 rule.1)) one
judged_once d (Err (refusal.Parse why)) b p q known_a known_b = absurd p
judged_once d (Ok s) (Err (refusal.Parse why)) p q known_a known_b = absurd q
judged_once d (Err (refusal.Rule n x)) (Err (refusal.Parse why)) p q known_a known_b = absurd q
judged_once d (Err refusal.NoMemory) b p q known_a known_b = absurd (known_a refl)
judged_once d (Ok s) (Err refusal.NoMemory) p q known_a known_b = absurd (known_b refl)
judged_once d (Err (refusal.Rule n x)) (Err refusal.NoMemory) p q known_a known_b = absurd (known_b refl)

-- ---- of a text

-- type definitions that are judged
OfTypes : List ℕ → Result Schema SchemaRefusal → Type 0
OfTypes text a = (d : TypeDocument) × IsTypes text d × Judges d a

-- what is in the way of type definitions
InWay : List ℕ → Result Schema SchemaRefusal → Type 0
InWay text a = (why : ParseRefusal) × TypesAnswers text (Err why) × (Same (Err why) (Err parse.NoMemory) → ⊥) × (a ≡ Err (refusal.Parse why))

read : (text : List ℕ) (a : Result Schema SchemaRefusal) → SchemaAnswers text a → IsKnown a → OfTypes text a ⊎ InWay text a
unfolding OfTypes InWay
read text (Ok s) h known = inl h
read text (Err (refusal.Rule n x)) h known = inl h
read text (Err refusal.NoMemory) h known = absurd (known refl)
read text (Err (refusal.Parse parse.NoMemory)) h known = absurd h
read text (Err (refusal.Parse parse.TooLong)) h known = inr (parse.TooLong, h, (λ e. absurd cc), refl)
read text (Err (refusal.Parse (parse.Lex fault))) h known = inr (parse.Lex fault, h, (λ e. absurd cc), refl)
read text (Err (refusal.Parse (parse.Unexpected x))) h known = inr (parse.Unexpected x, h, (λ e. absurd cc), refl)
read text (Err (refusal.Parse (parse.TooDeep x))) h known = inr (parse.TooDeep x, h, (λ e. absurd cc), refl)

-- a text has one answer
pub one_schema_answer : (text : List ℕ) (a b : Result Schema SchemaRefusal) → length text ≤ most_type_bytes → SchemaAnswers text a → SchemaAnswers text b → IsKnown a → IsKnown b → seen_answer a ≡ seen_answer b
unfolding OfTypes InWay
one_schema_answer text a b short is other known_a known_b = by (read text a is known_a) (read text b other known_b)
  where
    by : OfTypes text a ⊎ InWay text a → OfTypes text b ⊎ InWay text b → seen_answer a ≡ seen_answer b
    by (inl x) (inl y) =
        let same : Same (Ok x.0) (Ok y.0) = one_types_answer text (Ok x.0) (Ok y.0) short x.1 y.1 (λ e. absurd cc) (λ e. absurd cc) in
        let one : x.0 ≡ y.0 = cc in
        judged_once y.0 a b (subst (λ d. Judges d a) one x.2) y.2 known_a known_b
    by (inl x) (inr y) =
        let same : Same (Ok x.0) (Err y.0) = one_types_answer text (Ok x.0) (Err y.0) short x.1 y.1 (λ e. absurd cc) y.2 in
        absurd cc
    by (inr x) (inl y) =
        let same : Same (Err x.0) (Ok y.0) = one_types_answer text (Err x.0) (Ok y.0) short x.1 y.1 x.2 (λ e. absurd cc) in
        absurd cc
    by (inr x) (inr y) =
        let same : Same (Err x.0) (Err y.0) = one_types_answer text (Err x.0) (Err y.0) short x.1 y.1 x.2 y.2 in
        let one : x.0 ≡ y.0 = cc in
        ap seen_answer x.3 ∙ ap (λ w. Err (refusal.Parse w)) one ∙ sym (ap seen_answer y.3)

-- ---- what the reader answers where the parser refuses

pub unread_judged : (it : TypeDocument) (why : ParseRefusal) (told : SchemaRefusal) → told ≡ unread why → Same (Err why) (Ok it) ⊎ Same (Err why) (Err parse.NoMemory) → Judges it (Err told)
unread_judged it why told is (inl e) = absurd cc
unread_judged it why told is (inr e) =
    let one : why ≡ parse.NoMemory = cc in
    subst (λ w. Judges it (Err w)) (sym (is ∙ ap unread one)) tt

-- and where it reads a document

pub judged_as : (it d : TypeDocument) (answer : Result Schema SchemaRefusal) → Same (Ok d) (Ok it) ⊎ Same (Ok d) (Err parse.NoMemory) → Judges d answer → Judges it answer
judged_as it d answer (inl e) judged =
    let one : d ≡ it = cc in
    subst (λ x. Judges x answer) one judged
judged_as it d answer (inr e) judged = absurd cc
