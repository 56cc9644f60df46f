-- The texts of payloads, as a client takes them one after another.
use Rattle.std.proofs.Common.{◌≡◌, refl, sym, ap, ◌∙◌, subst, inl, inr, ℕ, ◌+◌, List, [], ◌∷◌, ◌++◌, map, true, false, not, is_some, Option, Some, None, Ok, Err}
use Rattle.serde_json.specs.Data.{Data}
use Rattle.serde_json.specs.Find.{as_object}
use Rattle.serde_json.specs.Read.{read}
use Rattle.gql_tree.specs.declared.value.Value.{Value}
use Rattle.gql_tree.specs.declared.delivery.Content.{Content}
use Rattle.gql_tree.specs.declared.delivery.Content.TheVariants.{Fields, Items}
use Rattle.gql_tree.specs.declared.delivery.Entry.{Entry}
use Rattle.gql_tree.specs.declared.delivery.Payload.{Payload}
use Rattle.gql_tree.specs.Same.{SameMaybe, SameItems}
use Rattle.gql_tree.specs.Sound.{SameContent, SameEntries, SamePayload}
use Rattle.gql_payload.specs.declared.refusal.PayloadRefusal.{PayloadRefusal}
use Rattle.gql_payload.specs.declared.refusal.PayloadRefusal.TheVariants as payload_refusal
use Rattle.gql_payload.specs.Reading.{IsJson, Decodes, payload}
use Rattle.gql_payload.proofs.Wrong.{payload-wrong_member}
use Rattle.gql_merge.specs.declared.state.State.{State}
use Rattle.gql_merge.specs.declared.refusal.MergeRefusal.{MergeRefusal}
use Rattle.gql_merge.specs.Steps.{Each}
use Rattle.gql_merge.specs.Apply.{Apply}
use Rattle.gql_merge.specs.Merging.{SamePayloads}
use Rattle.gql_client.specs.Client.{Undecoded, Follows}

-- ---- decoding is a function

some_one : {A : Type 0} (x y : A) (o : Option A) → o ≡ Some x → o ≡ Some y → x ≡ y
some_one x y o e f = cc

pub json-one : (bytes : List ℕ) (d e : Data) → IsJson bytes d → IsJson bytes e → d ≡ e
json-one bytes d e f g = some_one d e (read bytes) f.1 g.1

pub decodes-one : (bytes : List ℕ) (p q : Payload) → Decodes bytes p → Decodes bytes q → p ≡ q
decodes-one bytes p q (d, is, has) (e, also, gives) =
    some_one p q (payload e) (subst (λ (x : Data). payload x ≡ Some p) (json-one bytes d e is.0 also.0) has) gives

-- a payload's text is never refused
pub decodes-never : (bytes : List ℕ) (p : Payload) (e : PayloadRefusal) → Decodes bytes p → Undecoded bytes e → ⊥
decodes-never bytes p payload_refusal.NotJson (d, is, has) unread = absurd (let bad : Some d ≡ None = sym is.0.1 ∙ unread is.0.0 in cc)
decodes-never bytes p payload_refusal.NotAnObject (d, is, has) (e, json, none) =
    let there : is_some (as_object e) ≡ true = subst (λ (x : Data). is_some (as_object x) ≡ true) (json-one bytes d e is.0 json) is.1 in
    absurd (let bad : true ≡ false = sym there ∙ ap is_some none in cc)
decodes-never bytes p (payload_refusal.Wrong member) (d, is, has) (e, json, wrong) =
    let gives : payload e ≡ Some p = subst (λ (x : Data). payload x ≡ Some p) (json-one bytes d e is.0 json.0) has in
    absurd (let bad : true ≡ false = sym (ap is_some gives) ∙ (payload-wrong_member e ∙ ap (λ o. not (is_some o)) wrong) in cc)
decodes-never bytes p payload_refusal.NoMemory decodes refused = refused

-- ---- a payload is the same as itself

same_maybe : (o : Option Value) → SameMaybe o o
same_maybe None = tt
same_maybe (Some v) = λ path. refl

same_items : (vs : List Value) → SameItems vs vs
same_items [] = tt
same_items (v ∷ vs) = ((λ path. refl), same_items vs)

same_content : (c : Content) → SameContent c c
same_content (Fields v) = λ path. refl
same_content (Items vs) = same_items vs

same_entries : (es : List Entry) → SameEntries es es
same_entries [] = tt
same_entries (e ∷ es) = (record { id = refl; sub_path = refl; content = same_content e.content; errors = refl }, same_entries es)

pub same_payload : (p : Payload) → SamePayload p p
same_payload p = record { initial = same_maybe p.initial; errors = refl; pending = refl; incremental = same_entries p.incremental; completed = refl; has_next = refl }

pub same_payloads : (ps : List Payload) → SamePayloads ps ps
same_payloads [] = tt
same_payloads (p ∷ ps) = (same_payload p, same_payloads ps)

-- ---- texts

-- each text is read as the same payload
abbrev pub Reads : Payload → List ℕ → Type 0
Reads p text = (again : Payload) × Decodes text again × SamePayload p again

abbrev pub AllRead : List Payload → List (List ℕ) → Type 0
AllRead [] [] = Unit {0}
AllRead (p ∷ ps) (t ∷ ts) = Reads p t × AllRead ps ts
AllRead _ _ = ⊥

-- texts that were all taken
pub Follows-taken : (number : ℕ) (xs : List Payload) (cs : List (List ℕ)) (s t : State) → AllRead xs cs → Follows number cs s t None → (ps : List Payload) × SamePayloads xs ps × Each Apply ps s (Ok t)
Follows-taken number [] [] s t reads (same, none) = ([], tt, ap Ok same)
Follows-taken number [] (c ∷ cs) s t reads follows = absurd reads
Follows-taken number (x ∷ xs) [] s t reads follows = absurd reads
Follows-taken number (x ∷ xs) (c ∷ cs) s t reads (inl (m, (p, decodes, applied), rest)) =
    let tail = Follows-taken (number + 1) xs cs m t reads.1 rest in
    let same = subst (SamePayload x) (decodes-one c reads.0.0 p reads.0.1 decodes) reads.0.2 in
    (p ∷ tail.0, (same, tail.1), (m, applied, tail.2))
Follows-taken number (x ∷ xs) (c ∷ cs) s t reads (inr (why, takes, same, none)) = absurd cc

-- a text that was refused
pub Follows-refused : (number : ℕ) (xs ys : List Payload) (cs : List (List ℕ)) (s t : State) (why : List ℕ) → AllRead xs cs → Follows number cs s t (Some why)
    → (ps : List Payload) × (qs : List Payload) × (e : MergeRefusal) × SamePayloads (xs ++ ys) (ps ++ qs) × Each Apply ps s (Err e)
Follows-refused number [] ys [] s t why reads (same, none) = absurd cc
Follows-refused number [] ys (c ∷ cs) s t why reads follows = absurd reads
Follows-refused number (x ∷ xs) ys [] s t why reads follows = absurd reads
Follows-refused number (x ∷ xs) ys (c ∷ cs) s t why reads (inl (m, (p, decodes, applied), rest)) =
    let tail = Follows-refused (number + 1) xs ys cs m t why reads.1 rest in
    let same = subst (SamePayload x) (decodes-one c reads.0.0 p reads.0.1 decodes) reads.0.2 in
    (p ∷ tail.0, tail.1, tail.2, (same, tail.3), inr (m, applied, tail.4))
Follows-refused number (x ∷ xs) ys (c ∷ cs) s t why reads (inr (because, inl (e, undecoded, is), kept, stop)) = absurd (decodes-never c reads.0.0 e reads.0.1 undecoded)
Follows-refused number (x ∷ xs) ys (c ∷ cs) s t why reads (inr (because, inr (p, e, decodes, refused, is), kept, stop)) =
    let same = subst (SamePayload x) (decodes-one c reads.0.0 p reads.0.1 decodes) reads.0.2 in
    (p ∷ [], xs ++ ys, e, (same, same_payloads (xs ++ ys)), inl refused)

-- ---- the first texts of payloads

-- texts at the front are those of payloads at the front
pub split_texts : {A : Type 0} (f : A → List ℕ) (xs : List A) (cs more : List (List ℕ)) → cs ++ more ≡ map f xs → (first : List A) × (rest : List A) × (xs ≡ first ++ rest) × (cs ≡ map f first)
split_texts f xs [] more is = ([], xs, refl, refl)
split_texts f [] (c ∷ cs) more is = absurd cc
split_texts f (x ∷ xs) (c ∷ cs) more is =
    let rest : cs ++ more ≡ map f xs = cc in
    let first : c ≡ f x = cc in
    let tail = split_texts f xs cs more rest in
    (x ∷ tail.0, tail.1, (λ i. x ∷ tail.2 i), (λ i. first i ∷ tail.3 i))
