-- How pieces are written, one after another.
use Rattle.std.proofs.Common.{◌≡◌, ℕ, ◌+◌, ◌-◌, ◌<◌, ◌≤◌, ◌++◌, ◌∷◌, List, [], length, take, get_or, flat_map, Option, Some, None, refl, sym, ◌∙◌, ap, append_assoc, arith}
use Rattle.std.proofs.lemmas.List.{append-nil, take_more, take_at, get_or_at, length-append, nil_from_length}
use Rattle.std.proofs.lemmas.Grind.{flat_map-append}
use Rattle.gql_lex.specs.declared.token.TokenKind.{TokenKind}
use Rattle.gql_model.specs.declared.syntax.DirectiveUse.{DirectiveUse}
use Rattle.gql_model.specs.declared.syntax.VariableDef.{VariableDef}
use Rattle.gql_model.specs.declared.syntax.OperationKind.{OperationKind}
use Rattle.gql_model.specs.declared.syntax.OperationKind.TheVariants as operation
use Rattle.gql_doc.specs.Pieces.{Piece, spaced}
use Rattle.gql_doc.specs.inner.Writing.{Adds, spaced_out}
use Rattle.gql_doc.specs.Printed.{word, enclosed, printed_list, printed_name, printed_variables, printed_directives, operation_word, operation_head}

-- some, and then others
pub wrote : {a b c : List ℕ} {ps qs : List Piece} → Adds a b ps → Adds b c qs → Adds a c (ps ++ qs)
wrote {a = a} {ps = ps} {qs = qs} first second = record {
  is =
      second.is
      ∙ (ap (λ s. s ++ spaced_out qs) first.is
      ∙ (append_assoc a (spaced_out ps) (spaced_out qs)
      ∙ ap (λ s. a ++ s) (sym (flat_map-append (λ (it : Piece). it.text ++ 32 ∷ []) ps qs))));
}

pub nothing : (a : List ℕ) → Adds a a []
nothing a = record { is = sym (append-nil a) }

-- the same by another name
pub named : {a b : List ℕ} {ps qs : List Piece} → ps ≡ qs → Adds a b ps → Adds a b qs
named {a = a} same h = record { is = h.is ∙ ap (λ ps. a ++ spaced_out ps) same }

one_more : {A : Type 0} (f : A → List Piece) (xs : List A) (x : A) → flat_map f (xs ++ x ∷ []) ≡ flat_map f xs ++ f x
one_more f xs x = flat_map-append f xs (x ∷ []) ∙ ap (λ ps. flat_map f xs ++ ps) (append-nil (f x))

-- the next item of a list
pub turn : {A : Type 0} {a b c : List ℕ} (f : A → List Piece) (xs : List A) (i : ℕ) (x : A) → i < length xs → x ≡ get_or xs i x → Adds a b (flat_map f (take i xs)) → Adds b c (f x) → Adds a c (flat_map f (take (i + 1) xs))
turn f xs i x within here before now =
    named (sym (ap (flat_map f) (take_more xs i x within ∙ ap (λ y. take i xs ++ y ∷ []) (sym here)) ∙ one_more f (take i xs) x)) (wrote before now)

-- a piece by the text that it has
pub titled : {a b s t : List ℕ} (k : TokenKind) → s ≡ t → ((kind : TokenKind) → Adds a b (record { kind = kind; text = s } ∷ [])) → Adds a b (record { kind = k; text = t } ∷ [])
titled k same h = named (ap (λ text. record { kind = k; text = text } ∷ []) same) (h k)

-- a list that has an item
pub list_written : {A : Type 0} {a b : List ℕ} (f : A → List Piece) (opening : List ℕ) (xs : List A) (closing : List ℕ) → (xs ≡ [] → ⊥) → Adds a b (enclosed opening (flat_map f xs) closing) → Adds a b (printed_list f opening xs closing)
list_written f opening [] closing some h = absurd (some refl)
list_written f opening (x ∷ xs) closing some h = h

-- an operation that isn't its selection set alone
pub head_written : {a b : List ℕ} (kind : OperationKind) (name : Option (List ℕ)) (variables : List VariableDef) (directives : List DirectiveUse)
    → ((kind ≡ operation.Query) × (name ≡ None) × (variables ≡ []) × (directives ≡ []) → ⊥)
    → Adds a b (word (operation_word kind) ∷ (printed_name name ++ (printed_variables variables ++ printed_directives directives)))
    → Adds a b (operation_head kind name variables directives)
head_written operation.Query None [] [] long h = absurd (long (refl, refl, refl, refl))
head_written operation.Query None [] (x ∷ xs) long h = h
head_written operation.Query None (x ∷ xs) directives long h = h
head_written operation.Query (Some name) variables directives long h = h
head_written operation.Mutation name variables directives long h = h
head_written operation.Subscription name variables directives long h = h

-- ---- the last space

-- spaces before or behind the texts
spaces-moved : (ps : List Piece) → 32 ∷ spaced_out ps ≡ flat_map (λ (it : Piece). 32 ∷ it.text) ps ++ 32 ∷ []
spaces-moved [] = refl
spaces-moved (p ∷ ps) =
    ap (λ s. 32 ∷ s) (append_assoc p.text (32 ∷ []) (spaced_out ps)
    ∙ (ap (λ s. p.text ++ s) (spaces-moved ps)
    ∙ sym (append_assoc p.text (flat_map (λ (it : Piece). 32 ∷ it.text) ps) (32 ∷ []))))

out_spaced : (p : Piece) (ps : List Piece) → spaced_out (p ∷ ps) ≡ spaced (p ∷ ps) ++ 32 ∷ []
out_spaced p ps =
    append_assoc p.text (32 ∷ []) (spaced_out ps)
    ∙ (ap (λ s. p.text ++ s) (spaces-moved ps)
    ∙ sym (append_assoc p.text (flat_map (λ (it : Piece). 32 ∷ it.text) ps) (32 ∷ [])))

cut : (text old new : List ℕ) (n : ℕ) → old ≡ text ++ 32 ∷ [] → n ≡ length old → (0 < n → get_or old (n - 1) 0 < 128 → new ≡ take (n - 1) old) → new ≡ text
cut text old new n old_is n_is gone =
    let size : length old ≡ length text + 1 = ap length old_is ∙ length-append text (32 ∷ []) in
    let at : length text ≡ n - 1 = omega arith in
    let last : get_or old (n - 1) 0 ≡ 32 = ap (λ s. get_or s (n - 1) 0) old_is ∙ get_or_at text 32 [] 0 (n - 1) at in
    gone (omega arith) (omega arith) ∙ (ap (take (n - 1)) old_is ∙ take_at text (32 ∷ []) (n - 1) at)

-- without its last character the text is that of the pieces
pub popped : (ps : List Piece) (old new : List ℕ) (n : ℕ) → old ≡ spaced_out ps → n ≡ length old → (0 < n → get_or old (n - 1) 0 < 128 → new ≡ take (n - 1) old) → length new ≤ n → new ≡ spaced ps
popped [] old new n old_is n_is gone no_longer =
    let none : length old ≡ 0 = ap length old_is in
    nil_from_length new (omega arith)
popped (p ∷ ps) old new n old_is n_is gone no_longer = cut (spaced (p ∷ ps)) old new n (old_is ∙ out_spaced p ps) n_is gone
