-- The first place of CRLF and a mark in a text. It begins with CR and has no further CR.
use Rattle.std.proofs.Common.{◌≡◌, ℕ, zero, suc, ◌+◌, ◌<◌, ◌≤◌, List, [], ◌∷◌, ◌++◌, length, get_or, take, refl, sym, ap, ◌∙◌, subst, arith, append_assoc, append-nil, length-take-le, zero-add}
use Rattle.std.proofs.lemmas.List.{get_or_at, get_or_append_left, take_more}
use Rattle.gql_multipart.proofs.Lists.{NoCr, NoCr-take, NoCr-at, cut, nil-append}

-- the text begins with m
abbrev pub Starts : List ℕ → List ℕ → Type 0
Starts m text = (rest : List ℕ) × (text ≡ m ++ rest)

-- the text ends with m, behind q bytes, and m begins at none of these
abbrev pub Finds : List ℕ → List ℕ → ℕ → Type 0
Finds m text zero = text ≡ m
Finds m [] (suc q) = ⊥
Finds m (x ∷ text) (suc q) = (Starts m (x ∷ text) → ⊥) × Finds m text q

strip_one : (m text : List ℕ) (x q : ℕ) → (Starts m (x ∷ text) → ⊥) → Finds m (x ∷ text) q → (k : ℕ) × (q ≡ suc k) × Finds m text k
strip_one m text x zero none f = absurd (none ([], f ∙ sym (append-nil m)))
strip_one m text x (suc k) none f = (k, refl, f.1)

starts_elsewhere : (t text : List ℕ) (x : ℕ) → (x ≡ 13 → ⊥) → Starts (13 ∷ t) (x ∷ text) → ⊥
starts_elsewhere t text x none s = let e : x ∷ text ≡ 13 ∷ (t ++ s.0) = s.1 in none cc

pub strip : (t a text : List ℕ) (q : ℕ) → NoCr a → Finds (13 ∷ t) (a ++ text) q → (k : ℕ) × (q ≡ length a + k) × Finds (13 ∷ t) text k
strip t [] text q n f = (q, sym (zero-add q), f)
strip t (x ∷ a) text q n f =
    let one = strip_one (13 ∷ t) (a ++ text) x q (starts_elsewhere t (a ++ text) x n.0) f in
    let rest = strip t a text one.0 n.1 one.2 in
    (rest.0, omega (arith, one.1, rest.1), rest.2)

pub unstrip : (t a text : List ℕ) (k q : ℕ) → NoCr a → q ≡ length a + k → Finds (13 ∷ t) text k → Finds (13 ∷ t) (a ++ text) q
unstrip t [] text k q n e f = let same : k ≡ q = omega arith in let P : ℕ → Type 0 = λ i. Finds (13 ∷ t) text i in subst P same f
unstrip t (x ∷ a) text k zero n e f = absurd (omega arith)
unstrip t (x ∷ a) text k (suc q) n e f = (starts_elsewhere t (a ++ text) x n.0, unstrip t a text k q n.1 (omega arith) f)

-- ---- so much of m has come, and then another byte than m's

pub mismatch : (m : List ℕ) (j b : ℕ) (w : List ℕ) → j < length m → (get_or m j 0 ≡ b → ⊥) → Starts m (take j m ++ (b ∷ w)) → ⊥
mismatch m j b w l none s =
    let here : get_or (take j m ++ (b ∷ w)) j 0 ≡ b = get_or_at (take j m) b w 0 j (length-take-le j m (omega arith)) in
    let there : get_or (m ++ s.0) j 0 ≡ get_or m j 0 = get_or_append_left m s.0 0 j l in
    none (sym there ∙ (sym (ap (λ x. get_or x j 0) s.1) ∙ here))

pub missed : (t : List ℕ) (j b : ℕ) (w : List ℕ) (q : ℕ) → NoCr t → j < length (13 ∷ t) → (get_or (13 ∷ t) j 0 ≡ b → ⊥) → Finds (13 ∷ t) (take j (13 ∷ t) ++ (b ∷ w)) q → (k : ℕ) × (q ≡ j + k) × Finds (13 ∷ t) (b ∷ w) k
missed t zero b w q n l none f = (q, sym (zero-add q), f)
missed t (suc i) b w q n l none f =
    let one = strip_one (13 ∷ t) (take i t ++ (b ∷ w)) 13 q (mismatch (13 ∷ t) (suc i) b w l none) f in
    let rest = strip t (take i t) (b ∷ w) one.0 (NoCr-take i t n) one.2 in
    let len : length (take i t) ≡ i = length-take-le i t (omega arith) in
    (rest.0, omega (arith, one.1, rest.1), rest.2)

pub unmissed : (t : List ℕ) (j b : ℕ) (w : List ℕ) (k q : ℕ) → NoCr t → j < length (13 ∷ t) → (get_or (13 ∷ t) j 0 ≡ b → ⊥) → q ≡ j + k → Finds (13 ∷ t) (b ∷ w) k → Finds (13 ∷ t) (take j (13 ∷ t) ++ (b ∷ w)) q
unmissed t zero b w k q n l none e f = let same : k ≡ q = omega arith in let P : ℕ → Type 0 = λ i. Finds (13 ∷ t) (b ∷ w) i in subst P same f
unmissed t (suc i) b w k zero n l none e f = absurd (omega arith)
unmissed t (suc i) b w k (suc q) n l none e f =
    let len : length (take i t) ≡ i = length-take-le i t (omega arith) in
    (mismatch (13 ∷ t) (suc i) b w l none, unstrip t (take i t) (b ∷ w) k q (NoCr-take i t n) (omega arith) f)

-- ---- one more byte of m

pub taken : (m : List ℕ) (j b : ℕ) (w : List ℕ) → j < length m → get_or m j 0 ≡ b → take j m ++ (b ∷ w) ≡ take (j + 1) m ++ w
taken m j b w l e = rw (take_more m j 0 l, append_assoc, e) refl

-- m ends the text that it begins
pub found_first : (t w : List ℕ) (q : ℕ) → Finds (13 ∷ t) ((13 ∷ t) ++ w) q → w ≡ []
found_first t w zero f = nil-append (13 ∷ t) w f
found_first t w (suc q) f = absurd (f.0 (w, refl))

-- ---- texts that hold no m

le_or : (a b : ℕ) → (b < a → ⊥) → a ≤ b
le_or a b none = first_of (omega arith, grind arith)

-- the front of a text that ends with m: m begins in it only as a whole
whole_before : (t text rest : List ℕ) (x : ℕ) → NoCr t → (x ∷ text) ++ (13 ∷ t) ≡ (13 ∷ t) ++ rest → length (13 ∷ t) ≤ length (x ∷ text)
whole_before t text rest x n e =
    let at_end : get_or ((x ∷ text) ++ (13 ∷ t)) (suc (length text)) 0 ≡ 13 = get_or_at (x ∷ text) 13 t 0 (suc (length text)) refl in
    le_or (length (13 ∷ t)) (length (x ∷ text)) (λ l.
    let there : get_or ((13 ∷ t) ++ rest) (suc (length text)) 0 ≡ get_or (13 ∷ t) (suc (length text)) 0 = get_or_append_left (13 ∷ t) rest 0 (suc (length text)) l in
    NoCr-at t (length text) n (omega arith) (sym there ∙ (sym (ap (λ y. get_or y (suc (length text)) 0) e) ∙ at_end)))

pub finds-from_lacks : (t text : List ℕ) → NoCr t → ((front back : List ℕ) → text ≡ front ++ ((13 ∷ t) ++ back) → ⊥) → Finds (13 ∷ t) (text ++ (13 ∷ t)) (length text)
finds-from_lacks t [] n none = refl
finds-from_lacks t (x ∷ text) n none = (
  λ s.
      let e : (x ∷ text) ++ (13 ∷ t) ≡ (13 ∷ t) ++ s.0 = s.1 in
      let c = cut (13 ∷ t) (x ∷ text) (13 ∷ t) s.0 e (whole_before t text s.0 x n e) in
      none [] c.0 c.1,
  finds-from_lacks t text n (λ front back p. none (x ∷ front) back (ap (λ y. x ∷ y) p)),
)
