-- The texts that complete a region from its beginning are those of its definition.
use Rattle.std.proofs.Common.{◌≡◌, ℕ, zero, suc, ◌+◌, ◌-◌, ◌≤◌, ◌⊎◌, inl, inr, List, [], ◌∷◌, ◌++◌, length, take, refl, sym, ap, ◌∙◌, subst, arith, append_assoc, length-append, take_at}
use Rattle.gql_multipart.specs.Frame.{crlf}
use Rattle.gql_multipart.specs.declared.place.Place.TheVariants.{Mark, Line}
use Rattle.gql_multipart.specs.Body.{mark, HoldsNoMark, IsOpening, IsHeader, IsContent}
use Rattle.gql_multipart.proofs.Lists.{NoCr}
use Rattle.gql_multipart.proofs.Seeking.{Finds, finds-from_lacks}
use Rattle.gql_multipart.proofs.Places.{sought, Completes, quiet_tail}

-- ---- texts that hold no mark

-- a text before the first m holds none, also with CRLF behind it
lacks-from_finds : (boundary text front back : List ℕ) → Finds (sought boundary) (text ++ sought boundary) (length text) → text ++ crlf ≡ front ++ (sought boundary ++ back) → ⊥
lacks-from_finds boundary [] front back f e = omega (arith, ap length e, length-append front (sought boundary ++ back), length-append (sought boundary) back)
lacks-from_finds boundary (x ∷ text) [] back f e =
    f.0 (back ++ mark boundary, sym (append_assoc (x ∷ text) crlf (mark boundary)) ∙ (ap (λ z. z ++ mark boundary) e ∙ append_assoc (sought boundary) back (mark boundary)))
lacks-from_finds boundary (x ∷ text) (y ∷ front) back f e = let tails : text ++ crlf ≡ front ++ (sought boundary ++ back) = cc in lacks-from_finds boundary text front back f.1 tails

finds_split : (m text : List ℕ) (q : ℕ) → Finds m text q → (front : List ℕ) × (text ≡ front ++ m) × (length front ≡ q)
finds_split m text zero f = ([], f, refl)
finds_split m [] (suc q) f = absurd f
finds_split m (x ∷ text) (suc q) f = let r = finds_split m text q f.1 in (x ∷ r.0, ap (λ z. x ∷ z) r.1, ap suc r.2)

-- a text in a line of its own, and then CRLF and a mark, which is the first one
pub led : (boundary text : List ℕ) (room : ℕ) → NoCr boundary → length text + 2 ≤ room → ((front back : List ℕ) → crlf ++ text ≡ front ++ (sought boundary ++ back) → ⊥) → Completes boundary (Mark room 2) (text ++ sought boundary)
led boundary text room n l none = (length (crlf ++ text), finds-from_lacks (10 ∷ 45 ∷ 45 ∷ boundary) (crlf ++ text) (quiet_tail boundary n) none, omega arith)

-- the mark alone, or a text in a line of its own before it
pub leads : (boundary : List ℕ) (room : ℕ) (t : List ℕ) → Completes boundary (Mark room 2) t → (t ≡ mark boundary) ⊎ ((text : List ℕ) × (t ≡ text ++ sought boundary) × (length text + 2 ≤ room) × HoldsNoMark boundary (text ++ crlf))
leads boundary room t (zero, f, l) = let e : crlf ++ t ≡ sought boundary = f in inl cc
leads boundary room t (suc zero, f, l) = let e : 10 ∷ t ≡ sought boundary = f.1 in absurd cc
leads boundary room t (suc (suc k), f, l) =
    let r = finds_split (sought boundary) t k f.1.1 in
    let P : List ℕ → Type 0 = λ z. Finds (sought boundary) (crlf ++ z) (suc (suc k)) in
    let g : Finds (sought boundary) (crlf ++ (r.0 ++ sought boundary)) (suc (suc k)) = subst P r.1 f in
    let Q : ℕ → Type 0 = λ z. Finds (sought boundary) ((crlf ++ r.0) ++ sought boundary) z in
    let h : Finds (sought boundary) ((crlf ++ r.0) ++ sought boundary) (length (crlf ++ r.0)) = subst Q (ap (λ z. suc (suc z)) (sym r.2)) g in
    inr (r.0, r.1, omega (arith, r.2), (λ front back e. lacks-from_finds boundary (crlf ++ r.0) front back h e))

-- ---- the preamble and the first mark

pub opening_on : (boundary t : List ℕ) → NoCr boundary → IsOpening boundary t → Completes boundary (Mark 16384 2) t
opening_on boundary t n (preamble, inl e, cut) = (0, ap (λ z. crlf ++ z) (cut ∙ ap (λ z. z ++ mark boundary) e), omega arith)
opening_on boundary t n (preamble, inr (text, e, l, none), cut) =
    let whole : t ≡ text ++ sought boundary = cut ∙ (ap (λ z. z ++ mark boundary) e ∙ append_assoc text crlf (mark boundary)) in
    subst (Completes boundary (Mark 16384 2)) (sym whole)
    (led boundary text 16384 n (omega (arith, ap length e, length-append text crlf))
    (λ front back p. none front (back ++ crlf)
    (ap (λ z. crlf ++ z) e ∙ (ap (λ z. z ++ crlf) p ∙ (append_assoc front (sought boundary ++ back) crlf ∙ ap (λ z. front ++ z) (append_assoc (sought boundary) back crlf))))))

pub opening_back : (boundary t : List ℕ) → Completes boundary (Mark 16384 2) t → IsOpening boundary t
opening_back boundary t c = from_leads boundary t (leads boundary 16384 t c)
  where
    from_leads : (boundary t : List ℕ) → (t ≡ mark boundary) ⊎ ((text : List ℕ) × (t ≡ text ++ sought boundary) × (length text + 2 ≤ 16384) × HoldsNoMark boundary (text ++ crlf)) → IsOpening boundary t
    from_leads boundary t (inl e) = ([], inl refl, e)
    from_leads boundary t (inr (text, e, l, none)) = (text ++ crlf, inr (text, refl, omega (arith, length-append text crlf), none), e ∙ sym (append_assoc text crlf (mark boundary)))

-- ---- a content and its mark

pub content_on : (boundary content t : List ℕ) → NoCr boundary → IsContent boundary content t → Completes boundary (Mark 67108866 2) t
content_on boundary content t n (l, inl (empty, e)) = (0, ap (λ z. crlf ++ z) e, omega arith)
content_on boundary content t n (l, inr (none, e)) = subst (Completes boundary (Mark 67108866 2)) (sym e) (led boundary content 67108866 n (omega arith) none)

pub content_back : (boundary t : List ℕ) → Completes boundary (Mark 67108866 2) t → (content : List ℕ) × IsContent boundary content t
content_back boundary t c = from_leads boundary t (leads boundary 67108866 t c)
  where
    from_leads : (boundary t : List ℕ) → (t ≡ mark boundary) ⊎ ((text : List ℕ) × (t ≡ text ++ sought boundary) × (length text + 2 ≤ 67108866) × HoldsNoMark boundary (text ++ crlf)) → (content : List ℕ) × IsContent boundary content t
    from_leads boundary t (inl e) = ([], (omega arith, inl (refl, e)))
    from_leads boundary t (inr (text, e, l, none)) =
        (text, (omega arith, inr ((λ front back p. none front (back ++ crlf) (ap (λ z. z ++ crlf) p ∙ (append_assoc front (sought boundary ++ back) crlf ∙ ap (λ z. front ++ z) (append_assoc (sought boundary) back crlf)))), e)))

-- where a content ends
pub content_is : (boundary content t rest : List ℕ) (c n : ℕ) → n ≡ c + length t → IsContent boundary content t → take ((n - length (sought boundary)) - c) (t ++ rest) ≡ content
content_is boundary content t rest c n e (l, inl (empty, cut)) =
    let none : (n - length (sought boundary)) - c ≡ 0 = omega (arith, ap length cut) in
    ap (λ i. take i (t ++ rest)) none ∙ sym empty
content_is boundary content t rest c n e (l, inr (none, cut)) =
    let some : length content ≡ (n - length (sought boundary)) - c = omega (arith, ap length cut, length-append content (sought boundary)) in
    ap (λ z. take ((n - length (sought boundary)) - c) z) (ap (λ z. z ++ rest) cut ∙ append_assoc content (sought boundary) rest)
    ∙ take_at content (sought boundary ++ rest) ((n - length (sought boundary)) - c) some

-- ---- a header

pub header_on : (boundary t : List ℕ) → IsHeader boundary t → Completes boundary (Line 16384) t
header_on boundary t (lines, each, l, e) = (lines, each, omega arith, e)

pub header_back : (boundary t : List ℕ) → Completes boundary (Line 16384) t → IsHeader boundary t
header_back boundary t (lines, each, l, e) = (lines, each, omega arith, e)

-- ---- what each region at least has

pub some_content : (boundary : List ℕ) → IsContent boundary [] (mark boundary)
some_content boundary = (omega arith, inl (refl, refl))

pub some_header : (boundary : List ℕ) → IsHeader boundary crlf
some_header boundary = ([], tt, omega arith, refl)
