-- Steps through header lines and the empty line.
use Rattle.std.proofs.Common.{◌≡◌, ◌≢◌, ℕ, suc, ◌+◌, ◌-◌, ◌≤◌, Bool, true, false, ◌==◌, ◌&&◌, nat_le, if◌then◌else◌, IsTrue, List, [], ◌∷◌, ◌++◌, length, get_or, drop, Option, Some, None, refl, sym, ap, ap₂, ◌∙◌, subst, arith, append_assoc, length-append, eqb-true, leb-true, leb-false}
use Rattle.std.proofs.lemmas.Bool.{eqb-false}
use Rattle.std.proofs.lemmas.List.{drop_more, drop_all}
use Rattle.std.specs.List.{AllByRecursion as Each, concat}
use Rattle.gql_multipart.specs.Frame.{crlf}
use Rattle.gql_multipart.specs.declared.place.Place.{Place}
use Rattle.gql_multipart.specs.declared.place.Place.TheVariants.{Line, Name, Value, FieldFeed, LastFeed}
use Rattle.gql_multipart.specs.declared.place.Moved.TheVariants.{Go, Whole, Bad}
use Rattle.gql_multipart.specs.Body.{mark, token_byte, value_byte, IsHeaderLine}
use Rattle.gql_multipart.specs.inner.Reading.{IsShort, spend, bar, clashes, name_need, named, valued, line_step, name_step, value_step, feed_step}
use Rattle.gql_multipart.proofs.Lists.{by_test, from_test, NoCr}
use Rattle.gql_multipart.proofs.Places.{sought, Avoids, NameRest, ValueRest, Completes, Moves, cc_heads, bar_on, bar_back, no_clash, Avoids-crlf}

spend_on : (boundary : List ℕ) (w : List ℕ) (room need : ℕ) (place : ℕ → Place) → need + 1 ≤ room → Completes boundary (place (room - 1)) w → Moves boundary w (spend room need place)
spend_on boundary w room need place l c =
    by_test (Moves boundary w) (nat_le (need + 1) room) (Go (place (room - 1))) Bad
    (λ r. c)
    (λ r. absurd (omega (arith, leb-false (need + 1) room r)))

spend_back : (boundary : List ℕ) (w : List ℕ) (room need : ℕ) (place : ℕ → Place) → Moves boundary w (spend room need place) → (need + 1 ≤ room) × Completes boundary (place (room - 1)) w
spend_back boundary w room need place v =
    from_test (Moves boundary w) (nat_le (need + 1) room) (Go (place (room - 1))) Bad v
    (λ r c. (leb-true (need + 1) room r, c))
    (λ r c. absurd c)

at_byte : (P : ℕ → Bool) (x y : ℕ) → x ≡ y → IsTrue (P y) → IsTrue (P x)
at_byte P x y e h = ap P e ∙ h

false_true : (t : Bool) → t ≡ true → t ≡ false → ⊥
false_true t p q = let e : true ≡ false = sym p ∙ q in cc

pub both : (a b : Bool) → (a && b) ≡ true → (a ≡ true) × (b ≡ true)
both true b e = (refl, e)
both false b e = absurd cc

-- ---- how much must come behind a name

name_length : (name value x : List ℕ) → x ≡ name ++ (58 ∷ (value ++ crlf)) → length name + 3 ≤ length x
name_length name value x e = omega (arith, ap length e, length-append name (58 ∷ (value ++ crlf)), length-append value crlf)

need_least : (boundary : List ℕ) (barred : Option ℕ) (x : List ℕ) → NameRest boundary barred x → name_need (sought boundary) barred ≤ length x
need_least boundary None x (name, value, tokens, values, e, av) = omega (arith, name_length name value x e)
need_least boundary (Some k) x (name, value, tokens, values, e, av) =
    by_test (λ n. n ≤ length x) ((k + 1 == length (sought boundary)) && (get_or (sought boundary) k 0 == 58)) 4 3
    (λ t. let h = both (k + 1 == length (sought boundary)) (get_or (sought boundary) k 0 == 58) t in longer boundary k x name value e av (eqb-true (k + 1) (length (sought boundary)) h.0) (eqb-true (get_or (sought boundary) k 0) 58 h.1))
    (λ t. omega (arith, name_length name value x e))
  where
    longer : (boundary : List ℕ) (k : ℕ) (x name value : List ℕ) → x ≡ name ++ (58 ∷ (value ++ crlf)) → Avoids boundary (Some k) x → k + 1 ≡ length (sought boundary) → get_or (sought boundary) k 0 ≡ 58 → 4 ≤ length x
    longer boundary k x [] value e av last colon =
        let rest : drop (k + 1) (sought boundary) ≡ [] = drop_all (k + 1) (sought boundary) (omega arith) in
        let barred : drop k (sought boundary) ≡ 58 ∷ [] = drop_more (sought boundary) k 0 (omega arith) ∙ ap₂ (λ y ys. y ∷ ys) colon rest in
        absurd (av (value ++ crlf) (e ∙ sym (ap (λ z. z ++ (value ++ crlf)) barred)))
    longer boundary k x (t ∷ name) value e av last colon = omega (arith, name_length (t ∷ name) value x e)

-- ---- on to a name or a value; x is the rest of the line

named_on : (boundary : List ℕ) (room : ℕ) (barred : Option ℕ) (w x : List ℕ) → NameRest boundary barred x → (lines : List (List ℕ)) → Each (IsHeaderLine boundary) lines → suc (length x) + length (concat lines) ≤ room → w ≡ x ++ (concat lines ++ crlf) → Moves boundary w (named (sought boundary) room barred)
named_on boundary room barred w x h lines each fits e =
    by_test (Moves boundary w) (clashes (sought boundary) barred) Bad (spend room (name_need (sought boundary) barred) (λ r. Name r barred))
    (λ t. no_clash boundary barred x h.5 t)
    (λ t. spend_on boundary w room (name_need (sought boundary) barred) (λ r. Name r barred) (omega (arith, need_least boundary barred x h)) (x, h, (lines, each, omega arith, e)))

named_back : (boundary : List ℕ) (room : ℕ) (barred : Option ℕ) (w : List ℕ) → Moves boundary w (named (sought boundary) room barred) → (1 ≤ room) × Completes boundary (Name (room - 1) barred) w
named_back boundary room barred w v =
    from_test (Moves boundary w) (clashes (sought boundary) barred) Bad (spend room (name_need (sought boundary) barred) (λ r. Name r barred)) v
    (λ t c. absurd c)
    (λ t c. let s = spend_back boundary w room (name_need (sought boundary) barred) (λ r. Name r barred) c in (omega (arith, s.0), s.1))

value_length : (value x : List ℕ) → x ≡ value ++ crlf → length value + 2 ≡ length x
value_length value x e = omega (arith, ap length e, length-append value crlf)

valued_on : (boundary : List ℕ) (room : ℕ) (barred : Option ℕ) (w x : List ℕ) → ValueRest boundary barred x → (lines : List (List ℕ)) → Each (IsHeaderLine boundary) lines → suc (length x) + length (concat lines) ≤ room → w ≡ x ++ (concat lines ++ crlf) → Moves boundary w (valued (sought boundary) room barred)
valued_on boundary room barred w x h lines each fits e =
    by_test (Moves boundary w) (clashes (sought boundary) barred) Bad (spend room 2 (λ r. Value r barred))
    (λ t. no_clash boundary barred x h.3 t)
    (λ t. spend_on boundary w room 2 (λ r. Value r barred) (omega (arith, value_length h.0 x h.2)) (x, h, (lines, each, omega arith, e)))

valued_back : (boundary : List ℕ) (room : ℕ) (barred : Option ℕ) (w : List ℕ) → Moves boundary w (valued (sought boundary) room barred) → (1 ≤ room) × Completes boundary (Value (room - 1) barred) w
valued_back boundary room barred w v =
    from_test (Moves boundary w) (clashes (sought boundary) barred) Bad (spend room 2 (λ r. Value r barred)) v
    (λ t c. absurd c)
    (λ t c. let s = spend_back boundary w room 2 (λ r. Value r barred) c in (omega (arith, s.0), s.1))

-- ---- at the beginning of a line

pub line_on : (boundary : List ℕ) (room b : ℕ) (w : List ℕ) → Completes boundary (Line room) (b ∷ w) → Moves boundary w (line_step (sought boundary) room b)
line_on boundary room b w (lines, each, fits, e) = by_lines boundary room b w lines each fits e
  where
    by_name : (boundary : List ℕ) (room b : ℕ) (w line : List ℕ) (lines : List (List ℕ)) (name value : List ℕ) → (name ≢ []) → Each (λ b. IsTrue (token_byte b)) name → Each (λ b. IsTrue (value_byte b)) value → line ≡ name ++ (58 ∷ (value ++ crlf)) → ((rest : List ℕ) → line ≡ mark boundary ++ rest → ⊥) → Each (IsHeaderLine boundary) lines → length (line ++ concat lines) ≤ room → b ∷ w ≡ (line ++ concat lines) ++ crlf → Moves boundary w (line_step (sought boundary) room b)
    by_name boundary room b w line lines [] value some tokens values e apart each fits p = absurd (some refl)
    by_name boundary room b w line lines (t ∷ name) value some tokens values e apart each fits p =
        let x : List ℕ = name ++ (58 ∷ (value ++ crlf)) in
        let whole : line ≡ t ∷ x = e in
        let q : b ∷ w ≡ t ∷ ((x ++ concat lines) ++ crlf) = p ∙ ap (λ z. (z ++ concat lines) ++ crlf) whole in
        let h = cc_heads b t w ((x ++ concat lines) ++ crlf) q in
        let token : IsTrue (token_byte b) = at_byte token_byte b t h.0 tokens.0 in
        let barred : Avoids boundary (bar (sought boundary) (Some 2) b) x = bar_on boundary (Some 2) b x (omega arith) (λ rest r. apart rest (whole ∙ (ap (λ z. z ∷ x) (sym h.0) ∙ r))) in
        by_test (Moves boundary w) (b == 13) (Go LastFeed) (if token_byte b then named (sought boundary) room (bar (sought boundary) (Some 2) b) else Bad)
        (λ d. absurd (let bad : IsTrue (token_byte 13) = at_byte token_byte 13 b (sym (eqb-true b 13 d)) token in cc))
        (λ d. by_test (Moves boundary w) (token_byte b) (named (sought boundary) room (bar (sought boundary) (Some 2) b)) Bad
        (λ _. named_on boundary room (bar (sought boundary) (Some 2) b) w x (name, value, tokens.1, values, refl, barred) lines each (omega (arith, ap length whole, length-append line (concat lines))) (h.1 ∙ append_assoc x (concat lines) crlf))
        (λ n. absurd (false_true (token_byte b) token n)))

    by_lines : (boundary : List ℕ) (room b : ℕ) (w : List ℕ) (lines : List (List ℕ)) → Each (IsHeaderLine boundary) lines → 0 + length (concat lines) ≤ room → b ∷ w ≡ concat lines ++ crlf → Moves boundary w (line_step (sought boundary) room b)
    by_lines boundary room b w [] each fits e =
        let h = cc_heads b 13 w (10 ∷ []) e in
        by_test (Moves boundary w) (b == 13) (Go LastFeed) (if token_byte b then named (sought boundary) room (bar (sought boundary) (Some 2) b) else Bad)
        (λ d. h.1)
        (λ d. absurd (eqb-false b 13 d h.0))
    by_lines boundary room b w (line ∷ lines) ((name, value, some, tokens, values, l, apart), each) fits e =
        by_name boundary room b w line lines name value some tokens values l apart each (omega arith) e

pub line_back : (boundary : List ℕ) (room b : ℕ) (w : List ℕ) → Moves boundary w (line_step (sought boundary) room b) → Completes boundary (Line room) (b ∷ w)
line_back boundary room b w v =
    from_test (Moves boundary w) (b == 13) (Go LastFeed) (if token_byte b then named (sought boundary) room (bar (sought boundary) (Some 2) b) else Bad) v
    (λ e c. ([], tt, omega arith, (let first : b ≡ 13 = eqb-true b 13 e in cc)))
    (λ e u. from_test (Moves boundary w) (token_byte b) (named (sought boundary) room (bar (sought boundary) (Some 2) b)) Bad u
    (λ d c. from_name boundary room b w d (named_back boundary room (bar (sought boundary) (Some 2) b) w c))
    (λ d c. absurd c))
  where
    from_name : (boundary : List ℕ) (room b : ℕ) (w : List ℕ) → IsTrue (token_byte b) → (1 ≤ room) × Completes boundary (Name (room - 1) (bar (sought boundary) (Some 2) b)) w → Completes boundary (Line room) (b ∷ w)
    from_name boundary room b w token (l, (x, (name, value, tokens, values, e, av), (lines, each, fits, p))) = (
      (b ∷ x) ∷ lines,
      ((b ∷ name, value, (λ q. absurd cc), (token, tokens), values, ap (λ z. b ∷ z) e, (λ rest r. bar_back boundary (Some 2) b x (omega arith) av rest r)), each),
      omega (arith, length-append (b ∷ x) (concat lines)),
      ap (λ z. b ∷ z) (p ∙ sym (append_assoc x (concat lines) crlf)),
    )

-- ---- in a name

pub name_on : (boundary : List ℕ) (room : ℕ) (barred : Option ℕ) (b : ℕ) (w : List ℕ) → IsShort (sought boundary) barred → Completes boundary (Name room barred) (b ∷ w) → Moves boundary w (name_step (sought boundary) room barred b)
name_on boundary room barred b w s (x, (name, value, tokens, values, e, av), (lines, each, fits, p)) = by_name boundary room barred b w s x name value tokens values e av lines each fits p
  where
    by_name : (boundary : List ℕ) (room : ℕ) (barred : Option ℕ) (b : ℕ) (w : List ℕ) → IsShort (sought boundary) barred → (x name value : List ℕ) → Each (λ b. IsTrue (token_byte b)) name → Each (λ b. IsTrue (value_byte b)) value → x ≡ name ++ (58 ∷ (value ++ crlf)) → Avoids boundary barred x → (lines : List (List ℕ)) → Each (IsHeaderLine boundary) lines → length x + length (concat lines) ≤ room → b ∷ w ≡ x ++ (concat lines ++ crlf) → Moves boundary w (name_step (sought boundary) room barred b)
    by_name boundary room barred b w s x [] value tokens values e av lines each fits p =
        let y : List ℕ = value ++ crlf in
        let h = cc_heads b 58 w (y ++ (concat lines ++ crlf)) (p ∙ ap (λ z. z ++ (concat lines ++ crlf)) e) in
        let P : List ℕ → Type 0 = λ z. Avoids boundary barred z in
        let barred_y : Avoids boundary (bar (sought boundary) barred b) y = bar_on boundary barred b y s (subst P (e ∙ ap (λ z. z ∷ y) (sym h.0)) av) in
        by_test (Moves boundary w) (b == 58) (valued (sought boundary) room (bar (sought boundary) barred b)) (if token_byte b then named (sought boundary) room (bar (sought boundary) barred b) else Bad)
        (λ d. valued_on boundary room (bar (sought boundary) barred b) w y (value, values, refl, barred_y) lines each (omega (arith, ap length e)) h.1)
        (λ d. absurd (eqb-false b 58 d h.0))
    by_name boundary room barred b w s x (t ∷ name) value tokens values e av lines each fits p =
        let y : List ℕ = name ++ (58 ∷ (value ++ crlf)) in
        let h = cc_heads b t w (y ++ (concat lines ++ crlf)) (p ∙ ap (λ z. z ++ (concat lines ++ crlf)) e) in
        let token : IsTrue (token_byte b) = at_byte token_byte b t h.0 tokens.0 in
        let P : List ℕ → Type 0 = λ z. Avoids boundary barred z in
        let barred_y : Avoids boundary (bar (sought boundary) barred b) y = bar_on boundary barred b y s (subst P (e ∙ ap (λ z. z ∷ y) (sym h.0)) av) in
        by_test (Moves boundary w) (b == 58) (valued (sought boundary) room (bar (sought boundary) barred b)) (if token_byte b then named (sought boundary) room (bar (sought boundary) barred b) else Bad)
        (λ d. absurd (let bad : IsTrue (token_byte 58) = at_byte token_byte 58 b (sym (eqb-true b 58 d)) token in cc))
        (λ d. by_test (Moves boundary w) (token_byte b) (named (sought boundary) room (bar (sought boundary) barred b)) Bad
        (λ _. named_on boundary room (bar (sought boundary) barred b) w y (name, value, tokens.1, values, refl, barred_y) lines each (omega (arith, ap length e)) h.1)
        (λ n. absurd (false_true (token_byte b) token n)))

pub name_back : (boundary : List ℕ) (room : ℕ) (barred : Option ℕ) (b : ℕ) (w : List ℕ) → IsShort (sought boundary) barred → Moves boundary w (name_step (sought boundary) room barred b) → Completes boundary (Name room barred) (b ∷ w)
name_back boundary room barred b w s v =
    from_test (Moves boundary w) (b == 58) (valued (sought boundary) room (bar (sought boundary) barred b)) (if token_byte b then named (sought boundary) room (bar (sought boundary) barred b) else Bad) v
    (λ e c. from_value boundary room barred b w s (eqb-true b 58 e) (valued_back boundary room (bar (sought boundary) barred b) w c))
    (λ e u. from_test (Moves boundary w) (token_byte b) (named (sought boundary) room (bar (sought boundary) barred b)) Bad u
    (λ d c. from_name boundary room barred b w s d (named_back boundary room (bar (sought boundary) barred b) w c))
    (λ d c. absurd c))
  where
    from_value : (boundary : List ℕ) (room : ℕ) (barred : Option ℕ) (b : ℕ) (w : List ℕ) → IsShort (sought boundary) barred → b ≡ 58 → (1 ≤ room) × Completes boundary (Value (room - 1) (bar (sought boundary) barred b)) w → Completes boundary (Name room barred) (b ∷ w)
    from_value boundary room barred b w s colon (l, (x, (value, values, e, av), (lines, each, fits, p))) =
        (b ∷ x, ([], value, tt, values, ap₂ (λ y ys. y ∷ ys) colon e, bar_back boundary barred b x s av), (lines, each, omega arith, ap (λ z. b ∷ z) p))

    from_name : (boundary : List ℕ) (room : ℕ) (barred : Option ℕ) (b : ℕ) (w : List ℕ) → IsShort (sought boundary) barred → IsTrue (token_byte b) → (1 ≤ room) × Completes boundary (Name (room - 1) (bar (sought boundary) barred b)) w → Completes boundary (Name room barred) (b ∷ w)
    from_name boundary room barred b w s token (l, (x, (name, value, tokens, values, e, av), (lines, each, fits, p))) =
        (b ∷ x, (b ∷ name, value, (token, tokens), values, ap (λ z. b ∷ z) e, bar_back boundary barred b x s av), (lines, each, omega arith, ap (λ z. b ∷ z) p))

-- ---- in a value, and behind it

pub value_on : (boundary : List ℕ) (room : ℕ) (barred : Option ℕ) (b : ℕ) (w : List ℕ) → IsShort (sought boundary) barred → Completes boundary (Value room barred) (b ∷ w) → Moves boundary w (value_step (sought boundary) room barred b)
value_on boundary room barred b w s (x, (value, values, e, av), (lines, each, fits, p)) = by_value boundary room barred b w s x value values e av lines each fits p
  where
    by_value : (boundary : List ℕ) (room : ℕ) (barred : Option ℕ) (b : ℕ) (w : List ℕ) → IsShort (sought boundary) barred → (x value : List ℕ) → Each (λ b. IsTrue (value_byte b)) value → x ≡ value ++ crlf → Avoids boundary barred x → (lines : List (List ℕ)) → Each (IsHeaderLine boundary) lines → length x + length (concat lines) ≤ room → b ∷ w ≡ x ++ (concat lines ++ crlf) → Moves boundary w (value_step (sought boundary) room barred b)
    by_value boundary room barred b w s x [] values e av lines each fits p =
        let h = cc_heads b 13 w (10 ∷ (concat lines ++ crlf)) (p ∙ ap (λ z. z ++ (concat lines ++ crlf)) e) in
        by_test (Moves boundary w) (b == 13) (spend room 1 FieldFeed) (if value_byte b then valued (sought boundary) room (bar (sought boundary) barred b) else Bad)
        (λ d. spend_on boundary w room 1 FieldFeed (omega (arith, ap length e)) (lines, each, omega (arith, ap length e), h.1))
        (λ d. absurd (eqb-false b 13 d h.0))
    by_value boundary room barred b w s x (v ∷ value) values e av lines each fits p =
        let y : List ℕ = value ++ crlf in
        let h = cc_heads b v w (y ++ (concat lines ++ crlf)) (p ∙ ap (λ z. z ++ (concat lines ++ crlf)) e) in
        let plain : IsTrue (value_byte b) = at_byte value_byte b v h.0 values.0 in
        let P : List ℕ → Type 0 = λ z. Avoids boundary barred z in
        let barred_y : Avoids boundary (bar (sought boundary) barred b) y = bar_on boundary barred b y s (subst P (e ∙ ap (λ z. z ∷ y) (sym h.0)) av) in
        by_test (Moves boundary w) (b == 13) (spend room 1 FieldFeed) (if value_byte b then valued (sought boundary) room (bar (sought boundary) barred b) else Bad)
        (λ d. absurd (let bad : IsTrue (value_byte 13) = at_byte value_byte 13 b (sym (eqb-true b 13 d)) plain in cc))
        (λ d. by_test (Moves boundary w) (value_byte b) (valued (sought boundary) room (bar (sought boundary) barred b)) Bad
        (λ _. valued_on boundary room (bar (sought boundary) barred b) w y (value, values.1, refl, barred_y) lines each (omega (arith, ap length e)) h.1)
        (λ n. absurd (false_true (value_byte b) plain n)))

pub value_back : (boundary : List ℕ) (room : ℕ) (barred : Option ℕ) (b : ℕ) (w : List ℕ) → NoCr boundary → IsShort (sought boundary) barred → Moves boundary w (value_step (sought boundary) room barred b) → Completes boundary (Value room barred) (b ∷ w)
value_back boundary room barred b w n s v =
    from_test (Moves boundary w) (b == 13) (spend room 1 FieldFeed) (if value_byte b then valued (sought boundary) room (bar (sought boundary) barred b) else Bad) v
    (λ e c. from_feed boundary room barred b w n s (eqb-true b 13 e) (spend_back boundary w room 1 FieldFeed c))
    (λ e u. from_test (Moves boundary w) (value_byte b) (valued (sought boundary) room (bar (sought boundary) barred b)) Bad u
    (λ d c. from_value boundary room barred b w s d (valued_back boundary room (bar (sought boundary) barred b) w c))
    (λ d c. absurd c))
  where
    from_feed : (boundary : List ℕ) (room : ℕ) (barred : Option ℕ) (b : ℕ) (w : List ℕ) → NoCr boundary → IsShort (sought boundary) barred → b ≡ 13 → (1 + 1 ≤ room) × Completes boundary (FieldFeed (room - 1)) w → Completes boundary (Value room barred) (b ∷ w)
    from_feed boundary room barred b w n s cr (l, (lines, each, fits, p)) =
        (crlf, ([], tt, refl, Avoids-crlf boundary barred n s), (lines, each, omega arith, ap₂ (λ y ys. y ∷ ys) cr p))

    from_value : (boundary : List ℕ) (room : ℕ) (barred : Option ℕ) (b : ℕ) (w : List ℕ) → IsShort (sought boundary) barred → IsTrue (value_byte b) → (1 ≤ room) × Completes boundary (Value (room - 1) (bar (sought boundary) barred b)) w → Completes boundary (Value room barred) (b ∷ w)
    from_value boundary room barred b w s plain (l, (x, (value, values, e, av), (lines, each, fits, p))) =
        (b ∷ x, (b ∷ value, (plain, values), ap (λ z. b ∷ z) e, bar_back boundary barred b x s av), (lines, each, omega arith, ap (λ z. b ∷ z) p))

pub feed_on : (boundary : List ℕ) (room b : ℕ) (w : List ℕ) → Completes boundary (FieldFeed room) (b ∷ w) → Moves boundary w (feed_step room b)
feed_on boundary room b w (lines, each, fits, p) =
    let h = cc_heads b 10 w (concat lines ++ crlf) p in
    by_test (Moves boundary w) (b == 10) (spend room 0 Line) Bad
    (λ d. spend_on boundary w room 0 Line (omega arith) (lines, each, omega arith, h.1))
    (λ d. absurd (eqb-false b 10 d h.0))

pub feed_back : (boundary : List ℕ) (room b : ℕ) (w : List ℕ) → Moves boundary w (feed_step room b) → Completes boundary (FieldFeed room) (b ∷ w)
feed_back boundary room b w v =
    from_test (Moves boundary w) (b == 10) (spend room 0 Line) Bad v
    (λ d c. from_line boundary room b w (eqb-true b 10 d) (spend_back boundary w room 0 Line c))
    (λ d c. absurd c)
  where
    from_line : (boundary : List ℕ) (room b : ℕ) (w : List ℕ) → b ≡ 10 → (0 + 1 ≤ room) × Completes boundary (Line (room - 1)) w → Completes boundary (FieldFeed room) (b ∷ w)
    from_line boundary room b w feed (l, (lines, each, fits, p)) = (lines, each, omega arith, ap₂ (λ y ys. y ∷ ys) feed p)

pub last_on : (boundary : List ℕ) (b : ℕ) (w : List ℕ) → Completes boundary LastFeed (b ∷ w) → Moves boundary w (if b == 10 then Whole else Bad)
last_on boundary b w e =
    let h = cc_heads b 10 w [] e in
    by_test (Moves boundary w) (b == 10) Whole Bad (λ d. h.1) (λ d. absurd (eqb-false b 10 d h.0))

pub last_back : (boundary : List ℕ) (b : ℕ) (w : List ℕ) → Moves boundary w (if b == 10 then Whole else Bad) → Completes boundary LastFeed (b ∷ w)
last_back boundary b w v =
    from_test (Moves boundary w) (b == 10) Whole Bad v
    (λ d c. ap₂ (λ y ys. y ∷ ys) (eqb-true b 10 d) c)
    (λ d c. absurd c)
