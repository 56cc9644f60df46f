-- The tokens of a text are slices of it, one behind another, and what is refused stands behind them.
use Rattle.std.proofs.Common.{◌≡◌, ◌≢◌, refl, sym, ap, subst, ◌∙◌, ℕ, ◌<◌, ◌≤◌, List, [], ◌∷◌, ◌++◌, length, take, drop, append_assoc, length-append, arith, Option, Some, None, Ok, Err}
use Rattle.std.specs.List.{AllByRecursion as Each}
use Rattle.std.proofs.lemmas.List.{take-append-drop, length-take-le}
use Rattle.gql_tree.specs.declared.Spot.{Spot}
use Rattle.gql_lex.specs.Places.{spot_at}
use Rattle.gql_lex.specs.TokenPlaces.{IsSliceOf, end_of, RiseFrom, end_of_all, place_of, IsRefusedIn}
use Rattle.gql_lex.specs.Front.{front}
use Rattle.gql_lex.specs.declared.scan.Found.{Found}
use Rattle.gql_lex.specs.declared.scan.Found.TheVariants.{Token, Wrong}
use Rattle.gql_lex.specs.declared.scan.Fault.{Fault}
use Rattle.gql_lex.specs.declared.scan.Fault.TheVariants as fault
use Rattle.gql_lex.specs.declared.refusal.LexRefusal.{LexRefusal}
use Rattle.gql_lex.specs.Tokens.{Lexeme, End, Refused, refusal, Lexes, blanks, answer_by, next_of, done_with}
use Rattle.gql_lex.proofs.Answers.{take-split}
use Rattle.gql_lex.proofs.Lexing.{is_next}

-- what is given of a token's place
record IsPlaced (passed here : List ℕ) (token : Lexeme) : Type 0 where
  pub start : token.start ≡ length passed
  pub spot : token.spot ≡ spot_at passed here

placed : (passed here : List ℕ) (found : Option Found) (token : Lexeme) → answer_by passed here found ≡ Ok (Some token) → IsPlaced passed here token
placed passed here None token is = absurd (cc)
placed passed here (Some (Wrong fault inside)) token is = absurd (cc)
placed passed here (Some (Token kind len)) token is =
    let made : Lexeme = record { kind = kind; text = take len here; start = length passed; spot = spot_at passed here } in
    let same : made ≡ token = cc in
    record { start = sym (ap (λ (t : Lexeme). t.start) same); spot = sym (ap (λ (t : Lexeme). t.spot) same) }

no_bytes : (xs : List ℕ) → 0 < length xs → xs ≢ []
no_bytes xs some is = (let none = ap length is in omega (arith, some, none))

-- a text, cut behind some more bytes
cut : (text passed rest : List ℕ) (n : ℕ) → passed ++ rest ≡ text → (passed ++ take n rest) ++ drop n rest ≡ text
cut text passed rest n whole = append_assoc passed (take n rest) (drop n rest) ∙ (ap (λ (xs : List ℕ). passed ++ xs) (take-append-drop n rest) ∙ whole)

-- the next token is a slice, behind what is passed, and then its end is passed
record IsNextSlice (text passed rest : List ℕ) (token : Lexeme) : Type 0 where
  pub slice : IsSliceOf text token
  pub rises : length passed ≤ token.start
  pub ends : end_of token ≡ length (passed ++ take (done_with rest) rest)

next_slice : (text passed rest : List ℕ) (token : Lexeme) → passed ++ rest ≡ text → next_of passed rest ≡ Ok (Some token) → IsNextSlice text passed rest token
next_slice text passed rest token whole is =
    let count = blanks rest in
    let before = passed ++ take count rest in
    let here = drop count rest in
    let next = is_next passed rest token is in
    let len = next.len in
    let at = placed before here (front here) token is in
    let both : token.text ++ drop len here ≡ here = ap (λ (xs : List ℕ). xs ++ drop len here) next.text ∙ take-append-drop len here in
    let long : length token.text ≡ len = ap length next.text ∙ length-take-le len here next.sound.fits in
    let done : passed ++ take (done_with rest) rest ≡ before ++ take len here =
    ap (λ n. passed ++ take n rest) next.done ∙ ap (λ (xs : List ℕ). passed ++ xs) (take-split count len rest) ∙ sym (append_assoc passed (take count rest) (take len here)) in
    let counted = ap length done ∙ length-append before (take len here) in
    let taken = length-take-le len here next.sound.fits in
    let start = at.start in
    let front_long = length-append passed (take count rest) in
    record {
      slice = record {
        before = before;
        behind = drop len here;
        whole = sym (cut text passed rest count whole) ∙ ap (λ (xs : List ℕ). before ++ xs) (sym both);
        some = no_bytes token.text (let some = next.sound.some in omega (arith, long, some));
        start = start;
        spot = at.spot ∙ ap (spot_at before) (sym both);
      };
      rises = omega (arith, start, front_long);
      ends = omega (arith, counted, taken, start, long);
    }

slices_from : (text passed rest : List ℕ) (tokens : List Lexeme) (end : End) → passed ++ rest ≡ text → Lexes passed rest tokens end → Each (IsSliceOf text) tokens
slices_from text passed rest [] end whole lexes = tt
slices_from text passed rest (token ∷ tokens) end whole lexes = (
  (next_slice text passed rest token whole lexes.0).slice,
  slices_from text (passed ++ take (done_with rest) rest) (drop (done_with rest) rest) tokens end (cut text passed rest (done_with rest) whole) lexes.1,
)

-- the tokens of a text are slices of it
pub tokens-slices : (text : List ℕ) (tokens : List Lexeme) (end : End) → Lexes [] text tokens end → Each (IsSliceOf text) tokens
tokens-slices text tokens end lexes = slices_from text [] text tokens end refl lexes

rise_from : (passed rest : List ℕ) (tokens : List Lexeme) (end : End) → Lexes passed rest tokens end → RiseFrom (length passed) tokens
rise_from passed rest [] end lexes = tt
rise_from passed rest (token ∷ tokens) end lexes =
    let next = next_slice (passed ++ rest) passed rest token refl lexes.0 in
    let more = rise_from (passed ++ take (done_with rest) rest) (drop (done_with rest) rest) tokens end lexes.1 in
    (next.rises, subst (λ n. RiseFrom n tokens) (sym next.ends) more)

-- each starts behind the one before it
pub tokens-rise : (text : List ℕ) (tokens : List Lexeme) (end : End) → Lexes [] text tokens end → RiseFrom 0 tokens
tokens-rise text tokens end lexes = rise_from [] text tokens end lexes

-- ---- refusals

refusal-place : (fault : Fault) (spot : Spot) → place_of (refusal fault spot) ≡ spot
refusal-place fault.Character spot = refl
refusal-place fault.Escape spot = refl
refusal-place fault.Open spot = refl
refusal-place fault.Number spot = refl
refusal-place fault.Float spot = refl

refused_at : (passed here : List ℕ) (found : Option Found) (why : LexRefusal) → answer_by passed here found ≡ Err why → IsRefusedIn (passed ++ here) (length passed) why
refused_at passed here None why is = absurd (cc)
refused_at passed here (Some (Token kind len)) why is = absurd (cc)
refused_at passed here (Some (Wrong fault inside)) why is =
    let spot = spot_at (passed ++ take inside here) (drop inside here) in
    let same : refusal fault spot ≡ why = cc in
    record {
      before = passed ++ take inside here;
      here = drop inside here;
      whole = sym (cut (passed ++ here) passed here inside refl);
      behind = omega (arith, length-append passed (take inside here));
      spot = sym (ap place_of same) ∙ refusal-place fault spot;
    }

refused_from : (text passed rest : List ℕ) (tokens : List Lexeme) (why : LexRefusal) → passed ++ rest ≡ text → Lexes passed rest tokens (Refused why) → IsRefusedIn text (end_of_all (length passed) tokens) why
refused_from text passed rest [] why whole lexes =
    let count = blanks rest in
    let before = passed ++ take count rest in
    let at = refused_at before (drop count rest) (front (drop count rest)) why lexes in
    let behind = at.behind in
    record {
      before = at.before;
      here = at.here;
      whole = sym (cut text passed rest count whole) ∙ at.whole;
      behind = omega (arith, behind, length-append passed (take count rest));
      spot = at.spot;
    }
refused_from text passed rest (token ∷ tokens) why whole lexes =
    let next = next_slice text passed rest token whole lexes.0 in
    let more = refused_from text (passed ++ take (done_with rest) rest) (drop (done_with rest) rest) tokens why (cut text passed rest (done_with rest) whole) lexes.1 in
    subst (λ n. IsRefusedIn text (end_of_all n tokens) why) (sym next.ends) more

-- a refusal's place stands behind the tokens
pub tokens-refused : (text : List ℕ) (tokens : List Lexeme) (why : LexRefusal) → Lexes [] text tokens (Refused why) → IsRefusedIn text (end_of_all 0 tokens) why
tokens-refused text tokens why lexes = refused_from text [] text tokens why refl lexes
