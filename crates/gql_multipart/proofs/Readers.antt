-- Readers of texts: each reads exactly the whole texts of a relation, asks for more exactly where such
-- a text goes on, and refuses at the first byte with which none does. Two of them in a row are one.
use Rattle.std.proofs.Common.{◌≡◌, ℕ, suc, ◌+◌, ◌⊎◌, inl, inr, List, ◌∷◌, ◌++◌, length, Result, Ok, Err, refl, sym, ap, ◌∙◌, subst, arith, append_assoc, length-append, drop_at}
use Rattle.gql_multipart.specs.declared.refusal.FrameKind.{FrameKind}
use Rattle.gql_multipart.specs.declared.place.Place.{Place}
use Rattle.gql_multipart.specs.declared.read.Stop.{Stop}
use Rattle.gql_multipart.specs.declared.read.Stop.TheVariants.{More, Ended, Refused}
use Rattle.gql_multipart.specs.Regions.{Inside}
use Rattle.gql_multipart.specs.inner.Reading.{scan, region, ◌>>=◌}
use Rattle.gql_multipart.proofs.Lists.{NoCr}
use Rattle.gql_multipart.proofs.Places.{sought, Completes}
use Rattle.gql_multipart.proofs.Scans.{Alive, ScanTold, scan_reads, scan_told, scan_inside}

-- a reader of the bytes from a place on
abbrev pub Reader : Type 0 → Type 0
Reader A = List ℕ → ℕ → Result A Stop

-- What a result says of the bytes w, of which `length pre` stand before: W has the whole texts with what
-- is made of each, E the texts that end all, and R the kind of the region in which the byte behind a text stands.
abbrev pub Told : {A : Type 0} → Reader A → (ℕ → List ℕ → A → Type 0) → (List ℕ → Type 0) → (FrameKind → List ℕ → Type 0) → List ℕ → List ℕ → Result A Stop → Type 0
Told f W E R pre w (Ok r) = (a c : List ℕ) × (w ≡ a ++ c) × W (length pre) a r
Told {A} f W E R pre w (Err More) = (x : List ℕ) × (((r : A) × W (length pre) (w ++ x) r) ⊎ E (w ++ x))
Told f W E R pre w (Err Ended) = (a c : List ℕ) × (w ≡ a ++ c) × E a
Told f W E R pre w (Err (Refused kind k)) = (a : List ℕ) × (b : ℕ) × (c : List ℕ)
    × (w ≡ a ++ (b ∷ c))
    × (k ≡ length pre + suc (length a))
    × R kind a
    × (f (pre ++ a) (length pre) ≡ Err More)
    × ((x : List ℕ) → f (pre ++ (a ++ (b ∷ x))) (length pre) ≡ Err (Refused kind k))

pub record Reads {A : Type 0} (f : Reader A) (W : ℕ → List ℕ → A → Type 0) (E : List ℕ → Type 0) (R : FrameKind → List ℕ → Type 0) : Type 0 where
  pub reads : (pre a c : List ℕ) (r : A) → W (length pre) a r → f (pre ++ (a ++ c)) (length pre) ≡ Ok r
  pub ends : (pre a c : List ℕ) → E a → f (pre ++ (a ++ c)) (length pre) ≡ Err Ended
  pub tells : (pre w : List ℕ) → Told f W E R pre w (f (pre ++ w) (length pre))

-- a text of L, and where it ends
abbrev pub EndOf : (List ℕ → Type 0) → ℕ → List ℕ → ℕ → Type 0
EndOf L n a k = (k ≡ n + length a) × L a

abbrev pub Nothing : List ℕ → Type 0
Nothing a = ⊥

-- ---- one region

region_is : (m : List ℕ) (kind : FrameKind) (place : Place) (pre w : List ℕ) → region m kind place (pre ++ w) (length pre) ≡ scan m kind place (length pre) w
region_is m kind place pre w = ap (λ z. scan m kind place (length pre) z) (drop_at pre w (length pre) refl)

abbrev pub Within : FrameKind → (List ℕ → Type 0) → FrameKind → List ℕ → Type 0
Within kind L kind' a = (kind' ≡ kind) × Inside L a

module _ (boundary : List ℕ) (q : NoCr boundary) (kind : FrameKind) (place : Place) (alive : Alive boundary place) where
  region_told : (pre w : List ℕ) (r : Result ℕ Stop) → ScanTold boundary kind place (length pre) w r → Told (region (sought boundary) kind place) (EndOf (Completes boundary place)) Nothing (Within kind (Completes boundary place)) pre w r
  region_told pre w (Ok k) (a, c, cut, count, h) = (a, c, cut, (count, h))
  region_told pre w (Err More) (x, h) = (x, inl (length pre + length (w ++ x), (refl, h)))
  region_told pre w (Err Ended) h = absurd h
  region_told pre w (Err (Refused kind' k)) (a, b, c, cut, count, kinds, before, behind) = (
    a,
    b,
    c,
    cut,
    count,
    (kinds, scan_inside boundary q kind place (length pre) a alive before),
    region_is (sought boundary) kind place pre a ∙ before,
    (λ x. region_is (sought boundary) kind place pre (a ++ (b ∷ x)) ∙ behind x),
  )

  pub region_reads : Reads (region (sought boundary) kind place) (EndOf (Completes boundary place)) Nothing (Within kind (Completes boundary place))
  region_reads = record {
    reads = λ pre a c r h. region_is (sought boundary) kind place pre (a ++ c) ∙ (scan_reads boundary q kind place (length pre) a c alive h.1 ∙ ap (λ i. Ok i) (sym h.0));
    ends = λ pre a c h. absurd h;
    tells = λ pre w. subst (Told (region (sought boundary) kind place) (EndOf (Completes boundary place)) Nothing (Within kind (Completes boundary place)) pre w) (sym (region_is (sought boundary) kind place pre w)) (region_told pre w (scan (sought boundary) kind place (length pre) w) (scan_told boundary q kind place (length pre) w alive));
  }

-- ---- two readers in a row

abbrev pub in_row : {A : Type 0} → Reader ℕ → Reader A → Reader A
in_row f g bytes at = f bytes at >>= (λ k. g bytes k)

abbrev pub RowWhole : {A : Type 0} → (List ℕ → Type 0) → (ℕ → List ℕ → A → Type 0) → ℕ → List ℕ → A → Type 0
RowWhole L W n a r = (x y : List ℕ) × (a ≡ x ++ y) × L x × W (n + length x) y r

abbrev pub RowEnd : (List ℕ → Type 0) → (List ℕ → Type 0) → (List ℕ → Type 0) → List ℕ → Type 0
RowEnd E L F a = E a ⊎ ((x y : List ℕ) × (a ≡ x ++ y) × L x × F y)

abbrev pub RowWithin : (FrameKind → List ℕ → Type 0) → (List ℕ → Type 0) → (FrameKind → List ℕ → Type 0) → FrameKind → List ℕ → Type 0
RowWithin Q L R kind a = Q kind a ⊎ ((x y : List ℕ) × (a ≡ x ++ y) × L x × R kind y)

module _ {A : Type 0} (f : Reader ℕ) (L E : List ℕ → Type 0) (Q : FrameKind → List ℕ → Type 0) (g : Reader A) (W : ℕ → List ℕ → A → Type 0) (F : List ℕ → Type 0) (R : FrameKind → List ℕ → Type 0) (hf : Reads f (EndOf L) E Q) (hg : Reads g W F R) (some : (n : ℕ) → (y : List ℕ) × (r : A) × W n y r) where
  abbrev RowTold : List ℕ → List ℕ → Result A Stop → Type 0
  RowTold pre w r = Told (in_row f g) (RowWhole L W) (RowEnd E L F) (RowWithin Q L R) pre w r

  -- the second reader goes on where the first has ended
  goes_on : (pre x z : List ℕ) → L x → in_row f g (pre ++ (x ++ z)) (length pre) ≡ g ((pre ++ x) ++ z) (length (pre ++ x))
  goes_on pre x z l =
      ap (λ r. r >>= (λ k. g (pre ++ (x ++ z)) k)) (hf.reads pre x z (length pre + length x) (refl, l))
      ∙ (ap (λ k. g (pre ++ (x ++ z)) k) (sym (length-append pre x)) ∙ ap (λ bytes. g bytes (length (pre ++ x))) (sym (append_assoc pre x z)))

  row_whole : (pre a c : List ℕ) (r : A) → RowWhole L W (length pre) a r → in_row f g (pre ++ (a ++ c)) (length pre) ≡ Ok r
  row_whole pre a c r (x, y, cut, l, w) =
      ap (λ z. in_row f g (pre ++ z) (length pre)) (ap (λ z. z ++ c) cut ∙ append_assoc x y c)
      ∙ (goes_on pre x (y ++ c) l ∙ hg.reads (pre ++ x) y c r (subst (λ n. W n y r) (sym (length-append pre x)) w))

  row_end : (pre a c : List ℕ) → RowEnd E L F a → in_row f g (pre ++ (a ++ c)) (length pre) ≡ Err Ended
  row_end pre a c (inl e) = ap (λ r. r >>= (λ k. g (pre ++ (a ++ c)) k)) (hf.ends pre a c e)
  row_end pre a c (inr (x, y, cut, l, e)) =
      ap (λ z. in_row f g (pre ++ z) (length pre)) (ap (λ z. z ++ c) cut ∙ append_assoc x y c)
      ∙ (goes_on pre x (y ++ c) l ∙ hg.ends (pre ++ x) y c e)

  second : (pre x c : List ℕ) → L x → (r : Result A Stop) → Told g W F R (pre ++ x) c r → RowTold pre (x ++ c) r
  second pre x c l (Ok r) (a, d, cut, w) =
      (x ++ a, d, ap (λ z. x ++ z) cut ∙ sym (append_assoc x a d), (x, a, refl, l, subst (λ n. W n a r) (length-append pre x) w))
  second pre x c l (Err More) (z, inl (r, w)) = (z, inl (r, (x, c ++ z, append_assoc x c z, l, subst (λ n. W n (c ++ z) r) (length-append pre x) w)))
  second pre x c l (Err More) (z, inr e) = (z, inr (inr (x, c ++ z, append_assoc x c z, l, e)))
  second pre x c l (Err Ended) (a, d, cut, e) = (x ++ a, d, ap (λ z. x ++ z) cut ∙ sym (append_assoc x a d), inr (x, a, refl, l, e))
  second pre x c l (Err (Refused kind k)) (a, b, d, cut, count, r, before, behind) = (
    x ++ a,
    b,
    d,
    ap (λ z. x ++ z) cut ∙ sym (append_assoc x a (b ∷ d)),
    count ∙ omega (arith, length-append pre x, length-append x a),
    inr (x, a, refl, l, r),
    goes_on pre x a l ∙ before,
    (λ z. ap (λ y. in_row f g (pre ++ y) (length pre)) (append_assoc x a (b ∷ z)) ∙ (goes_on pre x (a ++ (b ∷ z)) l ∙ behind z)),
  )

  -- what the first one's stop says of both
  stopped : (pre w : List ℕ) (s : Stop) → Told f (EndOf L) E Q pre w (Err s) → RowTold pre w (Err s)
  stopped pre w More (x, inl (k, (end, l))) =
      let more = some (length pre + length (w ++ x)) in
      (x ++ more.0, inl (more.1, (w ++ x, more.0, sym (append_assoc w x more.0), l, more.2)))
  stopped pre w More (x, inr e) = (x, inr (inl e))
  stopped pre w Ended (a, c, cut, e) = (a, c, cut, inl e)
  stopped pre w (Refused kind k) (a, b, c, cut, count, r, before, behind) = (
    a,
    b,
    c,
    cut,
    count,
    inl r,
    ap (λ s. s >>= (λ k. g (pre ++ a) k)) before,
    (λ x. ap (λ s. s >>= (λ k. g (pre ++ (a ++ (b ∷ x))) k)) (behind x)),
  )

  first : (pre w : List ℕ) (s : Result ℕ Stop) → f (pre ++ w) (length pre) ≡ s → Told f (EndOf L) E Q pre w s → RowTold pre w (in_row f g (pre ++ w) (length pre))
  first pre w (Ok k) e (x, c, cut, (end, l)) =
      let there : RowTold pre (x ++ c) (in_row f g (pre ++ (x ++ c)) (length pre)) = subst (RowTold pre (x ++ c)) (sym (goes_on pre x c l)) (second pre x c l (g ((pre ++ x) ++ c) (length (pre ++ x))) (hg.tells (pre ++ x) c)) in
      subst (λ z. RowTold pre z (in_row f g (pre ++ z) (length pre))) (sym cut) there
  first pre w (Err s) e t = subst (RowTold pre w) (sym (ap (λ s. s >>= (λ k. g (pre ++ w) k)) e)) (stopped pre w s t)

  pub row_reads : Reads (in_row f g) (RowWhole L W) (RowEnd E L F) (RowWithin Q L R)
  row_reads = record { reads = row_whole; ends = row_end; tells = λ pre w. first pre w (f (pre ++ w) (length pre)) refl (hf.tells pre w) }
