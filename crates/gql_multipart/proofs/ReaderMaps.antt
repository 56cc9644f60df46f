-- Readers whose results are changed, and whose relations are put in other words.
use Rattle.std.proofs.Common.{◌≡◌, ℕ, inl, inr, List, ◌++◌, length, Result, Ok, Err, refl, sym, ap, ◌∙◌, subst}
use Rattle.gql_multipart.specs.declared.refusal.FrameKind.{FrameKind}
use Rattle.gql_multipart.specs.declared.read.Stop.{Stop}
use Rattle.gql_multipart.specs.declared.read.Stop.TheVariants.{More, Ended, Refused}
use Rattle.gql_multipart.specs.inner.Reading.{◌>>=◌}
use Rattle.gql_multipart.proofs.Readers.{Reader, Told, Reads}

module _ {A B : Type 0} (f : Reader A) (W : ℕ → List ℕ → A → Type 0) (E : List ℕ → Type 0) (R : FrameKind → List ℕ → Type 0) (h : ℕ → A → B) (hf : Reads f W E R) where
  -- the result, and what h makes of it where it began
  abbrev pub mapped : Reader B
  mapped bytes at = f bytes at >>= (λ r. Ok (h at r))

  abbrev pub MapWhole : ℕ → List ℕ → B → Type 0
  MapWhole n a r = (s : A) × W n a s × (r ≡ h n s)

  map_told : (pre w : List ℕ) (s : Result A Stop) → f (pre ++ w) (length pre) ≡ s → Told f W E R pre w s → Told mapped MapWhole E R pre w (mapped (pre ++ w) (length pre))
  map_told pre w s e t = subst (Told mapped MapWhole E R pre w) (sym (ap (λ s. s >>= (λ r. Ok (h (length pre) r))) e)) (by_result pre w s t)
    where
      by_result : (pre w : List ℕ) (s : Result A Stop) → Told f W E R pre w s → Told mapped MapWhole E R pre w (s >>= (λ r. Ok (h (length pre) r)))
      by_result pre w (Ok r) (a, c, cut, v) = (a, c, cut, (r, v, refl))
      by_result pre w (Err More) (x, inl (r, v)) = (x, inl (h (length pre) r, (r, v, refl)))
      by_result pre w (Err More) (x, inr v) = (x, inr v)
      by_result pre w (Err Ended) t = t
      by_result pre w (Err (Refused kind k)) (a, b, c, cut, count, r, before, behind) =
          (a, b, c, cut, count, r, ap (λ s. s >>= (λ r. Ok (h (length pre) r))) before, (λ x. ap (λ s. s >>= (λ r. Ok (h (length pre) r))) (behind x)))

  pub map_reads : Reads mapped MapWhole E R
  map_reads = record {
    reads = λ pre a c r v. ap (λ s. s >>= (λ r. Ok (h (length pre) r))) (hf.reads pre a c v.0 v.1) ∙ ap (λ x. Ok x) (sym v.2);
    ends = λ pre a c v. ap (λ s. s >>= (λ r. Ok (h (length pre) r))) (hf.ends pre a c v);
    tells = λ pre w. map_told pre w (f (pre ++ w) (length pre)) refl (hf.tells pre w);
  }

module _ {A : Type 0} (f : Reader A) (W V : ℕ → List ℕ → A → Type 0) (E F : List ℕ → Type 0) (R Q : FrameKind → List ℕ → Type 0) where
  words_told : ((n : ℕ) (a : List ℕ) (r : A) → W n a r → V n a r) → ((a : List ℕ) → E a → F a) → ((kind : FrameKind) (a : List ℕ) → R kind a → Q kind a) → (pre w : List ℕ) (s : Result A Stop) → Told f W E R pre w s → Told f V F Q pre w s
  words_told v e q pre w (Ok r) (a, c, cut, t) = (a, c, cut, v (length pre) a r t)
  words_told v e q pre w (Err More) (x, inl (r, t)) = (x, inl (r, v (length pre) (w ++ x) r t))
  words_told v e q pre w (Err More) (x, inr t) = (x, inr (e (w ++ x) t))
  words_told v e q pre w (Err Ended) (a, c, cut, t) = (a, c, cut, e a t)
  words_told v e q pre w (Err (Refused kind k)) (a, b, c, cut, count, r, before, behind) = (a, b, c, cut, count, q kind a r, before, behind)

  -- the same reader in other words
  pub in_words : Reads f W E R → ((n : ℕ) (a : List ℕ) (r : A) → W n a r → V n a r) → ((n : ℕ) (a : List ℕ) (r : A) → V n a r → W n a r) → ((a : List ℕ) → E a → F a) → ((a : List ℕ) → F a → E a) → ((kind : FrameKind) (a : List ℕ) → R kind a → Q kind a) → Reads f V F Q
  in_words hf v v' e e' q = record {
    reads = λ pre a c r t. hf.reads pre a c r (v' (length pre) a r t);
    ends = λ pre a c t. hf.ends pre a c (e' a t);
    tells = λ pre w. words_told v e q pre w (f (pre ++ w) (length pre)) (hf.tells pre w);
  }
