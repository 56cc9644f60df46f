-- What the command `replay` ends with is determined.
use Rattle.std.proofs.Common.{◌≡◌, ◌≢◌, refl, sym, ap, ◌∙◌, subst, inl, inr, arith, ℕ, ◌≤◌, List, [], ◌∷◌, ◌++◌, length, Option, None, Some, codes, length-append}
use Rattle.gql_multipart.specs.Body.{IsBoundary}
use Rattle.gql_merge.specs.declared.state.State.{State}
use Rattle.gql_merge.specs.Same.{SameState, IsTypedState}
use Rattle.gql_merge.proofs.Reports.{report_one}
use Rattle.gql_tool.specs.declared.status.Status.{Status}
use Rattle.gql_tool.specs.declared.status.Status.TheVariants.{Done, StreamRefused}
use Rattle.gql_tool.specs.Outcome.{Outcome}
use Rattle.gql_client.specs.Client.{Accepts}
use Rattle.gql_tool.specs.Replay.{budget, merged_line, lines_of, Tells, IsWhole, IsEndRefused, IsFrontRefused, IsPastBudget, HeardWays, ReplayWays}
use Rattle.gql_client.proofs.OneHearing.{merges_one, refused_not, refused_one, accepted_not, ends_one, end_not}

-- ---- what is written

-- an input that is heard whole has no bytes behind as many as are heard
past_not : (limit : ℕ) (input front back : List ℕ) → input ≡ front ++ back → length input ≤ limit → length front ≡ limit → back ≢ [] → ⊥
past_not limit input front [] e within whole some = some refl
past_not limit input front (x ∷ back) e within whole some = omega (arith, ap length e, length-append front (x ∷ back), within, whole)

merged_one : (s t : State) → SameState s t → IsTypedState s → IsTypedState t → merged_line s ≡ merged_line t
merged_one s t same a b = ap (λ (z : List ℕ). codes "merged " ++ (z ++ 10 ∷ [])) (report_one s t same a b)

lines_one : (why : Option (List ℕ)) (s t : State) → SameState s t → IsTypedState s → IsTypedState t → lines_of why s ≡ lines_of why t
lines_one None s t same a b = merged_one s t same a b
lines_one (Some why) s t same a b = ap (λ (z : List ℕ). codes "refused " ++ (why ++ 10 ∷ z)) (merged_one s t same a b)

tells_one : (status : Status) (why other : Option (List ℕ)) (s t : State) (a b : Outcome) → SameState s t → why ≡ other → Tells status why s a → Tells status other t b → a ≡ b
tells_one status why other s t a b same e (typed, is) (typed', is') =
    is
    ∙ (ap (λ (z : List ℕ). (let o : Outcome = record { status = status; bytes = z } in o)) (lines_one why s t same typed typed' ∙ ap (λ (z : Option (List ℕ)). lines_of z t) e)
    ∙ sym is')

module _ (boundary input : List ℕ) (valid : IsBoundary boundary) (a b : Outcome) where
  whole_refused : IsWhole boundary input a → IsEndRefused boundary input b → ⊥
  whole_refused (t, within, accepts, ends, tells) (u, why, within', accepts', refused, tells') =
      end_not boundary input t u (merges_one boundary valid input t u accepts.0 accepts'.0) why ends refused

  accepted_refused : (t : State) → Accepts boundary input t → IsFrontRefused boundary input b → ⊥
  accepted_refused t accepts (u, why, front, back, e, within, refused, tells) =
      refused_not boundary valid front back u t why refused (subst (λ (z : List ℕ). Accepts boundary z t) e accepts)

  within_past : length input ≤ budget → IsPastBudget boundary input b → ⊥
  within_past within (u, front, back, e, whole, some, accepts, is) = past_not budget input front back e within whole some

  front_past : IsFrontRefused boundary input a → IsPastBudget boundary input b → ⊥
  front_past (t, why, front, back, e, within, refused, tells) (u, other, behind, e', whole, some, accepts, is) =
      accepted_not boundary valid input front back other behind t u why e e' (subst (λ (n : ℕ). length front ≤ n) (sym whole) within) refused accepts

module _ (boundary input : List ℕ) (valid : IsBoundary boundary) (a b : Outcome) where
  heard_one : HeardWays boundary input a → HeardWays boundary input b → a ≡ b
  heard_one (inl (t, within, accepts, ends, tells)) (inl (u, within', accepts', ends', tells')) =
      tells_one Done None None t u a b (merges_one boundary valid input t u accepts.0 accepts'.0) refl tells tells'
  heard_one (inl h) (inr (inl k)) = absurd (whole_refused boundary input valid a b h k)
  heard_one (inl h) (inr (inr (inl k))) = absurd (accepted_refused boundary input valid a b h.0 h.2 k)
  heard_one (inl h) (inr (inr (inr k))) = absurd (within_past boundary input valid a b h.1 k)
  heard_one (inr (inl h)) (inl k) = absurd (whole_refused boundary input valid b a k h)
  heard_one (inr (inl (t, why, within, accepts, refused, tells))) (inr (inl (u, other, within', accepts', refused', tells'))) =
      let same = merges_one boundary valid input t u accepts.0 accepts'.0 in
      tells_one StreamRefused (Some why) (Some other) t u a b same (ap Some (ends_one boundary input t u same why other refused refused')) tells tells'
  heard_one (inr (inl h)) (inr (inr (inl k))) = absurd (accepted_refused boundary input valid a b h.0 h.3 k)
  heard_one (inr (inl h)) (inr (inr (inr k))) = absurd (within_past boundary input valid a b h.2 k)
  heard_one (inr (inr (inl h))) (inl k) = absurd (accepted_refused boundary input valid b a k.0 k.2 h)
  heard_one (inr (inr (inl h))) (inr (inl k)) = absurd (accepted_refused boundary input valid b a k.0 k.3 h)
  heard_one (inr (inr (inl (t, why, front, back, e, within, refused, tells)))) (inr (inr (inl (u, other, front', back', e', within', refused', tells')))) =
      let both = refused_one boundary valid input front back front' back' t u why other e e' refused refused' in
      tells_one StreamRefused (Some why) (Some other) t u a b both.0 (ap Some both.1) tells tells'
  heard_one (inr (inr (inl h))) (inr (inr (inr k))) = absurd (front_past boundary input valid a b h k)
  heard_one (inr (inr (inr h))) (inl k) = absurd (within_past boundary input valid b a k.1 h)
  heard_one (inr (inr (inr h))) (inr (inl k)) = absurd (within_past boundary input valid b a k.2 h)
  heard_one (inr (inr (inr h))) (inr (inr (inl k))) = absurd (front_past boundary input valid b a k h)
  heard_one (inr (inr (inr h))) (inr (inr (inr k))) = h.7 ∙ sym k.7

pub replayed_one : (boundary input : List ℕ) (a b : Outcome) → ReplayWays boundary input a → ReplayWays boundary input b → a ≡ b
replayed_one boundary input a b (inl (unfit, tells)) (inl (unfit', tells')) = tells.1 ∙ sym tells'.1
replayed_one boundary input a b (inl (unfit, tells)) (inr (valid, heard)) = absurd (unfit valid)
replayed_one boundary input a b (inr (valid, heard)) (inl (unfit, tells)) = absurd (unfit valid)
replayed_one boundary input a b (inr (valid, heard)) (inr (valid', heard')) = heard_one boundary input valid a b heard heard'
