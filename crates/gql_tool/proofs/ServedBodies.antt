-- An input that is the body of a request.
use Rattle.std.proofs.Common.{◌≡◌, ◌≢◌, refl, sym, ap, ◌∙◌, subst, inl, inr, ℕ, arith, append-nil, List, [], ◌∷◌, ◌++◌, length, length-append, map, Option, None, Some, true, false}
use Rattle.std.specs.List.{AllByRecursion as Each}
use Rattle.gql_tree.specs.declared.Payload.{Payload}
use Rattle.gql_tree.specs.Forest.{Forest, region, outcome_value}
use Rattle.gql_tree.specs.Course.{Course, course}
use Rattle.gql_tree.specs.Payloads.{moments, next_of, payload_at, payloads_from}
use Rattle.gql_tree.specs.Inline.{inline_times, inline_payloads}
use Rattle.gql_payload.specs.PayloadText.{payload_text}
use Rattle.gql_multipart.specs.Body.{IsBoundary, Body}
use Rattle.gql_multipart.proofs.Frames.{dash_boundary, frame_is_body}
use Rattle.gql_merge.specs.declared.state.State.{State}
use Rattle.gql_merge.specs.Merging.{HasMerged}
use Rattle.gql_merge.specs.Same.{IsTypedState}
use Rattle.gql_tool.specs.declared.status.Status.{Status}
use Rattle.gql_tool.specs.declared.status.Status.TheVariants.{Done, ReadFault, WriteFault, NoMemory}
use Rattle.gql_tool.specs.Outcome.{Outcome}
use Rattle.gql_client.specs.Client.{Merges, Refuses}
use Rattle.gql_tool.specs.inner.Handed.{IsWritten}
use Rattle.gql_tool.specs.Local.{texts, body}
use Rattle.gql_tool.specs.inner.Servable.{IsReadBack, CanBeServed}
use Rattle.gql_tool.specs.LocalClient.{dash}
use Rattle.gql_tool.specs.Statuses.{IsOneOf, merged_statuses}
use Rattle.gql_tool.specs.Meets.{Meets, IsComplete, Ready}
use Rattle.gql_tool.specs.Words.{Form, ReplayForm}
use Rattle.gql_io.specs.Files.{Files}
use Rattle.gql_tool.specs.Replay.{HeardWays}
use Rattle.gql_tool.specs.Served.{IsBodyOf, IsServed, MergedWay}
use Rattle.gql_tool.proofs.Files.{Meets-more}
use Rattle.gql_tool.proofs.Bodies.{payload_lines, all_framable}
use Rattle.gql_tool.proofs.Executed.{merges_all, refuses_none, line_merged}
use Rattle.gql_tool.proofs.hero_lemmas.Served.{judged-served}

all_written : (ps : List Payload) → Each IsReadBack ps → Each IsWritten ps
all_written [] h = tt
all_written (p ∷ ps) h = ((λ sound shallow. h.0), all_written ps h.1)

module _ (f : Forest) (boundary input : List ℕ) (h : IsBodyOf f boundary input) where
  abbrev payloads : List Payload
  payloads = inline_payloads f

  abbrev co : Course
  co = course (inline_times f) f

  abbrev first : Payload
  first = payload_at co 0 (Some (outcome_value (region f).outcome)) (region f).faults (next_of co (moments co))

  abbrev later : List Payload
  later = payloads_from co (moments co)

  served : CanBeServed f
  served = judged-served h.vars h.schema h.tables h.document f h.request

  written : Each IsWritten payloads
  written = all_written payloads served.read_back

  merged : (s : State) → IsTypedState s → Merges boundary input s → HasMerged f s
  merged s typed merges =
      merges_all f served first later refl served.readable written h.fit s typed
      (subst (λ (b : List ℕ). Merges b (body f) s) h.is_dash (subst (λ (bytes : List ℕ). Merges boundary bytes s) h.is_body merges))

  not_refused : (front back : List ℕ) → input ≡ front ++ back → (s : State) (why : List ℕ) → Refuses boundary front s why → ⊥
  not_refused front back cut s why refuses =
      refuses_none f served first later refl payloads [] (sym (append-nil payloads)) served.readable written first later refl h.fit
      front back (sym cut ∙ h.is_body) s why (subst (λ (b : List ℕ). Refuses b front s why) h.is_dash refuses)

  is_whole : (contents : List (List ℕ)) × Body boundary input contents
  is_whole =
      let whole = frame_is_body (payload_text first) (map payload_text later) (all_framable (texts f) (payload_lines payloads) h.fit) in
      (texts f, subst (λ (b : List ℕ). Body b input (texts f)) (sym h.is_dash) (subst (λ (bytes : List ℕ). Body dash bytes (texts f)) (sym h.is_body) whole))

  -- nothing else is right but the line of the defined response
  merged_way : (o : Outcome) → HeardWays boundary input o → MergedWay f o
  merged_way o (inl (s, within, accepts, ends, (typed, is))) = (_, line_merged f s (merged s typed accepts.0), is)
  merged_way o (inr (inl (s, why, within, accepts, inl (none, because), tells))) = absurd (none is_whole.0 is_whole.1)
  merged_way o (inr (inl (s, why, within, accepts, inr (contents, whole, going, because), (typed, is)))) =
      absurd (let bad : true ≡ false = sym (merged s typed accepts.0).ended ∙ going in cc)
  merged_way o (inr (inr (inl (s, why, front, back, cut, within, refuses, tells)))) = absurd (not_refused front back cut s why refuses)
  merged_way o (inr (inr (inr (s, front, back, cut, full, more, accepts, is)))) = absurd (by_back back cut more)
    where
      by_back : (bs : List ℕ) → input ≡ front ++ bs → bs ≢ [] → ⊥
      by_back [] cut more = more refl
      by_back (b ∷ bs) cut more = omega (arith, ap length cut, length-append front (b ∷ bs), full, h.within)

-- an input that tells such a body
told : (f : Forest) (boundary : List ℕ) (input : Option (List ℕ)) → IsServed f boundary input → (bytes : List ℕ) × (input ≡ Some bytes) × IsBodyOf f boundary bytes
told f boundary None served = absurd served
told f boundary (Some bytes) served = (bytes, refl, served)

pub merges-heard : (f : Forest) (boundary : List ℕ) (input a b : Option (List ℕ)) (status : Status) → IsServed f boundary input → ((bytes : List ℕ) → input ≡ Some bytes → Meets (HeardWays boundary bytes) status a b)
    → Meets (MergedWay f) status a b
merges-heard f boundary input a b status served meets =
    let body_is = told f boundary input served in
    Meets-more (HeardWays boundary body_is.0) (MergedWay f) status a b (λ o right. merged_way f boundary body_is.0 body_is.2 o right) (meets body_is.0 body_is.1)

pub merges-boundary : (f : Forest) (boundary : List ℕ) (input a b : Option (List ℕ)) (status : Status) → IsServed f boundary input → (IsBoundary boundary → ⊥) → Meets (MergedWay f) status a b
merges-boundary f boundary input a b status served none =
    let body_is = told f boundary input served in
    absurd (none (subst IsBoundary (sym body_is.2.is_dash) dash_boundary))

-- where nothing outside fails
merges-complete : (f : Forest) (a b : Option (List ℕ)) (status : Status) → Meets (MergedWay f) status a b → ¬ (status ≡ ReadFault) → ¬ (status ≡ WriteFault) → IsOneOf merged_statuses status
merges-complete f a b ReadFault meets no_read no_write = absurd (no_read refl)
merges-complete f a b WriteFault meets no_read no_write = absurd (no_write refl)
merges-complete f a b NoMemory meets no_read no_write = refl
merges-complete f a b Done meets no_read no_write = refl
merges-complete f a b _ (o, way, is, sent) no_read no_write = subst (IsOneOf merged_statuses) (sym (is ∙ ap (λ (p : Outcome). p.status) way.2)) refl

pub replay-complete : (files : Option Files) (input a b : Option (List ℕ)) (form : Option Form) (boundary : List ℕ) (status : Status) → form ≡ Some (ReplayForm boundary)
    → ((f : Forest) → IsServed f boundary input → Meets (MergedWay f) status a b) → ¬ (status ≡ ReadFault) → ¬ (status ≡ WriteFault)
    → Ready files input form → IsComplete form status
replay-complete files input a b form boundary status is merges no_read no_write ready =
    let served = subst (Ready files input) is ready in
    subst (λ (o : Option Form). IsComplete o status) (sym is) (merges-complete served.0 a b status (merges served.0 served.1) no_read no_write)
