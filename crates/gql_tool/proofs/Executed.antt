-- A request that is executed: what the client makes of its body, and the outcomes that are right.
use Rattle.std.proofs.Common.{◌≡◌, sym, ap, ◌∙◌, subst, inl, inr, ℕ, ◌≤◌, arith, append_assoc, append-nil, List, [], ◌∷◌, ◌++◌, length, length-append, map, None}
use Rattle.std.specs.Prelude.{take, drop, codes}
use Rattle.std.proofs.lemmas.List.{take-append-drop}
use Rattle.std.specs.List.{AllByRecursion as Each}
use Rattle.gql_tree.specs.declared.delivery.Payload.{Payload}
use Rattle.gql_tree.specs.Forest.{Forest}
use Rattle.gql_tree.specs.Numbering.{inline_order}
use Rattle.gql_tree.specs.Inline.{inline_times, inline_payloads}
use Rattle.gql_tree.specs.Lawful.{IsLawful}
use Rattle.gql_payload.specs.PayloadText.{payload_text}
use Rattle.gql_multipart.specs.Frame.{frame}
use Rattle.gql_multipart.specs.Body.{IsOpen}
use Rattle.gql_multipart.specs.Framed.{AreFirst, IsLine}
use Rattle.gql_multipart.proofs.Frames.{frame_is_body}
use Rattle.gql_multipart.proofs.Fronts.{front_open, front_parts}
use Rattle.gql_merge.specs.declared.state.State.{State}
use Rattle.gql_merge.specs.Apply.{fresh}
use Rattle.gql_merge.specs.Report.{report_with}
use Rattle.gql_merge.specs.Same.{IsTypedState}
use Rattle.gql_merge.specs.Merging.{SamePayloads, HasMerged}
use Rattle.gql_confluence.proofs.Confluent.{taken, merged, there}
use Rattle.gql_confluence.proofs.Orderly.{complete_is_lawful}
use Rattle.gql_client.specs.Client.{AreComplete, Follows, Merges, Refuses}
use Rattle.gql_tool.specs.inner.Handed.{IsWritten}
use Rattle.gql_tool.specs.inner.Servable.{IsReadable, CanBeServed}
use Rattle.gql_tool.specs.Local.{Fits, IsMergedLine}
use Rattle.gql_tool.specs.LocalClient.{dash}
use Rattle.gql_tool.specs.Replay.{merged_line}
use Rattle.gql_tool.proofs.Bodies.{payload_lines, all_framable, open_front}
use Rattle.gql_client.proofs.Understood.{AllRead, Follows-taken, Follows-refused, same_payloads, split_texts}

all_read : (ps : List Payload) → Each IsReadable ps → Each IsWritten ps → AllRead ps (map payload_text ps)
all_read [] readable written = tt
all_read (p ∷ ps) readable written = (written.0 readable.0.0 readable.0.1, all_read ps readable.1 written.1)

-- the first ones of payloads that are read
read-front : (ps qs : List Payload) → AllRead (ps ++ qs) (map payload_text (ps ++ qs)) → AllRead ps (map payload_text ps)
read-front [] qs reads = tt
read-front (p ∷ ps) qs reads = (reads.0, read-front ps qs reads.1)

none_more : (contents more texts : List (List ℕ)) → contents ++ more ≡ texts → length texts ≤ length contents → contents ≡ texts
none_more contents [] texts is long = sym (append-nil contents) ∙ is
none_more contents (m ∷ more) texts is long = absurd (omega (arith, ap length is, length-append contents (m ∷ more), long))

-- parts that are complete, or none
first_of : (t : List ℕ) (ts : List (List ℕ)) (front back : List ℕ) (contents : List (List ℕ)) → Each IsLine (t ∷ ts) → Each Fits (t ∷ ts) → front ++ back ≡ frame (t ∷ ts) → AreComplete dash front contents → AreFirst contents (t ∷ ts)
first_of t ts front back contents lines fit cut (inl none) = (t ∷ ts, ap (λ cs. cs ++ (t ∷ ts)) none)
first_of t ts front back contents lines fit cut (inr complete) = front_parts t ts front back contents (all_framable (t ∷ ts) lines fit) cut complete

-- ---- what a client makes of them

module _ (f : Forest) (served : CanBeServed f) (p : Payload) (ps : List Payload) (are : inline_payloads f ≡ p ∷ ps) where
  abbrev lawful : IsLawful f (inline_times f)
  lawful = complete_is_lawful f (inline_order f) served.well_formed served.complete

  abbrev whole : List ℕ
  whole = frame (map payload_text (p ∷ ps))

  -- of a body that it accepted it has the defined response, where its state is one that can exist
  pub merges_all : Each IsReadable (p ∷ ps) → Each IsWritten (p ∷ ps) → Each Fits (map payload_text (p ∷ ps)) → (t : State) → IsTypedState t → Merges dash whole t → HasMerged f t
  merges_all readable written fit t typed (contents, complete, all, follows) =
      let texts = map payload_text (p ∷ ps) in
      let lines = payload_lines (p ∷ ps) in
      let first = first_of (payload_text p) (map payload_text ps) whole [] contents lines fit (append-nil whole) complete in
      let body = frame_is_body (payload_text p) (map payload_text ps) (all_framable texts lines fit) in
      let every : length texts ≤ length contents = all texts (_, body.2) in
      let same : contents ≡ texts = none_more contents first.0 texts first.1 every in
      let heard = Follows-taken 0 (p ∷ ps) texts fresh t (all_read (p ∷ ps) readable written) (subst (λ (cs : List (List ℕ)). Follows 0 cs fresh t None) same follows) in
      merged f (inline_times f) served.well_formed lawful served.few heard.0 t (subst (λ xs. SamePayloads xs heard.0) (sym are) heard.1) heard.2 typed

  -- it refuses no front of it
  pub refuses_none : (before after : List Payload) → p ∷ ps ≡ before ++ after → Each IsReadable before → Each IsWritten before → (q : Payload) (qs : List Payload) → before ≡ q ∷ qs → Each Fits (map payload_text before)
      → (front back : List ℕ) → front ++ back ≡ frame (map payload_text before) → (t : State) (why : List ℕ) → Refuses dash front t why → ⊥
  refuses_none before after all readable written q qs some fit front back cut t why (inl (contents, complete, follows)) =
      let first = first_of (payload_text q) (map payload_text qs) front back contents (payload_lines (q ∷ qs)) (subst (λ xs. Each Fits (map payload_text xs)) some fit) (cut ∙ ap (λ xs. frame (map payload_text xs)) some) complete in
      let texts : contents ++ first.0 ≡ map payload_text before = first.1 ∙ ap (map payload_text) (sym some) in
      let split = split_texts payload_text before contents first.0 texts in
      let reads = read-front split.0 split.1 (subst (λ xs. AllRead xs (map payload_text xs)) split.2 (all_read before readable written)) in
      let refused = Follows-refused 0 split.0 (split.1 ++ after) contents fresh t why (subst (AllRead split.0) (sym split.3) reads) follows in
      let same : split.0 ++ (split.1 ++ after) ≡ inline_payloads f = sym (append_assoc split.0 split.1 after) ∙ (ap (λ xs. xs ++ after) (sym split.2) ∙ (sym all ∙ sym are)) in
      taken f (inline_times f) served.well_formed lawful served.few refused.0 refused.1 refused.2 (subst (λ xs. SamePayloads xs (refused.0 ++ refused.1)) same refused.3) refused.4
  refuses_none before after all readable written q qs some fit front back cut t why (inr (merges, (kind, byte, shut, where_it_is, is))) =
      let is_open = front_open (payload_text q) (map payload_text qs) front back (all_framable (map payload_text (q ∷ qs)) (payload_lines (q ∷ qs)) (subst (λ xs. Each Fits (map payload_text xs)) some fit)) (cut ∙ ap (λ xs. frame (map payload_text xs)) some) in
      shut.shut (open_front dash (take byte front) (drop byte front) (subst (IsOpen dash) (sym (take-append-drop byte front)) is_open))

-- there is a client that has the defined response
pub response_there : (f : Forest) → CanBeServed f → (t : State) × HasMerged f t
response_there f served =
    let lawful = complete_is_lawful f (inline_order f) served.well_formed served.complete in
    let heard = there f (inline_times f) served.well_formed lawful served.few (inline_payloads f) (same_payloads (inline_payloads f)) served.typed in
    (heard.0, heard.2)

-- the line that reports a state is that of the defined response
pub line_merged : (f : Forest) (t : State) → HasMerged f t → IsMergedLine f (merged_line t)
line_merged f t has = record {
  value = has.value;
  errors = t.errors;
  failures = t.failures;
  merged = has.merged;
  is_line = ap (λ o. codes "merged " ++ (report_with o t.errors t.failures ++ 10 ∷ [])) has.is_value;
}
