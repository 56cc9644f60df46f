-- How a request that is executed ends: what is written, and what the client is.
use Rattle.std.proofs.Common.{◌≡◌, refl, sym, ap, ◌∙◌, subst, inl, inr, ℕ, ◌<◌, append_assoc, append-nil, zero-add, List, [], ◌∷◌, ◌++◌, length, map, Option, Some, Result, Ok, Err}
use Rattle.std.specs.Prelude.{◌⊎◌}
use Rattle.std.specs.List.{AllByRecursion as Each}
use Rattle.std.specs.Result.{IsErrAnd}
use Rattle.std.proofs.lemmas.List.{map-append}
use Rattle.std.specs.Io.KnownBytes.{Appends, Keeps}
use Rattle.std.proofs.KnownBytes.{Appends-trans, Appends-kept}
use Rattle.gql_io.specs.Told.{AppendsPrefix}
use Rattle.gql_io.proofs.Told.{Prefix-after, Prefix-within}
use Rattle.gql_tree.specs.declared.Payload.{Payload}
use Rattle.gql_tree.specs.Forest.{Forest, region, outcome_value}
use Rattle.gql_tree.specs.Course.{Course, course}
use Rattle.gql_tree.specs.Payloads.{moments, next_of, payload_at, payloads_from}
use Rattle.gql_tree.specs.Inline.{inline_times, inline_payloads}
use Rattle.gql_payload.specs.PayloadText.{payload_text}
use Rattle.gql_multipart.specs.Frame.{frame}
use Rattle.gql_merge.specs.Merging.{HasMerged}
use Rattle.gql_merge.specs.Same.{IsTypedState}
use Rattle.gql_tool.specs.declared.status.Status.{Status}
use Rattle.gql_tool.specs.declared.status.Status.TheVariants.{Done, WriteFault, NoMemory, StreamRefused}
use Rattle.gql_client.specs.declared.client.Client.{Client}
use Rattle.gql_client.specs.Client.{counted}
use Rattle.gql_client.specs.Heard.{nothing_heard, IsRefused}
use Rattle.gql_multipart.specs.Framed.{so_far}
use Rattle.gql_tool.specs.inner.Handed.{Goes, HearsFront, Reached, Stopped, HandedAll, PutsLine}
use Rattle.gql_tool.specs.Judged.{Executed}
use Rattle.gql_tool.specs.inner.Servable.{IsReadable, CanBeServed}
use Rattle.gql_tool.specs.Local.{part_limit, Fits, texts, body, IsMergedLine, up_to, Answered}
use Rattle.gql_tool.specs.LocalClient.{dash, IsNew, StandsFor, TookBody, TookFront, RefusedBody, ClientEnds}
use Rattle.gql_tool.specs.Meets.{Meets, Front}
use Rattle.gql_tool.specs.inner.Steps.{ended}
use Rattle.gql_tool.specs.Outcome.{Outcome}
use Rattle.gql_tool.specs.Replay.{merged_line}
use Rattle.gql_tool.proofs.Bodies.{TooLong as TooLongIn, all_fit_or, payload_lines, so_far_fits, frame_fits, fits_or, each-snoc, each-front, each-join, up_to-frame, up_to-later, up_to-single, snoc, some_first}
use Rattle.gql_tool.proofs.Executed.{merges_all, refuses_none, response_there, line_merged}
use Rattle.gql_tool.proofs.Sent.{Prefix-all}

-- a limit that is passed by no text that fits
apart : (text : List ℕ) → Fits text ⊎ (part_limit < length text) → (Fits text → ⊥) → part_limit < length text
apart text (inl fits) none = absurd (none fits)
apart text (inr long) none = long

module _ (f : Forest) (served : CanBeServed f) where
  abbrev payloads : List Payload
  payloads = inline_payloads f

  abbrev co : Course
  co = course (inline_times f) f

  abbrev first : Payload
  first = payload_at co 0 (Some (outcome_value (region f).outcome)) (region f).faults (next_of co (moments co))

  abbrev later : List Payload
  later = payloads_from co (moments co)

  abbrev Asked : Forest → Type 0
  Asked g = g ≡ f

  -- ---- right outcomes

  delivered_way : Each Fits (texts f) → (line : List ℕ) → IsMergedLine f line → Answered (Executed f) (record { status = Done; bytes = body f ++ line })
  delivered_way fit line merged = inl (record { fit = fit; line = line; is_merged = merged; is = refl })

  cut_off_way : (before : List (List ℕ)) (text : List ℕ) (after : List (List ℕ)) → texts f ≡ before ++ text ∷ after → Each Fits before → part_limit < length text
      → Answered (Executed f) (record { status = StreamRefused; bytes = up_to before text after })
  cut_off_way before text after all fit long = inr (record { before = before; text = text; after = after; all = all; fit = fit; too_long = long; is = refl })

  -- the line of its response
  line_there : (line : List ℕ) × IsMergedLine f line
  line_there = (let t = response_there f served in (merged_line t.0, line_merged f t.0 t.1))

  -- what was put is a front of what a right outcome writes
  module _ (a b : Option (List ℕ)) where
    front_by : (before : List (List ℕ)) (text : List ℕ) (after : List (List ℕ)) → texts f ≡ before ++ text ∷ after → Each Fits before → AppendsPrefix a b (up_to before text after)
        → Each Fits (text ∷ after) ⊎ TooLongIn (text ∷ after) → Front (Answered (Executed f)) a b
    front_by before text after all fit some (inl rest) =
        let line = line_there in
        let whole = up_to-frame before text after in
        let fits = subst (Each Fits) (sym all) (each-join Fits before (text ∷ after) fit rest) in (
          record { status = Done; bytes = body f ++ line.0 },
          delivered_way fits line.0 line.1,
          Prefix-within a b (body f) line.0 (subst (AppendsPrefix a b) (sym (ap frame all ∙ whole.1)) (Prefix-within a b (up_to before text after) whole.0 some)),
        )
    front_by before text after all fit some (inr long) = long_by long.before long.text long.after long.all long.fit long.long
      where
        long_by : (between : List (List ℕ)) (u : List ℕ) (rest : List (List ℕ)) → text ∷ after ≡ between ++ u ∷ rest → Each Fits between → part_limit < length u → Front (Answered (Executed f)) a b
        long_by [] u rest is within more =
            let same : text ≡ u = cc in
            let tail : after ≡ rest = cc in (
              record { status = StreamRefused; bytes = up_to before u rest },
              cut_off_way before u rest (all ∙ ap (λ xs. before ++ xs) is) fit more,
              subst (λ xs. AppendsPrefix a b (up_to before u xs)) tail (subst (λ x. AppendsPrefix a b (up_to before x after)) same some),
            )
        long_by (x ∷ mid) u rest is within more =
            let same : text ≡ x = cc in
            let tail : after ≡ mid ++ u ∷ rest = cc in
            let whole = up_to-later before x mid u rest in
            let here = subst (λ xs. AppendsPrefix a b (up_to before x xs)) tail (subst (λ y. AppendsPrefix a b (up_to before y after)) same some) in (
              record { status = StreamRefused; bytes = up_to (before ++ x ∷ mid) u rest },
              cut_off_way (before ++ x ∷ mid) u rest (all ∙ (ap (λ xs. before ++ xs) is ∙ sym (append_assoc before (x ∷ mid) (u ∷ rest)))) (each-join Fits before (x ∷ mid) fit within) more,
              subst (AppendsPrefix a b) (sym whole.1) (Prefix-within a b (up_to before x (mid ++ u ∷ rest)) whole.0 here),
            )

  -- ---- a failure before the end

  texts-split : (before : List Payload) (p : Payload) (after : List Payload) → payloads ≡ before ++ p ∷ after → texts f ≡ map payload_text before ++ payload_text p ∷ map payload_text after
  texts-split before p after all = ap (map payload_text) all ∙ map-append payload_text before (p ∷ after)

  module _ (c : Client) (fresh : IsNew c) where
    -- the texts before the piece that was reached fit
    before_fit : (before : List Payload) → Goes c (so_far (map payload_text before)) → Each Fits (map payload_text before)
    before_fit before goes = so_far_fits (map payload_text before) (payload_lines before) (goes (nothing_heard dash) fresh.stands)

    reached_front : (a b : Option (List ℕ)) → Reached payloads a b c → Front (Answered (Executed f)) a b
    reached_front a b reached =
        front_by a b (map payload_text reached.before) (payload_text reached.payload) (map payload_text reached.after) (texts-split reached.before reached.payload reached.after reached.all)
        (before_fit reached.before reached.goes) reached.put (all_fit_or (payload_text reached.payload ∷ map payload_text reached.after))

    took_front : (new : Client) → HearsFront c new (body f) → TookFront f new
    took_front new (front, back, cut, hears) = record { front = front; back = back; cut = cut; stands = hears (nothing_heard dash) fresh.stands }

    module _ (a b : Option (List ℕ)) (new : Client) (stopped : Stopped payloads a b c new) where
      abbrev before : List (List ℕ)
      before = map payload_text stopped.before

      abbrev text : List ℕ
      text = payload_text stopped.payload

      abbrev after : List (List ℕ)
      after = map payload_text stopped.after

      all : texts f ≡ before ++ text ∷ after
      all = texts-split stopped.before stopped.payload stopped.after stopped.all

      fit : Each Fits before
      fit = before_fit stopped.before stopped.goes

      whole : (rest : List ℕ) × (body f ≡ up_to before text after ++ rest)
      whole = (let w = up_to-frame before text after in (w.0, ap frame all ∙ w.1))

      refused_at : (front : List ℕ) × (back : List ℕ) × (up_to before text after ≡ front ++ back) × IsRefused new dash front
      refused_at = stopped.stops (nothing_heard dash) fresh.stands

      refused_body : RefusedBody f new
      refused_body = record {
        front = refused_at.0;
        back = refused_at.1 ++ whole.0;
        cut = whole.1 ∙ (ap (λ xs. xs ++ whole.0) refused_at.2 ∙ append_assoc refused_at.0 refused_at.1 whole.0);
        refused = refused_at.3;
      }

      -- the text that was refused is too long
      too_long : part_limit < length text
      too_long = apart text (fits_or text) (λ fits.
          (let mine : List Payload = stopped.before ++ stopped.payload ∷ [] in
          let front_all : payloads ≡ mine ++ stopped.after = stopped.all ∙ snoc stopped.before stopped.payload stopped.after in
          let mine_texts : map payload_text mine ≡ before ++ text ∷ [] = map-append payload_text stopped.before (stopped.payload ∷ []) in
          let here = up_to-frame before text [] in
          let first_of = up_to-single before text after in
          let cut : refused_at.0 ++ (refused_at.1 ++ first_of.0) ≡ frame (map payload_text mine) =
          sym (append_assoc refused_at.0 refused_at.1 first_of.0) ∙ (ap (λ xs. xs ++ first_of.0) (sym refused_at.2) ∙ (sym first_of.1 ∙ ap frame (sym mine_texts))) in
          let some = some_first stopped.before stopped.payload in
          refuses_none f served first later refl mine stopped.after front_all
          (each-front IsReadable mine stopped.after (subst (Each IsReadable) front_all served.readable)) stopped.written some.0 some.1 some.2
          (subst (Each Fits) (sym mine_texts) (each-snoc Fits before text fit fits)) refused_at.0 (refused_at.1 ++ first_of.0) cut new.merger.state refused_at.3.0 refused_at.3.2))

    -- how it ends
    abbrev Ending : Status → Option (List ℕ) → Option (List ℕ) → ℕ → Client → Type 0
    Ending s a b cut new = Meets (Answered (Executed f)) s a b × ClientEnds Asked cut c new a b s

    failing : (cut : ℕ) (a b : Option (List ℕ)) (new : Client) (s : Status) → HandedAll payloads cut a b c new (Err s) → Ending s a b cut new
    failing cut a b new StreamRefused h = (
      (record { status = StreamRefused; bytes = up_to (before a b new h) (text a b new h) (after a b new h) }, cut_off_way (before a b new h) (text a b new h) (after a b new h) (all a b new h) (fit a b new h) (too_long a b new h), refl, h.put),
      (f, refl, refused_body a b new h),
    )
    failing cut a b new WriteFault h = (reached_front a b h.0, inr (f, refl, took_front new h.1))
    failing cut a b new NoMemory h = (inr (reached_front a b h), tt)
    failing cut a b new _ h = absurd h

    -- ---- the end

    module _ (cut : ℕ) (a b : Option (List ℕ)) (new : Client) (h : HandedAll payloads cut a b c new (Ok tt)) where
      heard_all : StandsFor new (body f)
      heard_all = h.2 (nothing_heard dash) fresh.stands

      all_fit : Each Fits (texts f)
      all_fit = frame_fits (texts f) (payload_lines payloads) heard_all.is_open

      -- the body alone is a front of what a right outcome writes
      body_put : (e : Option (List ℕ)) → Keeps b e → Front (Answered (Executed f)) a e
      body_put e kept = (
        record { status = Done; bytes = body f ++ line_there.0 },
        delivered_way all_fit line_there.0 line_there.1,
        Prefix-within a e (body f) line_there.0 (Prefix-all a e (body f) (Appends-kept a b e (body f) h.1 kept)),
      )

      module _ (typed : IsTypedState new.merger.state) where
        merged : HasMerged f new.merger.state
        merged = merges_all f served first later refl served.readable h.0 all_fit new.merger.state typed (heard_all.contents, heard_all.took.complete, heard_all.all, heard_all.took.follows)

        line : IsMergedLine f (merged_line new.merger.state)
        line = line_merged f new.merger.state merged

        right : Answered (Executed f) (record { status = Done; bytes = body f ++ merged_line new.merger.state })
        right = delivered_way all_fit (merged_line new.merger.state) line

      abbrev outcome : Outcome
      outcome = record { status = Done; bytes = body f ++ merged_line new.merger.state }

      took_body : (e : Option (List ℕ)) → Appends b e (merged_line new.merger.state) → TookBody f cut new a e
      took_body e put = record {
        stands = heard_all;
        cuts = h.3 0 fresh.uncut ∙ ap counted (zero-add _);
        line = Appends-trans a b e (body f) (merged_line new.merger.state) h.1 put;
      }

      took_all : TookFront f new
      took_all = record { front = body f; back = []; cut = sym (append-nil (body f)); stands = heard_all }

      ending : (e : Option (List ℕ)) (r : Result (Unit {0}) Status) → PutsLine new.merger.state b e r → Ending (ended r) a e cut new
      ending e (Ok x) (typed, put) = ((outcome, right typed, refl, Appends-trans a b e (body f) (merged_line new.merger.state) h.1 put), (f, refl, took_body e put))
      ending e (Err WriteFault) (typed, some) = ((outcome, right typed, Prefix-after a b e (body f) (merged_line new.merger.state) h.1 some), inr (f, refl, took_all))
      ending e (Err NoMemory) kept = (inr (body_put e kept), tt)
      ending e (Err _) put = absurd put

-- ---- the calls

pub executed-failing : (f : Forest) (served : CanBeServed f) (c : Client) (fresh : IsNew c) (cut : ℕ) (a b : Option (List ℕ)) (new : Client) (r : Result (Unit {0}) Status) (s : Status) → IsErrAnd r (λ e. e ≡ s)
    → HandedAll (inline_payloads f) cut a b c new (Err s) → Meets (Answered (Executed f)) (ended r) a b × ClientEnds (λ g. g ≡ f) cut c new a b (ended r)
executed-failing f served c fresh cut a b new (Ok x) s err h = absurd err
executed-failing f served c fresh cut a b new (Err e) s err h = subst (λ (x : Status). Meets (Answered (Executed f)) x a b × ClientEnds (λ g. g ≡ f) cut c new a b x) (sym err) (failing f served c fresh cut a b new s h)

pub executed-ending : (f : Forest) (served : CanBeServed f) (c : Client) (fresh : IsNew c) (cut : ℕ) (a b e : Option (List ℕ)) (new : Client) (r : Result (Unit {0}) Status)
    → HandedAll (inline_payloads f) cut a b c new (Ok tt) → PutsLine new.merger.state b e r → Meets (Answered (Executed f)) (ended r) a e × ClientEnds (λ g. g ≡ f) cut c new a e (ended r)
executed-ending f served c fresh cut a b e new r handed put = ending f served c fresh cut a b new handed e r put
