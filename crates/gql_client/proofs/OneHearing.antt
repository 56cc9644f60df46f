-- What a client makes of bytes is determined.
use Rattle.std.proofs.Common.{◌≡◌, refl, sym, ap, ap₂, ◌∙◌, subst, inl, inr, arith, true, false, nat_le, leb-true, leb-false, ℕ, ◌+◌, ◌-◌, ◌≤◌, List, [], ◌∷◌, ◌++◌, length, Option, None, Some, Result, Ok, Err, is_some, length-append}
use Rattle.std.specs.Prelude.{IsUtf8}
use Rattle.std.proofs.lemmas.List.{append-nil, take-append-le}
use Rattle.serde_json.specs.Data.{Data}
use Rattle.serde_json.specs.Find.{as_object}
use Rattle.serde_json.specs.Read.{read}
use Rattle.gql_tree.specs.declared.delivery.Payload.{Payload}
use Rattle.gql_tree.specs.Sound.{SamePayload}
use Rattle.gql_payload.specs.declared.refusal.PayloadRefusal.{PayloadRefusal}
use Rattle.gql_payload.specs.declared.refusal.PayloadRefusal.TheVariants as payload_refusal
use Rattle.gql_payload.specs.Reading.{IsJson, IsJsonObject, wrong_member, Decodes}
use Rattle.gql_multipart.specs.Body.{IsBoundary, IsOpen}
use Rattle.gql_multipart.specs.Regions.{StandsIn}
use Rattle.gql_multipart.specs.Past.{Past, refuses}
use Rattle.gql_multipart.proofs.Answering.{one_of}
use Rattle.gql_multipart.proofs.Lists.{cut}
use Rattle.gql_multipart.proofs.PartFronts.{complete_more, complete_front, complete_within, shut_more, shut_whole}
use Rattle.gql_multipart.proofs.Sayings.{answers_one}
use Rattle.gql_merge.specs.declared.state.State.{State}
use Rattle.gql_merge.specs.declared.refusal.MergeRefusal.{MergeRefusal}
use Rattle.gql_merge.specs.Apply.{Answer, Apply, fresh}
use Rattle.gql_merge.specs.Same.{SameState, SameAnswer}
use Rattle.gql_merge.proofs.OneAnswer.{same_back, apply_one}
use Rattle.gql_payload.specs.Refusals.{payload_name}
use Rattle.gql_merge.specs.Refusals.{merge_name}
use Rattle.gql_client.specs.Client.{at_byte, at_payload, counted, Undecoded, Takes, Follows, AreComplete, AreAll, IsMisframed, Merges, Accepts, Refuses, AcceptsEnd, RefusesEnd}
use Rattle.gql_client.proofs.Clients.{AreComplete-more}
use Rattle.gql_client.proofs.Understood.{json-one, decodes-one, decodes-never, same_payload}

-- ---- a part

unread_not : (text : List ℕ) (d : Data) → (IsUtf8 text → read text ≡ None) → IsJson text d → ⊥
unread_not text d none json = let bad : Some d ≡ None = sym json.1 ∙ none json.0 in cc

object_not : (text : List ℕ) (d e : Data) → IsJson text d → as_object d ≡ None → IsJsonObject text e → ⊥
object_not text d e json none object =
    let there : is_some (as_object d) ≡ true = subst (λ (x : Data). is_some (as_object x) ≡ true) (json-one text e d object.0 json) object.1 in
    let bad : true ≡ false = sym there ∙ ap is_some none in cc

-- a text has one refusal
undecoded_one : (text : List ℕ) (e f : PayloadRefusal) → Undecoded text e → Undecoded text f → e ≡ f
undecoded_one text payload_refusal.NotJson payload_refusal.NotJson h k = refl
undecoded_one text payload_refusal.NotJson payload_refusal.NotAnObject h (d, json, none) = absurd (unread_not text d h json)
undecoded_one text payload_refusal.NotJson (payload_refusal.Wrong member) h (d, json, wrong) = absurd (unread_not text d h json.0)
undecoded_one text payload_refusal.NotJson payload_refusal.NoMemory h k = absurd k
undecoded_one text payload_refusal.NotAnObject payload_refusal.NotJson (d, json, none) k = absurd (unread_not text d k json)
undecoded_one text payload_refusal.NotAnObject payload_refusal.NotAnObject h k = refl
undecoded_one text payload_refusal.NotAnObject (payload_refusal.Wrong member) (d, json, none) (e, object, wrong) = absurd (object_not text d e json none object)
undecoded_one text payload_refusal.NotAnObject payload_refusal.NoMemory h k = absurd k
undecoded_one text (payload_refusal.Wrong member) payload_refusal.NotJson (d, json, wrong) k = absurd (unread_not text d k json.0)
undecoded_one text (payload_refusal.Wrong member) payload_refusal.NotAnObject (d, object, wrong) (e, json, none) = absurd (object_not text e d json none object)
undecoded_one text (payload_refusal.Wrong member) (payload_refusal.Wrong other) (d, object, wrong) (e, object', wrong') =
    let same : Some member ≡ Some other = sym wrong ∙ (ap wrong_member (json-one text d e object.0 object'.0) ∙ wrong') in
    ap payload_refusal.Wrong cc
undecoded_one text (payload_refusal.Wrong member) payload_refusal.NoMemory h k = absurd k
undecoded_one text payload_refusal.NoMemory f h k = absurd h

-- the same state, or the same reason
abbrev SameTaken : Result State (List ℕ) → Result State (List ℕ) → Type 0
SameTaken (Ok s) (Ok t) = SameState s t
SameTaken (Err why) (Err other) = why ≡ other
SameTaken _ _ = ⊥

applied_one : (text : List ℕ) (p q : Payload) (s t : State) (a b : Answer) → SameState s t → Decodes text p → Decodes text q → Apply p s a → Apply q t b → SameAnswer a b
applied_one text p q s t a b same first second x y = apply_one p q s t a b (subst (SamePayload p) (decodes-one text p q first second) (same_payload p)) same x y

takes_one : (number : ℕ) (text : List ℕ) (s t : State) (a b : Result State (List ℕ)) → SameState s t → Takes number text s a → Takes number text t b → SameTaken a b
takes_one number text s t (Ok m) (Ok n) same (p, first, x) (q, second, y) = applied_one text p q s t (Ok m) (Ok n) same first second x y
takes_one number text s t (Ok m) (Err why) same (p, first, x) (inl (e, undecoded, is)) = decodes-never text p e first undecoded
takes_one number text s t (Ok m) (Err why) same (p, first, x) (inr (q, e, second, y, is)) = applied_one text p q s t (Ok m) (Err e) same first second x y
takes_one number text s t (Err why) (Ok n) same (inl (e, undecoded, is)) (q, second, y) = decodes-never text q e second undecoded
takes_one number text s t (Err why) (Ok n) same (inr (p, e, first, x, is)) (q, second, y) = applied_one text p q s t (Err e) (Ok n) same first second x y
takes_one number text s t (Err why) (Err other) same (inl (e, undecoded, is)) (inl (f, undecoded', is')) =
    is ∙ (ap (λ (z : PayloadRefusal). at_payload number (payload_name z)) (undecoded_one text e f undecoded undecoded') ∙ sym is')
takes_one number text s t (Err why) (Err other) same (inl (e, undecoded, is)) (inr (q, f, second, y, is')) = absurd (decodes-never text q e second undecoded)
takes_one number text s t (Err why) (Err other) same (inr (p, e, first, x, is)) (inl (f, undecoded, is')) = absurd (decodes-never text p f first undecoded)
takes_one number text s t (Err why) (Err other) same (inr (p, e, first, x, is)) (inr (q, f, second, y, is')) =
    is ∙ (ap (λ (z : MergeRefusal). at_payload number (merge_name z)) (applied_one text p q s t (Err e) (Err f) same first second x y) ∙ sym is')

-- ---- parts one after another

same_at : (s t x y : State) → SameState s t → x ≡ s → y ≡ t → SameState x y
same_at s t x y same e f = subst (λ (z : State). SameState z y) (sym e) (subst (SameState s) (sym f) same)

follows_one : (cs : List (List ℕ)) (number : ℕ) (s t x y : State) (stop other : Option (List ℕ)) → SameState s t → Follows number cs s x stop → Follows number cs t y other → SameState x y × (stop ≡ other)
follows_one [] number s t x y stop other same (e, none) (f, none') = (same_at s t x y same e f, none ∙ sym none')
follows_one (c ∷ cs) number s t x y stop other same (inl (m, takes, follows)) (inl (n, takes', follows')) =
    follows_one cs (number + 1) m n x y stop other (takes_one (counted number) c s t (Ok m) (Ok n) same takes takes') follows follows'
follows_one (c ∷ cs) number s t x y stop other same (inl (m, takes, follows)) (inr (why, takes', f, is)) = absurd (takes_one (counted number) c s t (Ok m) (Err why) same takes takes')
follows_one (c ∷ cs) number s t x y stop other same (inr (why, takes, e, is)) (inl (n, takes', follows')) = absurd (takes_one (counted number) c s t (Err why) (Ok n) same takes takes')
follows_one (c ∷ cs) number s t x y stop other same (inr (why, takes, e, is)) (inr (why', takes', f, is')) =
    (same_at s t x y same e f, is ∙ (ap Some (takes_one (counted number) c s t (Err why) (Err why') same takes takes') ∙ sym is'))

-- what stands behind a refused part changes nothing
stops_more : (cs ds : List (List ℕ)) (number : ℕ) (s t : State) (why : List ℕ) → Follows number cs s t (Some why) → Follows number (cs ++ ds) s t (Some why)
stops_more [] ds number s t why (e, none) = absurd (cc)
stops_more (c ∷ cs) ds number s t why (inl (m, takes, follows)) = inl (m, takes, stops_more cs ds (number + 1) m t why follows)
stops_more (c ∷ cs) ds number s t why (inr stopped) = inr stopped

fresh_same : SameState fresh fresh
fresh_same = record { value = tt; awaited = refl; ids = refl; errors = refl; failures = refl; ended = refl }

-- ---- bytes

module _ (boundary : List ℕ) (valid : IsBoundary boundary) where
  front_of : (bytes : List ℕ) (cs ds : List (List ℕ)) → AreComplete boundary bytes cs → AreComplete boundary bytes ds → length cs ≤ length ds → (es : List (List ℕ)) × (ds ≡ cs ++ es)
  front_of bytes [] ds a b less = (ds, refl)
  front_of bytes (c ∷ cs) ds (inl none) b less = absurd (cc)
  front_of bytes (c ∷ cs) ds (inr x) (inl none) less = absurd (omega (arith, ap length none, less))
  front_of bytes (c ∷ cs) ds (inr x) (inr y) less = complete_front boundary bytes (c ∷ cs) ds valid x y less

  most : (bytes : List ℕ) (cs ds : List (List ℕ)) → AreComplete boundary bytes cs → AreAll boundary bytes ds → length cs ≤ length ds
  most bytes cs ds (inl none) all = omega (arith, ap length none)
  most bytes cs ds (inr complete) all = all cs complete

  -- the first part that is refused decides, however many parts are heard
  stops_one : (bytes : List ℕ) (cs ds : List (List ℕ)) (t u : State) (why : List ℕ) (stop : Option (List ℕ)) → AreComplete boundary bytes cs → AreComplete boundary bytes ds → length cs ≤ length ds → Follows 0 cs fresh t (Some why) → Follows 0 ds fresh u stop → SameState t u × (Some why ≡ stop)
  stops_one bytes cs ds t u why stop a b less f g =
      let r = front_of bytes cs ds a b less in
      follows_one ds 0 fresh fresh t u (Some why) stop fresh_same (subst (λ (es : List (List ℕ)). Follows 0 es fresh t (Some why)) (sym r.1) (stops_more cs r.0 0 fresh t why f)) g

  -- where all parts are taken, no part is refused
  none_stops : (bytes : List ℕ) (cs ds : List (List ℕ)) (t u : State) (why : List ℕ) → AreComplete boundary bytes cs → AreComplete boundary bytes ds → length cs ≤ length ds → Follows 0 cs fresh t (Some why) → Follows 0 ds fresh u None → ⊥
  none_stops bytes cs ds t u why a b less f g = let bad : Some why ≡ None = (stops_one bytes cs ds t u why None a b less f g).1 in cc

  whole_list : (cs ds es : List (List ℕ)) → ds ≡ cs ++ es → length ds ≤ length cs → ds ≡ cs
  whole_list cs ds [] e less = e ∙ append-nil cs
  whole_list cs ds (x ∷ es) e less = absurd (omega (arith, ap length e, length-append cs (x ∷ es), less))

  pub merges_one : (bytes : List ℕ) (t u : State) → Merges boundary bytes t → Merges boundary bytes u → SameState t u
  merges_one bytes t u (cs, a, all, f) (ds, b, all', g) =
      let r = front_of bytes cs ds a b (most bytes cs ds a all') in
      let same : ds ≡ cs = whole_list cs ds r.0 r.1 (most bytes ds cs b all) in
      (follows_one cs 0 fresh fresh t u None None fresh_same f (subst (λ (es : List (List ℕ)). Follows 0 es fresh u None) same g)).0

  -- ---- a front, and more bytes

  module _ (front more : List ℕ) where
    in_front : (cs : List (List ℕ)) → (IsOpen boundary front → ⊥) → AreComplete boundary (front ++ more) cs → AreComplete boundary front cs
    in_front [] shut a = inl refl
    in_front (c ∷ cs) shut (inl none) = absurd (cc)
    in_front (c ∷ cs) shut (inr complete) = inr (complete_within boundary front more (c ∷ cs) (λ e. cc) shut complete)

    merges_within : (t : State) → (IsOpen boundary front → ⊥) → Merges boundary (front ++ more) t → Merges boundary front t
    merges_within t shut (cs, a, all, f) = (cs, in_front cs shut a, (λ others complete. all others (complete_more boundary front more others complete)), f)

    misframed_more : (why : List ℕ) → IsMisframed boundary front why → IsMisframed boundary (front ++ more) why
    misframed_more why (kind, byte, shut, stands, is) =
        (kind, byte, shut_more boundary front more byte shut, subst (StandsIn boundary kind) (sym (take-append-le (byte - 1) front more (omega (arith, shut.within)))) stands, is)

    -- what is refused stays refused
    pub refused_not : (t u : State) (why : List ℕ) → Refuses boundary front t why → Accepts boundary (front ++ more) u → ⊥
    refused_not t u why (inl (cs, a, f)) ((ds, b, all, g), opens) =
        let a' = AreComplete-more boundary front more cs a in
        none_stops (front ++ more) cs ds t u why a' b (most (front ++ more) cs ds a' all) f g
    refused_not t u why (inr (merges, (kind, byte, shut, stands, is))) (merges', opens) = shut_whole boundary (front ++ more) byte (shut_more boundary front more byte shut) opens

  misframed_one : (bytes : List ℕ) (t : State) (why other : List ℕ) → Merges boundary bytes t → IsMisframed boundary bytes why → IsMisframed boundary bytes other → why ≡ other
  misframed_one bytes t why other (cs, a, all, f) (kind, byte, shut, stands, is) (kind', byte', shut', stands', is') =
      let past : Past = record { boundary = boundary; bytes = bytes; given = length cs } in
      let same : refuses kind byte ≡ refuses kind' byte' = answers_one past valid (refuses kind byte) (refuses kind' byte') (all, shut, stands) (all, shut', stands') in
      let kinds : kind ≡ kind' = cc in
      let bytes_same : byte ≡ byte' = cc in
      is ∙ (ap₂ at_byte bytes_same kinds ∙ sym is')

  -- a longer front is refused for the same reason
  pub refused_more : (front more : List ℕ) (t u : State) (why other : List ℕ) → Refuses boundary front t why → Refuses boundary (front ++ more) u other → SameState t u × (why ≡ other)
  refused_more front more t u why other (inl (cs, a, f)) (inl (ds, b, g)) =
      let whole : List ℕ = front ++ more in
      let a' = AreComplete-more boundary front more cs a in
      one_of (nat_le (length cs) (length ds))
      (λ e. let r = stops_one whole cs ds t u why (Some other) a' b (leb-true (length cs) (length ds) e) f g in
      (r.0, some_same why other r.1))
      (λ e. let less : length ds ≤ length cs = omega (arith, leb-false (length cs) (length ds) e) in
      let r = stops_one whole ds cs u t other (Some why) b a' less g f in
      (same_back u t r.0, sym (some_same other why r.1)))
    where
      some_same : (x y : List ℕ) → Some x ≡ Some y → x ≡ y
      some_same x y e = cc
  refused_more front more t u why other (inl (cs, a, f)) (inr ((ds, b, all, g), misframed)) =
      let a' = AreComplete-more boundary front more cs a in
      absurd (none_stops (front ++ more) cs ds t u why a' b (most (front ++ more) cs ds a' all) f g)
  refused_more front more t u why other (inr ((cs, a, all, f), (kind, byte, shut, stands, is))) (inl (ds, b, g)) =
      let b' = in_front front more ds (shut_whole boundary front byte shut) b in
      absurd (none_stops front ds cs u t other b' a (most front ds cs b' all) g f)
  refused_more front more t u why other (inr (merges, misframed)) (inr (merges', misframed')) =
      let shut = shut_whole boundary front misframed.1 misframed.2 in (
        merges_one front t u merges (merges_within front more u shut merges'),
        misframed_one (front ++ more) u why other merges' (misframed_more front more why misframed) misframed',
      )

  -- ---- fronts of one input

  pub refused_one : (input front back other behind : List ℕ) (t u : State) (why reason : List ℕ) → input ≡ front ++ back → input ≡ other ++ behind → Refuses boundary front t why → Refuses boundary other u reason → SameState t u × (why ≡ reason)
  refused_one input front back other behind t u why reason e e' r r' =
      one_of (nat_le (length front) (length other))
      (λ l. let c = cut front other behind back (sym e' ∙ e) (leb-true (length front) (length other) l) in
      refused_more front c.0 t u why reason r (subst (λ (z : List ℕ). Refuses boundary z u reason) c.1 r'))
      (λ l. let c = cut other front back behind (sym e ∙ e') (omega (arith, leb-false (length front) (length other) l)) in
      let both = refused_more other c.0 u t reason why r' (subst (λ (z : List ℕ). Refuses boundary z t why) c.1 r) in
      (same_back u t both.0, sym both.1))

  -- a longer front isn't accepted
  pub accepted_not : (input front back other behind : List ℕ) (t u : State) (why : List ℕ) → input ≡ front ++ back → input ≡ other ++ behind → length front ≤ length other → Refuses boundary front t why → Accepts boundary other u → ⊥
  accepted_not input front back other behind t u why e e' less r accepts =
      let c = cut front other behind back (sym e' ∙ e) less in
      refused_not front c.0 t u why r (subst (λ (z : List ℕ). Accepts boundary z u) c.1 accepts)

-- ---- the end

module _ (boundary bytes : List ℕ) (t u : State) (same : SameState t u) where
  pub ends_one : (why other : List ℕ) → RefusesEnd boundary bytes t why → RefusesEnd boundary bytes u other → why ≡ other
  ends_one why other (inl (none, is)) (inl (none', is')) = is ∙ sym is'
  ends_one why other (inl (none, is)) (inr (contents, body, goes, is')) = absurd (none contents body)
  ends_one why other (inr (contents, body, goes, is)) (inl (none, is')) = absurd (none contents body)
  ends_one why other (inr (contents, body, goes, is)) (inr (contents', body', goes', is')) = is ∙ sym is'

  pub end_not : (why : List ℕ) → AcceptsEnd boundary bytes t → RefusesEnd boundary bytes u why → ⊥
  end_not why (contents, body, over) (inl (none, is)) = none contents body
  end_not why (contents, body, over) (inr (contents', body', goes, is)) = let bad : true ≡ false = sym over ∙ (same.ended ∙ goes) in cc
