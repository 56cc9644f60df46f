-- The payloads of a response, handed out one after another.
use Rattle.std.proofs.Common.{◌≡◌, refl, sym, ap, ◌∙◌, subst, ℕ, ◌+◌, List, [], ◌∷◌, ◌++◌, map, true, false, Option, Result, Ok, Err, append-nil, zero-add}
use Rattle.std.specs.Result.{IsErrAnd}
use Rattle.std.specs.Io.KnownBytes.{Appends}
use Rattle.std.proofs.KnownBytes.{Appends-trans}
use Rattle.gql_io.specs.Told.{AppendsPrefix}
use Rattle.gql_io.proofs.Told.{Prefix-after}
use Rattle.gql_tree.specs.declared.Payload.{Payload}
use Rattle.gql_payload.specs.PayloadText.{payload_text}
use Rattle.gql_multipart.specs.Frame.{frame, delimiter, piece}
use Rattle.gql_multipart.specs.Framed.{framed, so_far}
use Rattle.gql_tool.specs.declared.status.Status.{Status}
use Rattle.gql_tool.specs.declared.status.Status.TheVariants.{WriteFault, NoMemory, StreamRefused}
use Rattle.gql_client.specs.declared.client.Client.{Client}
use Rattle.gql_tool.specs.LocalClient.{cuts_in, cuts_of}
use Rattle.gql_tool.specs.inner.Handed.{Hears, HearsFront, StopsIn, Goes, Handed, Reached, HandedAll}
use Rattle.gql_tool.proofs.Sent.{Prefix-all, Prefix-nothing, frame-two}
use Rattle.gql_tool.proofs.Cuts.{Hears-nothing, Hears-more, StopsIn-later, CountsOn-more, CountsOn-same}

-- what was put is a front of a body
goes : (c d : Client) (bytes : List ℕ) → Hears c d bytes → Goes c bytes
goes c d bytes hears h stands = (hears h stands).is_open

goes-nothing : (c : Client) → Goes c []
goes-nothing c = goes c c [] (Hears-nothing c)

-- nothing was heard
front-nothing : (c d : Client) (bytes : List ℕ) → d ≡ c → HearsFront c d bytes
front-nothing c d bytes same = subst (λ (x : Client). HearsFront c x bytes) (sym same) ([], bytes, refl, Hears-nothing c)

-- no payload was made
pub HandedAll-none : (p : Payload) (ps : List Payload) (cut : ℕ) (a : Option (List ℕ)) (c : Client) (r : Result (Unit {0}) Status) → IsErrAnd r (λ e. e ≡ NoMemory) → HandedAll (p ∷ ps) cut a a c c r
HandedAll-none p ps cut a c (Ok x) err = absurd err
HandedAll-none p ps cut a c (Err e) err =
    subst (λ (s : Status). HandedAll (p ∷ ps) cut a a c c (Err s)) (sym err)
    (record { before = []; payload = p; after = ps; all = refl; put = Prefix-nothing a _; goes = goes-nothing c })

-- ---- one payload

cuts-one : (cut : ℕ) (t : List ℕ) → cuts_of cut (t ∷ []) ≡ cuts_in cut (framed true true t)
cuts-one cut t = zero-add (cuts_in cut (framed true true t))

module _ (p : Payload) (cut : ℕ) (a b : Option (List ℕ)) (c d : Client) where
  abbrev text : List ℕ
  text = payload_text p

  reached-one : AppendsPrefix a b (framed true true (payload_text p)) → Reached (p ∷ []) a b c
  reached-one some = record { before = []; payload = p; after = []; all = refl; put = some; goes = goes-nothing c }

  pub HandedAll-one : (r : Result (Unit {0}) Status) → Handed p (framed true true (payload_text p)) cut a b c d r → HandedAll (p ∷ []) cut a b c d r
  HandedAll-one (Ok x) h = ((h.0, tt), h.1, h.2, CountsOn-same c d (cuts_in cut (framed true true (payload_text p))) (cuts_of cut (payload_text p ∷ [])) (sym (cuts-one cut (payload_text p))) h.3)
  HandedAll-one (Err StreamRefused) h = record {
    before = [];
    payload = p;
    after = [];
    all = refl;
    written = (h.0, tt);
    put = h.1;
    goes = goes-nothing c;
    stops = h.2;
  }
  HandedAll-one (Err WriteFault) h = (reached-one h.0, front-nothing c d (frame (map payload_text (p ∷ []))) h.1)
  HandedAll-one (Err NoMemory) h = reached-one h
  HandedAll-one (Err _) h = absurd h

-- ---- two payloads

module _ (p q : Payload) (cut : ℕ) where
  abbrev first : List ℕ
  first = framed true false (payload_text p)

  abbrev second : List ℕ
  second = framed false true (payload_text q)

  abbrev whole : List ℕ
  whole = frame (map payload_text (p ∷ q ∷ []))

  both : first ++ second ≡ whole
  both = frame-two (payload_text p) (payload_text q)

  -- what was sent when the first was put
  first_is : first ≡ so_far (payload_text p ∷ [])
  first_is = ap (λ xs. delimiter ++ xs) (append-nil (piece (payload_text p)) ∙ sym (append-nil (piece (payload_text p))))

  cuts-both : cuts_of cut (payload_text p ∷ payload_text q ∷ []) ≡ cuts_in cut first + cuts_in cut second
  cuts-both = ap (λ n. n + cuts_in cut second) (zero-add (cuts_in cut first))

  reached-first : (a b : Option (List ℕ)) (c : Client) → AppendsPrefix a b first → Reached (p ∷ q ∷ []) a b c
  reached-first a b c some = record { before = []; payload = p; after = q ∷ []; all = refl; put = some; goes = goes-nothing c }

  -- the first wasn't handed out
  pub HandedAll-first : (a b : Option (List ℕ)) (c d : Client) (r : Result (Unit {0}) Status) (s : Status) → IsErrAnd r (λ x. x ≡ s) → Handed p first cut a b c d (Err s) → HandedAll (p ∷ q ∷ []) cut a b c d r
  HandedAll-first a b c d (Ok x) s err h = absurd err
  HandedAll-first a b c d (Err e) s err h = subst (λ (x : Status). HandedAll (p ∷ q ∷ []) cut a b c d (Err x)) (sym err) (by s h)
    where
      by : (s : Status) → Handed p first cut a b c d (Err s) → HandedAll (p ∷ q ∷ []) cut a b c d (Err s)
      by StreamRefused h = record {
        before = [];
        payload = p;
        after = q ∷ [];
        all = refl;
        written = (h.0, tt);
        put = h.1;
        goes = goes-nothing c;
        stops = h.2;
      }
      by WriteFault h = (reached-first a b c h.0, front-nothing c d whole h.1)
      by NoMemory h = reached-first a b c h
      by _ h = absurd h

  module _ (a b : Option (List ℕ)) (c d : Client) (done : Handed p first cut a b c d (Ok tt)) where
    -- the second wasn't made
    pub HandedAll-between : (r : Result (Unit {0}) Status) → IsErrAnd r (λ e. e ≡ NoMemory) → HandedAll (p ∷ q ∷ []) cut a b c d r
    HandedAll-between (Ok x) err = absurd err
    HandedAll-between (Err e) err =
        subst (λ (s : Status). HandedAll (p ∷ q ∷ []) cut a b c d (Err s)) (sym err) (reached-first a b c (Prefix-all a b first done.1))

    reached-second : (e : Option (List ℕ)) → AppendsPrefix b e second → Reached (p ∷ q ∷ []) a e c
    reached-second e some = record {
      before = p ∷ [];
      payload = q;
      after = [];
      all = refl;
      put = subst (λ xs. AppendsPrefix a e (xs ++ second)) first_is (Prefix-after a b e first second done.1 some);
      goes = subst (Goes c) first_is (goes c d first done.2);
    }

    pub HandedAll-two : (e : Option (List ℕ)) (f : Client) (r : Result (Unit {0}) Status) → Handed q second cut b e d f r → HandedAll (p ∷ q ∷ []) cut a e c f r
    HandedAll-two e f (Ok x) h = (
      (done.0, (h.0, tt)),
      subst (Appends a e) both (Appends-trans a b e first second done.1 h.1),
      subst (Hears c f) both (Hears-more c d f first second done.2 h.2),
      CountsOn-same c f (cuts_in cut first + cuts_in cut second) (cuts_of cut (payload_text p ∷ payload_text q ∷ [])) (sym cuts-both) (CountsOn-more c d f (cuts_in cut first) (cuts_in cut second) done.3 h.3),
    )
    HandedAll-two e f (Err StreamRefused) h = record {
      before = p ∷ [];
      payload = q;
      after = [];
      all = refl;
      written = (done.0, (h.0, tt));
      put = subst (λ xs. Appends a e (xs ++ second)) first_is (Appends-trans a b e first second done.1 h.1);
      goes = subst (Goes c) first_is (goes c d first done.2);
      stops = subst (λ xs. StopsIn c f (xs ++ second)) first_is (StopsIn-later c d f first second done.2 h.2);
    }
    HandedAll-two e f (Err WriteFault) h = (
      reached-second e h.0,
      subst (HearsFront c f) both (subst (λ (x : Client). HearsFront c x (first ++ second)) (sym h.1) (first, second, refl, done.2)),
    )
    HandedAll-two e f (Err NoMemory) h = reached-second e h
    HandedAll-two e f (Err _) h = absurd h
