-- What a request that is built comes to: it can be executed, and its regions can be served.
use Rattle.std.proofs.Common.{◌≡◌, refl, sym, ap, subst, ℕ, ◌≤◌, List, [], ◌∷◌, Option, Some, None, Result, Ok, Err, IfOk, IsUtf8}
use Rattle.std.specs.Prelude.{option_map}
use Rattle.std.specs.List.{AllByRecursion as Each}
use Rattle.serde_json.specs.Data.{depth}
use Rattle.gql_tree.specs.declared.Payload.{Payload}
use Rattle.gql_tree.specs.Sound.{IsSound}
use Rattle.gql_tree.specs.Forest.{Forest}
use Rattle.gql_tree.specs.Typed.{IsTypedPayload}
use Rattle.gql_tree.specs.Inline.{inline_payloads}
use Rattle.gql_payload.specs.PayloadText.{payload_data}
use Rattle.gql_model.specs.declared.syntax.Document.{Document}
use Rattle.gql_tool.specs.declared.hero.shape.HeroDocument.{HeroDocument}
use Rattle.gql_tool.specs.declared.hero.tables.HeroTables.{HeroTables}
use Rattle.gql_tool.specs.declared.hero.request.HeroRequest.{HeroRequest}
use Rattle.gql_tool.specs.declared.request.Request.{Request}
use Rattle.gql_tool.specs.declared.request.Request.TheVariants.{NoText, NoDocument, NotBuilt, Built}
use Rattle.gql_tool.specs.Judged.{Executed, Parses, Judged}
use Rattle.gql_tool.specs.inner.Servable.{IsReadable, CanBeServed}
use Rattle.gql_tool.specs.hero.Built.{built, regions, regions_of}
use Rattle.gql_tool.specs.hero.Hero.{IsBuilt, IsOf, Runs, request_of, judgement_of}
use Rattle.gql_tool.proofs.hero_lemmas.Forests.{hero_runs}
use Rattle.gql_tool.proofs.hero_lemmas.ReadBack.{CanBeWritten, hero_payloads_are_written, hero_payloads_are_read_back}
use Rattle.gql_tool.proofs.hero_lemmas.Reading.{some_map, built-once, built-stands}
use Rattle.gql_tool.proofs.hero_lemmas.Sound.{hero_payloads_make_sense, hero_payloads_are_shallow}
use Rattle.gql_tool.proofs.hero_lemmas.Spots.{built-placed}
use Rattle.gql_tool.proofs.hero_lemmas.WellFormed.{hero_is_well_formed}

all_readable : (ps : List Payload) → Each IsSound ps → Each (λ p. depth (payload_data p) ≤ 127) ps → Each IsReadable ps
all_readable [] sound shallow = tt
all_readable (p ∷ ps) sound shallow = ((sound.0, shallow.0), all_readable ps sound.1 shallow.1)

all_typed : (ps : List Payload) → Each CanBeWritten ps → Each IsTypedPayload ps
all_typed [] written = tt
all_typed (p ∷ ps) written = (written.0.typed, all_typed ps written.1)

module _ (vars schema tables document : List ℕ) where
  built-served : (t : HeroTables) (d : HeroDocument) → IsBuilt vars schema tables document t d → CanBeServed (regions t d)
  built-served t d is =
      let once = built-once vars schema tables document t d is in
      let stands = built-stands vars schema tables document t d is in
      let placed = built-placed vars schema tables document t d is in
      let run = (hero_runs t d once stands).1 in
      let written = hero_payloads_are_written vars schema tables document t d is in record {
        well_formed = hero_is_well_formed t d once stands placed;
        complete = run.complete;
        few = run.few;
        typed = all_typed (inline_payloads (regions t d)) written;
        readable = all_readable (inline_payloads (regions t d)) (hero_payloads_make_sense t d once stands placed) (hero_payloads_are_shallow t d once stands);
        read_back = hero_payloads_are_read_back vars schema tables document t d is;
      }

  -- the regions of a request can be served
  pub judged-served : (f : Forest) → Judged vars schema tables document (Executed f) → CanBeServed f
  judged-served f (utf8, it, parses, is) =
      let p = some_map regions_of (built vars schema tables it) f is in
      subst CanBeServed p.2 (built-served p.0.tables p.0.document (utf8, it, parses, p.1))

  -- and a request that is built can run
  runs_by : (request : Request) → IsOf vars schema tables document request → Runs request
  runs_by NoText h = tt
  runs_by (NoDocument refusal) h = tt
  runs_by NotBuilt h = tt
  runs_by (Built request) h =
      record { stands = built-stands vars schema tables document request.tables request.document h; once = built-once vars schema tables document request.tables request.document h; served = built-served request.tables request.document h }

  pub answer-runs : {E : Type 0} (r : Result Request E) → IfOk r (IsOf vars schema tables document) → IfOk r Runs
  answer-runs (Err e) h = tt
  answer-runs (Ok request) h = runs_by request h

  -- ---- a request with a document

  module _ (it : Document) (utf8 : IsUtf8 document) (parses : Parses document (Ok it)) where
    judged_by : (o : Option HeroRequest) → built vars schema tables it ≡ o → Judged vars schema tables document (judgement_of (request_of o))
    judged_by None same = (utf8, it, parses, ap (option_map regions_of) same)
    judged_by (Some request) same = (utf8, it, parses, ap (option_map regions_of) same)

    of_by : (o : Option HeroRequest) → built vars schema tables it ≡ o → IsOf vars schema tables document (request_of o)
    of_by None same = tt
    of_by (Some request) same = (utf8, it, parses, same)

    pub document-judged : {E : Type 0} (r : Result Request E) → IfOk r (λ request. request ≡ request_of (built vars schema tables it)) → IfOk r (λ request. Judged vars schema tables document (judgement_of request))
    document-judged (Err e) is = tt
    document-judged (Ok request) is = subst (λ (q : Request). Judged vars schema tables document (judgement_of q)) (sym is) (judged_by (built vars schema tables it) refl)

    pub document-of : {E : Type 0} (r : Result Request E) → IfOk r (λ request. request ≡ request_of (built vars schema tables it)) → IfOk r (IsOf vars schema tables document)
    document-of (Err e) is = tt
    document-of (Ok request) is = subst (IsOf vars schema tables document) (sym is) (of_by (built vars schema tables it) refl)
