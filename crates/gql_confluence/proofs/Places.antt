-- The regions of a forest where they lie, each with what arrives of it where it is delivered.
use Rattle.std.proofs.Common.{◌≡◌, ◌⊎◌, inl, inr, ℕ, List, [], ◌∷◌, ◌++◌, map, refl, sym, subst, ◌∙◌, ap, Bool, true, false, Some}
use Rattle.std.specs.Prelude.{◌==◌, flat_map}
use Rattle.std.proofs.lemmas.Bool.Decides.{Decides-eqb}
use Rattle.std.proofs.lemmas.List.{map-append}
use Rattle.gql_tree.specs.declared.path.Key.{Key}
use Rattle.gql_tree.specs.declared.path.Key.TheVariants.{Index}
use Rattle.gql_tree.specs.declared.delivery.Frag.{Frag}
use Rattle.gql_tree.specs.declared.delivery.FragId.{FragId}
use Rattle.gql_tree.specs.declared.delivery.Group.{Group}
use Rattle.gql_tree.specs.declared.delivery.Stream.{Stream}
use Rattle.gql_tree.specs.declared.delivery.RegionResult.{RegionResult}
use Rattle.gql_tree.specs.declared.delivery.TaskWork.TheVariants.{Fields, Item}
use Rattle.gql_tree.specs.Keys.{same_lists, same_key, same_fragment}
use Rattle.gql_tree.specs.Forest.{Forest, Branches, grown, none, more}
use Rattle.gql_tree.specs.Fate.{ItemRun, Scope, scope_of, fragments_below, is_announced, items_run, same_path}
use Rattle.gql_tree.specs.Times.{Time}
use Rattle.gql_tree.specs.Course.{Awaited, awaited_fragment, awaited_stream, course, Schedule, Way, at_first, by_owners, by_stream, Arrival, released_at, carriers, item_at}
use Rattle.gql_tree.specs.WellFormed.{Site, works_of, root_site, keys_of, sites_below, sites, no_two, collide, IsWellFormed}
use Rattle.gql_confluence.proofs.Parts.{In, in_left, in_right, in_cases}
use Rattle.gql_confluence.proofs.Lists.{to_map}
use Rattle.gql_confluence.proofs.Deciders.{same_keys-refl, same_fragment-refl}
use Rattle.gql_confluence.proofs.NoTwo.{one_mapped, one_flat, no_two_at, one_element, flat_mapped}
use Rattle.gql_confluence.proofs.ItemsApart.{coincide, items_apart}
use Rattle.gql_confluence.proofs.Scopes.{IsOfScope, from_inner, from_rest}

-- a region with the time of its scope, what arrives of it, and the items of its streams
pub record Placed : Type 0 where
  pub site : Site
  pub begun : Time
  pub arrival : Arrival
  pub items : List ItemRun

-- a scope's root
abbrev pub root_place : List Key → RegionResult → Branches → Time → Way → Placed
root_place at r bs begun way = record {
  site = root_site at r bs;
  begun = begun;
  arrival = record { at = at; region = r; released = begun; way = way };
  items = items_run bs;
}

module _ (p : Schedule) where
  abbrev pub group_place : Scope → List Frag → Time → Group → RegionResult → Branches → Placed
  group_place s around begun g r inner = record {
    site = record { at = g.path.keys; is_root = false; owners = g.owners; keys = keys_of g; around = r.fragments ++ around; scope = s; region = r; works = works_of inner };
    begun = begun;
    arrival = record { at = g.path.keys; region = r; released = released_at p s begun g; way = by_owners g (carriers p s begun g) };
    items = items_run inner;
  }

  -- as `sites_below`, with the times of `come_below`
  abbrev pub places_below : Scope → List Frag → Time → Time → List ItemRun → Branches → List Placed
  places_below s around begun rel items none = []
  places_below s around begun rel items (more (Fields g) (grown r inner) bs) =
      group_place s around begun g r inner
      ∷ (places_below s (r.fragments ++ around) begun (released_at p s begun g) (items_run inner) inner ++ places_below s around begun rel items bs)
  places_below s around begun rel items (more (Item st n) (grown r inner) bs) =
      root_place (st.path.keys ++ Index n ∷ []) r inner (item_at p items rel st n) (by_stream st)
      ∷ (places_below (scope_of (grown r inner)) r.fragments (item_at p items rel st n) (item_at p items rel st n) (items_run inner) inner ++ places_below s around begun rel items bs)

  abbrev pub places : Forest → List Placed
  places (grown r bs) = root_place [] r bs (Some 0) at_first ∷ places_below (scope_of (grown r bs)) r.fragments (Some 0) (Some 0) (items_run bs) bs

  pub sites_placed : (s : Scope) (around : List Frag) (begun rel : Time) (items : List ItemRun) (bs : Branches) → map (λ (q : Placed). q.site) (places_below s around begun rel items bs) ≡ sites_below s around bs
  sites_placed s around begun rel items none = refl
  sites_placed s around begun rel items (more (Fields g) (grown r inner) bs) =
      let a = places_below s (r.fragments ++ around) begun (released_at p s begun g) (items_run inner) inner in
      let b = places_below s around begun rel items bs in
      ap (λ (l : List Site). (group_place s around begun g r inner).site ∷ l)
      (map-append (λ (q : Placed). q.site) a b ∙ (λ i. sites_placed s (r.fragments ++ around) begun (released_at p s begun g) (items_run inner) inner i ++ sites_placed s around begun rel items bs i))
  sites_placed s around begun rel items (more (Item st n) (grown r inner) bs) =
      let t = item_at p items rel st n in
      let a = places_below (scope_of (grown r inner)) r.fragments t t (items_run inner) inner in
      let b = places_below s around begun rel items bs in
      ap (λ (l : List Site). root_site (st.path.keys ++ Index n ∷ []) r inner ∷ l)
      (map-append (λ (q : Placed). q.site) a b ∙ (λ i. sites_placed (scope_of (grown r inner)) r.fragments t t (items_run inner) inner i ++ sites_placed s around begun rel items bs i))

  -- ---- what arises in a scope

  -- where a fragment of the scope arises
  pub record ArisesIn (s : Scope) (around : List Frag) (begun : Time) (l : List Frag) (qs : List Placed) (x : Frag) : Type 0 where
    pub place : Placed
    pub is_place : In place qs
    pub arises : In x place.site.region.fragments
    pub of_scope : IsOfScope s around l place.site
    pub when : place.begun ≡ begun

  pub fragments_placed : (s : Scope) (around : List Frag) (begun rel : Time) (items : List ItemRun) (bs : Branches) → (x : Frag) → In x (fragments_below bs) → ArisesIn s around begun (fragments_below bs) (places_below s around begun rel items bs) x
  fragments_placed s around begun rel items none x i = absurd i
  fragments_placed s around begun rel items (more (Fields g) (grown r inner) bs) x i =
      by (in_cases x r.fragments (fragments_below inner ++ fragments_below bs) i) (fragments_placed s (r.fragments ++ around) begun (released_at p s begun g) (items_run inner) inner x) (fragments_placed s around begun rel items bs x)
    where
      here : (z : Frag) → In z r.fragments ⊎ In z around → In z around ⊎ In z (r.fragments ++ (fragments_below inner ++ fragments_below bs))
      here z (inl j) = inr (in_left z r.fragments (fragments_below inner ++ fragments_below bs) j)
      here z (inr j) = inl j

      deeper : In x (fragments_below inner) ⊎ In x (fragments_below bs)
          → (In x (fragments_below inner) → ArisesIn s (r.fragments ++ around) begun (fragments_below inner) (places_below s (r.fragments ++ around) begun (released_at p s begun g) (items_run inner) inner) x)
          → (In x (fragments_below bs) → ArisesIn s around begun (fragments_below bs) (places_below s around begun rel items bs) x)
          → ArisesIn s around begun (fragments_below (more (Fields g) (grown r inner) bs)) (places_below s around begun rel items (more (Fields g) (grown r inner) bs)) x
      deeper (inl k) h1 h2 = let w = h1 k in record {
        place = w.place;
        is_place = inr (in_left w.place (places_below s (r.fragments ++ around) begun (released_at p s begun g) (items_run inner) inner) (places_below s around begun rel items bs) w.is_place);
        arises = w.arises;
        of_scope = from_inner s around r.fragments (fragments_below inner) (fragments_below bs) w.place.site w.of_scope;
        when = w.when;
      }
      deeper (inr k) h1 h2 = let w = h2 k in record {
        place = w.place;
        is_place = inr (in_right w.place (places_below s (r.fragments ++ around) begun (released_at p s begun g) (items_run inner) inner) (places_below s around begun rel items bs) w.is_place);
        arises = w.arises;
        of_scope = from_rest s around r.fragments (fragments_below inner) (fragments_below bs) w.place.site w.of_scope;
        when = w.when;
      }

      by : In x r.fragments ⊎ In x (fragments_below inner ++ fragments_below bs)
          → (In x (fragments_below inner) → ArisesIn s (r.fragments ++ around) begun (fragments_below inner) (places_below s (r.fragments ++ around) begun (released_at p s begun g) (items_run inner) inner) x)
          → (In x (fragments_below bs) → ArisesIn s around begun (fragments_below bs) (places_below s around begun rel items bs) x)
          → ArisesIn s around begun (fragments_below (more (Fields g) (grown r inner) bs)) (places_below s around begun rel items (more (Fields g) (grown r inner) bs)) x
      by (inl j) h1 h2 = record { place = _; is_place = inl refl; arises = j; of_scope = record { scope = refl; surrounded = λ z k. here z (in_cases z r.fragments around k) }; when = refl }
      by (inr j) h1 h2 = deeper (in_cases x (fragments_below inner) (fragments_below bs) j) h1 h2
  fragments_placed s around begun rel items (more (Item st n) (grown r inner) bs) x i =
      let w = fragments_placed s around begun rel items bs x i in
      record { place = w.place; is_place = inr (in_right w.place _ (places_below s around begun rel items bs) w.is_place); arises = w.arises; of_scope = w.of_scope; when = w.when }

-- ---- each region, fragment and stream stands in one place
pub same_numbers-refl : (ns : List ℕ) → same_lists (λ i j. i == j) ns ns ≡ true
same_numbers-refl [] = refl
same_numbers-refl (n ∷ ns) = let e : (n == n) ≡ true = (Decides-eqb n n).1 refl in rw (e, same_numbers-refl ns) refl

root_coincides : (x : Site) → x.is_root ≡ true → coincide x x ≡ true
root_coincides x e = rw (e, same_keys-refl x.at) refl

group_collides : (x : Site) → x.is_root ≡ false → collide x x ≡ true
group_collides x e = rw (e, same_keys-refl x.at, same_numbers-refl (map (λ (o : FragId). o.place) x.owners)) refl

module _ (r0 : RegionResult) (bs0 : Branches) (wf : IsWellFormed (grown r0 bs0)) (p : Schedule) where
  abbrev pub all : List Placed
  all = places p (grown r0 bs0)

  sites_are : map (λ (q : Placed). q.site) all ≡ sites (grown r0 bs0)
  sites_are = ap (λ (l : List Site). root_site [] r0 bs0 ∷ l) (sites_placed p (scope_of (grown r0 bs0)) r0.fragments (Some 0) (Some 0) (items_run bs0) bs0)

  pub is_site : (q : Placed) → In q all → In q.site (sites (grown r0 bs0))
  is_site q i = subst (λ (l : List Site). In q.site l) sites_are (to_map (λ (z : Placed). z.site) q all i)

  pub one_place : (q u : Placed) → In q all → In u all → q.site ≡ u.site → q ≡ u
  one_place q u i j e = by q.site.is_root refl where
    by : (b : Bool) → q.site.is_root ≡ b → q ≡ u
    by true r =
        let t = root_coincides q.site r in
        one_mapped coincide (λ (z : Placed). z.site) all (ap (no_two coincide) sites_are ∙ items_apart (grown r0 bs0) wf) q u i j (ap (coincide q.site) (sym e) ∙ t) (ap (λ (x : Site). coincide x q.site) (sym e) ∙ t)
    by false r =
        let t = group_collides q.site r in
        one_mapped collide (λ (z : Placed). z.site) all (ap (no_two collide) sites_are ∙ wf.groups_apart) q u i j (ap (collide q.site) (sym e) ∙ t) (ap (λ (x : Site). collide x q.site) (sym e) ∙ t)

  abbrev alike : Frag → Frag → Bool
  alike x y = same_fragment x.id y.id

  fragments_no_two : no_two alike (flat_map (λ (q : Placed). q.site.region.fragments) all) ≡ true
  fragments_no_two = ap (no_two alike) (sym (flat_mapped (λ (x : Site). x.region.fragments) (λ (q : Placed). q.site) all) ∙ ap (flat_map (λ (x : Site). x.region.fragments)) sites_are) ∙ wf.fragments_apart

  pub one_fragment : (q u : Placed) (x y : Frag) → In q all → In u all → In x q.site.region.fragments → In y u.site.region.fragments → x.id ≡ y.id → (q ≡ u) × (x ≡ y)
  one_fragment q u x y i j k l e =
      let a : alike x y ≡ true = ap (λ (o : FragId). same_fragment o y.id) e ∙ same_fragment-refl y.id in
      let b : alike y x ≡ true = ap (same_fragment y.id) e ∙ same_fragment-refl y.id in
      let same : q ≡ u = one_flat alike (λ (z : Placed). z.site.region.fragments) all fragments_no_two q u x y i j k l a b in
      let here = no_two_at alike (λ (z : Placed). z.site.region.fragments) all fragments_no_two u j in
      (same, one_element alike u.site.region.fragments here x y (subst (λ (z : Placed). In x z.site.region.fragments) same k) l a b)

  abbrev pub one_list_of : Stream → Stream → Bool
  one_list_of x y = same_path x.path y.path

  pub streams_no_two : no_two one_list_of (flat_map (λ (x : Site). x.region.streams) (sites (grown r0 bs0))) ≡ true
  streams_no_two = wf.streams_apart

  streams_no_two' : no_two one_list_of (flat_map (λ (q : Placed). q.site.region.streams) all) ≡ true
  streams_no_two' = ap (no_two one_list_of) (sym (flat_mapped (λ (x : Site). x.region.streams) (λ (q : Placed). q.site) all) ∙ ap (flat_map (λ (x : Site). x.region.streams)) sites_are) ∙ wf.streams_apart

  pub one_stream_at : (q u : Placed) (x y : Stream) → In q all → In u all → In x q.site.region.streams → In y u.site.region.streams → x.path.keys ≡ y.path.keys → (q ≡ u) × (x ≡ y)
  one_stream_at q u x y i j k l e =
      let a : one_list_of x y ≡ true = ap (λ (o : List Key). same_lists same_key o y.path.keys) e ∙ same_keys-refl y.path.keys in
      let b : one_list_of y x ≡ true = ap (same_lists same_key y.path.keys) e ∙ same_keys-refl y.path.keys in
      let same : q ≡ u = one_flat one_list_of (λ (z : Placed). z.site.region.streams) all streams_no_two' q u x y i j k l a b in
      let here = no_two_at one_list_of (λ (z : Placed). z.site.region.streams) all streams_no_two' u j in
      (same, one_element one_list_of u.site.region.streams here x y (subst (λ (z : Placed). In x z.site.region.streams) same k) l a b)

  -- ---- what is announced

  -- a fragment that is awaited, where it arises
  pub record FragmentAwaited (a : Awaited) : Type 0 where
    pub place : Placed
    pub is_place : In place all
    pub fragment : Frag
    pub arises : In fragment place.site.region.fragments
    pub announced : is_announced place.site.scope fragment.id ≡ true
    pub is : a ≡ awaited_fragment p place.site.scope place.begun fragment

  -- a stream that is awaited, where it arises
  pub record StreamAwaited (a : Awaited) : Type 0 where
    pub place : Placed
    pub is_place : In place all
    pub stream : Stream
    pub is_listed : In stream place.site.region.streams
    pub is : a ≡ awaited_stream p place.items place.arrival.released stream
    pub arrives : In place.arrival (course p (grown r0 bs0)).arrivals
