-- Forests of one region, and of a region with one group that stands at its fragment, are well formed.
use Rattle.std.proofs.Common.{◌≡◌, ℕ, List, [], ◌∷◌, ◌++◌, refl, ap, true, false, Option, Some, None}
use Rattle.std.specs.Prelude.{not, ◌&&◌, ◌||◌}
use Rattle.std.specs.List.{list_any, list_all}
use Rattle.gql_tree.specs.declared.path.Key.{Key}
use Rattle.gql_tree.specs.declared.path.Key.TheVariants.{Name}
use Rattle.gql_tree.specs.declared.value.Value.{Value}
use Rattle.gql_tree.specs.declared.delivery.Detail.{Detail}
use Rattle.gql_tree.specs.declared.delivery.Fault.{Fault}
use Rattle.gql_tree.specs.declared.delivery.FragId.{FragId}
use Rattle.gql_tree.specs.declared.delivery.Group.{Group}
use Rattle.gql_tree.specs.declared.delivery.Row.{Row}
use Rattle.gql_tree.specs.declared.delivery.Outcome.{Outcome}
use Rattle.gql_tree.specs.declared.delivery.Outcome.TheVariants.{Good}
use Rattle.gql_tree.specs.Flat.{object, flat}
use Rattle.gql_tree.specs.WellFormed.{Site, comes_to_an_end, is_prefix, is_one_of, shows_object, shows_nothing, keys_of, is_blamed, is_located, has_its_fields, IsWellFormed}
use Rattle.gql_tree.proofs.Moved.{same_key-refl}
use Rattle.gql_confluence.proofs.Deciders.{same_fragment-refl}
use Rattle.gql_tool.proofs.hero_lemmas.OneTask.{alone, waiting, group, later_region, scope, no_parent, outermost}

prefix_itself : (ks : List Key) → is_prefix ks ks ≡ true
prefix_itself [] = refl
prefix_itself (k ∷ ks) = rw (same_key-refl k, prefix_itself ks) refl

module _ (value : Value) (faults : List Fault) (object_at_first : shows_object (flat value []) ≡ true) (located : list_all is_located faults ≡ true) where
  -- a region without a fragment
  pub alone_well_formed : IsWellFormed (alone (Good value) faults [])
  alone_well_formed = record {
    grows = (refl, tt);
    fragments_apart = refl;
    parents = refl;
    no_cycle = refl;
    owned = refl;
    owners = refl;
    groups_stand = refl;
    tied_parents = refl;
    tied_owners = refl;
    groups_apart = refl;
    new_keys = refl;
    streams_stand = refl;
    streams_apart = refl;
    blamed = refl;
    located = ap (λ b. b && true) located;
    first_object = object_at_first;
    fields = refl;
  }

  module _ (id : FragId) (label : Option (List ℕ)) (row : Row) (fields : List Detail) where
    -- a region with an empty fragment
    pub empty_well_formed : IsWellFormed (alone (Good value) faults (record { id = id; label = label; parent = None } ∷ []))
    empty_well_formed = record {
      grows = (refl, tt);
      fragments_apart = refl;
      parents = refl;
      no_cycle = ap (λ o. (comes_to_an_end 1 (record { id = id; label = label; parent = None } ∷ []) o && true) && true) (no_parent value faults id label row fields [] (Good value));
      owned = refl;
      owners = refl;
      groups_stand = refl;
      tied_parents = refl;
      tied_owners = refl;
      groups_apart = refl;
      new_keys = refl;
      streams_stand = refl;
      streams_apart = refl;
      blamed = refl;
      located = ap (λ b. b && true) located;
      first_object = object_at_first;
      fields = refl;
    }

    -- a region with a group of one fragment
    module _ (later_faults : List Fault) (outcome : Outcome) where
      abbrev g : Group
      g = group value faults id label row fields later_faults

      -- the region of the group, where it lies
      abbrev pub later_site : Site
      later_site = record {
        at = id.path.keys;
        is_root = false;
        owners = id ∷ [];
        keys = keys_of g;
        around = record { id = id; label = label; parent = None } ∷ [];
        scope = scope value faults id label row fields later_faults outcome;
        region = later_region value faults id label row fields later_faults outcome;
        works = [];
      }

      pub waiting_well_formed : flat value id.path.keys ≡ Some object
          → list_all (λ k. shows_nothing (flat value (id.path.keys ++ Name k ∷ []))) (keys_of g) ≡ true
          → list_all is_located later_faults ≡ true
          → is_blamed (later_region value faults id label row fields later_faults outcome) ≡ true
          → has_its_fields later_site ≡ true
          → IsWellFormed (waiting value faults id label row fields later_faults outcome)
      waiting_well_formed stands fresh later_located blamed its_fields = record {
        grows = (refl, (refl, tt));
        fragments_apart = refl;
        parents = refl;
        no_cycle = ap (λ o. (comes_to_an_end 1 (record { id = id; label = label; parent = None } ∷ []) o && true) && (true && true)) (no_parent value faults id label row fields later_faults outcome);
        owned = refl;
        owners = λ i. ((((same_fragment-refl id i || false) && prefix_itself id.path.keys i && not (list_any (λ a. is_one_of a g.owners) (outermost value faults id label row fields later_faults outcome i))) && true) && true) && (true && true);
        groups_stand = ap (λ o. ((shows_object o && true) && true) && (true && true)) stands;
        tied_parents = refl;
        tied_owners = refl;
        groups_apart = refl;
        new_keys = ap (λ b. (b && true) && (true && true)) fresh;
        streams_stand = refl;
        streams_apart = refl;
        blamed = ap (λ b. b && true) blamed;
        located = λ i. located i && (later_located i && true);
        first_object = object_at_first;
        fields = ap (λ b. b && true) its_fields;
      }
