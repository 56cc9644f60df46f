-- The worked forests are well formed.
use Rattle.std.proofs.Common.{◌≡◌, true, refl}
use Rattle.std.specs.Prelude.{Bool, ◌&&◌, ◌||◌, flat_map}
use Rattle.std.specs.List.{list_all, AllByRecursion}
use Rattle.gql_tree.specs.declared.value.Value.TheVariants.{outs-List, outs-Object}
use Rattle.gql_tree.specs.Keys.{same_fragment}
use Rattle.gql_tree.specs.Fate.{same_path}
use Rattle.gql_tree.specs.Forest.{Forest, tasks_of}
use Rattle.gql_tree.specs.WellFormed.{Site, sites, no_two, has_its_parent, is_outermost_in_the_end, is_tied, has_tied_parent, is_owner_in_order, has_owners, stands_below, brings_new_keys, collide, begins_a_list, is_blamed, is_located, has_its_fields, is_object_if_good, first_region, IsWellFormed}
use Rattle.gql_tree.specs.WorkedForests.{streamed}
use Rattle.gql_confluence.specs.WorkedDocuments.{empty_fragment, empty_around_another, deferred_at_the_top, one_shared_group, inside_a_failed_one, two_that_fail, failed_item, null_item, whole_list, fragments_in_items, stream_in_a_fragment}
use Rattle.gql_confluence.proofs.Lists.{and_left}

module _ (f : Forest) where
  abbrev each : (Site → Bool) → Bool
  each test = list_all test (sites f)

  -- the tests on fragments and groups
  abbrev deferred : Bool
  deferred =
      no_two (λ x y. same_fragment x.id y.id) (flat_map (λ x. x.region.fragments) (sites f))
      && (each (λ x. list_all (has_its_parent x) x.region.fragments)
      && (each (λ x. list_all (is_outermost_in_the_end x) x.region.fragments)
      && (each (λ x. list_all has_owners x.region.groups)
      && (each (λ x. list_all (λ g. list_all (is_owner_in_order x g) g.owners) x.region.groups)
      && (each (λ x. list_all (stands_below x) x.region.groups)
      && (each (λ x. x.is_root || list_all (has_tied_parent x) x.region.fragments)
      && (each (λ x. x.is_root || list_all (λ g. list_all (is_tied x) g.owners) x.region.groups)
      && (no_two collide (sites f)
      && each (λ x. list_all (brings_new_keys x) x.region.groups)))))))))

  -- the tests on streams, errors and values
  abbrev others : Bool
  others =
      each (λ x. list_all (begins_a_list x) x.region.streams)
      && (no_two (λ s t. same_path s.path t.path) (flat_map (λ x. x.region.streams) (sites f))
      && (each (λ x. is_blamed x.region)
      && (each (λ x. list_all is_located x.region.faults)
      && (is_object_if_good (first_region f)
      && each has_its_fields))))

  -- below each region are the regions of its tasks, and all tests are passed
  shown : AllByRecursion (λ x. x.works ≡ tasks_of x.region) (sites f) → deferred ≡ true → others ≡ true → IsWellFormed f
  shown grows d o =
      let d1 = and_left _ _ d in
      let d2 = and_left _ _ d1.1 in
      let d3 = and_left _ _ d2.1 in
      let d4 = and_left _ _ d3.1 in
      let d5 = and_left _ _ d4.1 in
      let d6 = and_left _ _ d5.1 in
      let d7 = and_left _ _ d6.1 in
      let d8 = and_left _ _ d7.1 in
      let d9 = and_left _ _ d8.1 in
      let o1 = and_left _ _ o in
      let o2 = and_left _ _ o1.1 in
      let o3 = and_left _ _ o2.1 in
      let o4 = and_left _ _ o3.1 in
      let o5 = and_left _ _ o4.1 in
      record {
        grows = grows;
        fragments_apart = d1.0;
        parents = d2.0;
        no_cycle = d3.0;
        owned = d4.0;
        owners = d5.0;
        groups_stand = d6.0;
        tied_parents = d7.0;
        tied_owners = d8.0;
        groups_apart = d9.0;
        new_keys = d9.1;
        streams_stand = o1.0;
        streams_apart = o2.0;
        blamed = o3.0;
        located = o4.0;
        first_object = o5.0;
        fields = o5.1;
      }

pub empty_fragment_well_formed : IsWellFormed empty_fragment
empty_fragment_well_formed = shown empty_fragment (refl, tt) refl (simp outs-Object refl)

pub empty_around_another_well_formed : IsWellFormed empty_around_another
empty_around_another_well_formed = shown empty_around_another (refl, (refl, tt)) (simp outs-Object refl) (simp outs-Object refl)

pub deferred_at_the_top_well_formed : IsWellFormed deferred_at_the_top
deferred_at_the_top_well_formed = shown deferred_at_the_top (refl, (refl, tt)) (simp outs-Object refl) (simp outs-Object refl)

pub one_shared_group_well_formed : IsWellFormed one_shared_group
one_shared_group_well_formed = shown one_shared_group (refl, (refl, (refl, (refl, tt)))) (simp outs-Object refl) (simp outs-Object refl)

pub inside_a_failed_one_well_formed : IsWellFormed inside_a_failed_one
inside_a_failed_one_well_formed = shown inside_a_failed_one (refl, (refl, (refl, tt))) (simp outs-Object refl) (simp outs-Object refl)

pub two_that_fail_well_formed : IsWellFormed two_that_fail
two_that_fail_well_formed = shown two_that_fail (refl, (refl, (refl, tt))) (simp outs-Object refl) (simp outs-Object refl)

pub failed_item_well_formed : IsWellFormed failed_item
failed_item_well_formed = shown failed_item (refl, (refl, (refl, tt))) refl (simp (outs-Object, outs-List) refl)

pub null_item_well_formed : IsWellFormed null_item
null_item_well_formed = shown null_item (refl, (refl, (refl, tt))) refl (simp (outs-Object, outs-List) refl)

pub whole_list_well_formed : IsWellFormed whole_list
whole_list_well_formed = shown whole_list (refl, (refl, (refl, (refl, tt)))) refl (simp (outs-Object, outs-List) refl)

pub fragments_in_items_well_formed : IsWellFormed fragments_in_items
fragments_in_items_well_formed = shown fragments_in_items (refl, (refl, (refl, (refl, (refl, (refl, tt)))))) (simp outs-Object refl) (simp (outs-Object, outs-List) refl)

pub stream_in_a_fragment_well_formed : IsWellFormed stream_in_a_fragment
stream_in_a_fragment_well_formed = shown stream_in_a_fragment (refl, (refl, (refl, (refl, tt)))) (simp outs-Object refl) (simp (outs-Object, outs-List) refl)

pub streamed_well_formed : IsWellFormed streamed
streamed_well_formed = shown streamed (refl, (refl, (refl, (refl, tt)))) refl (simp (outs-Object, outs-List) refl)
