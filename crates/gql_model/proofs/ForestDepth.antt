-- More depth than an operation has changes nothing of a forest.
use Rattle.std.proofs.Common.{◌≡◌, refl, sym, ap, subst, ℕ, zero, suc, ◌+◌, ◌*◌, ◌≤◌, Bool, true, false, List, [], ◌∷◌, ◌++◌, map, length, take, Option, Some, None, arith}
use Rattle.std.specs.Prelude.{filter, flat_map, nat_lt, not}
use Rattle.std.specs.List.{AllByRecursion as Each, list_any}
use Rattle.std.proofs.lemmas.Option.{slice_get_past}
use Rattle.gql_tree.specs.declared.Key.{Key}
use Rattle.gql_tree.specs.declared.Key.TheVariants.{Index}
use Rattle.gql_tree.specs.declared.Value.{Value}
use Rattle.gql_tree.specs.declared.Value.TheVariants as v
use Rattle.gql_tree.specs.declared.FragId.{FragId}
use Rattle.gql_tree.specs.declared.Fault.{Fault}
use Rattle.gql_tree.specs.declared.Occurrence.{Occurrence}
use Rattle.gql_tree.specs.declared.Detail.{Detail}
use Rattle.gql_tree.specs.declared.Row.{Row}
use Rattle.gql_tree.specs.declared.Spot.{Spot}
use Rattle.gql_tree.specs.declared.Group.{Group}
use Rattle.gql_tree.specs.declared.Stream.{Stream}
use Rattle.gql_tree.specs.declared.RegionResult.{RegionResult}
use Rattle.gql_tree.specs.declared.TaskWork.{TaskWork}
use Rattle.gql_tree.specs.declared.TaskWork.TheVariants.{Fields, Item}
use Rattle.gql_tree.specs.Forest.{Forest, grown, grow, tasks_of, items_to_come}
use Rattle.gql_tree.specs.Keys.{same_lists, same_fragment}
use Rattle.gql_model.specs.declared.operation.Node.{Node}
use Rattle.gql_model.specs.declared.operation.StreamUse.{StreamUse}
use Rattle.gql_model.specs.declared.operation.NodeKind.{NodeKind}
use Rattle.gql_model.specs.declared.operation.NodeKind.TheVariants.{Field, Fragment}
use Rattle.gql_model.specs.UsedType as s
use Rattle.gql_model.specs.UsedType.{UsedType}
use Rattle.gql_model.specs.World as c
use Rattle.gql_model.specs.World.{World, Cell, cells_of}
use Rattle.gql_model.specs.Owners.{owners}
use Rattle.gql_model.specs.Collect.{met, merged, fragments}
use Rattle.gql_model.specs.Complete.{Part, Found, Result, bubble, nothing, good, no_found, is_bubble, value_in, found_in, with_parts, whole, soft, hard, indexed, leaf, complete, fault_at, null_message}
use Rattle.gql_model.specs.Objects.{node_of, stream_from, stream_at, initial_count, executed, executed_at, field_part, fields_part, object_part, object_at, object_value, groups_at, is_own}
use Rattle.gql_tree.specs.Order.{group_cmp, stream_cmp}
use Rattle.gql_model.specs.Region.{region_of, item_type, item_cell, untagged, completed_item, item_of_node, item_at, task_region}
use Rattle.gql_model.specs.Operations.{forest_below}
use Rattle.gql_model.specs.Depth.{IsNumbered, ForestsUnfold}
use Rattle.gql_model.proofs.Each.{each_append, each_flat, each_map, each_filter, each_weaker, each_always, each_gathered, each_ordered, each_none}
use Rattle.gql_model.proofs.Below.{From, DetailFrom, merged-from}

-- ---- what holds of each group and each stream that is found

module _ (G : Group → Type 0) (S : Stream → Type 0) where
  abbrev pub AllFound : Found → Type 0
  AllFound f = Each G f.groups × Each S f.streams

  abbrev pub AllIn : Part → Type 0
  AllIn p = AllFound (found_in p)

  all_with_parts : (f : Found) (ps : List Part) → AllFound f → Each AllIn ps → AllFound (with_parts f ps)
  all_with_parts f ps h k = (each_append G _ _ h.0 (each_flat G AllIn (λ p. (found_in p).groups) (λ p i. i.0) ps k), each_append S _ _ h.1 (each_flat S AllIn (λ p. (found_in p).streams) (λ p i. i.1) ps k))

  all_whole_by : (b : Bool) (x : Value) (f : Found) (fs : List Fault) → AllFound f → AllIn (record { result = elim b [ true ↦ bubble | false ↦ good x f ]; faults = fs })
  all_whole_by true x f fs h = (tt, tt)
  all_whole_by false x f fs h = h

  pub all_whole : (make : List Value → Value) (f : Found) (ps : List Part) → AllFound f → Each AllIn ps → AllIn (whole make f ps)
  all_whole make f ps h k = all_whole_by (list_any is_bubble ps) (make (map value_in ps)) (with_parts f ps) (flat_map (λ p. p.faults) ps) (all_with_parts f ps h k)

  all_soft_by : (r : Result) (fs : List Fault) → AllIn (record { result = r; faults = fs }) → AllIn (soft (record { result = r; faults = fs }))
  all_soft_by bubble fs h = (tt, tt)
  all_soft_by nothing fs h = h
  all_soft_by (good x f) fs h = h

  pub all_soft : (p : Part) → AllIn p → AllIn (soft p)
  all_soft p h = all_soft_by p.result p.faults h

  all_hard_by : (e : Fault) (r : Result) (fs : List Fault) → AllIn (record { result = r; faults = fs }) → AllIn (hard e (record { result = r; faults = fs }))
  all_hard_by e bubble fs h = h
  all_hard_by e nothing fs h = (tt, tt)
  all_hard_by e (good x f) fs h = h

  all_hard : (e : Fault) (p : Part) → AllIn p → AllIn (hard e p)
  all_hard e p h = all_hard_by e p.result p.faults h

  all_leaf : (spot : Spot) (x : Cell) (path : List Key) → AllIn (leaf spot x path)
  all_leaf spot (c.truth b) path = (tt, tt)
  all_leaf spot (c.integer n) path = (tt, tt)
  all_leaf spot (c.text t) path = (tt, tt)
  all_leaf spot (c.error m) path = (tt, tt)
  all_leaf spot c.null path = (tt, tt)
  all_leaf spot (c.ref r) path = (tt, tt)
  all_leaf spot (c.items xs) path = (tt, tt)

  all_indexed : {A : Type 0} (f : ℕ → A → Part) → ((i : ℕ) (a : A) → AllIn (f i a)) → (i : ℕ) (xs : List A) → Each AllIn (indexed f i xs)
  all_indexed f g i [] = tt
  all_indexed f g i (x ∷ xs) = (g i x, all_indexed f g (i + 1) xs)

  module _ (spot : Spot) (object : Row → List Key → Part) (streams : ℕ → ℕ → List Key → Found) (objects : (r : Row) (p : List Key) → AllIn (object r p)) (lists : (first all : ℕ) (p : List Key) → AllFound (streams first all p)) where
    pub all_complete : (used : UsedType) (first : Option ℕ) (x : Cell) (path : List Key) → AllIn (complete spot object streams used first x path)
    all_complete (s.non_null used) first x path = all_hard (fault_at spot null_message path) (complete spot object streams used first x path) (all_complete used first x path)
    all_complete (s.named t) first (c.ref row) path = all_soft (object row path) (objects row path)
    all_complete (s.named t) first x path = all_leaf spot x path
    all_complete (s.list used) (Some n) (c.items xs) path =
        let item : ℕ → Cell → Part = λ i y. complete spot object streams used None y (path ++ Index i ∷ []) in
        let items = indexed item 0 (take n (cells_of xs)) in
        let found = streams n (length (cells_of xs)) path in
        all_soft (whole v.List found items) (all_whole v.List found items (lists n (length (cells_of xs)) path) (all_indexed item (λ i y. all_complete used None y (path ++ Index i ∷ [])) 0 (take n (cells_of xs))))
    all_complete (s.list used) None (c.items xs) path =
        let item : ℕ → Cell → Part = λ i y. complete spot object streams used None y (path ++ Index i ∷ []) in
        let items = indexed item 0 (cells_of xs) in
        all_soft (whole v.List no_found items) (all_whole v.List no_found items (tt, tt) (all_indexed item (λ i y. all_complete used None y (path ++ Index i ∷ [])) 0 (cells_of xs)))
    all_complete (s.list used) (Some n) x path = all_leaf spot x path
    all_complete (s.list used) None x path = all_leaf spot x path

-- ---- what is found stands below

-- groups from this node on, and streams from that one on
abbrev GroupFrom : ℕ → Group → Type 0
GroupFrom n g = Each (DetailFrom n) g.fields

abbrev StreamFrom : ℕ → Stream → Type 0
StreamFrom n x = DetailFrom n x.field

abbrev FoundFrom : ℕ → ℕ → Part → Type 0
FoundFrom a b = AllIn (GroupFrom a) (StreamFrom b)

from_weaker : (n m : ℕ) → m ≤ n → (os : List Occurrence) → From n os → From m os
from_weaker n m le os h = each_weaker (λ (o : Occurrence). n ≤ o.node) (λ o. m ≤ o.node) (λ o k. omega arith) os h

found_weaker : (a b b' : ℕ) → b' ≤ b → (p : Part) → FoundFrom a b p → FoundFrom a b' p
found_weaker a b b' le p h = (h.0, each_weaker (StreamFrom b) (StreamFrom b') (λ x k. from_weaker b b' le x.field.nodes k) (found_in p).streams h.1)

found_lower : (a a' : ℕ) → a' ≤ a → (p : Part) → FoundFrom a a p → FoundFrom a' a' p
found_lower a a' le p h = (each_weaker (GroupFrom a) (GroupFrom a') (λ g k. each_weaker (DetailFrom a) (DetailFrom a') (λ d i. from_weaker a a' le d.nodes i) g.fields k) (found_in p).groups h.0, each_weaker (StreamFrom a) (StreamFrom a') (λ x k. from_weaker a a' le x.field.nodes k) (found_in p).streams h.1)

module _ (w : World) (nodes : List Node) (numbered : IsNumbered nodes) where
  stream_from_by : (a n : ℕ) (b : Bool) (row : Row) (d : Detail) (x : StreamUse) (first all : ℕ) (p : List Key) → DetailFrom n d → AllFound (GroupFrom a) (StreamFrom n) (stream_from b row d x first all p)
  stream_from_by a n false row d x first all p h = (tt, tt)
  stream_from_by a n true row d x first all p h = (tt, (h, tt))

  stream_at_from : (a n : ℕ) (row : Row) (d : Detail) (x : Option StreamUse) (first all : ℕ) (p : List Key) → DetailFrom n d → AllFound (GroupFrom a) (StreamFrom n) (stream_at row d x first all p)
  stream_at_from a n row d None first all p h = (tt, tt)
  stream_at_from a n row d (Some x) first all p h = stream_from_by a n (nat_lt first all) row d x first all p h

  module _ (a n : ℕ) (object : Row → List Key → Part) (objects : (r : Row) (p : List Key) → FoundFrom a n (object r p)) (row : Row) (path : List Key) (d : Detail) (from : DetailFrom n d) where
    executed_from : (spot : Spot) (k : NodeKind) → FoundFrom a n (executed w nodes object row path d spot k)
    executed_from spot (Fragment condition defer) = (tt, tt)
    executed_from spot (Field key name arguments stream) = all_complete (GroupFrom a) (StreamFrom n) spot object (stream_at row d stream) objects (λ first all p. stream_at_from a n row d stream first all p from) (w.field_type row.kind name) (initial_count stream) (w.cell row name arguments) _

    executed_at_from : (o : Option Node) → FoundFrom a n (executed_at w nodes object row path d o)
    executed_at_from None = (tt, tt)
    executed_at_from (Some node) = executed_from node.spot node.kind

  groups_at_from : (n : ℕ) (own : List FragId) (row : Row) (path : List Key) (ds : List Detail) → Each (DetailFrom n) ds → Each (GroupFrom n) (groups_at nodes own row path ds)
  groups_at_from n own row path ds h =
      let others = filter (λ d. not (is_own nodes own d)) ds in
      let kept = each_filter (DetailFrom n) (λ d. not (is_own nodes own d)) ds h in
      each_map {A = List FragId × List Detail} {B = Group} (GroupFrom n) (λ g. Each (DetailFrom n) g.1) (λ g. record { owners = g.0; path = record { keys = path }; row = row; fields = g.1 }) (λ g k. k) _
      (each_gathered {A = Detail} (DetailFrom n) (same_lists same_fragment) (map (λ d. (owners nodes d.nodes, d)) others) (each_map {A = Detail} {B = List FragId × Detail} (λ x. DetailFrom n x.1) (DetailFrom n) (λ d. (owners nodes d.nodes, d)) (λ d k. k) others kept))

  object_from_node : (deep n : ℕ) (own : List FragId) (row : Row) (os : List Occurrence) (path : List Key) → From n os → FoundFrom (suc n) (suc n) (object_part w nodes deep own row os path)
  object_from_node zero n own row os path h = (tt, tt)
  object_from_node (suc deep) n own row os path h =
      let ms = met w nodes row.kind path os in
      let ds = merged ms in
      let below = merged-from w nodes numbered row.kind path n os h in
      let mine = filter (is_own nodes own) ds in
      let kept = each_filter (DetailFrom (suc n)) (is_own nodes own) ds below in
      let le : suc n ≤ suc (suc n) = omega arith in
      let found : Found = record { fragments = fragments ms; groups = groups_at nodes own row path ds; streams = [] } in
      let object : Detail → Row → List Key → Part = λ d r p. object_part w nodes deep own r d.nodes p in
      let part : Detail → Part = λ d. field_part w nodes (object d) row path d in
      all_whole (GroupFrom (suc n)) (StreamFrom (suc n)) (object_value mine) found (map part mine) (groups_at_from (suc n) own row path ds below, tt)
      (each_map (FoundFrom (suc n) (suc n)) (DetailFrom (suc n)) part
      (λ d k. executed_at_from (suc n) (suc n) (object d) (λ r p. found_lower (suc (suc n)) (suc n) le (object d r p) (object_from_node deep (suc n) own r d.nodes p k)) row path d k (node_of nodes d)) mine kept)

  -- ---- the tasks of a task's region

  -- so many tasks are below at most
  abbrev Settled : ℕ → TaskWork → Type 0
  Settled k (Fields g) = (n : ℕ) × (2 * length nodes + 1 ≤ 2 * n + k) × GroupFrom n g
  Settled k (Item x i) = (n : ℕ) × (2 * length nodes ≤ 2 * n + k) × StreamFrom n x

  items_settled : (T : TaskWork → Type 0) (x : Stream) → ((i : ℕ) → T (Item x i)) → (is : List ℕ) → Each T (map (Item x) is)
  items_settled T x h is = each_map T (λ (i : ℕ). Unit {0}) (Item x) (λ i u. h i) is (each_always (λ (i : ℕ). Unit {0}) (λ i. tt) is)

  module _ (T : TaskWork → Type 0) (G : Group → Type 0) (S : Stream → Type 0) (groups : (g : Group) → G g → T (Fields g)) (streams : (x : Stream) → S x → (i : ℕ) → T (Item x i)) where
    tasks_by : (r : Result) (fs : List Fault) → AllIn G S (record { result = r; faults = fs }) → Each T (tasks_of (region_of (record { result = r; faults = fs })))
    tasks_by bubble fs h = tt
    tasks_by nothing fs h = tt
    tasks_by (good x f) fs h = each_append T _ _
        (each_map T G Fields groups _ (each_ordered G group_cmp f.groups h.0))
        (each_flat T S items_to_come (λ y k. items_settled T y (streams y k) _) _ (each_ordered S stream_cmp f.streams h.1))

    tasks_all : (p : Part) → AllIn G S p → Each T (tasks_of (region_of p))
    tasks_all p h = tasks_by p.result p.faults h

  group_found : (n : ℕ) (g : Group) → GroupFrom n g → FoundFrom (suc n) n (fields_part w nodes (object_at w nodes g.owners) g.row g.path.keys no_found g.fields)
  group_found n g h =
      let le : n ≤ suc n = omega arith in
      let object : Detail → Row → List Key → Part = λ d r p. object_at w nodes g.owners r d.nodes p in
      let part : Detail → Part = λ d. field_part w nodes (object d) g.row g.path.keys d in
      all_whole (GroupFrom (suc n)) (StreamFrom n) (object_value g.fields) no_found (map part g.fields) (tt, tt)
      (each_map (FoundFrom (suc n) n) (DetailFrom n) part
      (λ d k. executed_at_from (suc n) n (object d) (λ r p. found_weaker (suc n) (suc n) n le (object d r p) (object_from_node (suc (length nodes)) n g.owners r d.nodes p k)) g.row g.path.keys d k (node_of nodes d)) g.fields h)

  untagged_from : (n : ℕ) (os : List Occurrence) → From n os → From n (untagged os)
  untagged_from n os h = each_map (λ (o : Occurrence). n ≤ o.node) (λ (o : Occurrence). n ≤ o.node) (λ o. record { node = o.node; tag = None }) (λ o k. k) os h

  module _ (n : ℕ) (x : Stream) (i : ℕ) (from : StreamFrom n x) where
    completed_found : (spot : Spot) (used : UsedType) (o : Option Cell) → FoundFrom (suc n) (suc n) (completed_item w nodes x i spot used o)
    completed_found spot used None = (tt, tt)
    completed_found spot used (Some y) = all_complete (GroupFrom (suc n)) (StreamFrom (suc n)) spot (λ r p. object_at w nodes [] r (untagged x.field.nodes) p) (λ first all p. no_found) (λ r p. object_from_node (suc (length nodes)) n [] r (untagged x.field.nodes) p (untagged_from n x.field.nodes from)) (λ first all p. (tt, tt)) (item_type used) None y _

    item_node_found : (spot : Spot) (k : NodeKind) → FoundFrom (suc n) (suc n) (item_of_node w nodes x i spot k)
    item_node_found spot (Fragment condition defer) = (tt, tt)
    item_node_found spot (Field key name arguments stream) = completed_found spot (w.field_type x.row.kind name) (item_cell (w.cell x.row name arguments) i)

    item_found : (o : Option Node) → FoundFrom (suc n) (suc n) (item_at w nodes x i o)
    item_found None = (tt, tt)
    item_found (Some node) = item_node_found node.spot node.kind

  settled_next : (k : ℕ) (t : TaskWork) → Settled (suc k) t → Each (Settled k) (tasks_of (task_region w nodes t))
  settled_next k (Fields g) h =
      let n = h.0 in
      let fields : 2 * length nodes + 1 ≤ 2 * suc n + k = omega (arith, h.1) in
      let items : 2 * length nodes ≤ 2 * n + k = omega (arith, h.1) in
      tasks_all (Settled k) (GroupFrom (suc n)) (StreamFrom n) (λ g' i. (suc n, fields, i)) (λ x i j. (n, items, i)) (fields_part w nodes (object_at w nodes g.owners) g.row g.path.keys no_found g.fields) (group_found n g h.2)
  settled_next k (Item x i) h =
      let n = h.0 in
      let fields : 2 * length nodes + 1 ≤ 2 * suc n + k = omega (arith, h.1) in
      let items : 2 * length nodes ≤ 2 * suc n + k = omega (arith, h.1) in
      tasks_all (Settled k) (GroupFrom (suc n)) (StreamFrom (suc n)) (λ g j. (suc n, fields, j)) (λ y j m. (suc n, items, j)) (item_at w nodes x i (node_of nodes x.field)) (item_found n x i h.2 (node_of nodes x.field))

  -- ---- past the last node

  abbrev NoneIn : Part → Type 0
  NoneIn = AllIn (λ g. ⊥) (λ x. ⊥)

  node_past_by : (os : List Occurrence) (key : List ℕ) → From (length nodes) os → node_of nodes (record { key = key; nodes = os }) ≡ None
  node_past_by [] key h = refl
  node_past_by (o ∷ os) key h = slice_get_past nodes o.node h.0

  node_past : (d : Detail) → DetailFrom (length nodes) d → node_of nodes d ≡ None
  node_past d h = node_past_by d.nodes d.key h

  field_past : (object : Row → List Key → Part) (row : Row) (path : List Key) (d : Detail) → DetailFrom (length nodes) d → NoneIn (field_part w nodes object row path d)
  field_past object row path d h = rw (node_past d h) (tt, tt)

  settled_last : (t : TaskWork) → Settled 0 t → tasks_of (task_region w nodes t) ≡ []
  settled_last (Fields g) h =
      let n = h.0 in
      let le : length nodes ≤ n = omega (arith, h.1) in
      let past = each_weaker (DetailFrom n) (DetailFrom (length nodes)) (λ d k. from_weaker n (length nodes) le d.nodes k) g.fields h.2 in
      let part : Detail → Part = λ d. field_part w nodes (λ r p. object_at w nodes g.owners r d.nodes p) g.row g.path.keys d in
      let none = each_map NoneIn (DetailFrom (length nodes)) part (λ d k. field_past (λ r p. object_at w nodes g.owners r d.nodes p) g.row g.path.keys d k) g.fields past in
      let all = all_whole (λ g. ⊥) (λ x. ⊥) (object_value g.fields) no_found (map part g.fields) (tt, tt) none in
      each_none (tasks_of (task_region w nodes (Fields g))) (tasks_all (λ t. ⊥) (λ g. ⊥) (λ x. ⊥) (λ g i. i) (λ x i j. i) (whole (object_value g.fields) no_found (map part g.fields)) all)
  settled_last (Item x i) h =
      let le : length nodes ≤ h.0 = omega (arith, h.1) in
      let none = node_past x.field (from_weaker h.0 (length nodes) le x.field.nodes h.2) in
      ap (λ o. tasks_of (region_of (item_at w nodes x i o))) none

  -- ---- forests

  abbrev run : TaskWork → RegionResult
  run = task_region w nodes

  grow_alike : (f g : TaskWork → Forest) (ts : List TaskWork) → Each (λ t. f t ≡ g t) ts → grow f ts ≡ grow g ts
  grow_alike f g [] h = refl
  grow_alike f g (t ∷ ts) h = rw (h.0, grow_alike f g ts h.1) refl

  alone : (m : ℕ) (r : RegionResult) → tasks_of r ≡ [] → forest_below run zero r ≡ forest_below run m r
  alone zero r h = refl
  alone (suc m) r h = sym (ap (λ ts. grown r (grow (λ t. forest_below run m (run t)) ts)) h)

  pub forest_below-deeper : (k m : ℕ) → k ≤ m → (r : RegionResult) → Each (Settled k) (tasks_of r) → forest_below run (suc k) r ≡ forest_below run (suc m) r
  forest_below-deeper zero m le r h = ap (grown r) (grow_alike _ _ (tasks_of r) (each_weaker (Settled zero) (λ t. forest_below run zero (run t) ≡ forest_below run m (run t)) (λ t i. alone m (run t) (settled_last t i)) (tasks_of r) h))
  forest_below-deeper (suc k) zero le r h = absurd (omega arith)
  forest_below-deeper (suc k) (suc m) le r h =
      let le' : k ≤ m = omega arith in
      ap (grown r) (grow_alike _ _ (tasks_of r) (each_weaker (Settled (suc k)) (λ t. forest_below run (suc k) (run t) ≡ forest_below run (suc m) (run t)) (λ t i. forest_below-deeper k m le' (run t) (settled_next k t i)) (tasks_of r) h))

  from_first : (os : List Occurrence) → From 0 os
  from_first os = each_always (λ (o : Occurrence). 0 ≤ o.node) (λ o. omega arith) os

  settled_first : (t : TaskWork) → Settled (2 * length nodes + 1) t
  settled_first (Fields g) = (0, omega arith, each_always (DetailFrom 0) (λ d. from_first d.nodes) g.fields)
  settled_first (Item x i) = (0, omega arith, from_first x.field.nodes)

  pub forests_unfold : ForestsUnfold w nodes
  forests_unfold r =
      let depth : 2 * length nodes + 2 ≡ suc (suc (2 * length nodes)) = omega arith in
      let more : 2 * length nodes + 1 ≡ suc (2 * length nodes) = omega arith in
      let le : 2 * length nodes ≤ suc (2 * length nodes) = omega arith in
      let settled : (t : TaskWork) → Settled (suc (2 * length nodes)) t = λ t. subst (λ k. Settled k t) more (settled_first t) in
      let below : (t : TaskWork) → forest_below run (suc (2 * length nodes)) (run t) ≡ forest_below run (suc (suc (2 * length nodes))) (run t) = λ t. forest_below-deeper (2 * length nodes) (suc (2 * length nodes)) le (run t) (settled_next (2 * length nodes) t (settled t)) in
      let all = each_always (λ (t : TaskWork). forest_below run (suc (2 * length nodes)) (run t) ≡ forest_below run (suc (suc (2 * length nodes))) (run t)) below (tasks_of r) in
      subst (λ k. forest_below run k r ≡ grown r (grow (λ t. forest_below run k (run t)) (tasks_of r))) (sym depth) (ap (grown r) (grow_alike (λ t. forest_below run (suc (2 * length nodes)) (run t)) (λ t. forest_below run (suc (suc (2 * length nodes))) (run t)) (tasks_of r) all))
