use Rattle.gql_tree.proofs.Same.{same_from_layer, layer_from_same, same_length, value_of_items, value_apart, value_of_leaf, list_differs, object_differs}
use Rattle.gql_tree.proofs.value.+same.Goals as goal

pub Value::same-returns : goal.Value::same-returns
Value::same-returns t c = (λ r. same_from_layer _ _ (c.same_layer.ensures.same.0 r), λ s. c.same_layer.ensures.same.1 (layer_from_same _ _ c.same_layer.ensures.apart s))

pub Value::same_layer-returns-in-List-other-clause-same : goal.Value::same_layer-returns-in-List-other-clause-same
Value::same_layer-returns-in-List-other-clause-same t c = value_of_items _ _ c.in-List.items c.in-List-other.second _ c.in-List.is c.in-List-other.is (rw (← c.as_slice.ensures, ← c.as_slice-in-List-other.ensures) c.same_items.ensures)

pub same_items-returns-then-first-second : goal.same_items-returns-then-first-second
same_items-returns-then-first-second t c = (λ f. absurd (cc), λ s. absurd (c.if-first-second.true (same_length _ _ s)))

pub Value::same_layer-returns-in_default-clause-apart : goal.Value::same_layer-returns-in_default-clause-apart
Value::same_layer-returns-in_default-clause-apart t c = value_apart c.args.self.now c.in_default.not-Object

pub Value::same_layer-returns-in_default-clause-same : goal.Value::same_layer-returns-in_default-clause-same
Value::same_layer-returns-in_default-clause-same t c = value_of_leaf _ c.args.other.now _ c.in_default.not-List c.in_default.not-Object c.same_mark.ensures

pub Value::same_layer-returns-in_default-other-clause-same : goal.Value::same_layer-returns-in_default-other-clause-same
Value::same_layer-returns-in_default-other-clause-same t c = list_differs _ c.args.other.now c.in-List.items c.in-List.is c.in_default-other.not-List

pub Value::same_layer-returns-in_default-other-2-clause-same : goal.Value::same_layer-returns-in_default-other-2-clause-same
Value::same_layer-returns-in_default-other-2-clause-same t c = object_differs _ c.args.other.now c.in-Object.members c.in-Object.is c.in_default-other-2.not-Object
