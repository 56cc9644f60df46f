use Rattle.std.proofs.Common.{◌≡◌, drop}
use Rattle.std.specs.List.{list_any}
use Rattle.std.specs.Str.{bytes_eq}
use Rattle.gql_schema.proofs.rules.in_turn.is_among.Given as goal

abbrev pub invariant-loop-item : goal.invariant-loop-item
invariant-loop-item g l = list_any (λ item. bytes_eq (g.R.RuleInTurn.name_of item) l.name) l.items ≡ list_any (λ item. bytes_eq (g.R.RuleInTurn.name_of item) l.name) (drop l.item-index l.items)
