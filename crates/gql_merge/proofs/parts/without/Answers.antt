use Rattle.std.proofs.Common.{rules, ap, ◌∙◌}
use Rattle.std.specs.Prelude.{not}
use Rattle.std.specs.Str.{bytes_eq}
use Rattle.std.proofs.lemmas.Fn.{filter_same}
use Rattle.gql_tree.specs.declared.delivery.Pending.{Pending}
use Rattle.gql_merge.specs.Apply.{without}
use Rattle.gql_merge.proofs.parts.without.Goals as goal

pub returns : goal.returns
returns c =
    c.from_vec.ensures
    ∙ (filter_same _ (λ (p : Pending). not (bytes_eq p.id c.args.id.now)) _ (λ x b q k. search rules) _ _ c.retain.ensures.filtered
    ∙ ap (without c.args.id.now) c.into_vec-items.ensures)
