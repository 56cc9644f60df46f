use Rattle.std.proofs.Common.{ap, ◌∙◌, not, map, flat_map}
use Rattle.std.specs.List.{list_any}
use Rattle.gql_model.specs.rules.Places.{names_of, stands_in}
use Rattle.gql_model.specs.rules.TypeParts.{interfaces_of}
use Rattle.gql_schema.specs.Seen.{defined}
use Rattle.gql_schema.proofs.Parted.{interfaces_parted}
use Rattle.gql_schema.proofs.rules.inherited_interfaces.InheritedInterfacesTryRuleDefined.first_in.Goals as goal

pub returns : goal.returns
returns c =
    let e = interfaces_parted (map defined c.args.self.now.types.now) c.args.of.now in
    let l = c.lacks_inherited-lacks.ensures ∙ ap (λ names. list_any (λ name. not (stands_in name (names_of names))) (flat_map (λ i. interfaces_of (map defined c.args.self.now.types.now) i.name) c.args.of.now.implements.now)) c.in_ok-own.ensures in
    cc
