use Rattle.std.proofs.Common.{◌≡◌, sym, ◌∙◌, ap, map, is_some, true, false, Some, option_map, option_copied}
use Rattle.gql_model.specs.SaidSchema.{number_of}
use Rattle.gql_model.specs.rules.TypeParts.{type_named}
use Rattle.gql_schema.specs.Seen.{defined}
use Rattle.gql_schema.proofs.LookUps.{named_as}
use Rattle.gql_schema.proofs.SaidRoots.{usual_there, usual_missing}
use Rattle.gql_schema.proofs.build.schema.usual_root.Goals as goal

pub returns-in-Some : goal.returns-in-Some
returns-in-Some c =
    let ts = c.args.types.now in
    let name = c.args.usual.now in
    let e : is_some (type_named (map defined ts) name) ≡ true = ap is_some (sym (named_as ts name (option_copied c.get.result) c.get.ensures)) ∙ ap (λ o. is_some (option_map defined (option_copied o))) c.in-Some.is in
    ap Some c.number_of.ensures ∙ usual_there (type_named (map defined ts) name) (number_of (map defined ts) name) e

pub returns-in-None : goal.returns-in-None
returns-in-None c =
    let ts = c.args.types.now in
    let name = c.args.usual.now in
    let e : is_some (type_named (map defined ts) name) ≡ false = ap is_some (sym (named_as ts name (option_copied c.get.result) c.get.ensures)) ∙ ap (λ o. is_some (option_map defined (option_copied o))) c.in-None.is in
    usual_missing (type_named (map defined ts) name) (number_of (map defined ts) name) e
