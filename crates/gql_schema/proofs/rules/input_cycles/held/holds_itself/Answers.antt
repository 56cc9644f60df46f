use Rattle.std.proofs.Common.{◌∙◌, ◌<◌, ap, sym, subst, ℕ, List, [], ◌∷◌, map, length, arith}
use Rattle.std.specs.List.{AllByRecursion as Each}
use Rattle.gql_model.specs.rules.TypeParts.{input_of}
use Rattle.gql_model.specs.rules.types.InputCycles.{always_held}
use Rattle.gql_schema.specs.Graph.{IsGraph, is_reached}
use Rattle.gql_schema.specs.InputGraphs.{type_place, held_graph}
use Rattle.gql_schema.specs.Seen.{defined}
use Rattle.gql_schema.proofs.Walking.{ok_is}
use Rattle.gql_schema.proofs.Held.{held_itself, not_held, nothing_held, held_count, held_graph_is, places_within, each_held}
use Rattle.gql_schema.proofs.rules.input_cycles.held.holds_itself.Goals as goal

pub returns-then-own-graph : goal.returns-then-own-graph
returns-then-own-graph c =
    let ts = map defined c.args.types.now in
    let all = ap length c.requires in
    not_held ts c.args.name.now (input_of c.args.input.now) (omega (arith, all, held_count ts, c.defined_place-own.ensures.place, c.if-own-graph.true))

pub reaches-requires-clause-graph : goal.reaches-requires-clause-graph
reaches-requires-clause-graph c = subst (λ (g : List (List ℕ)). IsGraph g) (sym c.requires) (held_graph_is (map defined c.args.types.now))

pub reaches-requires-clause-start : goal.reaches-requires-clause-start
reaches-requires-clause-start c =
    let ts = map defined c.args.types.now in
    let held = always_held ts (input_of c.args.input.now).type in
    let within : Each (λ k. k < length (held_graph ts)) (c.in-Some.held ∷ []) = subst (λ (ks : List ℕ). Each (λ k. k < length (held_graph ts)) ks) (sym c.in-Some.ensures) (places_within ts held (each_held ts (input_of c.args.input.now).type)) in
    (subst (λ (g : List (List ℕ)). c.in-Some.held < length g) (sym c.requires) within.0, tt)

pub returns-in-Some : goal.returns-in-Some
returns-in-Some c =
    let ts = map defined c.args.types.now in
    let name = c.args.name.now in
    let i = input_of c.args.input.now in
    let all = ap length c.requires in
    let own = c.defined_place-own.result in
    let within : type_place ts name < length ts = omega (arith, all, held_count ts, c.defined_place-own.ensures.place, c.if-own-graph.false) in
    ok_is c.reaches.result
    (ap (λ g. is_reached g (c.in-Some.held ∷ []) own) c.requires
    ∙ ap (λ ks. is_reached (held_graph ts) ks own) c.in-Some.ensures
    ∙ ap (λ k. is_reached (held_graph ts) (map (type_place ts) (always_held ts i.type)) k) c.defined_place-own.ensures.place
    ∙ held_itself ts name i within)
    c.reaches.ensures

pub returns-in-None : goal.returns-in-None
returns-in-None c =
    let ts = map defined c.args.types.now in
    let name = c.args.name.now in
    let all = ap length c.requires in
    let within : type_place ts name < length ts = omega (arith, all, held_count ts, c.defined_place-own.ensures.place, c.if-own-graph.false) in
    nothing_held ts name (input_of c.args.input.now) within c.in-None.ensures
