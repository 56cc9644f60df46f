use Rattle.std.proofs.Common.{◌∙◌, ◌<◌, ap, sym, subst, ℕ, List, [], map, length, is_some, Some, None}
use Rattle.std.specs.List.{AllByRecursion as Each}
use Rattle.std.specs.Option.{option_map}
use Rattle.std.proofs.lemmas.List.{get_or_read}
use Rattle.gql_model.specs.rules.TypeParts.{input_of}
use Rattle.gql_schema.specs.Graph.{IsGraph, is_reached, next_in}
use Rattle.gql_schema.specs.InputGraphs.{field_number, needs_graph}
use Rattle.gql_schema.specs.Seen.{defined}
use Rattle.gql_schema.proofs.Needs.{needed_itself, needs_graph_is, nothing_needed, own_found, own_within, row_is}
use Rattle.gql_schema.proofs.Walking.{ok_is}
use Rattle.gql_schema.proofs.rules.input_cycles.needed.needs_itself.Goals as goal

pub bounds-graph-own : goal.bounds-graph-own
bounds-graph-own c =
    let ts = map defined c.args.types.now in
    let of = c.args.of.now in
    let i = input_of c.args.input.now in
    let name = c.as_str-name.result.now in
    let found = own_found ts of name i (map input_of c.inputs_of.result.now) (Some (input_of c.in-Some.field-0.now)) (ap (option_map (λ i. input_of i.now)) (sym c.in-Some.is) ∙ c.input_named.ensures) c.inputs_of.ensures c.as_str-name.ensures in
    let number = c.in_ok-own-in-Some.ensures ∙ ap (λ name. field_number ts (of, name)) c.as_str-name.ensures in
    let within = own_within ts (of, i.name.name) c.args.graph.now c.in_ok-own-in-Some.own (sym (ap is_some found)) number c.requires.graph in
    within

pub reaches-requires-clause-graph : goal.reaches-requires-clause-graph
reaches-requires-clause-graph c = subst (λ (g : List (List ℕ)). IsGraph g) (sym c.requires.graph) (needs_graph_is (map defined c.args.types.now))

pub reaches-requires-clause-start : goal.reaches-requires-clause-start
reaches-requires-clause-start c =
    let ts = map defined c.args.types.now in
    let of = c.args.of.now in
    let i = input_of c.args.input.now in
    let name = c.as_str-name.result.now in
    let found = own_found ts of name i (map input_of c.inputs_of.result.now) (Some (input_of c.in-Some.field-0.now)) (ap (option_map (λ i. input_of i.now)) (sym c.in-Some.is) ∙ c.input_named.ensures) c.inputs_of.ensures c.as_str-name.ensures in
    let number = c.in_ok-own-in-Some.ensures ∙ ap (λ name. field_number ts (of, name)) c.as_str-name.ensures in
    let within = own_within ts (of, i.name.name) c.args.graph.now c.in_ok-own-in-Some.own (sym (ap is_some found)) number c.requires.graph in
    let graph = c.args.graph.now in
    let is = subst (λ (g : List (List ℕ)). IsGraph g) (sym c.requires.graph) (needs_graph_is ts) in
    subst (λ (row : List ℕ). Each (λ k. k < length graph) row) (sym c.as_slice.ensures) (row_is graph c.in_ok-own-in-Some.own c.index-graph-own.result c.index-graph-own.is within is)

pub reaches-requires-clause-goal : goal.reaches-requires-clause-goal
reaches-requires-clause-goal c =
    let ts = map defined c.args.types.now in
    let of = c.args.of.now in
    let i = input_of c.args.input.now in
    let name = c.as_str-name.result.now in
    let found = own_found ts of name i (map input_of c.inputs_of.result.now) (Some (input_of c.in-Some.field-0.now)) (ap (option_map (λ i. input_of i.now)) (sym c.in-Some.is) ∙ c.input_named.ensures) c.inputs_of.ensures c.as_str-name.ensures in
    let number = c.in_ok-own-in-Some.ensures ∙ ap (λ name. field_number ts (of, name)) c.as_str-name.ensures in
    let within = own_within ts (of, i.name.name) c.args.graph.now c.in_ok-own-in-Some.own (sym (ap is_some found)) number c.requires.graph in
    within

pub returns-in_ok-own-in-Some : goal.returns-in_ok-own-in-Some
returns-in_ok-own-in-Some c =
    let ts = map defined c.args.types.now in
    let of = c.args.of.now in
    let i = input_of c.args.input.now in
    let name = c.as_str-name.result.now in
    let found = own_found ts of name i (map input_of c.inputs_of.result.now) (Some (input_of c.in-Some.field-0.now)) (ap (option_map (λ i. input_of i.now)) (sym c.in-Some.is) ∙ c.input_named.ensures) c.inputs_of.ensures c.as_str-name.ensures in
    let number = c.in_ok-own-in-Some.ensures ∙ ap (λ name. field_number ts (of, name)) c.as_str-name.ensures in
    let within = own_within ts (of, i.name.name) c.args.graph.now c.in_ok-own-in-Some.own (sym (ap is_some found)) number c.requires.graph in
    let own = c.in_ok-own-in-Some.own in
    let graph = needs_graph ts in
    let row = c.as_slice.ensures ∙ get_or_read c.args.graph.now own c.index-graph-own.result within c.index-graph-own.is [] in
    ok_is c.reaches.result
    (ap (λ start. is_reached c.args.graph.now start own) row
    ∙ ap (λ g. is_reached g (next_in g own) own) c.requires.graph
    ∙ ap (λ k. is_reached graph (next_in graph k) k) number
    ∙ needed_itself ts of i (sym (ap is_some found)))
    c.reaches.ensures

pub returns-in-None : goal.returns-in-None
returns-in-None c =
    let ts = map defined c.args.types.now in
    let i = input_of c.args.input.now in
    nothing_needed ts c.args.of.now i (sym (own_found ts c.args.of.now c.as_str-name.result.now i (map input_of c.inputs_of.result.now) None (ap (option_map (λ i. input_of i.now)) (sym c.in-None.is) ∙ c.input_named.ensures) c.inputs_of.ensures c.as_str-name.ensures))
