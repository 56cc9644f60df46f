use Rattle.std.proofs.Common.{◌≡◌, sym, ap, ◌∙◌, Some, option_map}
use Rattle.gql_tool.specs.Words.{form_of, said, ReplayForm}
use Rattle.gql_tool.proofs.ServedBodies.{replay-complete}
use Rattle.gql_tool.proofs.command.tool.Goals as goal

pub returns-in-Some-Replay-clause-complete : goal.returns-in-Some-Replay-clause-complete
returns-in-Some-Replay-clause-complete g c = λ ready shelf_kept no_read no_write.
    let form : form_of c.args.words.now ≡ Some (ReplayForm c.in-Some-Replay.boundary.now) =
    sym c.parse.ensures ∙ (ap (option_map said) c.in-Some-Replay.is ∙ ap (λ x. Some (said x)) c.in-Some-Replay.field-0-is) in
    replay-complete (g.S.Shelf.files c.args.shelf.now) (g.I.Source.left c.args.input.now) (g.O.Sink.sent c.args.output.now) (g.O.Sink.sent c.replay.new.output) (form_of c.args.words.now) c.in-Some-Replay.boundary.now c.replay.result form
    c.replay.ensures.merges (λ is. no_read (c.replay.ensures.read_fault.rose is)) (λ is. no_write (c.replay.ensures.write_fault.rose is)) ready
