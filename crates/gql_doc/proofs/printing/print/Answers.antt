use Rattle.std.proofs.Common.{◌∙◌, ◌++◌, flat_map, string_bytes, arith}
use Rattle.std.specs.Prelude.{string_len}
use Rattle.std.proofs.lemmas.List.{take_all}
use Rattle.gql_doc.specs.inner.Writing.{spaced_out}
use Rattle.gql_doc.specs.Printed.{printed, printed_definition}
use Rattle.gql_doc.proofs.Writing.{popped}
use Rattle.gql_doc.proofs.printing.print.Goals as goal

pub returns : goal.returns
returns c =
    let all = take_all c.loop-definition.definition-index c.as_slice-definition-items.result.now (omega arith) ∙ c.as_slice-definition-items.ensures in
    c.from_string.ensures
    ∙ popped (printed c.args.document.now) (string_bytes c.loop-definition.out) (string_bytes c.pop-last_space.new.self) (string_len c.loop-definition.out)
    (c.loop-definition.invariant.is ∙ (λ i. c.new-out.ensures.bytes i ++ spaced_out (flat_map printed_definition (all i))))
    c.loop-definition.out.bytes.ok.0
    c.pop-last_space.ensures.ascii_bytes
    (omega (arith, c.pop-last_space.new.self.bytes.ok.0, c.pop-last_space.ensures.bound))
