use Rattle.std.proofs.Common.{◌∙◌, sym}
use Rattle.gql_doc.specs.inner.Left.{left}
use Rattle.gql_doc.proofs.Parsed.{none_next}
use Rattle.gql_doc.proofs.parsing.refusal_of.Goals as goal
use Rattle.gql_doc.proofs.parsing.refusal_of.Goals.{in_default-None-via-in-Unexpected+in-None, in_default-None-via-in-TooDeep+in-None}

pub end-requires : goal.end-requires
end-requires c = none_next (left c.args.parser.now) (sym c.next_spot.ensures ∙ elim c.in_default-None.branch [ in_default-None-via-in-Unexpected+in-None w ↦ w.in_default-None.is-1 | in_default-None-via-in-TooDeep+in-None w ↦ w.in_default-None.is-1 ])
