use Rattle.std.proofs.Common.{◌∙◌}
use Rattle.gql_multipart.proofs.Steps.{mark_end_dash, mark_end_line, no_dash_first, no_dash_end, no_dash_byte}
use Rattle.gql_multipart.proofs.read.mark_end.Goals as goal
use Rattle.gql_multipart.proofs.read.mark_end.Goals.{else-not-first-via-then-not-first+then-at-bytes+else-bytes-at-eq45, else-not-first-via-then-not-first+else-at-bytes, else-not-first-via-else-not-first}

pub returns-then-bytes-at-eq45-clause-value : goal.returns-then-bytes-at-eq45-clause-value
returns-then-bytes-at-eq45-clause-value c = mark_end_dash _ _ _ _ _ c.if-not-first.true c.if-at-bytes.true c.if-bytes-at-eq45.true c.second_dash.ensures

pub returns-clause-value : goal.returns-clause-value
returns-clause-value c =
    elim c.else-not-first.branch [
      | else-not-first-via-then-not-first+then-at-bytes+else-bytes-at-eq45 w ↦ c.region.ensures.value ∙ mark_end_line _ _ _ _ (no_dash_byte _ _ _ w.if-not-first.true w.if-at-bytes.true w.if-bytes-at-eq45.false)
      | else-not-first-via-then-not-first+else-at-bytes w ↦ c.region.ensures.value ∙ mark_end_line _ _ _ _ (no_dash_end _ _ _ w.if-not-first.true w.if-at-bytes.false)
      | else-not-first-via-else-not-first w ↦ c.region.ensures.value ∙ mark_end_line _ _ _ _ (no_dash_first _ _ w.if-not-first.false)
    ]
