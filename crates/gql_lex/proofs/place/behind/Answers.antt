use Rattle.std.proofs.Common.{sym, ◌∙◌}
use Rattle.gql_lex.proofs.Places.{spot_at-ended, spot_at-next, spot_at-same}
use Rattle.gql_lex.proofs.place.behind.Goals as goal

pub returns-then-ends_line-clause-place : goal.returns-then-ends_line-clause-place
returns-then-ends_line-clause-place c = λ passed is. spot_at-ended c.args.spot passed c.args.byte c.args.rest.now (sym c.ends_line.ensures ∙ c.if-ends_line.true) is

pub returns-then-begins_character-clause-place : goal.returns-then-begins_character-clause-place
returns-then-begins_character-clause-place c = λ passed is. spot_at-next c.args.spot passed c.args.byte c.args.rest.now (sym c.ends_line.ensures ∙ c.if-ends_line.false) (sym c.begins_character.ensures ∙ c.if-begins_character.true) is

pub returns-else-begins_character-clause-place : goal.returns-else-begins_character-clause-place
returns-else-begins_character-clause-place c = λ passed is. spot_at-same c.args.spot passed c.args.byte c.args.rest.now (sym c.ends_line.ensures ∙ c.if-ends_line.false) (sym c.begins_character.ensures ∙ c.if-begins_character.false) is
