use Rattle.std.proofs.Common.{◌≤◌, length, sym, ◌∙◌, ap, subst}
use Rattle.std.specs.List.{prefix_len}
use Rattle.std.proofs.lemmas.List.{take_rest}
use Rattle.gql_lex.specs.Classes.{continues_name}
use Rattle.gql_lex.specs.declared.token.TokenKind.TheVariants.{Name}
use Rattle.gql_lex.proofs.Found.{Lies-name}
use Rattle.gql_lex.proofs.scan.front.Goals as goal

pub returns-then-begins_name-clause-lies : goal.returns-then-begins_name-clause-lies
returns-then-begins_name-clause-lies c =
    let rest = take_rest c.args.text.now 1 in
    Lies-name c.args.text.now Name c.name_len.result c.in-len1-up.len_at_least (sym c.begins_name.ensures ∙ c.if-begins_name.true)
    (c.name_len.ensures.value ∙ ap (prefix_len continues_name) rest) (subst (λ r. c.name_len.result ≤ length r) rest c.name_len.ensures.within)
