use Rattle.std.proofs.Common.{◌≡◌, true, [], ◌∷◌, sym, ◌∙◌, subst}
use Rattle.std.specs.Prelude.{nat_eq}
use Rattle.std.specs.List.{starts_with}
use Rattle.gql_lex.specs.inner.Found.{Encloses}
use Rattle.gql_lex.proofs.Found.{Lies-quoted}
use Rattle.gql_lex.proofs.string.quoted_by_items.Goals as goal

pub returns-then-starts_with-clause-lies : goal.returns-then-starts_with-clause-lies
returns-then-starts_with-clause-lies c = Lies-quoted c.args.text.now c.run_len.result c.closed_quoted.result
    (subst (λ count. Encloses count 2 c.closed_quoted.result) c.split_at.ensures.front_len c.closed_quoted.ensures.encloses)
    c.run_len.ensures.within
    (subst (λ behind. starts_with nat_eq behind (34 ∷ []) ≡ true) c.split_at.ensures.back (sym c.starts_with.ensures.value ∙ c.if-starts_with.true))
