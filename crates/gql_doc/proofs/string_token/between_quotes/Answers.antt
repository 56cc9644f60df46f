use Rattle.std.proofs.Common.{◌<◌, ◌≤◌, ◌-◌, length, get_or, lit<, sym, ◌∙◌, ap, subst, arith}
use Rattle.std.specs.List.{list_any}
use Rattle.std.proofs.lemmas.Str.{IsCharBoundary-after_ascii}
use Rattle.gql_doc.proofs.Unescaped.{is_backslash, unescaped_means}
use Rattle.gql_doc.proofs.string_token.between_quotes.Goals as goal

pub split_at-requires : goal.split_at-requires
split_at-requires c =
    let bytes = c.as_bytes-bytes.ensures.value in
    let first = ap (λ text. get_or text 0 0) (sym bytes) ∙ c.if-bytes-ne34.false in
    let long = subst (λ text. 2 ≤ length text) bytes c.if-bytes-lt2.false in
    IsCharBoundary-after_ascii c.args.text.now 0 c.utf8.text (omega (arith, long)) (subst (λ byte. byte < 128) (sym first) (lit< tt))

pub returns : goal.returns
returns c =
    let bytes = c.as_bytes-bytes.ensures.value in
    unescaped_means c.args.text.now c.split_at.result.1.now c.split_at-2.result.0.now
    c.utf8.text
    (subst (λ text. 2 ≤ length text) bytes c.if-bytes-lt2.false)
    (ap (λ text. get_or text 0 0) (sym bytes) ∙ c.if-bytes-ne34.false)
    (ap (λ text. get_or text (length text - 1) 0) (sym bytes) ∙ c.if-bytes-ne34-2.false)
    (ap (list_any is_backslash) (sym bytes) ∙ sym c.contains.ensures.value ∙ c.if-contains.false)
    c.split_at.ensures.back
    c.split_at-2.ensures.front
