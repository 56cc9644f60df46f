use Rattle.gql_doc.proofs.WrittenStrings.{quoted-plain}
use Rattle.std.proofs.Common.{◌++◌, ◌∙◌, ap, sym, string_bytes}
use Rattle.gql_doc.proofs.printing.push_character.Goals as goal

pub returns-in_ok-push : goal.returns-in_ok-push
returns-in_ok-push c =
    c.in_ok-push.ensures.bytes
    ∙ ap (λ bytes. string_bytes c.args.out.now ++ bytes) (sym (quoted-plain c.args.character c.if-character-eq34.false c.if-character-eq92.false c.if-character-eq10.false c.if-character-lt32.false))
