use Rattle.std.proofs.lemmas.Result.{on_ok_weaker}
use Rattle.std.proofs.lemmas.Str.{IsUtf8-past_char}
use Rattle.gql_lex.specs.declared.token.TokenKind.TheVariants as kind
use Rattle.gql_doc.proofs.WrittenStrings.{quoted-turn, string-written}
use Rattle.gql_doc.proofs.printing.push_string.Goals as goal

pub loop-character-preserved : goal.loop-character-preserved
loop-character-preserved c =
    let held = c.loop-character.invariant in
    let parts = c.in-Some.ensures.steps.0 in
    (IsUtf8-past_char _ _ c.in-Some.character held.0 parts, quoted-turn _ _ _ _ _ c.in-Some.character c.in_ok-push_character.ensures parts held.1)

pub returns : goal.returns
returns c = on_ok_weaker c.push_piece.result (λ h. string-written c.args.value.now _ c.loop-character.invariant.1 c.in-None.ensures.steps.0.0 (h kind.Quoted)) c.push_piece.ensures
