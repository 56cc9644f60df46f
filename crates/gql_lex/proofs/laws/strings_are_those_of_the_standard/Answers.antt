use Rattle.gql_lex.proofs.StringTexts.{quoted-is, quoted-alone, quoted-none, block-is, block-none}
use Rattle.gql_lex.proofs.QuotedTexts.{front-quoted_text, quoted-one}
use Rattle.gql_lex.proofs.BlockTexts.{front-block_text, block-one}
use Rattle.gql_lex.proofs.laws.strings_are_those_of_the_standard.Goals as goal

pub returns : goal.returns
returns c = record {
  is_quoted = quoted-is;
  alone = quoted-alone;
  quoted_found = front-quoted_text;
  no_quoted = quoted-none;
  one_value = quoted-one;
  is_block = block-is;
  block_found = front-block_text;
  no_block = block-none;
  one_raw = block-one;
}
