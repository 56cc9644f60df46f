use Rattle.std.proofs.Common.{refl, arith}
use Rattle.gql_lex.specs.Classes.{is_punctuator}
use Rattle.gql_lex.specs.declared.scan.TheConstants.{PUNCTUATOR_MAP}
use Rattle.gql_lex.proofs.ByteMaps.{same_below, maps-class}
use Rattle.gql_lex.proofs.scan.is_punctuator.Goals as goal

pub returns : goal.returns
unfolding same_below
returns c = maps-class PUNCTUATOR_MAP is_punctuator c.args.byte (omega arith) refl
