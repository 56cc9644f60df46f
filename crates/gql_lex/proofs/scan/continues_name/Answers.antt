use Rattle.std.proofs.Common.{refl, arith}
use Rattle.gql_lex.specs.Classes.{continues_name}
use Rattle.gql_lex.specs.declared.scan.TheConstants.{NAME_MAP}
use Rattle.gql_lex.proofs.ByteMaps.{same_below, maps-class}
use Rattle.gql_lex.proofs.scan.continues_name.Goals as goal

pub returns : goal.returns
unfolding same_below
returns c = maps-class NAME_MAP continues_name c.args.byte (omega arith) refl
