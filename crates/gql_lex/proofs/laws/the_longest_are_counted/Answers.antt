use Rattle.gql_lex.proofs.Longest.{name-is, name-longest, number-longest, number-none}
use Rattle.gql_lex.proofs.Written.{number-is}
use Rattle.gql_lex.proofs.laws.the_longest_are_counted.Goals as goal

pub returns-clause-name : goal.returns-clause-name
returns-clause-name c = name-longest

pub returns-clause-number : goal.returns-clause-number
returns-clause-number c = number-longest

pub returns-clause-no_number : goal.returns-clause-no_number
returns-clause-no_number c = number-none

pub returns-clause-is_name : goal.returns-clause-is_name
returns-clause-is_name c = name-is

pub returns-clause-is_number : goal.returns-clause-is_number
returns-clause-is_number c = number-is
