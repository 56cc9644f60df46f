use Rattle.gql_doc.proofs.StringTexts.{quoted-meant, block-meant}
use Rattle.gql_doc.proofs.laws.strings_mean_what_the_standard_says.Goals as goal

pub returns : goal.returns
returns c = record { quoted = quoted-meant; block = block-meant }
