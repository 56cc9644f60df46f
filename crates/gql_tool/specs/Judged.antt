-- How the request of three files is judged: it is refused for its document, it isn't built, or it has regions.
use Rattle.std.specs.Prelude.{◌≡◌, ℕ, ◌<◌, ◌≤◌, List, length, None, Some, Result, Ok, Err, IsUtf8}
use Rattle.gql_tree.specs.Forest.{Forest}
use Rattle.gql_model.specs.declared.syntax.Document.{Document}
use Rattle.gql_doc.specs.declared.refusal.ParseRefusal.{ParseRefusal}
use Rattle.gql_doc.specs.declared.refusal.ParseRefusal.TheVariants as refusal
use Rattle.gql_doc.specs.Answer.{Answers, most_bytes}
use Rattle.gql_tool.specs.hero.Built.{forest_of}

-- what a request is: its document is no text, or none of GraphQL, or the request isn't built, or these are its regions
pub data Judgement : Type 0 where
  NoText : Judgement
  NoDocument : ParseRefusal → Judgement
  NotBuilt : Judgement
  Executed : Forest → Judgement

-- an answer of the parser, where it has memory; a text that is too long is refused for that
abbrev pub Parses : List ℕ → Result Document ParseRefusal → Type 0
Parses text (Err refusal.TooLong) = most_bytes < length text
Parses text (Err refusal.NoMemory) = ⊥
Parses text answer = (length text ≤ most_bytes) × Answers text answer

-- the request of these files is judged so
abbrev pub Judged : (vars schema tables document : List ℕ) → Judgement → Type 0
Judged vars schema tables document NoText = IsUtf8 document → ⊥
Judged vars schema tables document (NoDocument refusal) = IsUtf8 document × Parses document (Err refusal)
Judged vars schema tables document NotBuilt = IsUtf8 document × (it : Document) × Parses document (Ok it) × (forest_of vars schema tables it ≡ None)
Judged vars schema tables document (Executed f) = IsUtf8 document × (it : Document) × Parses document (Ok it) × (forest_of vars schema tables it ≡ Some f)
