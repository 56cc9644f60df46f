-- The names of refusals, as they are shown to a user.
use Rattle.std.specs.Prelude.{ℕ, List, codes}
use Rattle.gql_merge.specs.declared.refusal.MergeRefusal.{MergeRefusal}
use Rattle.gql_merge.specs.declared.refusal.MergeRefusal.TheVariants.{UnknownId, IdTwice, NoSuchPlace, Clash, AfterEnd, NotAList, OpenAtEnd, BadInitial, NoMemory}

abbrev pub merge_name : MergeRefusal → List ℕ
merge_name UnknownId = codes "UnknownId"
merge_name IdTwice = codes "IdTwice"
merge_name NoSuchPlace = codes "NoSuchPlace"
merge_name Clash = codes "Clash"
merge_name AfterEnd = codes "AfterEnd"
merge_name NotAList = codes "NotAList"
merge_name OpenAtEnd = codes "OpenAtEnd"
merge_name BadInitial = codes "BadInitial"
merge_name NoMemory = codes "NoMemory"
