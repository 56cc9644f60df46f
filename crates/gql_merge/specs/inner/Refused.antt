-- The refusal of a change at a path, as a payload's.
use Rattle.gql_tree.specs.declared.graft.GraftRefusal.{GraftRefusal}
use Rattle.gql_tree.specs.declared.graft.GraftRefusal.TheVariants as Graft
use Rattle.gql_merge.specs.declared.refusal.MergeRefusal.{MergeRefusal}
use Rattle.gql_merge.specs.declared.refusal.MergeRefusal.TheVariants.{NoSuchPlace, Clash, NotAList, NoMemory}

abbrev pub refusal_of : GraftRefusal → MergeRefusal
refusal_of Graft.NoSuchPlace = NoSuchPlace
refusal_of Graft.Clash = Clash
refusal_of Graft.NotAList = NotAList
refusal_of Graft.NoMemory = NoMemory
