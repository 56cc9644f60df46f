-- Refusals that are handed on.
use Rattle.std.proofs.Common.{◌≡◌, sym, subst, Result}
use Rattle.std.specs.Prelude.{Ok, Err}
use Rattle.gql_merge.specs.declared.refusal.MergeRefusal.{MergeRefusal}
use Rattle.gql_merge.specs.declared.refusal.MergeRefusal.TheVariants.{UnknownId, IdTwice, NoSuchPlace, Clash, AfterEnd, NotAList, OpenAtEnd, BadInitial, NoMemory}
use Rattle.gql_merge.specs.Apply.{OnRefusal}

module _ (P Q : MergeRefusal → Type 0) (f : (e : MergeRefusal) → P e → Q e) where
  handed : (T U : Type 0) (e : MergeRefusal) → OnRefusal {T = T} (Err e) P → OnRefusal {T = U} (Err e) Q
  handed T U UnknownId h = f UnknownId h
  handed T U IdTwice h = f IdTwice h
  handed T U NoSuchPlace h = f NoSuchPlace h
  handed T U Clash h = f Clash h
  handed T U AfterEnd h = f AfterEnd h
  handed T U NotAList h = f NotAList h
  handed T U OpenAtEnd h = f OpenAtEnd h
  handed T U BadInitial h = f BadInitial h
  handed T U NoMemory h = tt

  -- a refusal of a call, as the refusal of its caller
  pub handed_on : (r : Result (Unit {0}) MergeRefusal) (e : MergeRefusal) → r ≡ Err e → OnRefusal {T = Unit {0}} (Err e) P → OnRefusal r Q
  handed_on r e is h = subst (λ (x : Result (Unit {0}) MergeRefusal). OnRefusal x Q) (sym is) (handed (Unit {0}) (Unit {0}) e h)

  -- a refusal of a call that is the caller's answer
  pub weaker : {T : Type 0} (r : Result T MergeRefusal) → OnRefusal r P → OnRefusal r Q
  weaker (Ok x) h = h
  weaker {T} (Err e) h = handed T T e h
