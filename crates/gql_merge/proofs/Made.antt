-- What an entry's step makes, by the path that it is for.
use Rattle.std.proofs.Common.{◌≡◌, List, Some}
use Rattle.gql_tree.specs.declared.path.Key.{Key}
use Rattle.gql_tree.specs.declared.delivery.Entry.{Entry}
use Rattle.gql_tree.specs.declared.delivery.Content.{Content}
use Rattle.gql_merge.specs.declared.state.State.{State}
use Rattle.gql_merge.specs.Apply.{Answer, Puts, Delivers, target}

pub delivers : (e : Entry) (s : State) (path : List Key) (content : Content) (r : Answer) → target e s.awaited ≡ Some path → e.content ≡ content → Puts content path s r → Delivers e s r
delivers e s path content r t f h = rw (t, f) h
