-- A payload's steps, as far as they came.
use Rattle.std.proofs.Common.{inl, inr}
use Rattle.std.specs.Prelude.{Ok, Err}
use Rattle.gql_tree.specs.declared.delivery.Payload.{Payload}
use Rattle.gql_merge.specs.declared.state.State.{State}
use Rattle.gql_merge.specs.declared.refusal.MergeRefusal.{MergeRefusal}
use Rattle.gql_merge.specs.Steps.{Each}
use Rattle.gql_merge.specs.Apply.{Answer, Begins, Announces, Delivers, Completes, Ends, Apply}

module _ (p : Payload) (s0 s1 s2 s3 s4 : State) where
  abbrev Begun : Type 0
  Begun = Begins p s0 (Ok s1)

  abbrev Announced : Type 0
  Announced = Each Announces p.pending s1 (Ok s2)

  abbrev Delivered : Type 0
  Delivered = Each Delivers p.incremental s2 (Ok s3)

  abbrev Completed : Type 0
  Completed = Each Completes p.completed s3 (Ok s4)

  pub refused_announcing : (e : MergeRefusal) → Begun → Each Announces p.pending s1 (Err e) → Apply p s0 (Err e)
  refused_announcing e b h = inr (s1, b, inl h)

  pub refused_delivering : (e : MergeRefusal) → Begun → Announced → Each Delivers p.incremental s2 (Err e) → Apply p s0 (Err e)
  refused_delivering e b a h = inr (s1, b, inr (s2, a, inl h))

  pub refused_completing : (e : MergeRefusal) → Begun → Announced → Delivered → Each Completes p.completed s3 (Err e) → Apply p s0 (Err e)
  refused_completing e b a d h = inr (s1, b, inr (s2, a, inr (s3, d, inl h)))

  pub applied : (r : Answer) → Begun → Announced → Delivered → Completed → Ends p s4 r → Apply p s0 r
  applied (Ok t) b a d c h = (s1, b, (s2, a, (s3, d, (s4, c, h))))
  applied (Err e) b a d c h = inr (s1, b, inr (s2, a, inr (s3, d, inr (s4, c, h))))
