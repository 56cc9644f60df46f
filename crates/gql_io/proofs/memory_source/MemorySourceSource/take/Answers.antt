use Rattle.std.proofs.Common.{◌≡◌, ◌∙◌, ◌+◌, ◌-◌, ap, ℕ, length, take, drop, arith, length-drop}
use Rattle.std.proofs.lemmas.List.{drop_all, take_all}
use Rattle.gql_io.proofs.Left.{drop-take}
use Rattle.gql_io.proofs.memory_source.MemorySourceSource.take.Goals as goal

pub returns-clause-bytes : goal.returns-clause-bytes
returns-clause-bytes c =
    let source = c.args.self.now in
    let count = c.copy_front-count.result in
    let from = c.min-at.result in
    let all = c.deref.result.now in
    let rest : take (length all - from) (drop from all) ≡ drop from source.bytes.items = take_all (length all - from) (drop from all) (omega (arith, length-drop {A = ℕ})) ∙ ap (drop from) c.deref.ensures.value in (
      drop-take source.at from count source.bytes.items _ (c.min-at.ensures ∙ omega (arith, c.len.ensures)) (c.copy_front-count.ensures.bytes ∙ ap (take count) rest),
      λ none. drop_all (from + count) source.bytes.items (omega (arith, c.copy_front-count.ensures.count, none, c.max.ensures, c.requires, c.deref.ensures.len, ap length rest, length-drop {A = ℕ})),
    )
