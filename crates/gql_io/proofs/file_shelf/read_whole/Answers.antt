use Rattle.std.proofs.Common.{◌≡◌, ℕ, ◌<◌, ◌≤◌, List, [], ◌++◌, length, take, Option, None, Some, IfSome, option_map, sym, ap, ◌∙◌, arith}
use Rattle.std.proofs.lemmas.List.{take_all, length-take}
use Rattle.gql_io.proofs.file_shelf.read_whole.Goals as goal

-- a front that is shorter than its limit is all that the reader had
all-below_limit : (told : Option (List ℕ)) (limit most : ℕ) (none bytes : List ℕ) → none ≡ [] → IfSome (option_map (take limit) told) (λ front. bytes ≡ none ++ front)
    → length bytes < limit → length bytes ≤ most → IfSome told (λ whole. (Some whole ≡ Some bytes) × (length bytes ≤ most))
all-below_limit None limit most none bytes empty front short within = tt
all-below_limit (Some whole) limit most none bytes empty front short within =
    let same : bytes ≡ take limit whole = front ∙ ap (λ l. l ++ take limit whole) empty in
    let all : take limit whole ≡ whole = take_all limit whole (omega (arith, length-take limit whole, ap length same)) in
    (ap Some (sym (same ∙ all)), within)

pub returns-in-Ok-2-clause-told : goal.returns-in-Ok-2-clause-told
returns-in-Ok-2-clause-told g c = rw (← c.take.ensures.inner, c.from_vec.ensures) (all-below_limit (g.F.Read.remaining c.take.result.inner) c.take.result.limit c.args.most c.new-bytes.result.items c.read_to_end.new.buf.items c.new-bytes.ensures.items c.in-Ok-2.ensures.bytes (omega arith) (omega arith))
