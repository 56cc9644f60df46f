-- Bytes that are taken from the front of what is left.
use Rattle.std.proofs.Common.{◌≡◌, ℕ, ◌+◌, min, List, ◌++◌, length, take, drop, sym, ◌∙◌, ap, drop-drop}
use Rattle.std.proofs.lemmas.List.{take-append-drop, drop_min}

-- the bytes from a place on: a front of them, and those behind it
pub drop-take : (at from count : ℕ) (bytes front : List ℕ) → from ≡ min at (length bytes) → front ≡ take count (drop from bytes) → drop at bytes ≡ front ++ drop (from + count) bytes
drop-take at from count bytes front least is =
    sym (drop_min at bytes)
    ∙ (ap (λ (n : ℕ). drop n bytes) (sym least)
    ∙ (sym (take-append-drop count (drop from bytes))
    ∙ (ap (λ (xs : List ℕ). xs ++ drop count (drop from bytes)) (sym is) ∙ ap (λ (xs : List ℕ). front ++ xs) (drop-drop count from bytes))))
