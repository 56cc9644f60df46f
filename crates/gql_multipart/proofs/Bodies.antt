-- The pieces of texts make a body.
use Rattle.std.proofs.Common.{◌≡◌, ℕ, List, [], ◌∷◌, ◌++◌, Bool, true, false, append_assoc, refl, sym, ◌∙◌, ap}
use Rattle.std.proofs.lemmas.List.{append-nil}
use Rattle.std.specs.List.{concat, flat_map}
use Rattle.std.proofs.lemmas.List.Concat.{flat_map-append}
use Rattle.gql_multipart.specs.Frame.{delimiter, piece, pieces, frame}
use Rattle.gql_multipart.specs.Framed.{opening, closing, framed, pieces_of, at_first, so_far}

-- a piece that closes nothing, and more
before : (a b c : List ℕ) → (a ++ (b ++ [])) ++ c ≡ a ++ (b ++ c)
before a b c = simp (append-nil, append_assoc)

-- the pieces, one after another, are what stands before the first and then those of the body
pub concat-pieces_of : (first : Bool) (t : List ℕ) (ts : List (List ℕ)) → concat (pieces_of first (t ∷ ts)) ≡ opening first ++ pieces (t ∷ ts)
concat-pieces_of first t [] = append-nil _
concat-pieces_of first t (u ∷ ts) =
    before (opening first) (piece t) (concat (pieces_of false (u ∷ ts)))
    ∙ ap (λ x. opening first ++ (piece t ++ x)) (concat-pieces_of false u ts)

-- the pieces of one or more texts are a body
pub concat-pieces_of-frame : (t : List ℕ) (ts : List (List ℕ)) → concat (pieces_of true (t ∷ ts)) ≡ frame (t ∷ ts)
concat-pieces_of-frame t ts = concat-pieces_of true t ts

-- one more piece, and more to come
pub so_far-push : (ts : List (List ℕ)) (t : List ℕ) → so_far ts ++ framed (at_first ts) false t ≡ so_far (ts ++ t ∷ [])
so_far-push [] t = refl
so_far-push (s ∷ ts) t = append_assoc delimiter (flat_map piece (s ∷ ts)) (flat_map piece (t ∷ [])) ∙ ap (λ x. delimiter ++ x) (sym (flat_map-append piece (s ∷ ts) (t ∷ [])))

pieces-push : (ts : List (List ℕ)) (t : List ℕ) → pieces (ts ++ t ∷ []) ≡ flat_map piece ts ++ (piece t ++ closing true)
pieces-push [] t = refl
pieces-push (s ∷ ts) t = ap (λ x. piece s ++ x) (pieces-push ts t) ∙ sym (append_assoc (piece s) (flat_map piece ts) (piece t ++ closing true))

-- the last piece
pub so_far-last : (ts : List (List ℕ)) (t : List ℕ) → so_far ts ++ framed (at_first ts) true t ≡ frame (ts ++ t ∷ [])
so_far-last [] t = refl
so_far-last (s ∷ ts) t = append_assoc delimiter (flat_map piece (s ∷ ts)) (piece t ++ closing true) ∙ ap (λ x. delimiter ++ x) (sym (pieces-push (s ∷ ts) t))
