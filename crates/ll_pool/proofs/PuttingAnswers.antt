-- Putting answers in their places.
use Rattle.std.proofs.Common.{◌≡◌, ℕ, List, [], ◌∷◌, ◌++◌, length, set, refl, ap, ◌∙◌}
use Rattle.std.proofs.lemmas.List.{length-set}
use Rattle.ll_semantics.specs.declared.answer.Answer.{Answer}
use Rattle.ll_process.specs.declared.piece.Piece.{Piece}
use Rattle.ll_pool.specs.Gathered.{answers_of_pieces, put_all}

pub put_all-nil : (xs : List Answer) → put_all [] xs ≡ xs
unfolding put_all
put_all-nil xs = refl

pub put_all-cons : (part : ℕ × Answer) (parts : List (ℕ × Answer)) (xs : List Answer) → put_all (part ∷ parts) xs ≡ put_all parts (set xs part.0 part.1)
unfolding put_all
put_all-cons part parts xs = refl

pub put_all-append : (ps qs : List (ℕ × Answer)) (xs : List Answer) → put_all (ps ++ qs) xs ≡ put_all qs (put_all ps xs)
unfolding put_all
put_all-append [] qs xs = refl
put_all-append (p ∷ ps) qs xs = put_all-append ps qs (set xs p.0 p.1)

pub length-put_all : (ps : List (ℕ × Answer)) (xs : List Answer) → length (put_all ps xs) ≡ length xs
unfolding put_all
length-put_all [] xs = refl
length-put_all (p ∷ ps) xs = length-put_all ps (set xs p.0 p.1) ∙ length-set xs p.0 p.1

-- no piece is left
pub put_pieces-nil : (pieces : List Piece) (xs : List Answer) → pieces ≡ [] → put_all (answers_of_pieces pieces) xs ≡ xs
unfolding put_all answers_of_pieces
put_pieces-nil pieces xs none = ap (λ (ps : List Piece). put_all (answers_of_pieces ps) xs) none

-- the next piece's answers, and then those of the pieces that are left
pub put_pieces-cons : (piece : Piece) (pieces : List Piece) (xs : List Answer)
    → put_all (answers_of_pieces (piece ∷ pieces)) xs ≡ put_all (answers_of_pieces pieces) (put_all piece.answers.items xs)
unfolding answers_of_pieces
put_pieces-cons piece pieces xs = put_all-append piece.answers.items (answers_of_pieces pieces) xs
