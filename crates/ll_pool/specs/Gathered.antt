-- What pieces hold together: their processes, and the answers to the records of these.
-- Source: docs/FORMATS.md, "The trace file": each record belongs to one process.
use Rattle.std.specs.Prelude.{◌≡◌, ℕ, List, [], ◌∷◌, slice_set, All}
use Rattle.std.specs.List.{flat_map}
use Rattle.ll_semantics.specs.declared.answer.Answer.{Answer}
use Rattle.ll_process.specs.declared.piece.Piece.{Piece}
use Rattle.ll_trace.specs.Processes.{numbers}
use Rattle.ll_process.specs.Cases.{CaseValue}

-- each piece is of this case
abbrev pub ArePiecesOf : CaseValue → List Piece → Type 0
ArePiecesOf case pieces = All (λ piece. piece.case.now ≡ case) pieces

-- the processes of pieces, one piece after another
unfoldable pub processes_in : List Piece → List ℕ
processes_in pieces = flat_map (λ piece. numbers piece.processes.items) pieces

-- the indices of records in pieces, each with its answer
unfoldable pub answers_of_pieces : List Piece → List (ℕ × Answer)
answers_of_pieces pieces = flat_map (λ piece. piece.answers.items) pieces

-- a list of answers, with each of these put at its index
unfoldable pub put_all : List (ℕ × Answer) → List Answer → List Answer
put_all [] answers = answers
put_all (part ∷ parts) answers = put_all parts (slice_set answers part.0 part.1)
