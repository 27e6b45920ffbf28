-- What a hand of the pool, the caller or a worker, has done: which processes it judged, and whose jobs it took and gave.
-- Source: none; the pool of this program alone.
use Rattle.std.specs.Prelude.{◌≡◌, ℕ, ◌+◌, List, [], ◌++◌, sum_by}
use Rattle.ll_process.specs.declared.piece.Piece.{Piece}
use Rattle.ll_process.specs.Cases.{CaseValue}
use Rattle.ll_trace.specs.Processes.{kids}
use Rattle.ll_pool.specs.declared.queue.Ledger.{Ledger}
use Rattle.ll_pool.specs.Gathered.{ArePiecesOf, processes_in}

-- a pass did nothing but give jobs to the queue
pub record OnlyGave (before after : Ledger) : Type 0 where
  pub its_case : after.case ≡ before.case
  pub parts : after.parts ≡ before.parts
  pub taken : after.taken ≡ before.taken

-- what a hand has done so far: the processes whose jobs it gave to the queue, and the pieces that it judged
pub record Done : Type 0 where
  pub given : List ℕ
  pub pieces : List Piece

-- Jobs were seen to: the processes that were judged since, together with those whose jobs were given since, are the
-- processes of these jobs with the children of all that were judged since, each as often.
pub record SeenTo (case : CaseValue) (jobs : List ℕ) (before after : Done) : Type 0 where
  pub pieces_of : ArePiecesOf case before.pieces → ArePiecesOf case after.pieces
  pub shared : (weight : ℕ → ℕ) →
      sum_by weight (processes_in after.pieces) + sum_by weight after.given + sum_by weight (kids case.records (processes_in before.pieces))
      ≡ sum_by weight (processes_in before.pieces) + sum_by weight before.given + sum_by weight jobs
      + sum_by weight (kids case.records (processes_in after.pieces))

-- A hand saw to these roots and to each job that it took.
pub record IsAccount (case : CaseValue) (roots : List ℕ) (v : Ledger) (pieces : List Piece) : Type 0 where
  pub its_case : v.case ≡ case
  pub pieces_of : ArePiecesOf case pieces
  pub seen : SeenTo case (roots ++ v.taken) (record { given = []; pieces = [] }) (record { given = v.given; pieces = pieces })
