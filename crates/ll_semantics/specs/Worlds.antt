-- The semantics of a trace: one fold of its records over the world of rulesets and processes.
-- Source: landlock(7); the kernel's userspace document on Landlock, "Inheritance".
use Rattle.std.specs.Prelude.{ℕ, ◌+◌, ◌==◌, List, [], ◌∷◌, false, if◌then◌else◌}
use Rattle.ll_rights.specs.declared.abi.Abi.{Abi}
use Rattle.ll_tree.specs.Trees.{Entry}
use Rattle.ll_trace.specs.declared.op.Record.{Record}
use Rattle.ll_trace.specs.declared.op.Op.{Op}
use Rattle.ll_semantics.specs.declared.answer.Answer.{Answer}
use Rattle.ll_semantics.specs.declared.answer.Answer.TheVariants.{Allowed, Moot, Refused}
use Rattle.ll_semantics.specs.States.{State, Layer, fresh}
use Rattle.ll_semantics.specs.Answers.{answer}
use Rattle.ll_semantics.specs.Effects.{Effect, nothing, leaves, leaves_rulesets, begins, effect}

-- all rulesets that were created, how many processes were started, and the state of each by its number
pub record World : Type 0 where
  pub rulesets : List Layer
  pub count : ℕ
  pub processes : ℕ → State

abbrev pub empty_world : World
empty_world = record { rulesets = []; count = 0; processes = λ process. fresh false false }

-- one process's state is this now
abbrev pub with_state : (ℕ → State) → ℕ → State → ℕ → State
with_state processes process s other = if other == process then s else processes other

-- what becomes of a world by a call of a process; a process that begins gets the next number
abbrev pub affected : World → ℕ → Effect → World
affected world process nothing = world
affected world process (leaves s) = record world { processes = with_state world.processes process s }
affected world process (leaves_rulesets rulesets s) = record world { rulesets = rulesets; processes = with_state world.processes process s }
affected world process (begins s) = record world { count = world.count + 1; processes = with_state world.processes world.count s }

abbrev pub if_allowed : {A : Type 0} → Answer → A → A → A
if_allowed Allowed after before = after
if_allowed Moot after before = before
if_allowed (Refused error numbers) after before = before

-- what a call of a process is answered in a world
unfoldable pub answer_in : List Entry → Abi → World → ℕ → Op → Answer
answer_in tree abi world process op = answer tree abi world.rulesets op (world.processes process)

-- Whatever isn't answered allowed leaves the world unchanged.
unfoldable pub step : List Entry → Abi → World → ℕ → Op → World
step tree abi world process op = if_allowed (answer_in tree abi world process op) (affected world process (effect tree world.rulesets op (world.processes process))) world

-- the answers to records, from a world on
unfoldable pub judged_from : List Entry → Abi → World → List Record → List Answer
judged_from tree abi world [] = []
judged_from tree abi world (r ∷ rs) = answer_in tree abi world r.process.0 r.op ∷ judged_from tree abi (step tree abi world r.process.0 r.op) rs

-- the answers to a whole trace
unfoldable pub judged : List Entry → Abi → List Record → List Answer
judged tree abi records = judged_from tree abi empty_world records
