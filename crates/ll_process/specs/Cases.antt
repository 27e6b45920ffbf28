-- A case: a tree, the records of a trace and a version of the interface, with what the rulebook settles of them.
-- Source: docs/FORMATS.md, "The tree file" and "The trace file"; landlock_restrict_self(2).
use Rattle.std.specs.Prelude.{◌≡◌, ℕ, List, Some}
use Rattle.ll_rights.specs.declared.abi.Abi.{Abi}
use Rattle.ll_tree.specs.Trees.{Entry}
use Rattle.ll_rights.specs.declared.fs.Fs.{Fs}
use Rattle.ll_rules.specs.Layers.{RulesOn}
use Rattle.ll_rules.specs.Grants.{AreGrants}
use Rattle.ll_trace.specs.declared.op.Record.{Record}
use Rattle.ll_semantics.specs.declared.answer.Answer.{Answer}
use Rattle.ll_semantics.specs.declared.answer.RulesetOutcome.{RulesetOutcome}
use Rattle.ll_state.specs.declared.own_state.OwnState.{OwnState}
use Rattle.ll_state.specs.Agreement.{Agrees}
use Rattle.ll_rulebook.specs.Settled.{IsSettled}
use Rattle.ll_semantics.specs.States.{State}
use Rattle.ll_trace.specs.Processes.{IsNumbered, started_at}
use Rattle.ll_trace.specs.declared.located.Located.{Located}
use Rattle.ll_trace.specs.Taken.{records_taken}
use Rattle.ll_process.specs.declared.settled.Settled.{Settled}
use Rattle.ll_process.specs.Judging.{state_left, answers_of}

-- what contracts see of a case: the layers that its trace enforces, what is known that each grants on each node, and an outcome for each record
pub record CaseValue : Type 0 where
  pub tree : List Entry
  pub records : List Record
  pub abi : Abi
  pub layers : List (RulesOn ℕ)
  pub grants : List (List Fs)
  pub outcomes : List RulesetOutcome

-- the case of a tree and a trace as they are seen under the kernel for which this was settled
abbrev pub case_of : Located → Settled → CaseValue
case_of located settled = record {
  tree = located.tree;
  records = records_taken settled.kernel located.trace;
  abi = settled.kernel.abi;
  layers = settled.layers.items;
  grants = settled.grants.items;
  outcomes = settled.outcomes.items;
}

-- The processes are numbered, and the rulebook says of each record what the fold over the whole trace says: the
-- answer of a call that creates, changes or closes a ruleset, and for a call that restricts by a ruleset the layer
-- that this ruleset is then. What is known of what layers grant is what they grant.
pub record IsCase (case : CaseValue) : Type 0 where
  pub numbered : IsNumbered case.records
  pub settled : IsSettled case.tree case.abi case.records case.layers case.outcomes
  pub granted : AreGrants case.tree case.layers case.grants

-- what is kept of a process agrees with a state, under the tree and the layers of a case
abbrev pub AgreesIn : CaseValue → OwnState → State → Type 0
AgreesIn case own s = Agrees case.tree case.layers own s

-- what a process has by itself is its state in the world after the record that starts it
abbrev pub BeginsAs : CaseValue → ℕ → OwnState → Type 0
BeginsAs case process own = (k : ℕ) → started_at case.records k ≡ Some process → AgreesIn case own (state_left case.tree case.abi case.records k process)

-- the answers to a process's own records, with their indices
abbrev pub own_answers : CaseValue → ℕ → List (ℕ × Answer)
own_answers case process = answers_of case.tree case.abi case.records process
