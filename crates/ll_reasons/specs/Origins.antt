-- Where the layers, open descriptors and rulesets of each process come from: the records that made them, by their indices in the trace.
-- Source: landlock_restrict_self(2); landlock(7), "Inheritance"; dup(2).
use Rattle.std.specs.Prelude.{ℕ, ◌+◌, List, [], ◌∷◌, ◌++◌, ◌==◌, Option, Some, None, nat_eq, take, if◌then◌else◌}
use Rattle.std.specs.Map.{update}
use Rattle.ll_rights.specs.declared.abi.Abi.{Abi}
use Rattle.ll_tree.specs.Trees.{Entry}
use Rattle.ll_trace.specs.declared.op.Record.{Record}
use Rattle.ll_trace.specs.declared.op.Op.{Op}
use Rattle.ll_trace.specs.declared.op.Op.TheVariants as calls
use Rattle.ll_semantics.specs.declared.answer.Answer.{Answer}
use Rattle.ll_semantics.specs.Worlds.{if_allowed, judged}

-- for each layer of a process the record that restricted it, the oldest first; for each number that is open the
-- record that opened it or by which it came; and for each number of a ruleset the record that created it
pub record Origins : Type 0 where
  pub layers : List ℕ
  pub openings : ℕ → Option ℕ
  pub rulesets : ℕ → Option ℕ

unfoldable pub no_origins : Origins
no_origins = record { layers = []; openings = λ fd. None; rulesets = λ rs. None }

abbrev pub with_opening : Origins → ℕ → Option ℕ → Origins
with_opening o fd opening = record o { openings = update nat_eq o.openings fd opening }

abbrev pub with_ruleset : Origins → ℕ → Option ℕ → Origins
with_ruleset o rs created = record o { rulesets = update nat_eq o.rulesets rs created }

-- what an allowed call, the record at an index of the trace, makes of the origins of its own process
unfoldable pub traced : ℕ → Op → Origins → Origins
traced index (calls.Create rs fs net) o = with_ruleset o rs (Some index)
traced index (calls.CloseRs rs) o = with_ruleset o rs None
traced index (calls.Restrict rs) o = record o { layers = o.layers ++ index ∷ [] }
traced index (calls.OpenFile path fd mode create trunc) o = with_opening o fd (Some index)
traced index (calls.Adopt fd kind) o = with_opening o fd (Some index)
traced index (calls.Dup fd to) o = with_opening o to (o.openings fd)
traced index (calls.Close fd) o = with_opening o fd None
traced index (calls.CreateEmpty rs) o = with_ruleset o rs (Some index)
traced index op o = o

-- the origins of all processes by their numbers, and how many processes were started
pub record Sources : Type 0 where
  pub count : ℕ
  pub processes : ℕ → Origins

abbrev pub no_sources : Sources
no_sources = record { count = 0; processes = λ process. no_origins }

abbrev pub with_origins : (ℕ → Origins) → ℕ → Origins → ℕ → Origins
with_origins processes process o other = if other == process then o else processes other

abbrev pub with_next : Sources → Origins → Sources
with_next sources o = record { count = sources.count + 1; processes = with_origins sources.processes sources.count o }

-- what becomes of them by a record, whose index in the trace this is: a process begins with nothing or with what its
-- parent has, and an allowed call changes the origins of its own process
unfoldable pub sources_by : ℕ → Op → ℕ → Answer → Sources → Sources
sources_by index (calls.Start nnp admin) process answer sources = with_next sources no_origins
sources_by index (calls.Fork child) process answer sources = with_next sources (sources.processes process)
sources_by index op process answer sources =
    if_allowed answer (record sources { processes = with_origins sources.processes process (traced index op (sources.processes process)) }) sources

-- what becomes of them by records and the answers to these, the first at an index; nothing is judged again
unfoldable pub sources_after : ℕ → Sources → List Record → List Answer → Sources
sources_after index sources [] answers = sources
sources_after index sources (r ∷ rs) [] = sources
sources_after index sources (r ∷ rs) (answer ∷ answers) = sources_after (index + 1) (sources_by index r.op r.process.0 answer sources) rs answers

-- what they are before the record at an index of a trace
unfoldable pub sources_at : List Entry → Abi → List Record → ℕ → Sources
sources_at tree abi records index = sources_after 0 no_sources (take index records) (judged tree abi records)
