-- Short words for records and their answers, over the small tree of the worked tree file.
-- Source: docs/FORMATS.md, "The trace file" and "The report".
use Rattle.std.specs.Prelude.{◌≡◌, ℕ, List, [], ◌∷◌, ◌++◌, map, codes, true, false}
use Rattle.ll_rights.specs.declared.abi.Abi.{Abi}
use Rattle.ll_rights.specs.Rights.{FsRight, read_file, remove_file, make_reg, refer}
use Rattle.ll_rights.specs.NetRights.{NetRight}
use Rattle.ll_tree.specs.WorkedTree.{worked_tree}
use Rattle.ll_rules.specs.declared.errno.Errno.{Errno}
use Rattle.ll_rules.specs.WorkedRules.{these, these_on_ports}
use Rattle.ll_trace.specs.declared.op.Record.{Record}
use Rattle.ll_trace.specs.declared.op.Op.{Op}
use Rattle.ll_trace.specs.declared.op.Op.TheVariants as calls
use Rattle.ll_trace.specs.declared.op.Mode.{Mode}
use Rattle.ll_semantics.specs.declared.answer.Answer.{Answer}
use Rattle.ll_semantics.specs.declared.answer.Answer.TheVariants.{Allowed, Moot, Refused}
use Rattle.ll_semantics.specs.Worlds.{judged}

-- ---- calls

abbrev pub start : Op
start = calls.Start false false

-- a process that has the capability to restrict itself
abbrev pub privileged_start : Op
privileged_start = calls.Start false true

abbrev pub creates : ℕ → List FsRight → List NetRight → Op
creates rs handled handled_on_ports = calls.Create rs (these handled) (these_on_ports handled_on_ports)

abbrev pub adds : ℕ → List ℕ → List FsRight → Op
adds rs path granted = calls.AddPath rs path (these granted)

abbrev pub adds_port : ℕ → ℕ → List NetRight → Op
adds_port rs port granted = calls.AddPort rs port (these_on_ports granted)

-- opening what is there
abbrev pub opens : List ℕ → ℕ → Mode → Op
opens path fd mode = calls.OpenFile path fd mode false false

-- ---- a call of a process, by its number, and its answer

abbrev pub record_of : ℕ → Op → Record
record_of process op = record { line = 0; process = record { 0 = process }; pid = 0; op = op }

abbrev pub ok : ℕ → Op → (Record × Answer)
ok process op = (record_of process op, Allowed)

abbrev pub moot : ℕ → Op → (Record × Answer)
moot process op = (record_of process op, Moot)

abbrev pub refused : Errno → List ℕ → ℕ → Op → (Record × Answer)
refused error layers process op = (record_of process op, Refused error layers)

-- a process that starts, and can't gain privileges
abbrev pub begins : List (Record × Answer)
begins = ok 0 start ∷ ok 0 calls.Nnp ∷ []

-- a rule: a path, and what is granted under it
abbrev pub grant : List ℕ → List FsRight → (List ℕ × List FsRight)
grant path granted = (path, granted)

-- the first process restricts itself by a ruleset that handles these rights for files and has these rules
abbrev pub confines : List FsRight → List (List ℕ × List FsRight) → List (Record × Answer)
confines handled rules =
    begins
    ++ ok 0 (creates 3 handled [])
    ∷ map (λ rule. ok 0 (adds 3 rule.0 rule.1)) rules
    ++ ok 0 (calls.Restrict 3)
    ∷ []

-- a process that holds a ruleset of reading
abbrev pub holds_reading : List (Record × Answer)
holds_reading = begins ++ ok 0 (creates 3 (read_file ∷ []) []) ∷ []

-- a process forks children with these pids
abbrev pub forks : ℕ → List ℕ → List (Record × Answer)
forks process pids = map (λ pid. ok process (calls.Fork pid)) pids

-- a process opens an object, and then restricts itself by a ruleset that handles one right
abbrev pub opens_before : FsRight → List ℕ → ℕ → Mode → List (Record × Answer)
opens_before right path fd mode = begins ++ ok 0 (creates 3 (right ∷ []) []) ∷ ok 0 (opens path fd mode) ∷ ok 0 (calls.Restrict 3) ∷ []

-- the first process confines itself, and has these rights on one directory and those on another
abbrev pub confines_on_two : List FsRight → List FsRight → List FsRight → List (Record × Answer)
confines_on_two handled one other = confines handled (grant (codes "/a") one ∷ grant (codes "/b") other ∷ [])

-- what a file's move from one directory to another needs of both
abbrev pub moving : List FsRight
moving = refer ∷ make_reg ∷ remove_file ∷ []

-- it renames an object, without an exchange
abbrev pub renames : List ℕ → List ℕ → Op
renames from to = calls.Rename from to false

-- a file goes from the one directory to the other
abbrev pub goes_over : Op
goes_over = renames (codes "/a/f") (codes "/b/h")

-- each record of a trace is answered as it says
abbrev pub IsAnswered : Abi → List (Record × Answer) → Type 0
IsAnswered abi trace = judged worked_tree abi (map (λ pair. pair.0) trace) ≡ map (λ pair. pair.1) trace

-- All that unfolds when worked traces are judged.
unfoldable pub judging : Unit {0}
unfolding
    Rattle.ll_rules.specs.WorkedRules.checking Rattle.ll_lines.specs.Paths.path_of Rattle.ll_lines.specs.Paths.after_slash Rattle.ll_lines.specs.Paths.names_in
    Rattle.ll_lines.specs.Paths.is_name Rattle.ll_tree.specs.Trees.place Rattle.ll_tree.specs.Trees.place_of Rattle.ll_tree.specs.Trees.place_or_gap
    Rattle.ll_tree.specs.Trees.gap_in Rattle.ll_tree.specs.Trees.node_at Rattle.ll_tree.specs.Trees.position_of Rattle.ll_tree.specs.Trees.parent_at
    Rattle.ll_tree.specs.Trees.parent_of Rattle.ll_semantics.specs.Worlds.judged Rattle.ll_semantics.specs.Worlds.judged_from
    Rattle.ll_semantics.specs.Worlds.step Rattle.ll_semantics.specs.Worlds.answer_in Rattle.ll_semantics.specs.States.fresh
    Rattle.ll_semantics.specs.Answers.answer Rattle.ll_semantics.specs.Answers.create_answer Rattle.ll_semantics.specs.Answers.add_path_answer
    Rattle.ll_semantics.specs.Answers.add_port_answer Rattle.ll_semantics.specs.Answers.restrict_answer Rattle.ll_semantics.specs.Answers.ftruncate_answer
    Rattle.ll_semantics.specs.Answers.ioctl_answer Rattle.ll_semantics.specs.Effects.effect Rattle.ll_semantics.specs.Effects.opened
    Rattle.ll_semantics.specs.Effects.opened_kind Rattle.ll_semantics.specs.Requests.wanted Rattle.ll_semantics.specs.Requests.asks
    Rattle.ll_semantics.specs.Requests.open_kind Rattle.ll_semantics.specs.Requests.regular_kind Rattle.ll_semantics.specs.Requests.remove_from
    Rattle.ll_semantics.specs.Moves.rename_move Rattle.ll_semantics.specs.Moves.rename_to Rattle.ll_semantics.specs.Moves.rename_into
    Rattle.ll_semantics.specs.Moves.rename_onto Rattle.ll_semantics.specs.Moves.link_move Rattle.ll_semantics.specs.Moves.link_to
judging = tt
