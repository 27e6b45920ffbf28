-- A small policy over the small tree, as operations of a process.
-- Source: the tree is that of docs/FORMATS.md, "The tree file".
use Rattle.std.specs.Prelude.{ℕ, List, [], ◌∷◌, ◌++◌, codes, false}
use Rattle.ll_rights.specs.declared.abi.Abi.TheVariants.{V1, V4}
use Rattle.ll_rights.specs.Rights.{read_file, read_dir, write_file, make_reg, truncate}
use Rattle.ll_rights.specs.NetRights.{connect_tcp}
use Rattle.ll_rules.specs.WorkedRules.{these, these_on_ports}
use Rattle.ll_tree.specs.Trees.{root}
use Rattle.ll_tree.specs.WorkedTree.{worked_tree}
use Rattle.ll_trace.specs.declared.op.Op.{Op}
use Rattle.ll_trace.specs.declared.op.Op.TheVariants as operations
use Rattle.ll_trace.specs.declared.op.Record.{Record}
use Rattle.ll_semantics.specs.Worlds.{World, empty_world, step}
use Rattle.ll_fitting.specs.declared.written.Parent.TheVariants.{Missing}
use Rattle.ll_fitting.specs.Written.{Layer}
use Rattle.ll_fitting.specs.Fitting.{fitted}
use Rattle.ll_fitting.specs.WorkedPolicies.{handling, layer, lists, lists_on_ports, on, directory, file}
use Rattle.ll_enforcing.specs.Answered.{records_of, operations_of}

-- The first layer has rules on a directory, on a file, on an object that is missing, and one that the kernel refuses on a file;
-- the second has a rule on a port.
abbrev pub small : List Layer
small =
    layer (lists (read_file ∷ read_dir ∷ []) []) (lists_on_ports [])
    (on (lists [] (read_file ∷ read_dir ∷ [])) (directory 1)
    ∷ on (lists [] (read_file ∷ read_dir ∷ [])) (file 6)
    ∷ on (lists (read_file ∷ []) []) Missing
    ∷ on (lists (read_dir ∷ []) []) (file 6)
    ∷ []) []
    ∷ layer (lists (write_file ∷ []) []) (lists_on_ports (connect_tcp ∷ [])) []
    (record { allowed = lists_on_ports (connect_tcp ∷ []); port = 443 } ∷ [])
    ∷ []

-- a path that the tree doesn't list
abbrev pub nowhere : List ℕ
nowhere = codes "/none"

-- its operations, by a process that holds its rulesets under number 3
abbrev pub small_operations : List Op
small_operations =
    operations.Nnp
    ∷ operations.Create 3 (these (read_file ∷ read_dir ∷ [])) (these_on_ports [])
    ∷ operations.AddPath 3 (codes "/a") (these (read_file ∷ read_dir ∷ []))
    ∷ operations.AddPath 3 (codes "/b/g") (these (read_file ∷ []))
    ∷ operations.AddPath 3 nowhere (these (read_file ∷ []))
    ∷ operations.AddPath 3 (codes "/b/g") (these (read_dir ∷ []))
    ∷ operations.Restrict 3
    ∷ operations.CloseRs 3
    ∷ operations.Create 3 (these (write_file ∷ [])) (these_on_ports (connect_tcp ∷ []))
    ∷ operations.AddPort 3 443 (these_on_ports (connect_tcp ∷ []))
    ∷ operations.Restrict 3
    ∷ operations.CloseRs 3
    ∷ []

-- a process that starts and enforces the policy
abbrev pub confined : List Record
confined =
    records_of 0 (operations.Start false false ∷ operations_of worked_tree nowhere 3 (fitted V4 small))

-- ---- a rule on a file of which version 1 knows nothing but what is for directories; and one that lists nothing else

abbrev pub newer_on_a_file : List Layer
newer_on_a_file = handling (truncate ∷ make_reg ∷ []) (on (lists (truncate ∷ []) (make_reg ∷ [])) (file 6) ∷ [])

abbrev pub directories_on_a_file : List Layer
directories_on_a_file = handling (truncate ∷ make_reg ∷ []) (on (lists [] (make_reg ∷ [])) (file 6) ∷ [])

-- the operations of a layer that handles making files, with those of its rules
abbrev pub made_with : List Op → List Op
made_with rules = operations.Nnp ∷ operations.Create 3 (these (make_reg ∷ [])) (these_on_ports []) ∷ rules ++ operations.Restrict 3 ∷ operations.CloseRs 3 ∷ []

-- ---- a process that may enforce a policy: it has just started, and the tree is the root alone

abbrev pub on_the_root : List Layer
on_the_root = handling (read_file ∷ []) (on (lists (read_file ∷ []) []) (directory 0) ∷ [])

abbrev pub just_started : World
just_started = step (root ∷ []) V1 empty_world 0 (operations.Start false false)

-- All that unfolds when the calls for a worked policy are made and answered.
unfoldable pub enforcing : Unit {0}
unfolding
    Rattle.ll_semantics.specs.WorkedWords.judging Rattle.ll_fitting.specs.WorkedPolicies.fitting Rattle.ll_lines.specs.Paths.text_of
    Rattle.ll_trace.specs.BestEffort.at_best_effort Rattle.ll_enforcing.specs.Calls.calls_of Rattle.ll_enforcing.specs.Calls.calls_of_layer
    Rattle.ll_enforcing.specs.Calls.operation_of
enforcing = tt
