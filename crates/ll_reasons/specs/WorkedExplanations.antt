-- Records of small traces with their explanations.
-- Source: docs/FORMATS.md, "Explanations"; the manual pages on Landlock.
use Rattle.std.specs.Prelude.{◌≡◌, ℕ, List, [], ◌∷◌, ◌++◌, map, codes, Option, Some, None, slice_get}
use Rattle.ll_rights.specs.declared.abi.Abi.{Abi}
use Rattle.ll_rights.specs.Rights.{execute, write_file, read_dir, refer, truncate}
use Rattle.ll_rights.specs.NetRights.{bind_tcp, connect_tcp}
use Rattle.ll_rules.specs.declared.errno.Errno.TheVariants.{Acces, Inval}
use Rattle.ll_lines.specs.Paths.{Path}
use Rattle.ll_tree.specs.WorkedTree.{worked_tree}
use Rattle.ll_rules.specs.WorkedRules.{a, b, a_f}
use Rattle.ll_trace.specs.declared.op.Record.{Record}
use Rattle.ll_trace.specs.declared.op.Op.TheVariants as calls
use Rattle.ll_semantics.specs.declared.answer.Answer.{Answer}
use Rattle.ll_semantics.specs.WorkedWords.{begins, start, ok, moot, refused, creates, adds}
use Rattle.ll_reasons.specs.Objections.{missing, closed, gained, kept}
use Rattle.ll_reasons.specs.Conditions as conditions
use Rattle.ll_reasons.specs.Reasons as reasons
use Rattle.ll_reasons.specs.Explanations.{Explanation, nothing, objections, failure, mootness, explained_at}

-- the explanation of a record and its answer at an index, if there is one there
unfoldable pub explained_there : Abi → List Record → ℕ → Option (Record × Answer) → Explanation
explained_there abi records index None = nothing
explained_there abi records index (Some pair) = explained_at worked_tree abi records index pair.0 pair.1

-- the record at an index of a trace is explained so
abbrev pub IsExplained : Abi → List (Record × Answer) → ℕ → Explanation → Type 0
IsExplained abi trace index why = explained_there abi (map (λ pair. pair.0) trace) index (slice_get trace index) ≡ why

-- a path that is not in the tree
abbrev pub none : Path
none = codes "none" ∷ []

-- ---- explanations

-- a move needs `refer` on both directories
abbrev pub refer_on_both : Explanation
refer_on_both = objections ((1, missing (refer ∷ []) a ∷ missing (refer ∷ []) b ∷ []) ∷ [])

-- what is moved would gain a right, and so would what comes back for it
abbrev pub would_gain : Explanation
would_gain = objections ((1, gained a_f (execute ∷ []) b ∷ []) ∷ [])

abbrev pub truncate_on_both_layers : Explanation
truncate_on_both_layers = objections ((1, missing (truncate ∷ []) a_f ∷ []) ∷ (2, missing (truncate ∷ []) a_f ∷ []) ∷ [])

-- the right was missing when the record at index 6 opened the file
abbrev pub truncate_kept : Explanation
truncate_kept = objections ((1, kept truncate 6 ∷ []) ∷ [])

abbrev pub bind_to : ℕ → Explanation
bind_to port = objections ((1, closed (bind_tcp ∷ []) port ∷ []) ∷ [])

abbrev pub write_unhandled : Explanation
write_unhandled = failure (conditions.unhandled (write_file ∷ []))

abbrev pub connect_unhandled : Explanation
connect_unhandled = failure (conditions.unhandled_on_ports (connect_tcp ∷ []))

abbrev pub directories_alone : Explanation
directories_alone = failure (conditions.only_for_directories (read_dir ∷ []) (codes "/a/f"))

abbrev pub nothing_there : Explanation
nothing_there = mootness (Some (reasons.absent none))

-- ---- a program at best effort

-- It makes do with a ruleset that handles nothing, to which no rule can be added, and leaves out what its version
-- doesn't support. The layer of this ruleset refuses nothing, and the next layer is the second.
abbrev pub best_effort : List (Record × Answer)
best_effort =
    begins
    ++ ok 0 (calls.CreateEmpty 3)
    ∷ moot 0 calls.LeaveOutPort
    ∷ moot 0 (calls.CreateEmpty 3)
    ∷ refused Inval [] 0 (adds 3 (codes "/a") (execute ∷ []))
    ∷ moot 0 (calls.LeaveOutPath (codes "/a"))
    ∷ ok 0 (calls.Restrict 3)
    ∷ ok 0 (calls.Exec (codes "/a/f"))
    ∷ ok 0 (creates 4 (execute ∷ []) [])
    ∷ ok 0 (calls.Restrict 4)
    ∷ refused Acces (2 ∷ []) 0 (calls.Exec (codes "/a/f"))
    ∷ ok 1 start
    ∷ ok 1 (calls.CreateEmpty 3)
    ∷ moot 1 (calls.Restrict 3)
    ∷ []

abbrev pub execute_unhandled : Explanation
execute_unhandled = failure (conditions.unhandled (execute ∷ []))

abbrev pub execute_on_the_second : Explanation
execute_on_the_second = objections ((2, missing (execute ∷ []) a_f ∷ []) ∷ [])

-- All that unfolds when records of worked traces are explained.
unfoldable pub explaining : Unit {0}
unfolding
    Rattle.ll_semantics.specs.WorkedWords.judging Rattle.ll_semantics.specs.CallContexts.world_at Rattle.ll_semantics.specs.CallContexts.world_after
    explained_there Rattle.ll_reasons.specs.Explanations.explained_at Rattle.ll_reasons.specs.Explanations.explained
    Rattle.ll_reasons.specs.Explanations.domain_at Rattle.ll_reasons.specs.Explanations.origins_at Rattle.ll_reasons.specs.Explanations.objections_to
    Rattle.ll_reasons.specs.Origins.no_origins Rattle.ll_reasons.specs.Origins.traced Rattle.ll_reasons.specs.Origins.sources_by
    Rattle.ll_reasons.specs.Origins.sources_after Rattle.ll_reasons.specs.Origins.sources_at Rattle.ll_reasons.specs.Objections.on_path
    Rattle.ll_reasons.specs.Objections.on_port Rattle.ll_reasons.specs.Objections.on_mount Rattle.ll_reasons.specs.Objections.on_gain
    Rattle.ll_reasons.specs.Objections.on_directories Rattle.ll_reasons.specs.Objections.on_other_gain Rattle.ll_reasons.specs.Objections.on_crossing
    Rattle.ll_reasons.specs.Objections.objecting_from Rattle.ll_reasons.specs.Objections.to_request Rattle.ll_reasons.specs.Objections.to_move
    Rattle.ll_reasons.specs.Conditions.handled Rattle.ll_reasons.specs.Conditions.handled_on_ports Rattle.ll_reasons.specs.Conditions.of_create
    Rattle.ll_reasons.specs.Conditions.of_add_path Rattle.ll_reasons.specs.Conditions.of_add_port Rattle.ll_reasons.specs.Conditions.of_restrict
    Rattle.ll_reasons.specs.Conditions.condition Rattle.ll_reasons.specs.Reasons.ends_at Rattle.ll_reasons.specs.Reasons.no_object
    Rattle.ll_reasons.specs.Reasons.unsuited Rattle.ll_reasons.specs.Reasons.unmet Rattle.ll_reasons.specs.Reasons.onto
    Rattle.ll_reasons.specs.Reasons.moved_to Rattle.ll_reasons.specs.Reasons.unrenamed Rattle.ll_reasons.specs.Reasons.linked_to
    Rattle.ll_reasons.specs.Reasons.unlinked Rattle.ll_reasons.specs.Reasons.reason
explaining = tt
