-- What is kept of the origins of a case's processes, before one of its records, and that layers which are the same
-- object to the same.
-- Source: landlock_restrict_self(2); landlock(7), "Inheritance"; docs/FORMATS.md, "Explanations".
use Rattle.std.specs.Prelude.{◌≡◌, ℕ, List, Option, Some, slice_get}
use Rattle.std.specs.List.{AllZip}
use Rattle.ll_tree.specs.Trees.{Entry}
use Rattle.ll_rules.specs.declared.domain.LayerId.{LayerId}
use Rattle.ll_rules.specs.declared.errno.Errno.{Errno}
use Rattle.ll_rules.specs.KeptLayers.{SameRules, domain_of, IsDomainOf}
use Rattle.ll_rules.specs.InTree.{all_in_tree}
use Rattle.ll_trace.specs.declared.op.Op.{Op}
use Rattle.ll_semantics.specs.declared.answer.Answer.{Answer}
use Rattle.ll_semantics.specs.RulesetOutcomes.{IsFrozen}
use Rattle.ll_semantics.specs.CallContexts.{world_at}
use Rattle.ll_semantics.specs.Worlds.{judged}
use Rattle.ll_semantics.specs.States.{Layer}
use Rattle.ll_rulebook.specs.Settled.{met_by}
use Rattle.ll_process.specs.Cases.{CaseValue}
use Rattle.ll_reasons.specs.Explanations.{domain_at, objections_to, origins_at}
use Rattle.ll_reasons.specs.Made.{enforced_at}
use Rattle.ll_reasons.specs.Origins.{sources_at, Origins}
use Rattle.ll_origins.specs.declared.trail.ProcessOrigins.{ProcessOrigins}
use Rattle.ll_origins.specs.declared.trail.TraceOrigins.{TraceOrigins}
use Rattle.ll_origins.specs.TraceOrigins.{Follows, AreTrails}

-- what is kept says where all that the processes of a case have before the record at an index comes from
abbrev pub AreTrailsAt : CaseValue → ℕ → TraceOrigins → Type 0
AreTrailsAt case index trails = AreTrails trails.trails.items (sources_at case.tree case.abi case.records index)

-- an answer is that to the record at an index
abbrev pub IsAnswerAt : CaseValue → ℕ → Answer → Type 0
IsAnswerAt case index answer = slice_get (judged case.tree case.abi case.records) index ≡ Some answer

-- layers of a case that are one by one the same as those of a process before the record at an index
pub record IsDomainAt (case : CaseValue) (index process : ℕ) (ids : List LayerId) : Type 0 where
  pub indices : IsDomainOf case.layers ids
  pub same : AllZip SameRules (all_in_tree case.tree (domain_of case.layers ids)) (domain_at case.tree case.abi case.records index process)

-- the layer of a case by which the record at an index restricts its process, whichever process meets it; none if it restricts none
abbrev pub IsLayerBy : CaseValue → ℕ → Option LayerId → Type 0
IsLayerBy case index id = (process : ℕ) → IsFrozen (met_by case.tree case.abi case.layers (world_at case.tree case.abi case.records index) process) id (enforced_at case.tree case.abi case.records index)

-- layers of a case that are those of each process which a trail follows
abbrev pub AreLayersBy : CaseValue → ProcessOrigins → List LayerId → Type 0
AreLayersBy case trail ids = (index process : ℕ) → Follows trail (origins_at case.tree case.abi case.records index process) → IsDomainAt case index process ids

-- two domains whose layers are one by one the same object to the same in each call
abbrev pub ObjectToTheSame : Type 0
ObjectToTheSame =
    (tree : List Entry) (xs ys : List Layer) → AllZip SameRules xs ys → (o : Origins) (op : Op) (error : Errno) (numbers : List ℕ) →
    objections_to tree xs o op error numbers ≡ objections_to tree ys o op error numbers
