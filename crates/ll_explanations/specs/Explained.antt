-- The explanation of a record of a case, as a value.
-- Source: docs/FORMATS.md, "Explanations".
use Rattle.std.specs.Prelude.{◌≡◌, ℕ, Bool, true, false, List, Some, None, slice_get}
use Rattle.ll_rights.specs.declared.abi.Abi.{Abi}
use Rattle.ll_tree.specs.Trees.{Entry}
use Rattle.ll_trace.specs.declared.op.Op.{Op}
use Rattle.ll_trace.specs.declared.op.Record.{Record}
use Rattle.ll_semantics.specs.declared.answer.Answer.{Answer}
use Rattle.ll_process.specs.Cases.{CaseValue}
use Rattle.ll_reasons.specs.Explanations.{explained_at, origins_at}
use Rattle.ll_origins.specs.TraceOrigins.{Follows}
use Rattle.ll_origins.specs.declared.trail.ProcessOrigins.{ProcessOrigins}
use Rattle.ll_explanations.specs.InTree.{IsExplanationIn}
use Rattle.ll_explanations.specs.Meanings.{AreMade, explanation_in}
use Rattle.ll_explanations.specs.declared.explanation.Explanation.{Explanation}
use Rattle.ll_explanations.specs.declared.explanation.Explanation.TheVariants.{Nothing, Objections, Failure, Mootness}

-- there is nothing to explain: a call is allowed, or moot without a reason
abbrev pub is_silent : Explanation → Bool
is_silent Nothing = true
is_silent (Objections all) = false
is_silent (Failure condition) = false
is_silent (Mootness None) = true
is_silent (Mootness (Some reason)) = false

-- a value means the explanation of the record at an index of a trace, which is answered so, and names the records that made the layers
-- and nodes of the tree
pub record IsExplanationOf (tree : List Entry) (abi : Abi) (records : List Record) (index : ℕ) (answer : Answer) (r : Record) (e : Explanation) : Type 0 where
  pub means : explanation_in tree r.op e ≡ explained_at tree abi records index r answer
  pub made : AreMade (origins_at tree abi records index r.process.0).layers e
  pub inside : IsExplanationIn tree e

-- of a case
abbrev pub IsExplanation : CaseValue → ℕ → Answer → Record → Explanation → Type 0
IsExplanation case = IsExplanationOf case.tree case.abi case.records

abbrev pub Explains : CaseValue → ℕ → Answer → Explanation → Type 0
Explains case index answer e = (r : Record) → slice_get case.records index ≡ Some r → IsExplanation case index answer r e

-- the call of the record at an index of a case, and where all that its process has before it comes from
pub record IsFoundAt (case : CaseValue) (index : ℕ) (op : Op) (trail : ProcessOrigins) : Type 0 where
  pub r : Record
  pub there : slice_get case.records index ≡ Some r
  pub call : op ≡ r.op
  pub follows : Follows trail (origins_at case.tree case.abi case.records index r.process.0)
