-- Where the trace doesn't read, the number of workers is one that may judge, and the tree reads.
use Rattle.std.proofs.Common.{rules, ℕ, List, Result, Ok, Err, sym, subst, inl, inr}
use Rattle.std.specs.Prelude.{IfErr}
use Rattle.ll_audit.specs.declared.fault.Fault.{Fault}
use Rattle.ll_audit.specs.Audits.{IsFaultOf, ReadsAsTree, ReadsAsTrace, IsWorkerCount}
use Rattle.ll_audit.specs.Causes.{IsOutOfMemoryOrThreads}
use Rattle.ll_audit.specs.Inputs.{trace_bytes, tree_bytes}
use Rattle.ll_audit.proofs.auditing.audit_inputs.Goals as goal

-- being out of memory or threads, after two files that read, is a fault of the audit
lack_is_fault : (workers : ℕ) (tree trace : List ℕ) (one : Fault) → IsWorkerCount workers → ReadsAsTree tree → ReadsAsTrace trace → IsOutOfMemoryOrThreads one
    → IsFaultOf workers tree trace one
lack_is_fault workers tree trace one count a b (inl is) = subst (IsFaultOf workers tree trace) (sym is) count
lack_is_fault workers tree trace one count a b (inr is) = subst (IsFaultOf workers tree trace) (sym is) (count, a, b)

lacks_are_faults : {X : Type 0} (workers : ℕ) (tree trace : List ℕ) (r : Result X Fault) → IsWorkerCount workers → ReadsAsTree tree → ReadsAsTrace trace
    → IfErr r IsOutOfMemoryOrThreads → IfErr r (IsFaultOf workers tree trace)
lacks_are_faults workers tree trace (Ok x) count a b lack = tt
lacks_are_faults workers tree trace (Err one) count a b lack = lack_is_fault workers tree trace one count a b lack

pub returns-in_err-tree-clause-fault : goal.returns-in_err-tree-clause-fault
returns-in_err-tree-clause-fault g c =
    let fault = rw c.tree.ensures at (c.in_err-tree.ensures.fault (trace_bytes c.args.inputs)) in
    search rules

pub returns-in_err-trace-clause-fault : goal.returns-in_err-trace-clause-fault
returns-in_err-trace-clause-fault g c =
    let count : IsWorkerCount c.args.workers.now.count = c.in_ok-tree.ensures.count in
    let reads : ReadsAsTree (tree_bytes c.args.inputs) = (c.in_ok-tree.tree, rw c.tree.ensures at c.in_ok-tree.ensures.tree) in
    search rules

pub returns-clause-fault : goal.returns-clause-fault
returns-clause-fault g c =
    lacks_are_faults c.args.workers.now.count (tree_bytes c.args.inputs) (trace_bytes c.args.inputs) c.report_by.result c.in_ok-tree.ensures.count
    (_, rw c.tree.ensures at c.in_ok-tree.ensures.tree) (_, c.in_ok-trace.ensures.trace) c.report_by.ensures.fault
