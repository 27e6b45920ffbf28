-- The calls that put a policy in force: no_new_privs is set, and each layer's ruleset is created, filled, enforced and closed, the oldest layer first.
-- Source: the kernel's userspace document on Landlock, "Defining and enforcing a security policy"; landlock_restrict_self(2).
use Rattle.std.specs.Prelude.{ℕ, List, [], ◌∷◌, ◌++◌, map}
use Rattle.std.specs.List.{flat_map}
use Rattle.ll_lines.specs.Paths.{text_of}
use Rattle.ll_tree.specs.Trees.{Entry, path_at}
use Rattle.ll_rules.specs.InTree.{node}
use Rattle.ll_trace.specs.declared.op.Op.{Op}
use Rattle.ll_trace.specs.declared.op.Op.TheVariants as operations
use Rattle.ll_fitting.specs.declared.written.Parent.{Parent}
use Rattle.ll_fitting.specs.declared.written.Parent.TheVariants.{There, Missing}
use Rattle.ll_fitting.specs.Fitting.{Fitted}
use Rattle.ll_enforcing.specs.declared.calls.Call.{Call}
use Rattle.ll_enforcing.specs.declared.calls.Call.TheVariants as calls

-- the calls for one layer
unfoldable pub calls_of_layer : Fitted → List Call
calls_of_layer left =
    calls.CreateRuleset left.layer left.files left.network
    ∷ map (λ rule. calls.AddPath left.layer rule) left.path_rules
    ++ map (λ rule. calls.AddPort left.layer rule) left.port_rules
    ++ calls.RestrictSelf left.layer
    ∷ calls.CloseRuleset left.layer
    ∷ []

-- the calls for all layers
unfoldable pub calls_of : List Fitted → List Call
calls_of layers = calls.NoNewPrivs ∷ flat_map calls_of_layer layers

-- ---- as operations of a trace

-- the path by which a trace names the object of a rule; the path of a missing one is given
abbrev pub path_to : List Entry → List ℕ → Parent → List ℕ
path_to tree missing (There object kind) = text_of (path_at tree (node object))
path_to tree missing Missing = missing

-- the operation of a call, where the process holds its rulesets under a number
unfoldable pub operation_of : List Entry → List ℕ → ℕ → Call → Op
operation_of tree missing rs calls.NoNewPrivs = operations.Nnp
operation_of tree missing rs (calls.CreateRuleset layer files network) = operations.Create rs files network
operation_of tree missing rs (calls.AddPath layer rule) = operations.AddPath rs (path_to tree missing rule.parent) rule.rights
operation_of tree missing rs (calls.AddPort layer rule) = operations.AddPort rs rule.port rule.rights
operation_of tree missing rs (calls.RestrictSelf layer) = operations.Restrict rs
operation_of tree missing rs (calls.CloseRuleset layer) = operations.CloseRs rs
