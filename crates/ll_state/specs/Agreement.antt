-- When what is kept of one process agrees with its state in the semantics of a trace.
-- Source: landlock_restrict_self(2); the kernel's userspace document on Landlock, "Inheritance".
use Rattle.std.specs.Prelude.{◌≡◌, ℕ, Bool, false, not, List, All, Option, Some, None, Result, IfOk, OnOk, OnErr, if◌then◌else◌}
use Rattle.std.specs.List.{AllZip}
use Rattle.ll_shared.specs.LowMaps.{value_of}
use Rattle.ll_tree.specs.Trees.{Entry}
use Rattle.ll_rules.specs.Layers.{RulesOn, handles_nothing}
use Rattle.ll_rules.specs.declared.domain.LayerId.{LayerId}
use Rattle.ll_rules.specs.KeptLayers.{SameRules, layer_at, domain_of, IsDomainOf}
use Rattle.ll_rules.specs.InTree.{AreInTree, all_in_tree}
use Rattle.ll_rules.specs.declared.errno.Errno.{Errno}
use Rattle.std.specs.declared.alloc.AllocError.{AllocError}
use Rattle.ll_state.specs.declared.own_state.OwnState.{OwnState}
use Rattle.ll_trace.specs.declared.op.Op.{Op}
use Rattle.ll_trace.specs.declared.op.Op.TheVariants as calls
use Rattle.ll_semantics.specs.States.{State, Layer}
use Rattle.ll_semantics.specs.Answers.{fails, restrict_answer}
use Rattle.ll_semantics.specs.Effects.{with_layer}
use Rattle.ll_semantics.specs.Worlds.{if_allowed}
use Rattle.ll_semantics.specs.declared.answer.Answer.{Answer}
use Rattle.ll_semantics.specs.declared.answer.Answer.TheVariants.{Moot}
use Rattle.ll_semantics.specs.RulesetOutcomes.{IsFrozen, is_on_rulesets}
use Rattle.ll_semantics.specs.CallContexts.{CallContext, answer_to, state_then}

-- a tree and layers are those that a call meets, and the layers' rules are on nodes of the tree
pub record IsMet (ctx : CallContext) (tree : List Entry) (layers : List (RulesOn ℕ)) : Type 0 where
  pub same_tree : ctx.tree ≡ tree
  pub same_layers : ctx.layers ≡ layers
  pub inside : All (AreInTree tree) layers

-- What is kept of a process agrees with a state: the flags are equal, its domain stacks the same layers one by one,
-- and each number is open on the same. Which rulesets it holds isn't kept here.
pub record Agrees (tree : List Entry) (layers : List (RulesOn ℕ)) (own : OwnState) (state : State) : Type 0 where
  pub no_new_privs : own.no_new_privs ≡ state.no_new_privs
  pub admin : own.admin ≡ state.admin
  pub indices : IsDomainOf layers own.domain
  pub domain : AllZip SameRules (all_in_tree tree (domain_of layers own.domain)) state.domain
  pub descriptors : (fd : ℕ) → value_of own.descriptors fd ≡ state.descriptors fd

-- a call was judged: its answer, and what is kept of its process then; without memory that is as before
abbrev pub IsJudged : CallContext → Op → OwnState → Result Answer AllocError → Type 0
IsJudged ctx op own result =
    IfOk result (λ answer. answer ≡ answer_to ctx op)
    × OnOk result (Agrees ctx.tree ctx.layers own (state_then ctx op))
    × OnErr result (Agrees ctx.tree ctx.layers own ctx.state)

-- Restricting by the layer that a ruleset was frozen to fails, or is moot where that handles nothing; without a ruleset it fails.
unfoldable pub fails_by_layer : List (RulesOn ℕ) → Option LayerId → Errno → Answer
fails_by_layer layers None error = fails error
fails_by_layer layers (Some id) error = if handles_nothing (layer_at layers id) then Moot else fails error

-- a process restricted itself by the layer that a ruleset was frozen to, or held none: its answer, and what is kept of it then
abbrev pub Restricts : List (RulesOn ℕ) → Option LayerId → OwnState → OwnState → Answer → Type 0
Restricts layers layer before after answer =
    (ctx : CallContext) → ctx.layers ≡ layers → Agrees ctx.tree ctx.layers before ctx.state → (rules : Option Layer) → IsFrozen ctx layer rules
    → (answer ≡ restrict_answer ctx.state rules) × Agrees ctx.tree ctx.layers after (if_allowed answer (with_layer ctx.state rules) ctx.state)

-- a call that leaves the state of its process and the rulesets as they are
unfoldable pub is_still : Op → Bool
is_still calls.Nnp = false
is_still (calls.Restrict rs) = false
is_still (calls.OpenFile path fd mode create trunc) = false
is_still (calls.Adopt fd kind) = false
is_still (calls.Dup fd to) = false
is_still (calls.Close fd) = false
is_still op = not (is_on_rulesets op)
