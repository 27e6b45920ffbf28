-- What the rulebook says of a record: what follows from the rulesets alone, whichever processes added their rules.
-- Source: landlock_restrict_self(2); the kernel's userspace document on Landlock, "Defining and enforcing a security policy".
use Rattle.std.specs.Prelude.{◌≡◌, ◌<◌, List, Bool, true, false, Option, Some, None, length}
use Rattle.ll_rules.specs.declared.domain.LayerId.{LayerId}
use Rattle.ll_rules.specs.KeptLayers.{SameRules, layer_at}
use Rattle.ll_rules.specs.InTree.{in_tree}
use Rattle.ll_trace.specs.declared.op.Op.{Op}
use Rattle.ll_trace.specs.declared.op.Op.TheVariants as calls
use Rattle.ll_semantics.specs.declared.answer.RulesetOutcome.{RulesetOutcome}
use Rattle.ll_semantics.specs.declared.answer.RulesetOutcome.TheVariants.{Answered, Frozen, ByState}
use Rattle.ll_semantics.specs.States.{State, Layer}
use Rattle.ll_semantics.specs.Answers.{named}
use Rattle.ll_semantics.specs.CallContexts.{CallContext, answer_to}

-- the call is one that creates, changes or closes a ruleset
unfoldable pub is_on_rulesets : Op → Bool
is_on_rulesets (calls.Create rs fs net) = true
is_on_rulesets (calls.AddPath rs path fs) = true
is_on_rulesets (calls.AddPort rs port net) = true
is_on_rulesets (calls.CloseRs rs) = true
is_on_rulesets (calls.CreateEmpty rs) = true
is_on_rulesets op = false

-- the ruleset by which a call restricts its process, if it does and holds it
unfoldable pub enforced : List Layer → Op → State → Option Layer
enforced rulesets (calls.Restrict rs) s = named rulesets (s.held rs)
enforced rulesets op s = None

-- a layer is what a ruleset was frozen to; there is none without a ruleset
unfoldable pub IsFrozen : CallContext → Option LayerId → Option Layer → Type 0
IsFrozen ctx (Some id) (Some rules) = (id.0 < length ctx.layers) × SameRules (in_tree ctx.tree (layer_at ctx.layers id)) rules
IsFrozen ctx (Some id) None = ⊥
IsFrozen ctx None (Some rules) = ⊥
IsFrozen ctx None None = Unit {0}

-- An outcome says of a call what the rulesets say: the answer to one that is on rulesets, the layer that its ruleset was
-- frozen to for one that restricts by a ruleset, and nothing of any other.
unfoldable pub OutcomeFits : CallContext → Op → RulesetOutcome → Type 0
OutcomeFits ctx op (Answered answer) = (is_on_rulesets op ≡ true) × (answer ≡ answer_to ctx op)
OutcomeFits ctx op (Frozen id) = IsFrozen ctx (Some id) (enforced ctx.rulesets op ctx.state)
OutcomeFits ctx op ByState = (is_on_rulesets op ≡ false) × (enforced ctx.rulesets op ctx.state ≡ None)

-- All that unfolds when an outcome is compared with its call.
unfoldable pub fitting : Unit {0}
unfolding
    Rattle.ll_semantics.specs.RulesetOutcomes.is_on_rulesets Rattle.ll_semantics.specs.RulesetOutcomes.enforced
    Rattle.ll_semantics.specs.RulesetOutcomes.OutcomeFits
fitting = tt
