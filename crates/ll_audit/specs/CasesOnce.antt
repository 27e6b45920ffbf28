-- That something is a case is a plain fact: it is proved in one way only.
-- Source: none; a law of definitions of ll_process.
use Rattle.std.specs.Prelude.{Option, Some, None}
use Rattle.std.specs.Coded.{Unit-prop}
use Rattle.std.proofs.Props.{props}
use Rattle.ll_trace.specs.declared.op.Op.{Op}
use Rattle.ll_semantics.specs.declared.answer.RulesetOutcome.{RulesetOutcome}
use Rattle.ll_semantics.specs.declared.answer.RulesetOutcome.TheVariants.{Answered, Frozen, ByState}
use Rattle.ll_semantics.specs.CallContexts.{CallContext}
use Rattle.ll_semantics.specs.RulesetOutcomes.{IsFrozen, OutcomeFits, enforced}
use Rattle.ll_semantics.specs.States.{Layer}
use Rattle.ll_rules.specs.declared.domain.LayerId.{LayerId}
use Rattle.ll_process.specs.Cases.{CaseValue, IsCase}

frozen-once : (ctx : CallContext) (id : Option LayerId) (layer : Option Layer) → IsProp (IsFrozen ctx id layer)
unfolding IsFrozen
frozen-once ctx (Some id) (Some rules) = hlevel props
frozen-once ctx (Some id) None = hlevel props
frozen-once ctx None (Some rules) = hlevel props
frozen-once ctx None None = Unit-prop

OutcomeFits-once : (ctx : CallContext) (op : Op) (outcome : RulesetOutcome) → IsProp (OutcomeFits ctx op outcome)
unfolding OutcomeFits
OutcomeFits-once ctx op (Answered answer) = hlevel props
OutcomeFits-once ctx op (Frozen id) = frozen-once ctx (Some id) (enforced ctx.rulesets op ctx.state)
OutcomeFits-once ctx op ByState = hlevel props

pub IsCase-once : (case : CaseValue) → IsProp (IsCase case)
IsCase-once case = hlevel (props, OutcomeFits-once)
