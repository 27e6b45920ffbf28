-- What one call meets and leaves, as its own process and the rulesets see it.
-- Source: landlock(7); the kernel's userspace document on Landlock, "Inheritance".
use Rattle.std.specs.Prelude.{ℕ, List, Option, Some, None, [], ◌∷◌, take}
use Rattle.ll_rights.specs.declared.abi.Abi.{Abi}
use Rattle.ll_tree.specs.Trees.{Entry}
use Rattle.ll_rules.specs.Layers.{RulesOn}
use Rattle.ll_trace.specs.declared.op.Op.{Op}
use Rattle.ll_semantics.specs.declared.answer.Answer.{Answer}
use Rattle.ll_semantics.specs.States.{State, Layer}
use Rattle.ll_semantics.specs.Answers.{answer}
use Rattle.ll_semantics.specs.Effects.{Effect, nothing, leaves, leaves_rulesets, begins, effect}
use Rattle.ll_semantics.specs.Worlds.{if_allowed, World, empty_world, step}
use Rattle.ll_trace.specs.declared.op.Record.{Record}

-- ---- what an effect makes of the state of its process and of the rulesets, and what a process begins with by it

unfoldable pub state_by : Effect → State → State
state_by nothing s = s
state_by (leaves after) s = after
state_by (leaves_rulesets rulesets after) s = after
state_by (begins child) s = s

unfoldable pub rulesets_by : Effect → List Layer → List Layer
rulesets_by nothing rulesets = rulesets
rulesets_by (leaves after) rulesets = rulesets
rulesets_by (leaves_rulesets others after) rulesets = others
rulesets_by (begins child) rulesets = rulesets

unfoldable pub begun_by : Effect → Option State
begun_by nothing = None
begun_by (leaves after) = None
begun_by (leaves_rulesets rulesets after) = None
begun_by (begins child) = Some child

-- ---- the same of a call

unfoldable pub change : List Entry → List Layer → Op → State → State
change tree rulesets op s = state_by (effect tree rulesets op s) s

unfoldable pub rules : List Entry → List Layer → Op → State → List Layer
rules tree rulesets op s = rulesets_by (effect tree rulesets op s) rulesets

unfoldable pub started : List Entry → List Layer → Op → State → Option State
started tree rulesets op s = begun_by (effect tree rulesets op s)

unfoldable pub state_after : List Entry → Abi → List Layer → Op → State → State
state_after tree abi rulesets op s = if_allowed (answer tree abi rulesets op s) (change tree rulesets op s) s

unfoldable pub rulesets_after : List Entry → Abi → List Layer → Op → State → List Layer
rulesets_after tree abi rulesets op s = if_allowed (answer tree abi rulesets op s) (rules tree rulesets op s) rulesets

-- ---- one call

-- What a call meets: the tree, the layers that rulesets were frozen to (with rules on its nodes), the version of
-- the interface, the rulesets, and the state of the call's own process.
pub record CallContext : Type 0 where
  pub tree : List Entry
  pub layers : List (RulesOn ℕ)
  pub abi : Abi
  pub rulesets : List Layer
  pub state : State

-- what a call is answered
unfoldable pub answer_to : CallContext → Op → Answer
answer_to ctx op = answer ctx.tree ctx.abi ctx.rulesets op ctx.state

-- the state of the call's own process after it
unfoldable pub state_then : CallContext → Op → State
state_then ctx op = state_after ctx.tree ctx.abi ctx.rulesets op ctx.state

-- the world after records
unfoldable pub world_after : List Entry → Abi → World → List Record → World
world_after tree abi world [] = world
world_after tree abi world (r ∷ rs) = world_after tree abi (step tree abi world r.process.0 r.op) rs

-- the world before record k of a trace
unfoldable pub world_at : List Entry → Abi → List Record → ℕ → World
world_at tree abi records k = world_after tree abi empty_world (take k records)
