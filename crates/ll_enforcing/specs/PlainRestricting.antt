-- The semantics without a rule for rulesets that handle nothing, which no kernel creates.
-- Source: landlock_restrict_self(2), landlock_create_ruleset(2), "ERRORS".
use Rattle.std.specs.Prelude.{ℕ, List, [], ◌∷◌, length, nat_le, Option, Some, None, if◌then◌else◌}
use Rattle.ll_rights.specs.declared.abi.Abi.{Abi}
use Rattle.ll_tree.specs.Trees.{Entry}
use Rattle.ll_rules.specs.declared.domain.TheConstants.{MOST_LAYERS}
use Rattle.ll_rules.specs.declared.errno.Errno.TheVariants.{Perm, BadFd, TooBig}
use Rattle.ll_trace.specs.declared.op.Op.{Op}
use Rattle.ll_trace.specs.declared.op.Op.TheVariants as calls
use Rattle.ll_trace.specs.declared.op.Record.{Record}
use Rattle.ll_semantics.specs.declared.answer.Answer.{Answer}
use Rattle.ll_semantics.specs.declared.answer.Answer.TheVariants.{Allowed}
use Rattle.ll_semantics.specs.States.{State, Layer}
use Rattle.ll_semantics.specs.Answers.{answer, fails, may_restrict, named}
use Rattle.ll_semantics.specs.Effects.{effect}
use Rattle.ll_semantics.specs.Worlds.{World, empty_world, if_allowed, affected}

-- by whatever ruleset that the process holds, up to sixteen layers
unfoldable pub restricts_plainly : State → Option Layer → Answer
restricts_plainly s None = if may_restrict s then fails BadFd else fails Perm
restricts_plainly s (Some rules) = if may_restrict s then (if nat_le MOST_LAYERS (length s.domain) then fails TooBig else Allowed) else fails Perm

-- every other call is answered as ever
unfoldable pub answered_plainly : List Entry → Abi → List Layer → Op → State → Answer
answered_plainly tree abi rulesets (calls.Restrict rs) s = restricts_plainly s (named rulesets (s.held rs))
answered_plainly tree abi rulesets op s = answer tree abi rulesets op s

unfoldable pub steps_plainly : List Entry → Abi → World → ℕ → Op → World
steps_plainly tree abi world process op =
    if_allowed (answered_plainly tree abi world.rulesets op (world.processes process))
    (affected world process (effect tree world.rulesets op (world.processes process))) world

unfoldable pub plainly_judged_from : List Entry → Abi → World → List Record → List Answer
plainly_judged_from tree abi world [] = []
plainly_judged_from tree abi world (r ∷ rs) =
    answered_plainly tree abi world.rulesets r.op (world.processes r.process.0) ∷ plainly_judged_from tree abi (steps_plainly tree abi world r.process.0 r.op) rs

-- the answers to a whole trace
unfoldable pub plainly_judged : List Entry → Abi → List Record → List Answer
plainly_judged tree abi records = plainly_judged_from tree abi empty_world records
