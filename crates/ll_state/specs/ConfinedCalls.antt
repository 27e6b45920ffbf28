-- The layers that confine a call.
-- Source: the kernel's userspace document on Landlock, "Ruleset layers".
use Rattle.std.specs.Prelude.{List}
use Rattle.ll_rules.specs.KeptLayers.{domain_of}
use Rattle.ll_rules.specs.InTree.{all_in_tree}
use Rattle.ll_semantics.specs.States.{Layer}
use Rattle.ll_state.specs.declared.call.ConfinedCall.{ConfinedCall}

-- the layers of the domain, the oldest first, with rules on paths of the tree
abbrev pub confining : ConfinedCall → List Layer
confining confined = all_in_tree confined.call.tree.now (domain_of confined.call.layers.now confined.domain.now)

-- All that unfolds when a call is answered, and changes what its process has.
unfoldable pub answering : Unit {0}
unfolding
    Rattle.ll_semantics.specs.CallContexts.answer_to Rattle.ll_semantics.specs.CallContexts.state_then Rattle.ll_semantics.specs.CallContexts.state_after
    Rattle.ll_semantics.specs.CallContexts.change Rattle.ll_semantics.specs.CallContexts.state_by Rattle.ll_semantics.specs.Answers.answer
    Rattle.ll_semantics.specs.Effects.effect
answering = tt

-- All that unfolds when the state of a process decides the answer, and the place of the call's first path is known.
unfoldable pub by_state : Unit {0}
unfolding
    Rattle.ll_state.specs.Agreement.is_still Rattle.ll_semantics.specs.RulesetOutcomes.is_on_rulesets Rattle.ll_trace.specs.FirstPlaces.first_place
    Rattle.ll_trace.specs.Operations.paths_of
by_state = tt

-- All that unfolds when the layers of a process decide the answer.
unfoldable pub by_layers : Unit {0}
unfolding
    by_state Rattle.ll_semantics.specs.CallContexts.answer_to Rattle.ll_semantics.specs.Answers.answer Rattle.ll_rights.specs.Rights.only
    Rattle.ll_rights.specs.NetRights.has Rattle.ll_rights.specs.NetRights.only
by_layers = tt

-- All that unfolds when a file is opened.
unfoldable pub opening : Unit {0}
unfolding
    answering Rattle.ll_semantics.specs.Requests.wanted Rattle.ll_trace.specs.FirstPlaces.first_place Rattle.ll_trace.specs.Operations.paths_of
opening = tt
