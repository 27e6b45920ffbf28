-- What the calls of each kind are answered and leave, so that a judge may look at them one kind at a time.
use Rattle.std.proofs.Common.{◌≡◌, ◌∙◌, ◌<◌, ℕ, true, List, length, Option, Some, None, ap, sym, subst}
use Rattle.ll_tree.specs.Trees.{Entry, place}
use Rattle.ll_trace.specs.declared.op.Op.{Op}
use Rattle.ll_trace.specs.declared.op.Op.TheVariants as calls
use Rattle.ll_trace.specs.Operations.{paths_of}
use Rattle.ll_trace.specs.FirstPlaces.{first_place}
use Rattle.ll_semantics.specs.declared.request.Wanted.{Wanted}
use Rattle.ll_semantics.specs.Requests.{asks, request, wanted}
use Rattle.std.proofs.lemmas.Bool.{false≢true}
use Rattle.ll_rules.specs.declared.domain.LayerId.{LayerId}
use Rattle.ll_rules.specs.Layers.{RulesOn}
use Rattle.ll_semantics.specs.declared.answer.Answer.{Answer}
use Rattle.ll_semantics.specs.declared.answer.Answer.TheVariants.{Allowed, Moot, Refused}
use Rattle.ll_semantics.specs.declared.answer.RulesetOutcome.TheVariants.{ByState}
use Rattle.ll_state.specs.declared.own_state.OwnState.{OwnState}
use Rattle.ll_semantics.specs.States.{State, Layer}
use Rattle.ll_semantics.specs.Answers.{answer, named}
use Rattle.ll_semantics.specs.Effects.{effect, with_held, with_layer}
use Rattle.ll_semantics.specs.Worlds.{if_allowed}
use Rattle.ll_semantics.specs.CallContexts.{CallContext, answer_to, state_then, change, state_by, state_after}
use Rattle.ll_semantics.proofs.Steps.{if_allowed-same}
use Rattle.ll_state.specs.Agreement.{Agrees, Restricts, is_still}
use Rattle.ll_semantics.specs.RulesetOutcomes.{OutcomeFits, IsFrozen, is_on_rulesets, enforced}

-- ---- the place that a call names first

-- it is that of the path at which the call wants something
first_wanted : (tree : List Entry) (op : Op) (want : List ℕ × Wanted) → Some want ≡ wanted op → first_place tree op ≡ place tree want.0
unfolding wanted first_place paths_of
first_wanted tree (calls.AddPath rs path fs) want is = cc
first_wanted tree op want is = cc

pub request_wanted : (tree : List Entry) (op : Op) (want : List ℕ × Wanted) → Some want ≡ wanted op
    → asks tree (first_place tree op) want.1 ≡ request tree (wanted op)
request_wanted tree op want is = ap (λ spot. asks tree spot want.1) (first_wanted tree op want is) ∙ ap (request tree) is

-- ---- calls that change nothing of their process's state

left-still : (ctx : CallContext) (op : Op) → is_still op ≡ true → state_then ctx op ≡ ctx.state
unfolding state_then state_after change state_by effect is_still is_on_rulesets
left-still ctx calls.Nnp still = absurd (false≢true still)
left-still ctx (calls.Create rs fs net) still = absurd (false≢true still)
left-still ctx (calls.AddPath rs path fs) still = absurd (false≢true still)
left-still ctx (calls.AddPort rs port net) still = absurd (false≢true still)
left-still ctx (calls.CloseRs rs) still = absurd (false≢true still)
left-still ctx (calls.Restrict rs) still = absurd (false≢true still)
left-still ctx (calls.CreateEmpty rs) still = absurd (false≢true still)
left-still ctx (calls.OpenFile path fd mode create trunc) still = absurd (false≢true still)
left-still ctx (calls.Adopt fd kind) still = absurd (false≢true still)
left-still ctx (calls.Dup fd to) still = absurd (false≢true still)
left-still ctx (calls.Close fd) still = absurd (false≢true still)
left-still ctx op still = if_allowed-same (answer ctx.tree ctx.abi ctx.rulesets op ctx.state) ctx.state

pub Agrees-still : (ctx : CallContext) (own : OwnState) (op : Op) → Agrees ctx.tree ctx.layers own ctx.state → is_still op ≡ true
    → Agrees ctx.tree ctx.layers own (state_then ctx op)
Agrees-still ctx own op agrees still = subst (λ (s : State). Agrees ctx.tree ctx.layers own s) (sym (left-still ctx op still)) agrees

-- ---- calls on rulesets, which change the rulesets that their process holds and nothing else of its state

Agrees-if_allowed : (ctx : CallContext) (own : OwnState) (a : Answer) (after before : State) → Agrees ctx.tree ctx.layers own after
    → Agrees ctx.tree ctx.layers own before → Agrees ctx.tree ctx.layers own (if_allowed a after before)
Agrees-if_allowed ctx own Allowed after before first second = first
Agrees-if_allowed ctx own Moot after before first second = second
Agrees-if_allowed ctx own (Refused error numbers) after before first second = second

Agrees-with_held : (ctx : CallContext) (own : OwnState) (s : State) (rs : ℕ) (held : Option ℕ) → Agrees ctx.tree ctx.layers own s
    → Agrees ctx.tree ctx.layers own (with_held s rs held)
Agrees-with_held ctx own s rs held agrees =
    record { no_new_privs = agrees.no_new_privs; admin = agrees.admin; indices = agrees.indices; domain = agrees.domain; descriptors = agrees.descriptors }

Agrees-changed : (ctx : CallContext) (own : OwnState) (op : Op) → Agrees ctx.tree ctx.layers own ctx.state → is_on_rulesets op ≡ true
    → Agrees ctx.tree ctx.layers own (change ctx.tree ctx.rulesets op ctx.state)
unfolding change state_by effect is_on_rulesets
Agrees-changed ctx own (calls.Create rs fs net) agrees on = Agrees-with_held ctx own ctx.state rs _ agrees
Agrees-changed ctx own (calls.AddPath rs path fs) agrees on = agrees
Agrees-changed ctx own (calls.AddPort rs port net) agrees on = agrees
Agrees-changed ctx own (calls.CloseRs rs) agrees on = Agrees-with_held ctx own ctx.state rs None agrees
Agrees-changed ctx own (calls.CreateEmpty rs) agrees on = Agrees-with_held ctx own ctx.state rs _ agrees
Agrees-changed ctx own op agrees on = absurd (false≢true on)

pub Agrees-on_rulesets : (ctx : CallContext) (own : OwnState) (op : Op) → Agrees ctx.tree ctx.layers own ctx.state → is_on_rulesets op ≡ true
    → Agrees ctx.tree ctx.layers own (state_then ctx op)
unfolding state_then state_after
Agrees-on_rulesets ctx own op agrees on =
    Agrees-if_allowed ctx own (answer ctx.tree ctx.abi ctx.rulesets op ctx.state) (change ctx.tree ctx.rulesets op ctx.state) ctx.state
    (Agrees-changed ctx own op agrees on) agrees

-- ---- a process that restricts itself

module _ (ctx : CallContext) (layers : List (RulesOn ℕ)) (met : ctx.layers ≡ layers) where
  -- by a ruleset that it holds, whose layer is there
  pub frozen_is_there : (op : Op) (id : LayerId) → IsFrozen ctx (Some id) (enforced ctx.rulesets op ctx.state) → id.0 < length layers
  unfolding enforced IsFrozen
  frozen_is_there (calls.Restrict rs) id frozen = there (named ctx.rulesets (ctx.state.held rs)) frozen
    where
      there : (rules : Option Layer) → IsFrozen ctx (Some id) rules → id.0 < length layers
      there None frozen = absurd frozen
      there (Some rules) frozen = subst (λ (all : List (RulesOn ℕ)). id.0 < length all) met frozen.0
  frozen_is_there op id frozen = absurd frozen

  module _ (before after : OwnState) (a : Answer) (agrees : Agrees ctx.tree ctx.layers before ctx.state) where
    restrict_judged : (rs : ℕ) (layer : Option LayerId) → Restricts layers layer before after a
        → IsFrozen ctx layer (named ctx.rulesets (ctx.state.held rs))
        → (a ≡ answer_to ctx (calls.Restrict rs)) × Agrees ctx.tree ctx.layers after (state_then ctx (calls.Restrict rs))
    unfolding answer_to state_then state_after answer change state_by effect
    restrict_judged rs layer restricts frozen =
        let rules = named ctx.rulesets (ctx.state.held rs) in
        let both = restricts ctx met agrees rules frozen in
        (both.0, subst (λ (b : Answer). Agrees ctx.tree ctx.layers after (if_allowed b (with_layer ctx.state rules) ctx.state)) both.0 both.1)

    pub frozen_judged : (op : Op) (id : LayerId) → Restricts layers (Some id) before after a
        → IsFrozen ctx (Some id) (enforced ctx.rulesets op ctx.state) → (a ≡ answer_to ctx op) × Agrees ctx.tree ctx.layers after (state_then ctx op)
    unfolding enforced IsFrozen
    frozen_judged (calls.Restrict rs) id restricts frozen = restrict_judged rs (Some id) restricts frozen
    frozen_judged op id restricts frozen = absurd frozen

    unheld : (rs : ℕ) → OutcomeFits ctx (calls.Restrict rs) ByState → IsFrozen ctx None (named ctx.rulesets (ctx.state.held rs))
    unfolding OutcomeFits enforced IsFrozen
    unheld rs fits = subst (λ (rules : Option Layer). IsFrozen ctx None rules) (sym fits.1) tt

    -- by none
    pub unheld_judged : (op : Op) (rs : ℕ) → Restricts layers None before after a → op ≡ calls.Restrict rs → OutcomeFits ctx op ByState
        → (a ≡ answer_to ctx op) × Agrees ctx.tree ctx.layers after (state_then ctx op)
    unheld_judged op rs restricts is fits =
        subst (λ (o : Op). (a ≡ answer_to ctx o) × Agrees ctx.tree ctx.layers after (state_then ctx o)) (sym is)
        (restrict_judged rs None restricts (unheld rs (subst (λ (o : Op). OutcomeFits ctx o ByState) is fits)))
