-- The law of orders, from what one step does.
use Rattle.std.proofs.Common.{◌≡◌, ℕ, true, false, List, refl, sym, ◌∙◌, inl, inr, arith}
use Rattle.std.proofs.lemmas.Bool.{cases_Bool}
use Rattle.ll_rights.specs.declared.abi.Abi.{Abi}
use Rattle.ll_tree.specs.Trees.{Entry}
use Rattle.ll_trace.specs.declared.op.Op.{Op}
use Rattle.ll_trace.specs.declared.op.Op.TheVariants.{Start, Fork, Create, AddPath, AddPort, CreateEmpty}
use Rattle.ll_semantics.specs.States.{State, Layer, fresh}
use Rattle.ll_semantics.specs.Answers.{answer}
use Rattle.ll_semantics.specs.Effects.{effect}
use Rattle.ll_trace.specs.Processes.{is_starting}
use Rattle.ll_semantics.specs.CallContexts.{started, begun_by, rules as rules_of, rulesets_by, rulesets_after, state_after}
use Rattle.ll_semantics.specs.Worlds.{World, answer_in, step}
use Rattle.ll_semantics.proofs.Steps.{if_allowed-same, started-none, step-other, step-own, step-new, step-rulesets, step-unbegun, with_state-other}
use Rattle.ll_process.specs.Orders.{changes_rulesets, SeenAlike}
use Rattle.ll_process.proofs.laws.law_of_orders.Goals as goal

pub returns-clause-others : goal.returns-clause-others
returns-clause-others c = λ tree abi w process op other differs older. elim (cases_Bool (is_starting op)) [
  | inl starts ↦ step-other tree abi w process op other differs (older starts)
  | inr fails ↦ step-unbegun tree abi w process op other (started-none tree w.rulesets op (w.processes process) fails)
      ∙ with_state-other w.processes process other (state_after tree abi w.rulesets op (w.processes process)) differs
]

rules-same : (tree : List Entry) (rulesets : List Layer) (op : Op) (s : State) → changes_rulesets op ≡ false → rules_of tree rulesets op s ≡ rulesets
unfolding rules_of rulesets_by effect changes_rulesets
rules-same tree rulesets (Create rs fs net) s fails = cc
rules-same tree rulesets (AddPath rs path fs) s fails = cc
rules-same tree rulesets (AddPort rs port net) s fails = cc
rules-same tree rulesets (CreateEmpty rs) s fails = cc
rules-same tree rulesets op s fails = refl

pub returns-clause-rulesets : goal.returns-clause-rulesets
unfolding rulesets_after
returns-clause-rulesets c = λ tree abi w process op fails.
    let own : State = w.processes process in
    step-rulesets tree abi w process op ∙ rw (rules-same tree w.rulesets op own fails) (if_allowed-same (answer tree abi w.rulesets op own) w.rulesets)

-- a process begins the same in every world where its parent is the same
started_alike : (tree : List Entry) (abi : Abi) (process : ℕ) (op : Op) (w v : World) → SeenAlike process w v → is_starting op ≡ true
    → (step tree abi w process op).processes w.count ≡ (step tree abi v process op).processes v.count
unfolding is_starting started begun_by effect
started_alike tree abi process (Start nnp admin) w v same starts =
    step-new tree abi w process (Start nnp admin) (fresh nnp admin) refl ∙ sym (step-new tree abi v process (Start nnp admin) (fresh nnp admin) refl)
started_alike tree abi process (Fork child) w v same starts =
    step-new tree abi w process (Fork child) (w.processes process) refl ∙ same.own ∙ sym (step-new tree abi v process (Fork child) (v.processes process) refl)
started_alike tree abi process op w v same starts = absurd (cc)

pub returns-clause-own : goal.returns-clause-own
unfolding answer_in
returns-clause-own c = λ tree abi process op w v same. record {
  answer = rw (same.rulesets, same.own) refl;
  rulesets = step-rulesets tree abi w process op ∙ rw (same.rulesets, same.own) (sym (step-rulesets tree abi v process op));
  own = λ within there.
      step-own tree abi w process op (λ last. omega (arith, within, last))
      ∙ rw (same.rulesets, same.own) (sym (step-own tree abi v process op (λ last. omega (arith, there, last))));
  started = started_alike tree abi process op w v same;
}
