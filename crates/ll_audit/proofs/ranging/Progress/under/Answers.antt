use Rattle.std.proofs.Common.{◌≡◌, ◌∙◌, true, subst, sym}
use Rattle.ll_rights.specs.AbiRanges.{is_in}
use Rattle.ll_trace.specs.declared.located.Located.{Located}
use Rattle.ll_audit.specs.Ranging.{GoesOn, IsOf}
use Rattle.ll_audit.specs.declared.judged.Judged.{Judged}
use Rattle.ll_audit.specs.declared.ranging.Progress.{Progress}
use Rattle.ll_audit.specs.declared.ranging.Progress.TheVariants as progress
use Rattle.ll_audit.proofs.GoingOn.{goes_on, goes_on_from_none}
use Rattle.ll_audit.proofs.ranging.Progress.under.Goals.{in-Begun+in_ok-judged-in-Begun, in-Judged+in_ok-judged-in-Judged}
use Rattle.ll_audit.proofs.ranging.Progress.under.Goals as goal

pub returns-clause-of_it : goal.returns-clause-of_it
returns-clause-of_it g c = elim c.match-self.branch [
  | in-Begun+in_ok-judged-in-Begun w ↦
      subst (λ (one : Judged). one.located.now ≡ c.args.located.now) (sym w.judged-is) w.in_ok-judged-in-Begun.ensures.located
  | in-Judged+in_ok-judged-in-Judged w ↦
      let own : w.in-Judged.newer.located.now ≡ c.args.located.now =
      subst (λ (self : Progress). IsOf c.args.located.now self) w.in-Judged.is c.requires.of_it in
      subst (λ (one : Judged). one.located.now ≡ c.args.located.now) (sym w.judged-is) (w.in_ok-judged-in-Judged.ensures.located ∙ own)
]

pub returns-clause-further : goal.returns-clause-further
returns-clause-further g c =
    let options = c.args.audit.now.options.now in
    let located : Located = c.args.located.now in
    let abi = c.args.abi in
    let asked : is_in options.abis abi ≡ true = sym c.has.ensures ∙ c.if-not-has.false in
    let judged : Judged = c.match-self.judged in
    elim c.match-self.branch [
      | in-Begun+in_ok-judged-in-Begun w ↦
          let first = w.in_ok-judged-in-Begun in
          subst (λ (self : Progress). GoesOn options located abi self (progress.Judged judged)) (sym w.in-Begun.is)
          (subst (λ (one : Judged). GoesOn options located abi progress.Begun (progress.Judged one)) (sym w.judged-is)
          (goes_on_from_none options located abi asked first.judged first.ensures.located first.ensures.abi first.ensures.effort
          (first.ensures.newer ∙ w.none.ensures)))
      | in-Judged+in_ok-judged-in-Judged w ↦
          let next = w.in_ok-judged-in-Judged in
          let own : w.in-Judged.newer.located.now ≡ located = subst (λ (self : Progress). IsOf located self) w.in-Judged.is c.requires.of_it in
          subst (λ (self : Progress). GoesOn options located abi self (progress.Judged judged)) (sym w.in-Judged.is)
          (subst (λ (one : Judged). GoesOn options located abi (progress.Judged w.in-Judged.newer) (progress.Judged one)) (sym w.judged-is)
          (goes_on options located abi asked next.judged (next.ensures.located ∙ own) next.ensures.abi next.ensures.effort w.in-Judged.newer
          next.ensures.findings))
    ]
