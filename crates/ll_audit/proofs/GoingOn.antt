-- How an audit under several versions goes on by one version.
use Rattle.std.proofs.Common.{◌≡◌, ◌∙◌, Bool, true, List, [], ◌∷◌, refl, sym, ap, subst}
use Rattle.std.proofs.lemmas.Bool.{true≢false}
use Rattle.ll_rights.specs.declared.abi.Abi.{Abi}
use Rattle.ll_rights.specs.AbiRanges.{is_in}
use Rattle.ll_trace.specs.declared.located.Located.{Located}
use Rattle.ll_trace.specs.declared.seen.Kernel.{Kernel}
use Rattle.ll_trace.specs.declared.trace.Effort.{Effort}
use Rattle.ll_trace.specs.Taken.{records_by}
use Rattle.ll_process.specs.Cases.{case_of}
use Rattle.ll_findings.specs.Findings.{AddsFinding, FindingValue, Finds}
use Rattle.ll_report.specs.declared.options.Options.{Options}
use Rattle.ll_audit.specs.Ranging.{Adds, GoesOn}
use Rattle.ll_audit.specs.declared.judged.Judged.{Judged}
use Rattle.ll_audit.specs.declared.ranging.Progress.TheVariants as progress

-- what is found of one is found of the same
same_finds : (explains : Bool) (a b : Located) (kernel : Kernel) (effort : Effort) (abi : Abi) (finding : FindingValue) → a ≡ b → kernel.abi ≡ abi
    → kernel.effort ≡ effort → Finds explains a.tree kernel.abi (records_by kernel.effort kernel.abi a.trace) finding
    → Finds explains b.tree abi (records_by effort abi b.trace) finding
same_finds explains a b kernel effort abi finding of_it version taken finds =
    subst (λ (e : Effort). Finds explains b.tree abi (records_by e abi b.trace) finding) taken
    (subst (λ (v : Abi). Finds explains b.tree v (records_by kernel.effort v b.trace) finding) version
    (subst (λ (l : Located). Finds explains l.tree kernel.abi (records_by kernel.effort kernel.abi l.trace) finding) of_it finds))

module _ (options : Options) (located : Located) (abi : Abi) (asked : is_in options.abis abi ≡ true) (next : Judged) (of_it : next.located.now ≡ located)
    (version : next.settled.kernel.abi ≡ abi) (effort : next.settled.kernel.effort ≡ options.effort) where
  adds : (newer after : List FindingValue) → next.newer ≡ newer
      → AddsFinding options.shown.explanations (case_of next.located.now next.settled) next.newer after → Adds options located abi newer after
  adds newer after same comes = record {
    one = λ _. (
      comes.0,
      comes.1 ∙ ap (λ all. comes.0 ∷ all) same,
      same_finds options.shown.explanations next.located.now located next.settled.kernel options.effort abi comes.0 of_it version effort comes.2,
    );
    none = λ unasked. absurd (true≢false (sym asked ∙ unasked));
  }

  -- the first version
  pub goes_on_from_none : next.newer ≡ [] → GoesOn options located abi progress.Begun (progress.Judged next)
  goes_on_from_none none = λ after comes. ([], refl, adds [] after none comes)

  -- one version more
  pub goes_on : (one : Judged) → AddsFinding options.shown.explanations (case_of one.located.now one.settled) one.newer next.newer
      → GoesOn options located abi (progress.Judged one) (progress.Judged next)
  goes_on one added = λ after comes. (added.0 ∷ one.newer, (added.0, refl, added.2), adds (added.0 ∷ one.newer) after added.1 comes)
