-- What the program's status and its outputs say, from what a run came to and how that was written.
use Rattle.std.proofs.Common.{◌≡◌, ◌∙◌, ℕ, List, Option, None, refl, sym, ap, subst, ◌≤◌, Bool, true, false, cond, eqb, inl, inr, arith}
use Rattle.std.specs.Prelude.{◌⊎◌}
use Rattle.std.proofs.lemmas.Option.{none-some, same_Some}
use Rattle.ll_report.specs.Report.{report_status}
use Rattle.ll_audit.specs.declared.fault.Fault.TheVariants as fault
use Rattle.ll_audit.specs.declared.lines.Failure.{Failure}
use Rattle.ll_audit.specs.declared.lines.Failure.TheVariants as failure
use Rattle.ll_audit.specs.declared.outcome.Ending.{Ending}
use Rattle.ll_audit.specs.declared.outcome.Outcome.{Outcome}
use Rattle.ll_audit.specs.declared.outcome.Outcome.TheVariants as outcome
use Rattle.ll_command.specs.Command.{Request, Text, request_of}
use Rattle.ll_audit.specs.FaultLines.{failure_status}
use Rattle.ll_audit.specs.Inputs.{Files}
use Rattle.ll_audit.specs.Fronts.{EndsWithoutRun, HasFailure, HasWrongWords, IsOutcomeOf, Reports, StaysQuiet, TellsWhy, WritesNothing, WritesReport}
use Rattle.ll_audit.specs.Outcomes.{EndsWith, Stream}
use Rattle.ll_audit.specs.ShownReports.{told_in}
use Rattle.ll_command.proofs.CommandLine.{asks_for_no_run}

-- a failure's status is 3 or 4
status_of-high : (one : Failure) → (failure_status one ≡ 3) ⊎ (failure_status one ≡ 4)
status_of-high (failure.Audit (fault.Tree bad)) = inl refl
status_of-high (failure.Audit (fault.Trace bad)) = inl refl
status_of-high (failure.Audit fault.Workers) = inr refl
status_of-high (failure.Audit fault.Memory) = inr refl
status_of-high (failure.Audit fault.NoThread) = inr refl
status_of-high (failure.Unread name) = inl refl
status_of-high failure.Unwritten = inr refl

failing : (one : Failure) (status : ℕ) → status ≡ failure_status one → (status ≡ 3) ⊎ (status ≡ 4)
failing one status is = subst (λ (n : ℕ). (n ≡ 3) ⊎ (n ≡ 4)) (sym is) (status_of-high one)

abbrev zero_or_one : Bool → ℕ
zero_or_one b = cond b 0 1

by_test : (b : Bool) → (zero_or_one b ≡ 0) ⊎ (zero_or_one b ≡ 1)
by_test true = inl refl
by_test false = inr refl

-- a report's status is 0 or 1
reporting : (refused status : ℕ) → status ≡ report_status refused → (status ≡ 0) ⊎ (status ≡ 1)
reporting refused status is = subst (λ (n : ℕ). (n ≡ 0) ⊎ (n ≡ 1)) (sym is) (by_test (eqb refused 0))

abbrev pub stream : {Output : Type 0} → (Output → Option (List ℕ)) → Output → Output → Stream Output
stream contents old new = record { contents = contents; old = old; new = new }

module _ {Output Errors : Type 0} (out : Stream Output) (err : Stream Errors) (ending : Ending) where
  pub bounded : (one : Outcome) → EndsWith out err one ending → ending.status ≤ 4
  bounded (outcome.Report report) (inl (why, _)) = omega (arith, why.0)
  bounded (outcome.Report report) (inr written) = omega (arith, reporting (told_in report).refused ending.status written.0)
  bounded (outcome.Text error) (inl why) = omega (arith, why.0)
  bounded (outcome.Text error) (inr written) = omega (arith, written.0)
  bounded (outcome.Usage error) ends = omega (arith, ends.0)
  bounded (outcome.Misuse misuse) ends = omega (arith, ends.0)
  bounded (outcome.Failure one) ends = omega (arith, failing one ending.status ends.0.0)

  pub stays_quiet : (one : Outcome) → EndsWith out err one ending → StaysQuiet ending.status err.old err.new
  stays_quiet (outcome.Report report) (inl (why, _)) low = absurd (omega (arith, low, why.0))
  stays_quiet (outcome.Report report) (inr written) low = written.2
  stays_quiet (outcome.Text error) (inl why) low = absurd (omega (arith, low, why.0))
  stays_quiet (outcome.Text error) (inr written) low = written.1
  stays_quiet (outcome.Usage error) ends low = absurd (omega (arith, low, ends.0))
  stays_quiet (outcome.Misuse misuse) ends low = absurd (omega (arith, low, ends.0))
  stays_quiet (outcome.Failure one) ends low = absurd (omega (arith, low, failing one ending.status ends.0.0))

module _ {Output Errors : Type 0} (out : Stream Output) (err : Stream Errors) (words : List Text) (files : Option Files) (before after : ℕ)
    (ending : Ending) where
  pub writes_report : (one : Outcome) → IsOutcomeOf words files before after one → EndsWith out err one ending
      → WritesReport words files ending.status (out.contents out.old) (out.contents out.new)
  writes_report (outcome.Report report) has (inl (why, _)) low request asked = absurd (omega (arith, low, why.0))
  writes_report (outcome.Report report) has (inr written) low request asked =
      let same : has.request ≡ request = same_Some has.request request (sym has.asked ∙ asked) in
      (told_in report, subst (λ (r : Request). Reports files r (told_in report)) same has.reports, written.1, written.0)
  writes_report (outcome.Text error) help ends low request asked = absurd (none-some request (sym (asks_for_no_run words help) ∙ asked))
  writes_report (outcome.Usage error) wrong ends low request asked = absurd (omega (arith, low, ends.0))
  writes_report (outcome.Misuse misuse) wrong ends low request asked = absurd (omega (arith, low, ends.0))
  writes_report (outcome.Failure one) has ends low request asked = absurd (omega (arith, low, failing one ending.status ends.0.0))

  pub wrong_words : (one : Outcome) → IsOutcomeOf words files before after one → EndsWith out err one ending
      → HasWrongWords words ending.status
  wrong_words (outcome.Report report) has (inl (why, _)) two = absurd (omega (arith, two, why.0))
  wrong_words (outcome.Report report) has (inr written) two = absurd (omega (arith, reporting (told_in report).refused ending.status written.0, two))
  wrong_words (outcome.Text error) help (inl why) two = absurd (omega (arith, two, why.0))
  wrong_words (outcome.Text error) help (inr written) two = absurd (omega (arith, written.0, two))
  wrong_words (outcome.Usage error) wrong ends two = wrong
  wrong_words (outcome.Misuse misuse) wrong ends two = wrong
  wrong_words (outcome.Failure one) has ends two = absurd (omega (arith, two, failing one ending.status ends.0.0))

  no_run_failing : (one : Failure) → HasFailure words files before after one → ending.status ≡ failure_status one → request_of words ≡ None → ending.status ≡ 4
  no_run_failing one (inl memory) is none = is ∙ ap (λ (f : Failure). failure_status f) memory
  no_run_failing one (inr (request, asked, fails)) is none = absurd (none-some request (sym none ∙ asked))

  pub ends_without_run : (one : Outcome) → IsOutcomeOf words files before after one → EndsWith out err one ending
      → EndsWithoutRun words ending.status
  ends_without_run (outcome.Report report) has ends none = absurd (none-some has.request (sym none ∙ has.asked))
  ends_without_run (outcome.Text error) help (inl why) none = inr (inr why.0)
  ends_without_run (outcome.Text error) help (inr written) none = inr (inl (written.0, help))
  ends_without_run (outcome.Usage error) wrong ends none = inl ends.0
  ends_without_run (outcome.Misuse misuse) wrong ends none = inl ends.0
  ends_without_run (outcome.Failure one) has ends none = inr (inr (no_run_failing one has ends.0.0 none))

  pub writes_nothing : (one : Outcome) → IsOutcomeOf words files before after one → EndsWith out err one ending
      → WritesNothing out words files ending.status
  writes_nothing (outcome.Report report) has (inl (why, beginning)) =
      (λ wrong. absurd (omega (arith, why.0, wrong)), λ _. inr (inr (told_in report, has, beginning)))
  writes_nothing (outcome.Report report) has (inr written) = (
    λ wrong. absurd (omega (arith, reporting (told_in report).refused ending.status written.0, wrong)),
    λ four. absurd (omega (arith, reporting (told_in report).refused ending.status written.0, four)),
  )
  writes_nothing (outcome.Text error) help (inl why) = (λ wrong. absurd (omega (arith, why.0, wrong)), λ _. inr (inl help))
  writes_nothing (outcome.Text error) help (inr written) = (λ wrong. absurd (omega (arith, written.0, wrong)), λ _. inr (inl help))
  writes_nothing (outcome.Usage error) wrong ends = (λ _. ends.1, λ _. inl ends.1)
  writes_nothing (outcome.Misuse misuse) wrong ends = (λ _. ends.1, λ _. inl ends.1)
  writes_nothing (outcome.Failure one) has ends = (λ _. ends.1, λ _. inl ends.1)

  pub tells_why : (one : Outcome) → IsOutcomeOf words files before after one → EndsWith out err one ending
      → TellsWhy words files before after ending (err.contents err.old) (err.contents err.new)
  tells_why (outcome.Report report) has (inl (why, _)) high = (failure.Unwritten, inr (refl, inr (told_in report, has)), why)
  tells_why (outcome.Report report) has (inr written) high = absurd (omega (arith, reporting (told_in report).refused ending.status written.0, high))
  tells_why (outcome.Text error) help (inl why) high = (failure.Unwritten, inr (refl, inl help), why)
  tells_why (outcome.Text error) help (inr written) high = absurd (omega (arith, written.0, high))
  tells_why (outcome.Usage error) wrong ends high = absurd (omega (arith, ends.0, high))
  tells_why (outcome.Misuse misuse) wrong ends high = absurd (omega (arith, ends.0, high))
  tells_why (outcome.Failure one) has ends high = (one, inl has, ends.0)
