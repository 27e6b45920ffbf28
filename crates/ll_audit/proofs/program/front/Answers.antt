use Rattle.std.proofs.Common.{◌≡◌, ℕ, Bool, true, false, List, [], Option, append-nil, sym}
use Rattle.std.specs.Bool.{OnFalse, OnTrue}
use Rattle.std.specs.Io.KnownBytes.{Appends}
use Rattle.ll_report.proofs.Beginnings.{beginning}
use Rattle.ll_audit.specs.declared.lines.Failure.{Failure}
use Rattle.ll_audit.specs.declared.outcome.Ending.{Ending}
use Rattle.ll_command.specs.Command.{Text}
use Rattle.ll_audit.specs.FaultLines.{failure_line, failure_status}
use Rattle.ll_audit.specs.Inputs.{Files}
use Rattle.ll_audit.specs.Fronts.{HasReason, IsWhy, TellsWhy}
use Rattle.ll_audit.specs.Outcomes.{AppendsBeginning, AppendsPart, Complains}
use Rattle.ll_audit.proofs.program.front.Goals as goal

-- a line that could be told is a beginning of itself
module _ (old new : Option (List ℕ)) where
  as_told : (told : Bool) (line : List ℕ) → OnTrue told (Appends old new line) → OnFalse told (AppendsPart old new line)
      → AppendsBeginning old new line
  as_told true line whole cut = beginning old new line line [] (sym (append-nil line)) whole
  as_told false line whole cut = (cut.0, cut.2)

-- what is told has a reason
module _ (words : List Text) (files : Option Files) (before after : ℕ) (ending : Ending) (old new : Option (List ℕ)) where
  reason_of : (one : Failure) × IsWhy words files before after one × Complains one ending old new
      → (one : Failure) × IsWhy words files before after one × (ending.status ≡ failure_status one) × AppendsBeginning old new (failure_line one)
  reason_of (one, why, complains) = (one, why, complains.0, as_told old new ending.told (failure_line one) complains.1 complains.2)

  has_reason : TellsWhy words files before after ending old new → HasReason words files before after ending.status old new
  has_reason tells high = reason_of (tells high)

pub returns-clause-why : goal.returns-clause-why
returns-clause-why g c =
    has_reason _ _ (g.S.Source.failed c.args.source.now) (g.S.Source.failed c.front_ending.new.source)
    c.front_ending.result _ _ c.front_ending.ensures.why
