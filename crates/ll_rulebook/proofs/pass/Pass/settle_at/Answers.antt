use Rattle.std.proofs.Common.{◌∙◌, sym, inl, inr, arith}
use Rattle.std.proofs.lemmas.Option.{slice_get_cases}
use Rattle.std.proofs.lemmas.Result.{IfOk-weaker}
use Rattle.ll_rulebook.proofs.pass.Pass.settle_at.Goals as goal

pub settle-requires-clause-there : goal.settle-requires-clause-there
settle-requires-clause-there c = elim ((slice_get_cases c.args.trace.now c.args.index).1) [
  | inl found ↦ rw (c.call-seen.ensures.op found.0 found.2, c.call-seen.ensures.process found.0 found.2) (c.requires.there found.0 found.2)
  | inr past ↦ absurd (omega (arith, past.0, c.requires.within))
]

pub settle_other-requires-clause-there : goal.settle_other-requires-clause-there
settle_other-requires-clause-there c = elim ((slice_get_cases c.args.trace.now c.args.index).1) [
  | inl found ↦
      rw (← c.recorded.ensures.op (sym c.is_of_rights.ensures ∙ c.if-is_of_rights.false) found.0 found.2, c.recorded.ensures.process found.0 found.2)
      (c.requires.there found.0 found.2)
  | inr past ↦ absurd (omega (arith, past.0, c.requires.within))
]

pub returns : goal.returns
returns c =
    IfOk-weaker c.settle_other.result _ _
    (λ outcome settles r found.
    rw (c.recorded.ensures.op (sym c.is_of_rights.ensures ∙ c.if-is_of_rights.false) r found, ← c.recorded.ensures.process r found) settles)
    c.settle_other.ensures
