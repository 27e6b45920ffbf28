use Rattle.std.proofs.Common.{◌∙◌, inl, inr}
use Rattle.ll_command.proofs.command.plan_of.Goals as goal

pub returns : goal.returns
returns c = elim c.in-Err.ensures [
  | inl memory ↦ absurd (c.in_default.not-OutOfMemory (c.kind.ensures ∙ memory))
  | inr among ↦ (
    _,
    among,
    λ help. c.in_default.not-DisplayHelp (c.kind.ensures ∙ help),
    λ version. c.in_default.not-DisplayVersion (c.kind.ensures ∙ version),
  )
]
