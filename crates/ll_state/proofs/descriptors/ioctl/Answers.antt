-- A command that the policy judges is refused by the layers that the device keeps. Any other is allowed.
use Rattle.std.proofs.Common.{rules}
use Rattle.ll_semantics.specs.Answers.{ioctl_answer}
use Rattle.ll_state.proofs.descriptors.ioctl.Goals as goal

pub returns-in-None : goal.returns-in-None
unfolding ioctl_answer
returns-in-None c = search rules

pub returns-in-Some : goal.returns-in-Some
unfolding ioctl_answer
returns-in-Some c = search rules
