use Rattle.std.proofs.Common.{◌∙◌, ap, sym}
use Rattle.std.specs.Prelude.{is_some}
use Rattle.ll_command.proofs.CommandLine.{misuse_is_wrong, no_misuse, request_of-matches}
use Rattle.ll_command.proofs.Faultless.{never_lacking}
use Rattle.ll_command.proofs.command.read.Goals as goal

pub unreachable-requires : goal.unreachable-requires
unreachable-requires c =
    never_lacking _ _ c.in_ok-matches.ensures.0 c.in_ok-matches.ensures.1
    (sym c.misuse.ensures ∙ ap is_some c.in_default.is) c.in-None.ensures.request

pub returns-in-Some : goal.returns-in-Some
returns-in-Some c =
    misuse_is_wrong _ _ c.in_ok-matches.ensures.0 c.in_ok-matches.ensures.1
    (sym c.misuse.ensures ∙ ap is_some c.in-Some.is)

pub returns : goal.returns
returns c =
    let free = no_misuse _ _ c.in_ok-matches.ensures.0 c.in_ok-matches.ensures.1 (sym c.misuse.ensures ∙ ap is_some c.in_default.is) in (
      request_of-matches _ _ free c.in_ok-matches.ensures.1 ∙ sym c.in-Some-run_of.ensures.request,
      c.in-Some-run_of.ensures.count.0,
      c.in-Some-run_of.ensures.count.1,
    )
