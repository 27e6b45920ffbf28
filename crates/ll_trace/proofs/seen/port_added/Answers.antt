-- A rule is left out if it named a right and none of its rights is supported.
use Rattle.std.proofs.Common.{◌≡◌, true, false, refl, sym, ap, ◌∙◌}
use Rattle.ll_rights.specs.NetRights.{is_empty}
use Rattle.ll_rights.specs.Supported.{supported_net}
use Rattle.ll_trace.specs.Borrowed.{meant}
use Rattle.ll_trace.proofs.seen.port_added.Goals.{else-is_empty-via-then-is_empty+else-not-is_empty, else-is_empty-via-else-is_empty}
use Rattle.ll_trace.proofs.seen.port_added.Goals as goal

pub returns-then-not-is_empty-clause-call : goal.returns-then-not-is_empty-clause-call
unfolding meant
returns-then-not-is_empty-clause-call c =
    let named : is_empty c.args.net ≡ false = sym c.is_empty-then-is_empty.ensures ∙ c.if-not-is_empty.true in
    let none : is_empty (supported_net c.args.abi c.args.net) ≡ true =
    ap is_empty (sym c.supported-supported.ensures) ∙ sym c.is_empty.ensures ∙ c.if-is_empty.true in
    rw (none, named) refl

pub returns-else-is_empty-clause-call : goal.returns-else-is_empty-clause-call
unfolding meant
returns-else-is_empty-clause-call c = elim c.else-is_empty.branch [
  | else-is_empty-via-then-is_empty+else-not-is_empty w ↦
      let unnamed : is_empty c.args.net ≡ true = sym w.is_empty-then-is_empty.ensures ∙ w.if-not-is_empty.false in
      let none : is_empty (supported_net c.args.abi c.args.net) ≡ true =
      ap is_empty (sym c.supported-supported.ensures) ∙ sym c.is_empty.ensures ∙ w.if-is_empty.true in
      rw (c.supported-supported.ensures, none, unnamed) refl
  | else-is_empty-via-else-is_empty w ↦
      let some : is_empty (supported_net c.args.abi c.args.net) ≡ false =
      ap is_empty (sym c.supported-supported.ensures) ∙ sym c.is_empty.ensures ∙ w.if-is_empty.false in
      rw (c.supported-supported.ensures, some) refl
]
