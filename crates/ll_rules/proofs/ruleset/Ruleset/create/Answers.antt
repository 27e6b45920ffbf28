use Rattle.std.proofs.Common.{◌≡◌, ◌∙◌, false, sym, refl}
use Rattle.std.specs.Ordering.{nat_cmp}
use Rattle.std.specs.FinMap.{get-empty}
use Rattle.ll_rights.specs.Rights as files
use Rattle.ll_rights.specs.NetRights as network
use Rattle.ll_rules.specs.Rulesets.{has_ports}
use Rattle.ll_rules.proofs.RightSets.{fs_within_known, net_within_known}
use Rattle.ll_rules.proofs.Lookups.{no_entries}
use Rattle.ll_rules.proofs.ruleset.Ruleset.create.Goals as goal

-- what is handled is known to the version, and `other` never is
pub invariant_of-result : goal.invariant_of-result
invariant_of-result c = (
  fs_within_known c.args.files c.fs.result (sym c.is_within.ensures ∙ c.if-not-is_within.false) (c.fs.ensures files.other),
  net_within_known c.args.network c.net.result (sym c.is_within-else-not-is_within.ensures ∙ c.if-not-is_within-2.false) (c.net.ensures network.other),
  λ number unmarked. rw c.new-2.ensures (get-empty nat_cmp number),
)

pub returns-clause-made : goal.returns-clause-made
returns-clause-made c = rw (no_entries c.new-2.result c.new-2.ensures, no_entries c.new-3.result c.new-3.ensures) refl

-- rights for the network, and a version without such rights
pub returns-then-not-ports_are_known-clause-fault : goal.returns-then-not-ports_are_known-clause-fault
returns-then-not-ports_are_known-clause-fault c =
    let named : network.is_empty c.args.network ≡ false = sym c.is_empty.ensures ∙ c.if-not-is_empty.true in
    let none : has_ports c.args.abi ≡ false = sym c.ports_are_known.ensures ∙ c.if-not-ports_are_known.true in
    rw (named, none) refl
