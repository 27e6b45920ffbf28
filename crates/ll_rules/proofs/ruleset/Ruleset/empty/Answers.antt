use Rattle.std.proofs.Common.{refl}
use Rattle.std.specs.Ordering.{nat_cmp}
use Rattle.std.specs.FinMap.{get-empty}
use Rattle.ll_rights.specs.Rights as files
use Rattle.ll_rights.specs.NetRights as network
use Rattle.ll_rules.proofs.Lookups.{no_entries}
use Rattle.ll_rules.proofs.ruleset.Ruleset.empty.Goals as goal

pub invariant_of-result : goal.invariant_of-result
unfolding files.has network.has
invariant_of-result c = (refl, refl, λ number unmarked. rw c.new-2.ensures (get-empty nat_cmp number))

pub returns : goal.returns
returns c = rw (no_entries c.new-2.result c.new-2.ensures, no_entries c.new-3.result c.new-3.ensures) refl
