use Rattle.ll_trace.proofs.RecentOwners.{none_recent, only_none}
use Rattle.ll_trace.proofs.owners.make_table.Goals as goal

pub returns-in_ok-table-clause-same : goal.returns-in_ok-table-clause-same
returns-in_ok-table-clause-same c =
    λ at one there. absurd (none_recent c.in_ok-table.field-0.items at one (c.in_ok-table.ensures.items_if_clones_equal (only_none _ (λ one copy. copy))) there)
