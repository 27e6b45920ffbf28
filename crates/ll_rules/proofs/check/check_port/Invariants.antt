use Rattle.std.proofs.Common.{◌≡◌, ◌+◌, ◌<◌, ◌++◌, drop}
use Rattle.std.specs.Prelude.{All}
use Rattle.ll_rules.specs.Checks.{numbers_from}
use Rattle.ll_rules.proofs.Domains.{refuses_on_port}
use Rattle.ll_rules.proofs.check.check_port.Given as goal

-- the layers noted so far and those that are left make up all
abbrev pub invariant-loop-index : goal.invariant-loop-index
invariant-loop-index l = record {
  so_far : l.refusing ++ numbers_from (refuses_on_port l.layers l.port l.wanted) (l.index + 1) (drop l.index l.ids)
      ≡ numbers_from (refuses_on_port l.layers l.port l.wanted) 1 l.ids;
  below : All (λ number. number < l.index + 1) l.refusing;
}
