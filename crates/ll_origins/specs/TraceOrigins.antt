-- What is kept of where each process's layers, descriptors and rulesets come from, and when it agrees with the origins.
-- Source: landlock_restrict_self(2); landlock(7), "Inheritance"; open(2), close(2), dup(2).
use Rattle.std.specs.Prelude.{◌≡◌, ℕ, List, Option, Some, length, slice_get}
use Rattle.std.specs.FinMap.{get}
use Rattle.ll_shared.specs.LowMaps.{LowMap, value_of}
use Rattle.ll_reasons.specs.Origins.{Origins, Sources}
use Rattle.ll_origins.specs.declared.trail.ProcessOrigins.{ProcessOrigins}

-- the record that opened a descriptor, if it is open
abbrev pub opened : LowMap ℕ → ℕ → Option ℕ
opened openings fd = value_of openings fd

-- what is kept of one process says where all that it has comes from
pub record Follows (trail : ProcessOrigins) (o : Origins) : Type 0 where
  pub layers : trail.layers.items ≡ o.layers
  pub openings : (fd : ℕ) → opened trail.openings fd ≡ o.openings fd
  pub rulesets : (rs : ℕ) → get trail.rulesets rs ≡ o.rulesets rs

-- one trail for each process, by its number
pub record AreTrails (trails : List ProcessOrigins) (sources : Sources) : Type 0 where
  pub count : length trails ≡ sources.count
  pub each : (process : ℕ) (trail : ProcessOrigins) → slice_get trails process ≡ Some trail → Follows trail (sources.processes process)
