-- What is found of two policies that are compared: where each lets what pass, and what the new one does and the old one
-- doesn't wherever objects are moved.
-- Source: landlock(7), "Filesystem actions" and "Network flags"; landlock_create_ruleset(2).
use Rattle.std.specs.Prelude.{◌≡◌, ◌-◌, List, length, map}
use Rattle.std.specs.List.{AllZip}
use Rattle.ll_rights.specs.Rights as files
use Rattle.ll_rights.specs.NetRights as network
use Rattle.ll_policy.specs.Found.{TellsSingle, OfEach}
use Rattle.ll_policy.specs.Regions.{TellsRegions, TellsPorts}
use Rattle.ll_policy.specs.FoundMoves.{TellsMoves, all_kinds}
use Rattle.ll_policy.specs.Chains.{Tells, is_file_in}
use Rattle.ll_policy.specs.Gains.{TellsGain}
use Rattle.ll_policy.specs.Granted.{root}
use Rattle.ll_policy.specs.Policies.{rules_of, lost}
use Rattle.ll_policy.specs.declared.layer.Layer.{Layer}
use Rattle.ll_policy.specs.declared.layer.Restriction.TheVariants.{Mounts, AbstractUnixSocket, Signal}
use Rattle.ll_comparison.specs.declared.comparison.Comparison.{Comparison}
use Rattle.ll_comparison.specs.declared.found.Found.{Found}
use Rattle.ll_comparison.specs.declared.found.Lost.{Lost}

-- for each restriction the first old layer that has it, if no new one does
pub record AreLost (old new : List Layer) (found : Lost) : Type 0 where
  pub mounts : found.mounts ≡ lost Mounts old new
  pub abstract_unix_socket : found.abstract_unix_socket ≡ lost AbstractUnixSocket old new
  pub signal : found.signal ≡ lost Signal old new

-- With each right, in which regions it passes and on which ports, and, if it is asked about, what is found of objects,
-- together and alone, of gains, and of moves of objects of each kind; which restrictions are lost; and how many layers more a process can stack.
pub record IsFound (comparison : Comparison) (found : Found) : Type 0 where
  pub regions : AllZip (TellsRegions comparison.asked.regions comparison.parents.items (map rules_of comparison.old.items) (map rules_of comparison.new.items)) files.all_rights found.regions.items
  pub objects : OfEach (Tells (is_file_in comparison.files.items) root) comparison.asked.objects comparison.old.items comparison.new.items found.objects
  pub single : OfEach (TellsSingle (length comparison.files.items)) comparison.asked.single comparison.old.items comparison.new.items found.single
  pub gains : OfEach (TellsGain (is_file_in comparison.files.items)) comparison.asked.gains comparison.old.items comparison.new.items found.gains
  pub moves : AllZip (TellsMoves comparison.asked.moves (is_file_in comparison.files.items) comparison.parents.items (map rules_of comparison.old.items) (map rules_of comparison.new.items)) all_kinds found.moves.items
  pub ports : AllZip (TellsPorts comparison.ports (map rules_of comparison.old.items) (map rules_of comparison.new.items)) network.all_rights found.ports.items
  pub lost : AreLost comparison.old.items comparison.new.items found.lost
  pub spare_layers : found.spare_layers ≡ length comparison.old.items - length comparison.new.items
