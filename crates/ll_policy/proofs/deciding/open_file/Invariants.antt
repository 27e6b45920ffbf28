use Rattle.std.proofs.Common.{◌≡◌, drop}
use Rattle.std.specs.Prelude.{find}
use Rattle.ll_policy.specs.Chains.{is_file_in, places_from, places_of}
use Rattle.ll_policy.specs.Choices.{is_open}
use Rattle.ll_policy.proofs.deciding.open_file.Given as goal

-- the first of what is left is the first of all
abbrev pub invariant-loop-object : goal.invariant-loop-object
invariant-loop-object l =
    find (is_open (is_file_in l.files) l.old l.narrow) (places_from l.object (drop l.object l.on)) ≡ find
    (is_open (is_file_in l.files) l.old l.narrow) (places_of l.on)
