use Rattle.std.proofs.Common.{◌≡◌, ◌++◌, drop, flat_map}
use Rattle.ll_calling.specs.Texts.{abi_line}
use Rattle.ll_calling.proofs.tables.put_versions.Given as goal

-- the lines so far, and those of the other versions, are all
abbrev pub invariant-loop-abi : goal.invariant-loop-abi
invariant-loop-abi l =
    l.text.items ++ flat_map abi_line (drop l.abi-index l.versions) ≡ l.initial.text.items ++ flat_map abi_line l.versions
