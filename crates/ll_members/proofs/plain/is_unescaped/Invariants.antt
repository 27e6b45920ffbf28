use Rattle.std.proofs.Common.{◌≡◌, take}
use Rattle.std.specs.List.{list_all}
use Rattle.ll_members.specs.Plain.{is_unescaped}
use Rattle.ll_members.proofs.plain.is_unescaped.Given as goal

abbrev pub invariant-loop-byte : goal.invariant-loop-byte
invariant-loop-byte l = l.unescaped ≡ list_all is_unescaped (take l.byte-index l.line)
