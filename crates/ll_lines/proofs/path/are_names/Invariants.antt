use Rattle.std.proofs.Common.{◌≡◌, length}
use Rattle.std.specs.List.{list_all, slice_split}
use Rattle.ll_lines.specs.Paths.{is_slash, is_name}
use Rattle.ll_lines.proofs.path.are_names.Given as goal

-- the names so far are names, so all are where those left are
abbrev pub invariant-loop-name : goal.invariant-loop-name
invariant-loop-name l = list_all is_name (slice_split is_slash l.rest) ≡ list_all is_name (slice_split is_slash l.bytes)

abbrev pub decreases-loop-name : goal.decreases-loop-name
decreases-loop-name l = length l.rest
