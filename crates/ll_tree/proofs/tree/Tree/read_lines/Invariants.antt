-- What is read so far and the lines that are left give the reading of the file.
use Rattle.std.proofs.Common.{◌≡◌}
use Rattle.ll_lines.specs.LineByLine.{read_lines, reading}
use Rattle.ll_tree.specs.Kept.{IsRooted, below_root}
use Rattle.ll_tree.specs.TreeReading.{tree_format}
use Rattle.ll_tree.proofs.tree.Tree.read_lines.Given as goal

abbrev pub invariant-loop-line : goal.invariant-loop-line
invariant-loop-line l = record {
  reading : read_lines tree_format (below_root l.tree) l.line-iterator ≡ reading tree_format l.bytes;
  rooted : IsRooted l.tree;
}
