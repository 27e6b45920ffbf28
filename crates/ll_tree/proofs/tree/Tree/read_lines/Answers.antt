-- A fault that a line has is the file's.
use Rattle.ll_lines.specs.LineByLine.{line_view, reading}
use Rattle.ll_tree.specs.TreeReading.{tree_format}
use Rattle.ll_tree.specs.Kept.{below_root}
use Rattle.ll_lines.proofs.ReadingLemmas.{meets_fault}
use Rattle.ll_tree.proofs.tree.Tree.read_lines.Goals as goal

pub returns-in-Err-clause-reading : goal.returns-in-Err-clause-reading
returns-in-Err-clause-reading c =
    meets_fault tree_format (below_root c.loop-line.tree) c.loop-line.line-iterator (line_view c.in-Some.line) c.next.new.self c.in-Err.cause
    (reading tree_format c.args.bytes.now)
    c.in-Some.ensures.steps c.loop-line.invariant.reading c.in-Err.ensures.line
