-- Which rights of a set a layer lacks on a path, which an object would gain in a directory, and which one set has and another
-- hasn't, as tests of each right.
-- Source: landlock(7), "Landlock rules".
use Rattle.std.specs.Prelude.{Bool, List, not, ◌&&◌, ◌||◌}
use Rattle.ll_rights.specs.declared.fs.Fs.{Fs}
use Rattle.ll_rights.specs.declared.kind.Kind.{Kind}
use Rattle.ll_rights.specs.Rights.{FsRight, has, is_file_right}
use Rattle.ll_lines.specs.Paths.{Path}
use Rattle.ll_tree.specs.Trees.{Entry, IsNode, is_dir, kind_at, path_at}
use Rattle.ll_rules.specs.Layers.{granted, handles}
use Rattle.ll_semantics.specs.States.{Layer}
use Rattle.ll_explanations.specs.Confined.{rules_of}
use Rattle.ll_explanations.specs.declared.missing.Test.{Test}
use Rattle.ll_explanations.specs.declared.missing.Test.TheVariants.{Lacking, Gaining, Beyond}

-- a right is in a set, and a layer handles it and doesn't grant it on a path
unfoldable pub lacked : Layer → Path → Fs → FsRight → Bool
lacked layer path asked right = has asked right && handles layer right && not (granted layer path right)

-- a right counts for an object of a kind, and a layer handles it, grants it on a directory and doesn't grant it on the object
unfoldable pub gainable : Layer → Kind → Path → Path → FsRight → Bool
gainable layer kind object directory right = granted layer directory right && (handles layer right && (is_dir kind || is_file_right right)) && not (granted layer object right)

-- whether a right passes a test
abbrev pub passes : Test → FsRight → Bool
passes (Lacking layer node asked) = lacked (rules_of layer.now) (path_at layer.now.ctx.tree.now node) asked
passes (Gaining layer object directory) =
    let tree : List Entry = layer.now.ctx.tree.now in
    gainable (rules_of layer.now) (kind_at tree object) (path_at tree object) (path_at tree directory)
passes (Beyond rights whole) = λ right. has rights right && not (has whole right)

-- a test is of nodes of the tree
abbrev pub IsTest : Test → Type 0
IsTest (Lacking layer node asked) = IsNode layer.now.ctx.tree.now node
IsTest (Gaining layer object directory) = IsNode layer.now.ctx.tree.now object × IsNode layer.now.ctx.tree.now directory
IsTest (Beyond rights whole) = Unit {0}
