-- A small tree file and its tree.
-- Source: docs/FORMATS.md, "The tree file".
use Rattle.std.specs.Prelude.{◌≡◌, ℕ, List, [], ◌∷◌, ◌++◌, codes, Ok, Err}
use Rattle.ll_rights.specs.declared.kind.Kind.TheVariants.{Dir, Reg, Char}
use Rattle.ll_lines.specs.declared.fault.Cause.{Cause}
use Rattle.ll_tree.specs.Trees.{Entry, root}
use Rattle.ll_lines.specs.LineByLine.{reading}
use Rattle.ll_tree.specs.TreeReading.{tree_format}

abbrev pub line : List ℕ → List ℕ
line text = text ++ 10 ∷ []

abbrev pub worked_file : List ℕ
worked_file =
    line (codes "{\"path\":\"/a\",\"kind\":\"dir\"}")
    ++ line (codes "{\"path\":\"/b\",\"kind\":\"dir\"}")
    ++ line (codes "{\"path\":\"/a/s\",\"kind\":\"dir\"}")
    ++ line (codes "{\"path\":\"/dev\",\"kind\":\"dir\"}")
    ++ line (codes "{\"path\":\"/a/f\",\"kind\":\"reg\"}")
    ++ line (codes "{\"path\":\"/b/g\",\"kind\":\"reg\"}")
    ++ line (codes "{\"path\":\"/dev/tty\",\"kind\":\"char\"}")

abbrev pub worked_entries : List Entry
worked_entries =
    record { path = codes "a" ∷ []; kind = Dir }
    ∷ record { path = codes "b" ∷ []; kind = Dir }
    ∷ record { path = codes "a" ∷ codes "s" ∷ []; kind = Dir }
    ∷ record { path = codes "dev" ∷ []; kind = Dir }
    ∷ record { path = codes "a" ∷ codes "f" ∷ []; kind = Reg }
    ∷ record { path = codes "b" ∷ codes "g" ∷ []; kind = Reg }
    ∷ record { path = codes "dev" ∷ codes "tty" ∷ []; kind = Char }
    ∷ []

abbrev pub worked_tree : List Entry
worked_tree = root ∷ worked_entries

-- a file reads as these entries, or is refused with the number of a line and a cause
abbrev pub ReadsAs : List ℕ → List Entry → Type 0
ReadsAs bytes entries = reading tree_format bytes ≡ Ok entries

abbrev pub IsRefused : List ℕ → ℕ → Cause → Type 0
IsRefused bytes number cause = reading tree_format bytes ≡ Err (record { line = number; cause = cause })

-- All that unfolds when the place of a text in a tree is found.
unfoldable pub resolving : Unit {0}
unfolding
    Rattle.ll_lines.specs.Paths.path_of Rattle.ll_lines.specs.Paths.after_slash Rattle.ll_lines.specs.Paths.names_in Rattle.ll_lines.specs.Paths.is_name
    Rattle.ll_lines.specs.Paths.front Rattle.ll_lines.specs.Paths.path_eq Rattle.ll_tree.specs.Trees.kind_at Rattle.ll_tree.specs.Trees.position_of
    Rattle.ll_tree.specs.Trees.node_at Rattle.ll_tree.specs.Trees.gap_in Rattle.ll_tree.specs.Trees.place_or_gap Rattle.ll_tree.specs.Trees.place_of
    Rattle.ll_tree.specs.Trees.place
resolving = tt
