-- The text of a path that a text spells.
use Rattle.std.proofs.Common.{◌≡◌, ℕ, List, Option, Some, None, refl}
use Rattle.std.specs.Prelude.{IsTrue, is_some}
use Rattle.ll_lines.specs.Paths.{Path, path_of, text_of}
use Rattle.ll_lines.proofs.PathLaws.{text_of-path_of}
use Rattle.ll_reasons.specs.Reasons.{path_or_root, spelt}

spelt_from : (text : List ℕ) (read : Option Path) → path_of text ≡ read → IsTrue (is_some read) → text_of (path_or_root read) ≡ text
spelt_from text None is some = cc
spelt_from text (Some path) is some = text_of-path_of text path is

pub text_spelt : (text : List ℕ) → IsTrue (is_some (path_of text)) → text_of (spelt text) ≡ text
text_spelt text some = spelt_from text (path_of text) refl some
