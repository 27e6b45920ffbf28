-- What an object would gain, right by right.
use Rattle.std.proofs.Common.{◌≡◌, ◌∙◌, Bool, arith}
use Rattle.std.specs.Prelude.{not, ◌&&◌, ◌||◌}
use Rattle.ll_rights.specs.declared.kind.Kind.{Kind}
use Rattle.ll_rights.specs.Rights as files
use Rattle.ll_lines.specs.Paths.{Path}
use Rattle.ll_tree.specs.Trees.{is_dir}
use Rattle.ll_rules.specs.Layers.{handles, granted}
use Rattle.ll_rules.specs.Checks.{lacks}
use Rattle.ll_semantics.specs.States.{Layer}
use Rattle.ll_explanations.specs.Lacked.{gainable}
use Rattle.ll_explanations.proofs.Lacking.{lacks-only}

-- counting, lacking on the object, and not lacking in the directory: by whether it is handled, granted on the object and granted in the directory
won : (handled on counted there : Bool) → (counted && ((handled && not on) && not (handled && not there))) ≡ (there && (handled && counted) && not on)
won handled on counted there = grind arith

module _ (layer : Layer) (kind : Kind) (object directory : Path) (one : files.FsRight) where
  pub gainable-by : (counts lacking lacking_there : Bool) → counts ≡ (is_dir kind || files.is_file_right one)
      → lacking ≡ lacks layer object (files.only one) → lacking_there ≡ lacks layer directory (files.only one)
      → (counts && (lacking && not lacking_there)) ≡ gainable layer kind object directory one
  unfolding gainable
  gainable-by counts lacking lacking_there counted here there =
      rw (counted, here ∙ lacks-only layer object one, there ∙ lacks-only layer directory one)
      (won (handles layer one) (granted layer object one) (is_dir kind || files.is_file_right one) (granted layer directory one))
