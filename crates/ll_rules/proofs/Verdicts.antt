-- What a domain answers a move, by the layers that deny it and those that hold it back.
use Rattle.std.proofs.Common.{◌≡◌, ℕ, true, false, List, [], ◌∷◌, length, refl, sym}
use Rattle.std.specs.Prelude.{◌==◌}
use Rattle.std.proofs.lemmas.Bool.{false≢true}
use Rattle.ll_lines.specs.Paths.{Path, path_eq}
use Rattle.ll_tree.specs.Trees.{Entry}
use Rattle.ll_rules.specs.declared.errno.Errno.{Errno}
use Rattle.ll_rules.specs.declared.errno.Errno.TheVariants.{Acces, XDev}
use Rattle.ll_rules.specs.declared.moves.Move.{Move}
use Rattle.ll_rules.specs.declared.moves.Verdict.{Verdict}
use Rattle.ll_rules.specs.declared.moves.Verdict.TheVariants.{Passed}
use Rattle.ll_rules.specs.Layers.{RulesOn}
use Rattle.ll_rules.specs.Checks.{numbers_where}
use Rattle.ll_rules.specs.Moves.{source_of, destination_of, denies, holds_back, refused_or, move_verdict}

-- where some layers refuse, it doesn't matter what would be answered else
refused_alike : (error : Errno) (layers : List ℕ) (next other : Verdict) → (length layers == 0) ≡ false
    → refused_or error layers next ≡ refused_or error layers other
refused_alike error [] next other some = absurd (false≢true (sym some))
refused_alike error (layer ∷ layers) next other some = refl

module _ (tree : List Entry) (domain : List (RulesOn Path)) (move : Move) (denied : List ℕ) (denied_is : denied ≡ numbers_where (denies tree move) domain)
    (source destination : Path) (source_is : source ≡ source_of tree move) (destination_is : destination ≡ destination_of tree move.target) where
  -- what some layers deny
  pub denied_verdict : (length denied == 0) ≡ false → refused_or Acces denied (refused_or XDev [] Passed) ≡ move_verdict tree domain move
  unfolding move_verdict
  denied_verdict some = rw (← denied_is) (refused_alike Acces denied (refused_or XDev [] Passed) _ some)

  -- within one directory nothing is held back
  pub within_verdict : path_eq source destination ≡ true → refused_or Acces denied (refused_or XDev [] Passed) ≡ move_verdict tree domain move
  unfolding move_verdict
  within_verdict same = rw (← denied_is, ← source_is, ← destination_is, same) refl

  pub apart_verdict : path_eq source destination ≡ false → (held : List ℕ) → held ≡ numbers_where (holds_back tree move) domain
      → refused_or Acces denied (refused_or XDev held Passed) ≡ move_verdict tree domain move
  unfolding move_verdict
  apart_verdict apart held held_is = rw (← denied_is, ← source_is, ← destination_is, apart, ← held_is) refl
