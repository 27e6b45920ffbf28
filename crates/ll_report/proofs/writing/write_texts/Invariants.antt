-- The texts that are gone were appended.
use Rattle.std.proofs.Common.{◌≡◌, ℕ, List, ◌++◌, drop}
use Rattle.std.specs.Io.KnownBytes.{Appends}
use Rattle.std.specs.List.{flat_map}
use Rattle.ll_report.proofs.writing.write_texts.Given as goal

abbrev pub invariant-loop-text : goal.invariant-loop-text
invariant-loop-text g l =
    (done : List ℕ) × (flat_map (λ text. text.now) l.texts ≡ done ++ flat_map (λ text. text.now) (drop l.text-index l.texts))
    × Appends (g.O.Write.contents l.initial.out) (g.O.Write.contents l.out) done
