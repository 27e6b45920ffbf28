use Rattle.std.proofs.Common.{◌≡◌, List, ℕ, ◌++◌, codes, append_assoc, refl, subst}
use Rattle.ll_audit.specs.FaultLines.{WritesLine, error_line}
use Rattle.ll_audit.proofs.lines.write_words.Goals as goal

-- the texts of a line, one behind the other
texts_of_line : (file line cause : List ℕ)
    → codes "landaudit: " ++ (file ++ (codes " line " ++ (line ++ (codes ": " ++ (cause ++ codes "\n")))))
    ≡ error_line (file ++ codes " line " ++ line ++ codes ": " ++ cause)
unfolding error_line
texts_of_line file line cause = simp append_assoc refl

pub returns : goal.returns
unfolding WritesLine
returns g c =
    subst (WritesLine c.write_texts.result (g.W.Write.contents c.args.err.now) (g.W.Write.contents c.write_texts.new.out))
    (texts_of_line c.args.file.now c.args.line.now c.args.cause.now) (c.write_texts.ensures.whole, c.write_texts.ensures.cut)
