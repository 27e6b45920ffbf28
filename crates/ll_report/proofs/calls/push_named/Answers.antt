use Rattle.std.proofs.Common.{◌∙◌, ◌++◌, ℕ, List, [], ap, append-nil, codes, decimal, sym}
use Rattle.std.specs.List.{flat_map}
use Rattle.ll_explain.specs.Buffers.{adding}
use Rattle.ll_explain.proofs.Appending.{appended_2}
use Rattle.ll_explain.proofs.Buffering.{adding_nothing}
use Rattle.ll_report.specs.Calls.{path_text, paths_in, port_in, port_text}
use Rattle.ll_report.specs.declared.calls.Named.{Named}
use Rattle.ll_report.proofs.calls.push_named.Goals as goal

abbrev told : Named → List ℕ
told named = flat_map path_text (paths_in named) ++ port_text (port_in named)

pub returns-in-Nothing : goal.returns-in-Nothing
returns-in-Nothing c = adding_nothing c.args.text.now ∙ ap (λ (named : Named). adding c.args.text.now (told named)) (sym c.in-Nothing.is)

pub returns-in-Paths : goal.returns-in-Paths
returns-in-Paths c =
    let from : List ℕ = path_text c.in-Paths.from.now in
    let to : List ℕ = path_text c.in-Paths.to.now in
    appended_2 c.args.text.now c.push_path-in-Paths.new.text c.push_path-in-Paths-2.new.text from to c.push_path-in-Paths.ensures c.push_path-in-Paths-2.ensures
    ∙ ap (adding c.args.text.now) (sym (append-nil (from ++ (to ++ [])) ∙ ap (λ (t : List ℕ). from ++ t) (append-nil to)))
    ∙ ap (λ (named : Named). adding c.args.text.now (told named)) (sym c.in-Paths.is)

pub returns-in-Port : goal.returns-in-Port
returns-in-Port c =
    appended_2 c.args.text.now c.push_words.new.text c.push_number.new.text (codes " ") (decimal c.in-Port.port) c.push_words.ensures c.push_number.ensures
    ∙ ap (λ (named : Named). adding c.args.text.now (told named)) (sym c.in-Port.is)
