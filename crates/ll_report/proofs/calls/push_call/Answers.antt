use Rattle.std.proofs.Common.{◌∙◌, ◌++◌, ℕ, List, Option, ap, ap₂}
use Rattle.std.specs.List.{flat_map}
use Rattle.ll_trace.specs.Operations.{op_name}
use Rattle.ll_explain.specs.Buffers.{adding}
use Rattle.ll_explain.proofs.Appending.{appended_2}
use Rattle.ll_report.specs.Calls.{path_text, paths_in, port_in, port_text}
use Rattle.ll_report.proofs.calls.push_call.Goals as goal

pub returns : goal.returns
returns c =
    appended_2 c.args.text.now c.push_words.new.text c.push_named.new.text (op_name c.args.op.now)
    (flat_map path_text (paths_in c.by.result) ++ port_text (port_in c.by.result))
    (c.push_words.ensures ∙ ap (adding c.args.text.now) c.name.ensures) c.push_named.ensures
    ∙ ap₂ (λ (paths : List (List ℕ)) (port : Option ℕ). adding c.args.text.now (op_name c.args.op.now ++ (flat_map path_text paths ++ port_text port)))
    c.by.ensures.paths c.by.ensures.port
