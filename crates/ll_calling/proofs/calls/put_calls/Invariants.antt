use Rattle.std.proofs.Common.{◌≡◌, ◌++◌, drop, flat_map}
use Rattle.ll_values.specs.Texts.{line_of}
use Rattle.ll_calling.specs.Texts.{call_json}
use Rattle.ll_calling.proofs.calls.put_calls.Given as goal

-- the lines so far, and those of the other calls, are all
abbrev pub invariant-loop-call : goal.invariant-loop-call
invariant-loop-call l =
    l.text.items ++ flat_map (λ call. line_of (call_json l.layers call)) (drop l.call-index l.calls)
    ≡ l.initial.text.items ++ flat_map (λ call. line_of (call_json l.layers call)) l.calls
