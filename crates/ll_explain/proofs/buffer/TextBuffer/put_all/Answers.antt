use Rattle.std.proofs.Common.{rules, ◌≡◌, ◌∙◌, ◌≤◌, ◌-◌, length, List, ℕ, take, drop, min, ◌++◌, sym, ap, ap₂}
use Rattle.std.proofs.lemmas.List.{take_rest}
use Rattle.ll_explain.specs.Buffers.{Buffered, adding, most_counted}
use Rattle.ll_explain.proofs.Buffering.{added, filled, part_held, wanted}
use Rattle.ll_explain.proofs.buffer.TextBuffer.put_all.Goals as goal

pub returns : goal.returns
returns c =
    let room = c.self.inside.room in
    let skip = c.self.inside.skip in
    let count = c.self.inside.count in
    let held : List ℕ = c.self.inside.bytes.items in
    let bytes : List ℕ = c.args.bytes.now in
    let rest : List ℕ = take (length bytes - c.min-out.result) (drop c.min-out.result bytes) in
    let out : c.min-out.result ≡ min (skip - count) (length bytes) = search rules in
    let fits : length held ≤ room = search rules in
    let few : count ≤ most_counted = search rules in
    let low : skip ≤ most_counted = search rules in
    let kept = take_rest bytes c.min-out.result ∙ ap (λ n. drop n bytes) out ∙ wanted (skip - count) bytes in
    let items : c.extend_from_slice.new.self.items ≡ held ++ take (min (length rest) (room - length held)) rest = search rules in
    ap₂ (filled room skip) c.saturating_add-self-inside.ensures
    (items ∙ part_held room held rest fits
    ∙ ap (λ (l : List ℕ). take room (held ++ l)) kept)
    ∙ sym (added room skip count held bytes fits few low) ∙ ap (λ (b : Buffered). adding b bytes) c.self.view_is
