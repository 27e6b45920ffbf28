use Rattle.std.proofs.Common.{◌++◌, ◌+◌, ◌∙◌, ℕ, List, Bor, ap, append_assoc, sym, drop, take}
use Rattle.std.proofs.KnownBytes.{Appends-trans}
use Rattle.ll_report.proofs.Beginnings.{beginning, cut, failed, further, text_of, text_next}
use Rattle.ll_report.proofs.writing.write_texts.Goals as goal

pub returns-in_err-write_bytes-clause-beginning : goal.returns-in_err-write_bytes-clause-beginning
returns-in_err-write_bytes-clause-beginning g c =
    let (done, split, appended) = c.loop-text.invariant in
    let (count, part) = c.in_err-write_bytes.ensures.beginning in
    let texts : List (Bor (List ℕ)) = c.args.texts.now in
    let bytes : List ℕ = c.as_bytes.result.now in
    let rest : List ℕ = text_of (drop (c.loop-text.text-index + 1) texts) in
    let next = text_next texts c.loop-text.text-index _ bytes c.loop-text-test.true c.as_bytes.ensures.value in
    beginning _ _ _ (done ++ take count bytes) _
    (further (text_of texts) done bytes rest count (split ∙ ap (λ (l : List ℕ). done ++ l) next)) (Appends-trans _ _ _ _ _ appended part)

pub returns-in_err-write_bytes-clause-cut : goal.returns-in_err-write_bytes-clause-cut
returns-in_err-write_bytes-clause-cut g c =
    let (done, split, appended) = c.loop-text.invariant in
    let (count, short, kept) = c.in_err-write_bytes.ensures.cut in
    let texts : List (Bor (List ℕ)) = c.args.texts.now in
    let bytes : List ℕ = c.as_bytes.result.now in
    let rest : List ℕ = text_of (drop (c.loop-text.text-index + 1) texts) in
    let next = text_next texts c.loop-text.text-index _ bytes c.loop-text-test.true c.as_bytes.ensures.value in
    failed c.from_residual.result
    (cut _ _ (text_of texts) done bytes rest count (split ∙ ap (λ (l : List ℕ). done ++ l) next) short (Appends-trans _ _ _ _ _ appended kept))

pub loop-text-preserved : goal.loop-text-preserved
loop-text-preserved g c =
    let (done, split, appended) = c.loop-text.invariant in
    let texts : List (Bor (List ℕ)) = c.args.texts.now in
    let bytes : List ℕ = c.as_bytes.result.now in
    let next = text_next texts c.loop-text.text-index _ bytes c.loop-text-test.true c.as_bytes.ensures.value in (
      done ++ bytes,
      split ∙ ap (λ (l : List ℕ). done ++ l) next ∙ sym (append_assoc done bytes _),
      Appends-trans _ _ _ _ _ appended c.in_ok-write_bytes.ensures.whole,
    )

pub returns-clause-beginning : goal.returns-clause-beginning
returns-clause-beginning g c =
    let (done, split, appended) = c.loop-text.invariant in
    beginning _ _ _ done (text_of (drop c.loop-text.text-index c.args.texts.now)) split appended
