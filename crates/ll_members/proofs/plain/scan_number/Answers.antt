use Rattle.std.proofs.Common.{◌≡◌, ◌++◌, length, take, refl, sym, ap, ◌∙◌}
use Rattle.std.specs.List.{prefix_len}
use Rattle.std.specs.Char.{is_ascii_digit}
use Rattle.std.proofs.lemmas.List.{take-append-drop}
use Rattle.ll_members.proofs.PlainLemmas.{all_digits, numeral}
use Rattle.ll_members.proofs.plain.scan_number.Goals as goal

pub returns : goal.returns
returns c =
    let line = c.args.line.now in
    let text = c.in_ok-text.text.now in
    let count : c.digit_count.result ≡ prefix_len is_ascii_digit line = c.digit_count.ensures ∙ ap (prefix_len is_ascii_digit) c.as_bytes.ensures.value in
    let front : text ≡ take (prefix_len is_ascii_digit line) line = c.in_ok-text.ensures.front ∙ ap (λ k. take k line) count in
    let all : prefix_len is_ascii_digit text ≡ length text = ap (prefix_len is_ascii_digit) front ∙ all_digits line ∙ sym (ap length front) in
    let bytes : c.as_bytes-2.result.now ≡ text = c.as_bytes-2.ensures.value in
    let whole : line ≡ text ++ c.in_ok-text.rest.now =
    rw (c.in_ok-text.ensures.front, c.in_ok-text.ensures.back) (sym (take-append-drop c.digit_count.result line)) in
    record {
      digits = text;
      is = whole;
      valid = numeral text (rw bytes at (c.if-not-are_number.ensures.some refl)) all (rw bytes at (c.if-not-are_number.ensures.zero refl));
      value = sym c.in_ok-whole_number.was ∙ c.whole_number.ensures;
    }
