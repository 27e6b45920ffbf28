use Rattle.std.proofs.Common.{length}
use Rattle.memchr.specs.Find.{NoneBefore, Passes, is_byte}
use Rattle.ll_members.proofs.PlainLemmas.{text_is_quoted}
use Rattle.ll_members.proofs.plain.scan_text.Goals as goal

pub returns : goal.returns
returns c =
    let inside = c.in_ok-inside.inside.now in
    let none : NoneBefore (Passes (is_byte 34) inside) 0 (length inside) c.in_ok-end.end = rw c.as_bytes.ensures.value at c.in_ok-end.ensures.0 in
    text_is_quoted c.args.line.now inside c.in_ok-text.text.now c.in_ok-text.rest.now c.in_ok-behind.field-0.now c.in_ok-end.end c.requires
    c.in_ok-inside.ensures none c.in_ok-text.ensures.front c.in_ok-text.ensures.back c.in_ok-behind.ensures
