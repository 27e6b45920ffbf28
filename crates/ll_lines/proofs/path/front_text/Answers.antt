-- The last slash, by `rfind`, ends the text of the front.
use Rattle.std.proofs.Common.{◌≡◌, take, Some, None, ap, ◌∙◌, arith, lit<}
use Rattle.std.proofs.lemmas.Grind.{common_steps}
use Rattle.std.proofs.lemmas.Str.Pattern.{rfind_char}
use Rattle.ll_lines.specs.Paths.{path_of}
use Rattle.ll_lines.proofs.PathLaws.{front_read, no_slash_no_path}
use Rattle.ll_lines.proofs.path.front_text.Goals as goal
use Rattle.ll_lines.proofs.path.front_text.Goals.{in_default-via-in-Some+else-end-gt0, in_default-via-in_default}

pub returns-in-Some : goal.returns-in-Some
returns-in-Some c = λ path read.
    let text = c.args.text.now in
    let last = rfind_char 47 text (Some c.in-Some.end) c.in-Some.ensures.cases (lit< tt) in
    let cut : c.range.result.now ≡ take c.in-Some.end text = grind (arith, common_steps) in
    ap path_of cut ∙ (front_read text path c.in-Some.end read last.0 last.1 last.2).1 c.if-end-gt0.true

pub returns-in_default : goal.returns-in_default
returns-in_default c = λ path read.
    let text = c.args.text.now in
    elim c.in_default.branch [
      | in_default-via-in-Some+else-end-gt0 w ↦
          let last = rfind_char 47 text (Some w.in-Some.end) w.in-Some.ensures.cases (lit< tt) in
          (front_read text path w.in-Some.end read last.0 last.1 last.2).0 (omega (arith, w.if-end-gt0.false))
      | in_default-via-in_default w ↦ absurd (no_slash_no_path text path read (rfind_char 47 text None w.in_default.ensures.cases (lit< tt)))
    ]
