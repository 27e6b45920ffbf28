-- The cases of where the name ends.
use Rattle.std.proofs.Common.{◌≡◌, ◌≢◌, ◌<◌, length, false, subst, arith, ne_eqb}
use Rattle.std.specs.Prelude.{slice_index}
use Rattle.ll_lines.specs.Paths.{is_name_byte}
use Rattle.ll_lines.proofs.CutLemmas.{AreNameBytes, cut_at, cut_at_zero, named_before, uncut}
use Rattle.ll_lines.proofs.path.cut_name.Goals as goal
use Rattle.ll_lines.proofs.path.cut_name.Goals.{then-end-bytes-via-then-end-bytes, then-end-bytes-via-else-end-bytes+then-bytes-end-eq0}

pub returns-then-end-bytes : goal.returns-then-end-bytes
returns-then-end-bytes c =
    let bytes = c.args.bytes.now in
    let named = c.name_len-end.ensures.name in
    elim c.then-end-bytes.branch [
      | then-end-bytes-via-then-end-bytes w ↦ uncut bytes (subst (AreNameBytes bytes) w.if-end-bytes.true named)
      | then-end-bytes-via-else-end-bytes+then-bytes-end-eq0 w ↦
          cut_at_zero bytes c.name_len-end.result (omega (arith, c.name_len-end.ensures.within, w.if-end-bytes.false)) named w.if-bytes-end-eq0.true
    ]

pub returns : goal.returns
returns c =
    let bytes = c.args.bytes.now in
    let end = c.name_len-end.result in
    let named = c.name_len-end.ensures.name in
    let within : end < length bytes = omega (arith, c.name_len-end.ensures.within, c.if-end-bytes.false) in (
      cut_at bytes end within named (c.name_len-end.ensures.end within) (ne_eqb (slice_index bytes end) 0 c.if-bytes-end-eq0.false),
      named_before bytes end c.name_len-end.ensures.within named,
      omega arith,
    )
