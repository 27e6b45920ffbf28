use Rattle.std.proofs.Common.{◌≡◌, ◌≤◌, ◌+◌, ◌<◌, ◌^◌, length, arith, List, ℕ}
use Rattle.std.proofs.lemmas.Bool.{OnTrue_at, OnTrue_from, OnFalse_at, OnFalse_from}
use Rattle.ll_report.specs.Made.{part_at}
use Rattle.ll_report.proofs.Paging.{shows}
use Rattle.ll_report.proofs.paged.holds_rest.Goals as goal

pub is_room_for-requires : goal.is_room_for-requires
is_room_for-requires g c =
    let part : List ℕ = part_at (g.R.Rows.made_of c.args.rows.now) c.args.index in
    let seen = shows c.args.page.now.room c.args.skip part c.restart.new.self c.push_part.new.text (omega (arith, c.ranges.skip.fits)) c.restart.ensures
    c.in_ok-push_part.ensures.part in
    omega (arith, seen.count, c.count.ensures, c.requires, c.ranges.skip.fits)

pub returns-clause-page : goal.returns-clause-page
returns-clause-page g c =
    let part : List ℕ = part_at (g.R.Rows.made_of c.args.rows.now) c.args.index in
    let seen = shows c.args.page.now.room c.args.skip part c.restart.new.self c.push_part.new.text (omega (arith, c.ranges.skip.fits)) c.restart.ensures
    c.in_ok-push_part.ensures.part in
    let same : c.room.result ≡ c.args.page.now.room = omega (arith, seen.same_room, c.room.ensures.room) in
    record {
      same = seen.same_room;
      held = seen.held;
      all = OnTrue_from c.is_room_for.result (length part ≤ c.args.skip + c.args.page.now.room)
          (λ yes. let fits = OnTrue_at yes c.is_room_for.ensures.all in
          omega (arith, fits.0, fits.1, seen.count, same, c.count.ensures));
      more = OnFalse_from c.is_room_for.result (c.args.skip + c.args.page.now.room < 2 ^ 64 → c.args.skip + c.args.page.now.room ≤ length part)
          (λ no below.
          let more : c.args.skip + c.room.result < 2 ^ 64 → c.args.skip + c.room.result ≤ c.count.result = OnFalse_at no c.is_room_for.ensures.more in
          omega (arith, more (omega (arith, same, below)), same, seen.count, c.count.ensures));
    }
