use Rattle.std.proofs.Common.{◌∙◌, ◌-◌, ◌<◌, List, ℕ, [], length, drop, sym, ap, ap₂, arith, refl, subst}
use Rattle.std.proofs.KnownBytes.{Appends-nil}
use Rattle.ll_report.specs.Made.{Made, part_at}
use Rattle.ll_report.proofs.Paging.{page_cut, put_room, put_whole, rest_cut, rest_sent, rest_within, wholly_sent}
use Rattle.ll_report.proofs.paged.put_part.Goals as goal

pub returns-in_err-push_part-clause-beginning : goal.returns-in_err-push_part-clause-beginning
returns-in_err-push_part-clause-beginning g c = (0, Appends-nil (g.O.Write.contents c.args.out.now))

pub returns-then-count-room : goal.returns-then-count-room
returns-then-count-room g c =
    let part : List ℕ = part_at (g.R.Rows.made_of c.args.rows.now) c.args.index in
    let whole = put_whole c.args.page.now c.push_part.new.text part c.requires (omega (arith, c.room.ensures.small)) c.in_ok-push_part.ensures.part
    (omega (arith, c.if-count-room.true, c.count.ensures, c.room-2.ensures.room)) in
    let nothing = Appends-nil (g.O.Write.contents c.args.out.now) in
    record { page = whole.0; made = c.push_part.ensures.made; sent = ([], nothing, whole.1); beginning = (0, nothing) }

pub returns-in_err-write_bytes-clause-beginning : goal.returns-in_err-write_bytes-clause-beginning
returns-in_err-write_bytes-clause-beginning g c =
    let part : List ℕ = part_at (g.R.Rows.made_of c.args.rows.now) c.args.index in
    page_cut c.args.page.now c.push_part.new.text part c.held-2.result.now _ c.requires (omega (arith, c.room.ensures.small)) c.in_ok-push_part.ensures.part
    (omega (arith, c.if-count-room.false, c.count.ensures, c.room-2.ensures.room)) c.held-2.ensures.bytes refl _ _ c.in_err-write_bytes.ensures.beginning

pub put_rest-requires-clause-room : goal.put_rest-requires-clause-room
put_rest-requires-clause-room g c =
    subst (λ (n : ℕ). 0 < n) (sym (put_room c.args.page.now c.push_part.new.text (part_at (g.R.Rows.made_of c.args.rows.now) c.args.index) c.requires
    (omega (arith, c.room.ensures.small)) c.in_ok-push_part.ensures.part)) c.requires.room

pub put_rest-requires-clause-skip : goal.put_rest-requires-clause-skip
put_rest-requires-clause-skip g c =
    let part : List ℕ = part_at (g.R.Rows.made_of c.args.rows.now) c.args.index in
    let within = rest_within c.args.page.now c.push_part.new.text part c.held-2.result.now _ c.requires (omega (arith, c.room.ensures.small))
    c.in_ok-push_part.ensures.part (omega (arith, c.if-count-room.false, c.count.ensures, c.room-2.ensures.room)) c.held-2.ensures.bytes refl in
    let same = ap (λ (m : Made). part_at m c.args.index) c.push_part.ensures.made in
    omega (arith, within, ap length same, c.room.ensures.room, ap length c.held.ensures.bytes)

pub returns-in_err-put_rest-clause-beginning : goal.returns-in_err-put_rest-clause-beginning
returns-in_err-put_rest-clause-beginning g c =
    rest_cut c.args.page.now c.push_part.new.text (part_at (g.R.Rows.made_of c.args.rows.now) c.args.index) c.held-2.result.now _ c.requires
    (omega (arith, c.room.ensures.small)) c.in_ok-push_part.ensures.part (omega (arith, c.if-count-room.false, c.count.ensures, c.room-2.ensures.room))
    c.held-2.ensures.bytes (ap₂ drop (ap₂ (λ a b. a - b) c.room.ensures.room (ap length c.held.ensures.bytes))
    (ap (λ (m : Made). part_at m c.args.index) c.push_part.ensures.made)) _ _ _ c.in_ok-write_bytes.ensures.whole c.in_err-put_rest.ensures.beginning

pub returns : goal.returns
returns g c =
    let part : List ℕ = part_at (g.R.Rows.made_of c.args.rows.now) c.args.index in
    let left : List ℕ = c.put_rest.new.page.held in
    let remains = ap₂ drop (ap₂ (λ a b. a - b) c.room.ensures.room (ap length c.held.ensures.bytes))
    (ap (λ (m : Made). part_at m c.args.index) c.push_part.ensures.made) in
    let sent = rest_sent c.args.page.now c.push_part.new.text part c.held-2.result.now _ c.requires (omega (arith, c.room.ensures.small))
    c.in_ok-push_part.ensures.part (omega (arith, c.if-count-room.false, c.count.ensures, c.room-2.ensures.room)) c.held-2.ensures.bytes remains
    (g.O.Write.contents c.args.out.now) (g.O.Write.contents c.write_bytes.new.out) (g.O.Write.contents c.put_rest.new.out) left
    c.in_ok-write_bytes.ensures.whole c.in_ok-put_rest.ensures.sent in
    record {
      page = c.in_ok-put_rest.ensures.page;
      made = c.put_rest.ensures.made ∙ c.push_part.ensures.made;
      sent = sent;
      beginning = wholly_sent _ _ _ left sent;
    }
