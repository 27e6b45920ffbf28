use Rattle.std.proofs.Common.{◌≡◌, ◌∙◌, ◌<◌, false, length, refl, sym}
use Rattle.ll_trace.specs.Entries.{is_start}
use Rattle.ll_reasons.specs.Origins.{Origins, no_origins, traced}
use Rattle.std.proofs.lemmas.Option.{slice_get_read}
use Rattle.ll_origins.proofs.Trailing.{trails_changed, sources_by_fork, sources_by_other, sources_by_start}
use Rattle.ll_origins.specs.TraceOrigins.{Follows}
use Rattle.ll_origins.proofs.trail.TraceOrigins.follow_by.Goals as goal

pub returns-then-is_start : goal.returns-then-is_start
returns-then-is_start c = λ sources are.
    rw (sources_by_start c.args.index c.args.seen.now c.args.process.0 c.args.answer sources (sym c.is_start.ensures ∙ c.if-is_start.true))
    (c.in_ok-begin.ensures sources no_origins are c.new.ensures)

pub returns-then-is_fork : goal.returns-then-is_fork
returns-then-is_fork c = λ sources are.
    let there : c.args.process.0 < length c.args.self.now.trails.items = c.requires (sym c.is_start.ensures ∙ c.if-is_start.false) in
    let number = c.args.process.0 in
    let parent : Origins = sources.processes number in
    let own : Follows c.index.result.now parent =
    are.each number c.index.result.now
    (slice_get_read c.args.self.now.trails.items _ number c.index.result.now refl there c.index.ensures) in
    rw (sources_by_fork c.args.index c.args.seen.now number c.args.answer sources (sym c.is_fork.ensures ∙ c.if-is_fork.true))
    (c.in_ok-begin-2.ensures sources parent are (c.in_ok-child.ensures parent own))

pub returns-in_ok-follow-in-Allowed : goal.returns-in_ok-follow-in-Allowed
returns-in_ok-follow-in-Allowed c = λ sources are.
    let not_start : is_start c.args.seen.now ≡ false = sym c.is_start.ensures ∙ c.if-is_start.false in
    let there : c.args.process.0 < length c.args.self.now.trails.items = c.requires not_start in
    let own : Origins = sources.processes c.args.process.0 in
    let other = sources_by_other c.args.index c.args.seen.now c.args.process.0 c.args.answer sources not_start
    (sym c.is_fork.ensures ∙ c.if-is_fork.false) in
    rw (other, c.in-Allowed.is)
    (trails_changed c.args.self.now.trails.items c.args.process.0 c.follow.new.self sources (traced c.args.index c.args.seen.now own) there are
    (c.in_ok-follow-in-Allowed.ensures own
    (are.each c.args.process.0 c.index_mut.result.now
    (slice_get_read c.args.self.now.trails.items _ c.args.process.0 c.index_mut.result.now refl there
    c.index_mut.ensures.value))))
