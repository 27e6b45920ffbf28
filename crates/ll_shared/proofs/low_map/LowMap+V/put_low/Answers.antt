use Rattle.std.proofs.Common.{◌/◌, ◌%◌, length, refl, rules}
use Rattle.std.proofs.lemmas.Option.{slice_get_read}
use Rattle.std.proofs.lemmas.Result.{on_ok_weaker, on_err_weaker}
use Rattle.ll_shared.proofs.Leaves.{put_leaf, kept_leaf}
use Rattle.ll_shared.proofs.low_map.LowMap+V.put_low.Goals as goal

pub returns-clause-ok : goal.returns-clause-ok
returns-clause-ok g c =
    let low = c.widen.new.self.low.items in
    let old = c.index_mut.result.now in
    on_ok_weaker c.put_in.result (λ told q.
    let put = put_leaf (λ shared. shared.value) low c.put_in.new.leaf old c.args.key q c.args.value c.in_ok-widen.ensures.there
    (slice_get_read low (length low) (c.args.key / 16) old refl c.in_ok-widen.ensures.there c.index_mut.ensures.value) told in
    let same = c.in_ok-widen.ensures.same q in
    search (rules, put, same)) c.put_in.ensures.ok

pub returns-clause-err : goal.returns-clause-err
returns-clause-err g c =
    let low = c.widen.new.self.low.items in
    let old = c.index_mut.result.now in
    on_err_weaker c.put_in.result (λ told q.
    let kept = kept_leaf (λ shared. shared.value) low c.put_in.new.leaf old (c.args.key / 16) (q / 16) (q % 16) c.in_ok-widen.ensures.there
    (slice_get_read low (length low) (c.args.key / 16) old refl c.in_ok-widen.ensures.there c.index_mut.ensures.value) told in
    let same = c.in_ok-widen.ensures.same q in
    search (rules, kept, same)) c.put_in.ensures.err
