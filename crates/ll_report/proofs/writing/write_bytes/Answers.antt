use Rattle.std.proofs.Common.{◌++◌, ◌<◌, length, rules, take}
use Rattle.std.proofs.KnownBytes.{Appends-kept, Appends-trans}
use Rattle.ll_report.proofs.Beginnings.{beginning, failed, moves_on, part}
use Rattle.ll_report.proofs.writing.write_bytes.Goals as goal

pub returns-then-is_empty-clause-beginning : goal.returns-then-is_empty-clause-beginning
returns-then-is_empty-clause-beginning g c =
    let (done, split, appended) = c.loop.invariant in
    beginning _ _ _ done c.loop.rest.now split appended

pub returns-in_err-count-clause-beginning : goal.returns-in_err-count-clause-beginning
returns-in_err-count-clause-beginning g c =
    let (done, split, appended) = c.loop.invariant in
    beginning _ _ _ done c.loop.rest.now split (Appends-kept _ _ _ done appended c.in_err-count.ensures.bytes)

pub returns-in_err-count-clause-cut : goal.returns-in_err-count-clause-cut
returns-in_err-count-clause-cut g c =
    let (done, split, appended) = c.loop.invariant in
    let some : 0 < length c.loop.rest.now = search rules in
    failed c.from_residual.result (part _ _ _ done c.loop.rest.now split some (Appends-kept _ _ _ done appended c.in_err-count.ensures.bytes))

pub loop-preserved : goal.loop-preserved
loop-preserved g c =
    let (done, split, appended) = c.loop.invariant in
    let rest = c.loop.rest.now in
    let count = c.in_ok-count.count in
    (done ++ take count rest, moves_on _ done rest count split, Appends-trans _ _ _ _ _ appended c.in_ok-count.ensures.bytes)

pub returns-then-is_empty-2-clause-beginning : goal.returns-then-is_empty-2-clause-beginning
returns-then-is_empty-2-clause-beginning g c =
    let (done, split, appended) = c.loop.invariant in
    beginning _ _ _ done c.loop.rest.now split appended

pub returns-clause-beginning : goal.returns-clause-beginning
returns-clause-beginning g c =
    let (done, split, appended) = c.loop.invariant in
    beginning _ _ _ done c.loop.rest.now split appended

pub returns-clause-cut : goal.returns-clause-cut
returns-clause-cut g c =
    let (done, split, appended) = c.loop.invariant in
    let some : 0 < length c.loop.rest.now = search rules in
    part _ _ _ done c.loop.rest.now split some appended
