-- A record is a start under a kernel if it was recorded as one.
use Rattle.std.proofs.Common.{◌≡◌, ◌∙◌, Bool, Option, Some, None, false, ap}
use Rattle.std.specs.Prelude.{IfSome, IfNone, slice_get}
use Rattle.ll_trace.specs.declared.op.Op.TheVariants.{Start}
use Rattle.ll_trace.specs.declared.op.Record.{Record}
use Rattle.ll_trace.specs.Processes.{is_start}
use Rattle.ll_trace.proofs.Seeing.{seen_at, start_seen, no_start_seen}
use Rattle.ll_trace.proofs.seen.TakenTrace.start.Goals as goal

pub returns-clause-some : goal.returns-clause-some
returns-clause-some c = told c.started.result c.started.ensures.some
  where
    told : (flags : Option (Bool × Bool)) → IfSome flags (λ both. c.index-records-index.result.op ≡ Start both.0 both.1)
        → IfSome flags (λ both. (r : Record) → slice_get c.args.self.now c.args.index ≡ Some r → r.op ≡ Start both.0 both.1)
    told None is = tt
    told (Some both) is = λ r there.
        let seen = seen_at c.self.inside.kernel.effort c.self.inside.kernel.abi c.self.inside.trace.now c.args.index c.index-records-index.result r _ _
        c.records.ensures.value c.self.view_is c.requires c.index-records-index.is there in
        ap (λ (one : Record). one.op) seen ∙ start_seen c.self.inside.kernel.effort c.self.inside.kernel.abi c.index-records-index.result.op both.0 both.1 is

pub returns-clause-none : goal.returns-clause-none
returns-clause-none c = told c.started.result c.started.ensures.none
  where
    told : (flags : Option (Bool × Bool)) → IfNone flags (is_start c.index-records-index.result.op ≡ false)
        → IfNone flags ((r : Record) → slice_get c.args.self.now c.args.index ≡ Some r → is_start r.op ≡ false)
    told (Some both) is = tt
    told None is = λ r there.
        let seen = seen_at c.self.inside.kernel.effort c.self.inside.kernel.abi c.self.inside.trace.now c.args.index c.index-records-index.result r _ _
        c.records.ensures.value c.self.view_is c.requires c.index-records-index.is there in
        ap (λ (one : Record). is_start one.op) seen ∙ no_start_seen c.self.inside.kernel.effort c.self.inside.kernel.abi c.index-records-index.result.op is
