use Rattle.std.proofs.Common.{ℕ, refl, sym, ◌∙◌, ap}
use Rattle.ll_trace.specs.declared.op.Record.{Record}
use Rattle.ll_trace.specs.Kept.{entry_view}
use Rattle.ll_trace.proofs.RecordLemmas.{kept_admitted}
use Rattle.ll_trace.proofs.reader.Reader.admit.Goals as goal

pub returns-clause-kept : goal.returns-clause-kept
returns-clause-kept c =
    let of_process : ℕ → Record = λ n. record { line = c.args.entry.line; process = record { 0 = n }; pid = c.args.entry.pid; op = c.args.entry.op } in
    kept_admitted c.args.self.now c.note.new.self _ (entry_view c.args.entry) _ c.requires
    (sym c.entry_fault.ensures ∙ c.in_default.is) c.in_ok-note.ensures.ok c.in_ok-push.ensures.items refl refl (ap of_process c.process_of-process.ensures)
