use Rattle.std.proofs.Common.{◌≡◌, ℕ, Option, false, ap, sym, ◌∙◌, unwrap_or}
use Rattle.ll_trace.specs.Entries.{is_start}
use Rattle.ll_trace.specs.Kept.{number, past}
use Rattle.ll_trace.proofs.KeptLemmas.{is_named}
use Rattle.ll_trace.proofs.reader.Reader.process_of.Goals as goal

pub returns : goal.returns
returns c =
    let other : is_start c.args.entry.now.op ≡ false = sym c.is_start.ensures ∙ c.if-is_start.false in
    let named = ap number c.requires.owner ∙ is_named (past c.args.self.now) c.args.entry.now.pid in
    rw other (c.process_or_first.ensures ∙ ap (λ (n : Option ℕ). unwrap_or n 0) named)
