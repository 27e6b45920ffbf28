-- A trace is full at the most records, or at the most processes for an entry that starts one.
use Rattle.std.proofs.Common.{◌≡◌, ℕ, length, ap, sym, ◌∙◌, refl, arith}
use Rattle.std.specs.Prelude.{nat_le}
use Rattle.std.proofs.lemmas.List.{length-map, length-reverse}
use Rattle.ll_trace.specs.declared.reader.Reader.{Reader}
use Rattle.ll_trace.specs.declared.reader.TheConstants.{MOST_RECORDS}
use Rattle.ll_trace.specs.Records.{entry_of}
use Rattle.ll_trace.specs.Kept.{entries, past}
use Rattle.ll_trace.proofs.reader.Reader.is_full.Goals as goal

as_many : (reader : Reader) (count : ℕ) → count ≡ length reader.records.items → nat_le MOST_RECORDS (length (past reader)) ≡ nat_le MOST_RECORDS count
as_many reader count counted = ap (nat_le MOST_RECORDS) (length-reverse (entries reader) ∙ length-map reader.records.items entry_of ∙ sym counted)

pub returns-then-is_most : goal.returns-then-is_most
returns-then-is_most c =
    rw (as_many c.args.self.now c.len.result (omega (arith, c.len.ensures, c.args.self.now.records.ok)), ← c.is_most.ensures, c.if-is_most.true) refl

pub returns-then-is_some : goal.returns-then-is_some
returns-then-is_some c =
    let many = as_many c.args.self.now c.len.result (omega (arith, c.len.ensures, c.args.self.now.records.ok)) ∙ sym c.is_most.ensures ∙ c.if-is_most.false in
    rw (many, ← c.started_pid.ensures, ← c.is_some.ensures, c.if-is_some.true, c.requires.follows.count) refl

pub returns-else-is_some : goal.returns-else-is_some
returns-else-is_some c =
    let many = as_many c.args.self.now c.len.result (omega (arith, c.len.ensures, c.args.self.now.records.ok)) ∙ sym c.is_most.ensures ∙ c.if-is_most.false in
    rw (many, ← c.started_pid.ensures, ← c.is_some.ensures, c.if-is_some.false) refl
