-- The record that a borrowed one stands for.
-- Source: the code's own.
use Rattle.ll_trace.specs.declared.op.Record.{Record}
use Rattle.ll_trace.specs.declared.seen.SeenRecord.{SeenRecord}

-- the record that a borrowed one stands for
abbrev pub record_of : SeenRecord → Record
record_of seen = record { line = seen.line; process = seen.process; pid = seen.pid; op = seen.op }
