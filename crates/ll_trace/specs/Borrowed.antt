-- The operation that a borrowed call stands for.
-- Source: the code's own.
use Rattle.std.specs.Prelude.{◌≡◌, Bool, true, false}
use Rattle.ll_trace.specs.declared.op.Op.{Op}
use Rattle.ll_trace.specs.declared.op.Op.TheVariants as calls
use Rattle.ll_trace.specs.declared.seen.Call.{Call}
use Rattle.ll_trace.specs.declared.seen.Call.TheVariants.{Create, CreateEmpty, AddPath, AddPort, LeaveOutPath, LeaveOutPort, Other}

-- the operation that a borrowed call stands for
unfoldable pub meant : Call → Op
meant (Create rs fs net) = calls.Create rs fs net
meant (CreateEmpty rs) = calls.CreateEmpty rs
meant (AddPath rs path fs) = calls.AddPath rs path.now fs
meant (AddPort rs port net) = calls.AddPort rs port net
meant (LeaveOutPath path) = calls.LeaveOutPath path.now
meant LeaveOutPort = calls.LeaveOutPort
meant (Other op) = op.now

-- a call that names rights, or what best effort makes of one
unfoldable pub is_of_rights : Op → Bool
is_of_rights (calls.Create rs fs net) = true
is_of_rights (calls.CreateEmpty rs) = true
is_of_rights (calls.AddPath rs path fs) = true
is_of_rights (calls.AddPort rs port net) = true
is_of_rights (calls.LeaveOutPath path) = true
is_of_rights calls.LeaveOutPort = true
is_of_rights op = false

-- no such call is borrowed whole
abbrev pub IsTold : Call → Type 0
IsTold (Other op) = is_of_rights op.now ≡ false
IsTold call = Unit {0}
