-- Traces of calls on files, descriptors and ports, with the answer to each record.
-- Source: docs/FORMATS.md, "The trace file" and "The report"; the manual pages on Landlock.
use Rattle.std.specs.Prelude.{List, [], ◌∷◌, ◌++◌, codes, replicate, true, false}
use Rattle.ll_rights.specs.declared.kind.Kind.TheVariants.{Reg, Fifo}
use Rattle.ll_rights.specs.Rights.{execute, write_file, read_file, read_dir, remove_dir, remove_file, make_dir, make_reg, refer, truncate, ioctl_dev}
use Rattle.ll_rights.specs.NetRights.{bind_tcp, connect_tcp}
use Rattle.ll_rules.specs.declared.errno.Errno.TheVariants.{Perm, Acces, XDev, Inval, TooBig}
use Rattle.ll_trace.specs.declared.op.Record.{Record}
use Rattle.ll_trace.specs.declared.op.Op.TheVariants as calls
use Rattle.ll_trace.specs.declared.op.Mode.TheVariants.{Read, Write, Both}
use Rattle.ll_trace.specs.declared.op.Sort.TheVariants.{Regular, Device}
use Rattle.ll_semantics.specs.declared.answer.Answer.{Answer}
use Rattle.ll_semantics.specs.WorkedWords.{begins, opens_before, confines, confines_on_two, moving, grant, renames, goes_over, ok, moot, refused, start, creates, adds, adds_port, opens}

-- what each call asks of the file tree
abbrev pub path_requests : List (Record × Answer)
path_requests =
    confines (make_reg ∷ make_dir ∷ write_file ∷ truncate ∷ remove_file ∷ execute ∷ [])
    (grant (codes "/a") (make_reg ∷ write_file ∷ []) ∷ [])
    ++ ok 0 (calls.OpenFile (codes "/a/n") 4 Write true true)
    ∷ moot 0 (calls.OpenFile (codes "/a/n") 4 Write true false)
    ∷ refused Acces (1 ∷ []) 0 (calls.Ftruncate 4)
    ∷ refused Acces (1 ∷ []) 0 (calls.OpenFile (codes "/b/n") 5 Write true false)
    ∷ refused Acces (1 ∷ []) 0 (calls.OpenFile (codes "/a/f") 6 Write false true)
    ∷ refused Acces (1 ∷ []) 0 (calls.Mkdir (codes "/a/d"))
    ∷ ok 0 (calls.Mknod (codes "/a/d") Reg)
    ∷ ok 0 (calls.Mknod (codes "/a/d") Fifo)
    ∷ ok 0 (calls.Symlink (codes "/a/d"))
    ∷ refused Acces (1 ∷ []) 0 (calls.Unlink (codes "/a/f"))
    ∷ ok 0 (calls.Rmdir (codes "/a/s"))
    ∷ refused Acces (1 ∷ []) 0 (calls.Exec (codes "/a/f"))
    ∷ []

-- calls that the tree or the descriptors decide
abbrev pub moot_calls : List (Record × Answer)
moot_calls =
    ok 0 start
    ∷ moot 0 (opens (codes "/none") 4 Read)
    ∷ moot 0 (calls.OpenFile (codes "/none/x") 4 Read true false)
    ∷ moot 0 (opens (codes "/a") 4 Write)
    ∷ moot 0 (calls.OpenFile (codes "/a") 4 Read true false)
    ∷ moot 0 (calls.Close 4)
    ∷ moot 0 (calls.Dup 4 5)
    ∷ moot 0 (renames (codes "/a/f") (codes "/a/f"))
    ∷ moot 0 (renames (codes "/a") (codes "/a/s/x"))
    ∷ moot 0 (renames (codes "/a/s") (codes "/a"))
    ∷ moot 0 (renames (codes "/a/f") (codes "/b"))
    ∷ moot 0 (renames (codes "/none") (codes "/b/h"))
    ∷ moot 0 (calls.Rename (codes "/a/f") (codes "/b/h") true)
    ∷ moot 0 (calls.Link (codes "/a") (codes "/b/h"))
    ∷ moot 0 (calls.Link (codes "/a/f") (codes "/b/g"))
    ∷ moot 0 (calls.Mkdir (codes "/b"))
    ∷ moot 0 (calls.Symlink (codes "/a/f"))
    ∷ moot 0 (calls.Mknod (codes "/a/f") Fifo)
    ∷ moot 0 (calls.Unlink (codes "/a"))
    ∷ moot 0 (calls.Unlink (codes "/none"))
    ∷ moot 0 (calls.Rmdir (codes "/a/f"))
    ∷ moot 0 (calls.Rmdir (codes "/"))
    ∷ moot 0 (calls.Truncate (codes "/dev/tty"))
    ∷ moot 0 (calls.Exec (codes "/a"))
    ∷ []

-- whether an open file may be truncated is settled when it is opened, also through dup and fork
abbrev pub truncating : List (Record × Answer)
truncating =
    opens_before truncate (codes "/a/f") 4 Write
    ++ ok 0 (calls.Ftruncate 4)
    ∷ ok 0 (opens (codes "/a/f") 5 Write)
    ∷ refused Acces (1 ∷ []) 0 (calls.Ftruncate 5)
    ∷ ok 0 (calls.Fork 11)
    ∷ ok 1 (calls.Restrict 3)
    ∷ refused Acces (1 ∷ []) 1 (calls.Ftruncate 5)
    ∷ ok 1 (calls.Ftruncate 4)
    ∷ refused Acces (1 ∷ 2 ∷ []) 1 (calls.Truncate (codes "/a/f"))
    ∷ ok 1 (calls.Dup 5 6)
    ∷ refused Acces (1 ∷ []) 1 (calls.Ftruncate 6)
    ∷ ok 1 (calls.Close 6)
    ∷ moot 1 (calls.Close 6)
    ∷ moot 0 (calls.Ftruncate 6)
    ∷ ok 0 (calls.Adopt 7 Regular)
    ∷ ok 0 (calls.Ftruncate 7)
    ∷ ok 0 (opens (codes "/a/f") 8 Read)
    ∷ moot 0 (calls.Ftruncate 8)
    ∷ []

-- commands of a device: those that the policy judges, and others
abbrev pub driver_commands : List (Record × Answer)
driver_commands =
    opens_before ioctl_dev (codes "/dev/tty") 6 Both
    ++ ok 0 (opens (codes "/dev/tty") 4 Both)
    ∷ refused Acces (1 ∷ []) 0 (calls.Ioctl 4 true)
    ∷ ok 0 (calls.Ioctl 4 false)
    ∷ ok 0 (calls.Ioctl 6 true)
    ∷ ok 0 (opens (codes "/a/f") 5 Read)
    ∷ ok 0 (calls.Ioctl 5 true)
    ∷ moot 0 (calls.Ioctl 9 true)
    ∷ []

-- devices through dup, fork and adopt
abbrev pub device_descriptors : List (Record × Answer)
device_descriptors =
    confines (ioctl_dev ∷ []) (grant (codes "/dev") (ioctl_dev ∷ []) ∷ grant (codes "/a/f") (ioctl_dev ∷ []) ∷ [])
    ++ ok 0 (opens (codes "/dev/tty") 4 Read)
    ∷ ok 0 (calls.Ioctl 4 true)
    ∷ ok 0 (calls.Fork 11)
    ∷ ok 1 (creates 5 (ioctl_dev ∷ []) [])
    ∷ ok 1 (calls.Restrict 5)
    ∷ ok 1 (calls.Ioctl 4 true)
    ∷ ok 1 (opens (codes "/dev/tty") 6 Read)
    ∷ refused Acces (2 ∷ []) 1 (calls.Ioctl 6 true)
    ∷ ok 1 (calls.Dup 6 7)
    ∷ refused Acces (2 ∷ []) 1 (calls.Ioctl 7 true)
    ∷ ok 1 (calls.Adopt 8 Device)
    ∷ ok 1 (calls.Ioctl 8 true)
    ∷ []

-- a right for devices, before the version that has it
abbrev pub ioctl_dev_unknown : List (Record × Answer)
ioctl_dev_unknown =
    begins
    ++ refused Inval [] 0 (creates 3 (ioctl_dev ∷ []) [])
    ∷ ok 0 (opens (codes "/dev/tty") 4 Read)
    ∷ ok 0 (calls.Ioctl 4 true)
    ∷ []

-- rules for ports, of which one has two, and a restriction by them
abbrev pub confined_to_ports : List (Record × Answer)
confined_to_ports =
    ok 0 (adds_port 3 443 (connect_tcp ∷ []))
    ∷ ok 0 (adds_port 3 8080 (bind_tcp ∷ []))
    ∷ ok 0 (adds_port 3 8080 (connect_tcp ∷ []))
    ∷ ok 0 (calls.Restrict 3)
    ∷ []

-- what these rules grant, and a mount, which the second layer alone refuses
abbrev pub under_ports : List (Record × Answer)
under_ports =
    refused Acces (1 ∷ []) 0 (calls.Bind 80)
    ∷ ok 0 (calls.Connect 443)
    ∷ refused Acces (1 ∷ []) 0 (calls.Bind 443)
    ∷ ok 0 (calls.Bind 8080)
    ∷ ok 0 (calls.Connect 8080)
    ∷ ok 0 calls.Mount
    ∷ ok 0 (creates 4 (read_dir ∷ []) [])
    ∷ ok 0 (calls.Restrict 4)
    ∷ refused Perm (2 ∷ []) 0 calls.Mount
    ∷ []

-- ports, and changes of what is mounted
abbrev pub ports_and_mounts : List (Record × Answer)
ports_and_mounts =
    begins
    ++ ok 0 (creates 3 [] (bind_tcp ∷ connect_tcp ∷ []))
    ∷ ok 0 (adds_port 3 0 (bind_tcp ∷ []))
    ∷ confined_to_ports
    ++ ok 0 (calls.Bind 0)
    ∷ under_ports

-- port 0 is a port like any other
abbrev pub port_zero : List (Record × Answer)
port_zero =
    begins
    ++ ok 0 (creates 3 [] (bind_tcp ∷ connect_tcp ∷ []))
    ∷ confined_to_ports
    ++ refused Acces (1 ∷ []) 0 (calls.Bind 0)
    ∷ under_ports

-- no right to move between directories
abbrev pub unreferred : List (Record × Answer)
unreferred =
    confines (read_file ∷ []) []
    ++ ok 0 (renames (codes "/a/f") (codes "/a/h"))
    ∷ refused XDev (1 ∷ []) 0 goes_over
    ∷ refused XDev (1 ∷ []) 0 (calls.Link (codes "/a/f") (codes "/b/h"))
    ∷ ok 0 (calls.Link (codes "/a/f") (codes "/a/h"))
    ∷ []

-- a layer without rights for files refuses no move
abbrev pub ports_alone : List (Record × Answer)
ports_alone =
    begins
    ++ ok 0 (creates 3 [] (bind_tcp ∷ []))
    ∷ ok 0 (calls.Restrict 3)
    ∷ ok 0 (renames (codes "/a/f") (codes "/a/h"))
    ∷ ok 0 goes_over
    ∷ ok 0 (calls.Link (codes "/a/f") (codes "/b/h"))
    ∷ ok 0 (calls.Link (codes "/a/f") (codes "/a/h"))
    ∷ []

-- moves by which an object gains a right
abbrev pub gaining : List (Record × Answer)
gaining =
    confines_on_two (moving ++ execute ∷ []) moving (moving ++ execute ∷ [])
    ++ refused XDev (1 ∷ []) 0 goes_over
    ∷ ok 0 (renames (codes "/b/g") (codes "/a/h"))
    ∷ ok 0 (calls.Link (codes "/b/g") (codes "/a/h"))
    ∷ refused XDev (1 ∷ []) 0 (calls.Rename (codes "/b/g") (codes "/a/f") true)
    ∷ []

-- a rule on the object itself
abbrev pub not_gaining : List (Record × Answer)
not_gaining =
    confines (moving ++ execute ∷ []) (grant (codes "/a") moving ∷ grant (codes "/b") (moving ++ execute ∷ []) ∷ grant (codes "/a/f") (execute ∷ []) ∷ [])
    ++ ok 0 goes_over
    ∷ ok 0 (renames (codes "/b/g") (codes "/a/h"))
    ∷ ok 0 (calls.Link (codes "/b/g") (codes "/a/h"))
    ∷ ok 0 (calls.Rename (codes "/b/g") (codes "/a/f") true)
    ∷ []

-- what is denied comes before what would be gained
abbrev pub denied_and_gaining : List (Record × Answer)
denied_and_gaining = confines_on_two (moving ++ execute ∷ []) moving (refer ∷ remove_file ∷ execute ∷ []) ++ refused Acces (1 ∷ []) 0 goes_over ∷ []

-- what is denied comes before the missing right to move between directories
abbrev pub denied_first : List (Record × Answer)
denied_first =
    confines_on_two (make_reg ∷ remove_file ∷ []) (make_reg ∷ remove_file ∷ []) (remove_file ∷ [])
    ++ refused Acces (1 ∷ []) 0 goes_over
    ∷ ok 0 (renames (codes "/a/f") (codes "/a/h"))
    ∷ []

-- a rename removes a name, and a link doesn't
abbrev pub link_removes_nothing : List (Record × Answer)
link_removes_nothing =
    confines (remove_file ∷ make_reg ∷ []) (grant (codes "/a") (make_reg ∷ []) ∷ [])
    ++ refused Acces (1 ∷ []) 0 (renames (codes "/a/f") (codes "/a/h"))
    ∷ ok 0 (calls.Link (codes "/a/f") (codes "/a/h"))
    ∷ []

-- a directory gains what counts for directories too
abbrev pub directory_gaining : List (Record × Answer)
directory_gaining =
    confines_on_two (refer ∷ make_dir ∷ remove_dir ∷ read_dir ∷ []) (refer ∷ make_dir ∷ remove_dir ∷ []) (refer ∷ make_dir ∷ read_dir ∷ [])
    ++ refused XDev (1 ∷ []) 0 (renames (codes "/a/s") (codes "/b/x"))
    ∷ []

-- a file gains a right for devices too
abbrev pub device_right_gaining : List (Record × Answer)
device_right_gaining = confines_on_two (moving ++ ioctl_dev ∷ []) moving (refer ∷ make_reg ∷ ioctl_dev ∷ []) ++ refused XDev (1 ∷ []) 0 goes_over ∷ []

-- A program makes do with a ruleset that handles nothing, and leaves out a rule for it. The ruleset's number is held,
-- its layer refuses nothing, and the layer after it is the second. Restricting by it never fails: not without
-- no_new_privs, and not where there are sixteen layers.
abbrev pub makes_do : List (Record × Answer)
makes_do =
    ok 0 start
    ∷ ok 0 (calls.CreateEmpty 3)
    ∷ moot 0 (calls.Restrict 3)
    ∷ refused Perm [] 0 (calls.Restrict 4)
    ∷ ok 0 calls.Nnp
    ∷ moot 0 (calls.CreateEmpty 3)
    ∷ moot 0 (creates 3 (read_file ∷ []) [])
    ∷ moot 0 (calls.LeaveOutPath (codes "/a"))
    ∷ moot 0 calls.LeaveOutPort
    ∷ refused Inval [] 0 (adds 3 (codes "/a") (read_file ∷ []))
    ∷ ok 0 (calls.Restrict 3)
    ∷ ok 0 (opens (codes "/a/f") 4 Both)
    ∷ ok 0 (calls.Ftruncate 4)
    ∷ ok 0 goes_over
    ∷ ok 0 calls.Mount
    ∷ ok 0 (calls.Bind 80)
    ∷ ok 0 (creates 4 (read_file ∷ truncate ∷ []) [])
    ∷ ok 0 (calls.Restrict 4)
    ∷ refused Acces (2 ∷ []) 0 (opens (codes "/a/f") 5 Read)
    ∷ ok 0 (calls.Ftruncate 4)
    ∷ ok 0 (opens (codes "/a/f") 6 Write)
    ∷ refused Acces (2 ∷ []) 0 (calls.Ftruncate 6)
    ∷ refused XDev (2 ∷ []) 0 goes_over
    ∷ refused Perm (2 ∷ []) 0 calls.Mount
    ∷ ok 0 (calls.CloseRs 3)
    ∷ moot 0 (calls.CloseRs 3)
    ∷ ok 0 (calls.CreateEmpty 3)
    ∷ replicate 14 (ok 0 (calls.Restrict 3))
    ++ moot 0 (calls.Restrict 3)
    ∷ refused TooBig [] 0 (calls.Restrict 4)
    ∷ refused Acces (2 ∷ []) 0 (opens (codes "/a/f") 7 Read)
    ∷ []
