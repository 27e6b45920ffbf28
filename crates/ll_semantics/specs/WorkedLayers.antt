-- Traces of rulesets and layers, with the answer to each record.
-- Source: docs/FORMATS.md, "The trace file" and "The report"; the manual pages on Landlock.
use Rattle.std.specs.Prelude.{List, [], ◌∷◌, ◌++◌, codes, replicate}
use Rattle.std.specs.List.{range_with_len}
use Rattle.ll_rights.specs.Rights as files
use Rattle.ll_rights.specs.Rights.{write_file, read_file, read_dir, refer, truncate}
use Rattle.ll_rights.specs.NetRights.{bind_tcp, connect_tcp}
use Rattle.ll_rules.specs.declared.errno.Errno.TheVariants.{Perm, BadFd, Acces, Inval, TooBig, NoMsg}
use Rattle.ll_trace.specs.declared.op.Record.{Record}
use Rattle.ll_trace.specs.declared.op.Op.TheVariants as calls
use Rattle.ll_trace.specs.declared.op.Mode.TheVariants.{Read, Write, Both}
use Rattle.ll_semantics.specs.declared.answer.Answer.{Answer}
use Rattle.ll_semantics.specs.WorkedWords.{begins, holds_reading, forks, confines, grant, ok, moot, refused, start, privileged_start, creates, adds, adds_port, opens}

-- a process confines itself to reading under one directory
abbrev pub confined : List (Record × Answer)
confined =
    confines (read_file ∷ []) (grant (codes "/a") (read_file ∷ []) ∷ [])
    ++ ok 0 (opens (codes "/a/f") 4 Read)
    ∷ refused Acces (1 ∷ []) 0 (opens (codes "/b/g") 5 Read)
    ∷ ok 0 (opens (codes "/b/g") 5 Write)
    ∷ []

-- two rules on the way to a file grant together what neither grants alone
abbrev pub granted_together : List (Record × Answer)
granted_together =
    confines (read_file ∷ write_file ∷ [])
    (grant (codes "/a") (write_file ∷ []) ∷ grant (codes "/a/f") (read_file ∷ []) ∷ [])
    ++ ok 0 (opens (codes "/a/f") 4 Both)
    ∷ refused Acces (1 ∷ []) 0 (opens (codes "/b/g") 5 Both)
    ∷ []

-- each layer must grant a request
abbrev pub each_layer : List (Record × Answer)
each_layer =
    begins
    ++ ok 0 (creates 3 (read_file ∷ []) [])
    ∷ ok 0 (adds 3 (codes "/a") (read_file ∷ []))
    ∷ ok 0 (creates 4 (read_file ∷ []) [])
    ∷ ok 0 (adds 4 (codes "/b") (read_file ∷ []))
    ∷ ok 0 (calls.Restrict 3)
    ∷ ok 0 (calls.Restrict 4)
    ∷ refused Acces (2 ∷ []) 0 (opens (codes "/a/f") 5 Read)
    ∷ refused Acces (1 ∷ []) 0 (opens (codes "/b/g") 5 Read)
    ∷ refused Acces (1 ∷ 2 ∷ []) 0 (opens (codes "/dev/tty") 5 Read)
    ∷ []

-- a right of a later version of the interface
abbrev pub refer_unknown : List (Record × Answer)
refer_unknown =
    ok 0 start
    ∷ refused Inval [] 0 (creates 3 (refer ∷ []) [])
    ∷ []

-- a right of a later version, and no right at all
abbrev pub truncate_unknown : List (Record × Answer)
truncate_unknown =
    ok 0 start
    ∷ refused Inval [] 0 (creates 3 (truncate ∷ []) [])
    ∷ refused NoMsg [] 0 (creates 3 [] [])
    ∷ []

-- rights for ports, before the version that has them, come first of all errors
abbrev pub ports_unknown : List (Record × Answer)
ports_unknown =
    ok 0 start
    ∷ refused TooBig [] 0 (creates 3 [] (bind_tcp ∷ []))
    ∷ refused TooBig [] 0 (creates 3 (files.other ∷ []) (bind_tcp ∷ []))
    ∷ refused Inval [] 0 (creates 3 (files.other ∷ []) [])
    ∷ []

-- a ruleset of ports alone, and a number that is held already
abbrev pub ports_known : List (Record × Answer)
ports_known =
    ok 0 start
    ∷ ok 0 (creates 3 [] (bind_tcp ∷ []))
    ∷ moot 0 (creates 3 (read_file ∷ []) [])
    ∷ []

-- the errors of rules in their order
abbrev pub rule_errors : List (Record × Answer)
rule_errors =
    begins
    ++ ok 0 (creates 3 (read_file ∷ read_dir ∷ []) (bind_tcp ∷ []))
    ∷ refused BadFd [] 0 (adds 9 (codes "/a") [])
    ∷ refused NoMsg [] 0 (adds 3 (codes "/a") [])
    ∷ refused Inval [] 0 (adds 3 (codes "/none") (write_file ∷ []))
    ∷ moot 0 (adds 3 (codes "/none") (read_file ∷ []))
    ∷ moot 0 (adds 3 (codes "/none/x") (read_file ∷ []))
    ∷ refused Inval [] 0 (adds 3 (codes "/a/f") (read_dir ∷ []))
    ∷ ok 0 (adds 3 (codes "/a") (read_dir ∷ []))
    ∷ refused NoMsg [] 0 (adds_port 3 80 [])
    ∷ refused Inval [] 0 (adds_port 3 80 (connect_tcp ∷ []))
    ∷ refused Inval [] 0 (adds_port 3 65536 (bind_tcp ∷ []))
    ∷ ok 0 (adds_port 3 65535 (bind_tcp ∷ []))
    ∷ ok 0 (calls.CloseRs 3)
    ∷ moot 0 (calls.CloseRs 3)
    ∷ refused BadFd [] 0 (adds 3 (codes "/a") (read_dir ∷ []))
    ∷ []

-- rules for ports, before the version that has them
abbrev pub port_rules_unknown : List (Record × Answer)
port_rules_unknown =
    holds_reading
    ++ refused Inval [] 0 (adds_port 3 80 [])
    ∷ []

-- who may restrict itself
abbrev pub restricting : List (Record × Answer)
restricting =
    ok 0 start
    ∷ ok 0 (creates 3 (read_file ∷ []) [])
    ∷ refused Perm [] 0 (calls.Restrict 9)
    ∷ refused Perm [] 0 (calls.Restrict 3)
    ∷ ok 0 calls.Nnp
    ∷ refused BadFd [] 0 (calls.Restrict 9)
    ∷ ok 0 (calls.Restrict 3)
    ∷ ok 1 privileged_start
    ∷ ok 1 (creates 3 (read_file ∷ []) [])
    ∷ ok 1 (calls.Restrict 3)
    ∷ []

-- sixteen layers, and no more
abbrev pub sixteen_layers : List (Record × Answer)
sixteen_layers =
    holds_reading
    ++ replicate 16 (ok 0 (calls.Restrict 3))
    ++ refused TooBig [] 0 (calls.Restrict 3)
    ∷ refused Acces (range_with_len 1 16) 0 (opens (codes "/a/f") 4 Read)
    ∷ []

-- a layer is the ruleset as it was when it was enforced
abbrev pub frozen_layers : List (Record × Answer)
frozen_layers =
    confines (read_file ∷ []) []
    ++ ok 0 (adds 3 (codes "/a") (read_file ∷ []))
    ∷ refused Acces (1 ∷ []) 0 (opens (codes "/a/f") 4 Read)
    ∷ ok 0 (calls.Restrict 3)
    ∷ refused Acces (1 ∷ []) 0 (opens (codes "/a/f") 4 Read)
    ∷ refused Acces (1 ∷ 2 ∷ []) 0 (opens (codes "/b/g") 4 Read)
    ∷ []

-- a ruleset that two processes hold is one ruleset
abbrev pub shared_ruleset : List (Record × Answer)
shared_ruleset =
    holds_reading
    ++ ok 0 (calls.Fork 11)
    ∷ ok 1 (adds 3 (codes "/a") (read_file ∷ []))
    ∷ ok 0 (calls.Restrict 3)
    ∷ ok 0 (opens (codes "/a/f") 4 Read)
    ∷ []

-- a rule that comes after the restriction
abbrev pub late_rule : List (Record × Answer)
late_rule =
    holds_reading
    ++ ok 0 (calls.Fork 11)
    ∷ ok 0 (calls.Restrict 3)
    ∷ ok 1 (adds 3 (codes "/a") (read_file ∷ []))
    ∷ refused Acces (1 ∷ []) 0 (opens (codes "/a/f") 4 Read)
    ∷ []

-- a process that ends, and another one that starts
abbrev pub started_again : List (Record × Answer)
started_again =
    ok 0 start
    ∷ ok 0 calls.Exit
    ∷ ok 1 start
    ∷ []

-- a process that inherits a layer, one that doesn't, and again one that does
abbrev pub three_processes : List (Record × Answer)
three_processes =
    confines (read_file ∷ []) []
    ++ ok 0 (calls.Fork 11)
    ∷ refused Acces (1 ∷ []) 1 (opens (codes "/b/g") 4 Read)
    ∷ ok 1 calls.Exit
    ∷ ok 2 start
    ∷ ok 2 (opens (codes "/b/g") 4 Read)
    ∷ ok 2 (calls.Close 4)
    ∷ ok 2 calls.Exit
    ∷ ok 0 (calls.Fork 11)
    ∷ refused Acces (1 ∷ []) 3 (opens (codes "/b/g") 4 Read)
    ∷ []

-- twelve processes, some of which share a ruleset
abbrev pub twelve_processes : List (Record × Answer)
twelve_processes =
    holds_reading
    ++ forks 0 (2 ∷ 3 ∷ [])
    ++ ok 1 (adds 3 (codes "/a") (read_file ∷ []))
    ∷ ok 2 (calls.Restrict 3)
    ∷ forks 1 (4 ∷ 5 ∷ [])
    ++ forks 2 (6 ∷ 7 ∷ [])
    ++ forks 3 (8 ∷ 9 ∷ [])
    ++ forks 4 (10 ∷ 11 ∷ [])
    ++ ok 5 (calls.Fork 12)
    ∷ ok 11 (opens (codes "/a/f") 4 Read)
    ∷ refused Acces (1 ∷ []) 11 (opens (codes "/b/g") 5 Read)
    ∷ ok 7 (opens (codes "/b/g") 4 Read)
    ∷ ok 0 (calls.Restrict 3)
    ∷ refused Acces (1 ∷ []) 0 (opens (codes "/b/g") 4 Read)
    ∷ moot 8 (calls.Ftruncate 4)
    ∷ refused Perm (1 ∷ []) 6 calls.Mount
    ∷ ok 9 calls.Exit
    ∷ ok 10 (opens (codes "/a/s") 4 Read)
    ∷ []
