-- what an answer unfolds to read a trace that is written out
use Rattle.std.specs.Prelude.{⊤}
use Rattle.std.specs.Str.{is_utf8, chars}
use Rattle.serde_json.proofs.OnLiterals.{serde_json_on_literals}
use Rattle.ll_rights.specs.Rights as files
use Rattle.ll_rights.specs.NetRights as network
use Rattle.ll_lines.specs.Lines.{lines}
use Rattle.ll_lines.specs.Members.{value_at, text_at, number_at, truth_at, flag_at, items_at, text_in, fold_texts}
use Rattle.ll_lines.specs.Paths.{is_name, names_in, after_slash, path_of}
use Rattle.ll_lines.specs.LineByLine.{read_lines}
use Rattle.ll_members.specs.Rights.{fs_at, net_at}
use Rattle.ll_trace.specs.Members.{path_in, path_at, mode_at, sort_at, made_kind_at, port_at}
use Rattle.ll_trace.specs.Operations.{paths_of, are_spelt, path_operations, descriptor_operations, operations, operation_named, operation_at}
use Rattle.ll_trace.specs.Entries.{entry_at, is_start, is_exit, pid_started}

unfoldable pub traces_on_literals : ⊤
unfolding is_utf8 chars serde_json_on_literals files.right_named files.named_rights files.only files.united network.right_named network.only network.united
    lines value_at text_at number_at truth_at flag_at items_at text_in fold_texts is_name names_in after_slash path_of read_lines path_in path_at fs_at
    net_at mode_at sort_at made_kind_at port_at paths_of are_spelt path_operations descriptor_operations operations operation_named operation_at entry_at
    is_start is_exit pid_started
traces_on_literals = tt
