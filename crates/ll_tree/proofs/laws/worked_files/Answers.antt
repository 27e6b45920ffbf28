-- The definitions compute.
use Rattle.std.proofs.Common.{refl}
use Rattle.std.specs.Str.{is_utf8, chars}
use lib.Utf8.{encode}
use Rattle.json.specs.Json.{value}
use Rattle.json.specs.Lex.{lex, punctuate}
use Rattle.json.specs.Text.{content}
use Rattle.ll_lines.specs.Lines.{lines}
use Rattle.ll_lines.specs.Members.{value_at, text_at}
use Rattle.ll_lines.specs.Paths.{path_of, after_slash, names_in, is_name, front, path_eq}
use Rattle.ll_tree.specs.Trees.{is_dir_in}
use Rattle.ll_lines.specs.LineByLine.{read_lines}
use Rattle.ll_tree.specs.TreeReading.{entry_on, entry_in, kind_named, is_listed, fault_in}
use Rattle.ll_tree.proofs.laws.worked_files.Goals as goal

pub returns : goal.returns
unfolding lines value_at text_at path_of after_slash names_in is_name front path_eq is_dir_in read_lines entry_on entry_in kind_named is_listed fault_in is_utf8
    chars encode value punctuate lex content
returns c = record {
  reads = refl;
  empty = refl;
  alone = refl;
  no_slash = refl;
  two_slashes = refl;
  no_kind = refl;
  the_root = refl;
  twice = refl;
  in_a_file = refl;
  after_a_blank = refl;
  not_text = refl;
}
