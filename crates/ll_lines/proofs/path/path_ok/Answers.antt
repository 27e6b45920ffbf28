-- The ways out are the cases of `path_of`.
use Rattle.std.proofs.Common.{sym, ap, ◌∙◌, lit<, refl, Some, None}
use Rattle.std.specs.Prelude.{is_some}
use Rattle.std.specs.List.{list_all, slice_split}
use Rattle.std.proofs.lemmas.Str.Pattern.{strip_prefix_char}
use Rattle.ll_lines.specs.Paths.{is_name, is_slash}
use Rattle.ll_lines.proofs.PathLaws.{path_of-other, path_of-root, path_of-slash, is_some-names_in}
use Rattle.ll_lines.proofs.path.path_ok.Goals as goal

pub returns-in-None : goal.returns-in-None
returns-in-None c =
    let other = strip_prefix_char 47 c.args.text.now None c.in-None.ensures.cases (lit< tt) in
    rw (path_of-other c.args.text.now c.if-text-gt-LONGEST_PATH.false other) refl

pub returns-in-Some-empty : goal.returns-in-Some-empty
returns-in-Some-empty c =
    let text = strip_prefix_char 47 c.args.text.now (Some c.in-Some-empty.field-0) c.in-Some-empty.ensures.cases (lit< tt) in
    rw (path_of-root c.args.text.now _ c.if-text-gt-LONGEST_PATH.false text c.in-Some-empty.is-empty) refl

pub returns-in-Some : goal.returns-in-Some
returns-in-Some c =
    let text = strip_prefix_char 47 c.args.text.now (Some c.in-Some.names) c.in-Some.ensures.cases (lit< tt) in
    c.are_names.ensures ∙ ap (λ bytes. list_all is_name (slice_split is_slash bytes)) c.as_bytes.ensures.value
    ∙ sym (is_some-names_in c.in-Some.names.now c.in-Some.not-empty)
    ∙ ap is_some (sym (path_of-slash c.args.text.now _ c.if-text-gt-LONGEST_PATH.false text))
