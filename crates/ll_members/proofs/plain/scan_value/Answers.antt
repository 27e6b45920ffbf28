use Rattle.std.proofs.Common.{true, false}
use Rattle.json.specs.Print.{print_from}
use Rattle.ll_members.proofs.PlainLemmas.{text_scanned, number_scanned, truth_scanned, list_scanned}
use Rattle.ll_members.proofs.plain.scan_value.Goals as goal

pub returns-in_ok-text-in-34 : goal.returns-in_ok-text-in-34
returns-in_ok-text-in-34 c = text_scanned c.args.line.now c.in_ok-text-in-34.rest.now c.in_ok-text-in-34.text c.in_ok-text-in-34.ensures

pub returns-in_ok-rights-in-91 : goal.returns-in_ok-rights-in-91
returns-in_ok-rights-in-91 c =
    list_scanned c.args.line.now c.in_ok-behind-in-91.field-0.now c.in_ok-rights-in-91.rest.now c.in_ok-rights-in-91.rights c.in_ok-behind-in-91.ensures
    c.in_ok-rights-in-91.ensures

pub returns-in_ok-behind_word-in-116 : goal.returns-in_ok-behind_word-in-116
unfolding print_from
returns-in_ok-behind_word-in-116 c = truth_scanned c.args.line.now c.in_ok-behind_word-in-116.field-0.now true c.in_ok-behind_word-in-116.ensures

pub returns-in_ok-behind_word-in-102 : goal.returns-in_ok-behind_word-in-102
unfolding print_from
returns-in_ok-behind_word-in-102 c = truth_scanned c.args.line.now c.in_ok-behind_word-in-102.field-0.now false c.in_ok-behind_word-in-102.ensures

pub returns-in_ok-number-in_default : goal.returns-in_ok-number-in_default
returns-in_ok-number-in_default c =
    number_scanned c.args.line.now c.in_ok-number-in_default.rest.now c.in_ok-number-in_default.number c.in_ok-number-in_default.ensures
