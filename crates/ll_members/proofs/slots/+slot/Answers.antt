use Rattle.std.proofs.Common.{◌≡◌, ◌∷◌, arith}
use Rattle.json.specs.Token.{Token}
use Rattle.ll_members.proofs.FirstLemmas.{array_too_deep, object_too_deep}
use Rattle.ll_members.proofs.RightsLemmas.{folded_fails, folded_all}
use Rattle.ll_members.proofs.PassedLemmas.{passed_no_key}
use Rattle.ll_members.proofs.slots.+slot.Goals as goal

pub slot_in-returns-in_err-inner-in-Array-clause-value : goal.slot_in-returns-in_err-inner-in-Array-clause-value
slot_in-returns-in_err-inner-in-Array-clause-value t c =
    let opened : c.args.reader.now ≡ Token.begin_array ∷ c.first_of.new.reader = grind arith in
    let none = array_too_deep c.args.depth c.args.reader.now c.first_of.new.reader c.in_err-inner-in-Array.ensures.1 opened in
    grind (arith, none)

pub slot_in-returns-in_err-inner-in-Object-clause-value : goal.slot_in-returns-in_err-inner-in-Object-clause-value
slot_in-returns-in_err-inner-in-Object-clause-value t c =
    let opened : c.args.reader.now ≡ Token.begin_object ∷ c.first_of.new.reader = grind arith in
    let none = object_too_deep c.args.depth c.args.reader.now c.first_of.new.reader c.in_err-inner-in-Object.ensures.1 opened in
    grind (arith, none)

pub rights_in-returns-in_err-slot-clause-value : goal.rights_in-returns-in_err-slot-clause-value
rights_in-returns-in_err-slot-clause-value t c =
    let l = c.loop-reader in
    let none = folded_fails c.args.depth c.args.reader.now l.reader c.take_end_array.new.self l.rights l.invariant c.loop-reader-test.ensures
    c.in_err-slot.ensures.value in
    grind (arith, none)

pub rights_in-returns-clause-value : goal.rights_in-returns-clause-value
rights_in-returns-clause-value t c =
    let l = c.loop-reader in
    folded_all c.args.depth c.args.reader.now l.reader c.take_end_array.new.self l.rights l.invariant c.loop-reader-test.ensures

pub skip_members-returns-in_err-next_key-clause-value : goal.skip_members-returns-in_err-next_key-clause-value
skip_members-returns-in_err-next_key-clause-value t c =
    let none = passed_no_key c.args.depth c.args.reader.now c.loop-reader.reader c.loop-reader.invariant c.in_err-next_key.ensures.value in
    grind (arith, none)
