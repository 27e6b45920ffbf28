use Rattle.std.proofs.Common.{rules, true, false, refl, sym, ap, ◌∙◌}
use Rattle.std.specs.Prelude.{codes}
use Rattle.std.specs.List.{list_all}
use Rattle.std.proofs.lemmas.Slice.Eq.{bytes_eq-Decides}
use Rattle.ll_members.specs.Plain.{is_unescaped, IsUnescaped}
use Rattle.ll_members.proofs.PlainLemmas.{unescaped_behind, unescaped_behind_member, none_scanned, one_more_scanned, all_scanned}
use Rattle.ll_members.proofs.plain.scan_line.Goals as goal

pub loop-others-init : goal.loop-others-init
loop-others-init c =
    let inside = c.in_ok-behind.field-0.now in
    let unescaped : IsUnescaped c.args.line.now =
    ap (list_all is_unescaped) (sym c.as_bytes.ensures.value) ∙ sym c.is_unescaped.ensures ∙ c.if-not-is_unescaped.false in (
      one_more_scanned false c.args.line.now inside inside c.in_ok-rest.rest.now c.args.members.now c.scan_member.new.members
          (none_scanned c.args.line.now inside c.args.members.now c.in_ok-behind.ensures c.requires) refl c.in_ok-rest.ensures,
      unescaped_behind_member inside c.in_ok-rest.rest.now c.args.members.now c.scan_member.new.members c.in_ok-rest.ensures
          (unescaped_behind c.args.line.now inside 123 c.in_ok-behind.ensures unescaped),
      search rules,
    )

pub loop-others-preserved : goal.loop-others-preserved
loop-others-preserved c = (
  one_more_scanned true c.args.line.now c.loop-others.rest.now c.in-Some.others.now c.in_ok-rest-2.rest.now c.loop-others.members
      c.scan_member-in-Some.new.members c.loop-others.invariant.0 c.in-Some.ensures c.in_ok-rest-2.ensures,
  unescaped_behind_member c.in-Some.others.now c.in_ok-rest-2.rest.now c.loop-others.members c.scan_member-in-Some.new.members c.in_ok-rest-2.ensures
      (unescaped_behind c.loop-others.rest.now c.in-Some.others.now 44 c.in-Some.ensures c.loop-others.invariant.1),
  search rules,
)

pub returns-then-eq : goal.returns-then-eq
returns-then-eq c = all_scanned c.args.line.now c.loop-others.rest.now c.loop-others.members c.loop-others.invariant.0
    ((bytes_eq-Decides c.loop-others.rest.now (codes "}")).0 (sym c.eq.ensures ∙ c.if-eq.true))
