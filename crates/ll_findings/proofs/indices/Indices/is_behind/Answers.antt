use Rattle.std.proofs.Common.{◌≡◌, ◌<◌, ℕ, get_or, length, nat_lt, rules, subst, arith}
use Rattle.std.proofs.lemmas.Bool.{OnTrue_from, ltb-true}
use Rattle.ll_findings.specs.Overlays.{Rise}
use Rattle.ll_findings.proofs.Rising.{all_before}
use Rattle.ll_findings.proofs.indices.Indices.is_behind.Goals as goal

-- what is there is above all before it
pub returns-in-Some-get : goal.returns-in-Some-get
returns-in-Some-get c =
    let within : c.in-Some.last < length c.args.self.now = search rules in
    let read : c.in-Some-get.before.now ≡ get_or c.args.self.now c.in-Some.last c.in-Some-get.before.now = search rules in
    OnTrue_from (nat_lt c.in-Some-get.before.now c.args.index) ((at : ℕ) → at < c.args.position → get_or c.args.self.now at 0 < c.args.index) (λ yes.
    all_before c.args.self.now c.in-Some.last c.args.position c.args.index c.in-Some-get.before.now (subst (Rise 0) c.self.view_is c.self.invariant)
    (omega (arith, c.in-Some.ensures)) within read (ltb-true c.in-Some-get.before.now c.args.index yes))
