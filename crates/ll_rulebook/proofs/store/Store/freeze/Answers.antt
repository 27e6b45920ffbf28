use Rattle.std.proofs.Common.{◌≡◌, length, refl, rules, Some}
use Rattle.ll_rulebook.proofs.Frozen.{frozen_already, freezes, frozen_now}
use Rattle.ll_rulebook.proofs.store.Store.freeze.Goals as goal

pub returns-in-Some : goal.returns-in-Some
returns-in-Some c =
    (frozen_already c.self.inside.rulesets.items c.self.inside.layers.items c.args.self.now c.self.view_is c.args.index c.requires.there
    c.index_mut-stored.result.now c.index_mut-stored.ensures.value c.in-Some.id c.in-Some.is c.self.invariant)

pub invariant_of-self-2 : goal.invariant_of-self-2
invariant_of-self-2 c =
    let last : c.len.result ≡ length c.self.inside.layers.items = search rules in
    rw (c.push_reserved.ensures.items, c.in_ok-reserve.ensures.items, c.in_ok-layer.ensures)
    (frozen_now c.self.inside.rulesets.items c.self.inside.layers.items c.args.self.now c.self.view_is c.args.index c.requires.there
    c.index_mut-stored.result.now c.index_mut-stored.ensures.value
    (record { «ruleset» = c.index_mut-stored.result.now.«ruleset»; frozen = Some (record { 0 = c.len.result }) })
    (λ id named. let it : record { 0 = c.len.result } ≡ id = cc in cc) refl c.self.invariant)

pub returns : goal.returns
returns c =
    let last : c.len.result ≡ length c.self.inside.layers.items = search rules in
    rw (c.push_reserved.ensures.items, c.in_ok-reserve.ensures.items, c.in_ok-layer.ensures)
    (freezes c.self.inside.rulesets.items c.self.inside.layers.items c.args.self.now c.self.view_is c.args.index c.requires.there c.index_mut-stored.result.now
    c.index_mut-stored.ensures.value
    (record { «ruleset» = c.index_mut-stored.result.now.«ruleset»; frozen = Some (record { 0 = c.len.result }) }) (record { 0 = c.len.result }) refl last)
