-- Goals of `FifoChooser::reference`.
use Rattle.std.proofs.Common.{◌≡◌, ◌≤◌, ◌<◌, ◌∷◌, length, false, Some, rules, refl, sym, ◌∙◌, arith}
use Rattle.cb_twoq.specs.Pages.{has}
use Rattle.cb_twoq.specs.Queues.{oldest_unfixed}
use Rattle.cb_twoq.proofs.Counts.{oldest_there}
use Rattle.cb_twoq.proofs.InOrder.{comes, replaces, refused}
use Rattle.cb_layer_tests.proofs.pool.fifo.FifoChooser.reference.Goals as goal

pub invariant_of-self-then-len-self : goal.invariant_of-self-then-len-self
invariant_of-self-then-len-self c =
    let out : has c.self.inside.pages.items c.args.page ≡ false = search rules in
    let room : length c.self.inside.pages.items < c.self.inside.slots = omega arith in
    let items : c.push_front.new.self.items ≡ c.args.page ∷ c.self.inside.pages.items = search rules in
    rw items (comes _ c.args.fixed.now _ c.args.page c.self.invariant out room).kept

pub push_front_reserved-requires : goal.push_front_reserved-requires
push_front_reserved-requires c =
    let found : oldest_unfixed c.args.fixed.now c.self.inside.pages.items ≡ Some c.in-Some.gone = search rules in
    let t = oldest_there c.args.fixed.now c.self.inside.pages.items c.in-Some.gone found in
    let l = c.take_off.ensures.shorter (c.take_off.ensures.there ∙ t.0) in omega arith

pub invariant_of-self-in-Some : goal.invariant_of-self-in-Some
invariant_of-self-in-Some c =
    let out : has c.self.inside.pages.items c.args.page ≡ false = search rules in
    let full : c.self.inside.slots ≤ length c.self.inside.pages.items = omega arith in
    let found : oldest_unfixed c.args.fixed.now c.self.inside.pages.items ≡ Some c.in-Some.gone = search rules in
    rw (c.push_front_reserved.ensures.items, c.take_off.ensures.items) (replaces _ c.args.fixed.now _ c.args.page c.self.invariant c.in-Some.gone out full found).kept

pub returns-in-Some-clause-ok : goal.returns-in-Some-clause-ok
returns-in-Some-clause-ok c =
    let out : has c.self.inside.pages.items c.args.page ≡ false = search rules in
    let full : c.self.inside.slots ≤ length c.self.inside.pages.items = omega arith in
    let found : oldest_unfixed c.args.fixed.now c.self.inside.pages.items ≡ Some c.in-Some.gone = search rules in
    rw (c.push_front_reserved.ensures.items, c.take_off.ensures.items, ← c.self.view_is)
    (replaces _ c.args.fixed.now _ c.args.page c.self.invariant c.in-Some.gone out full found).chooses

pub returns-in-Some-clause-full : goal.returns-in-Some-clause-full
returns-in-Some-clause-full c =
    let out : has c.self.inside.pages.items c.args.page ≡ false = search rules in
    let full : c.self.inside.slots ≤ length c.self.inside.pages.items = omega arith in
    let found : oldest_unfixed c.args.fixed.now c.self.inside.pages.items ≡ Some c.in-Some.gone = search rules in
    let n = replaces _ c.args.fixed.now _ c.args.page c.self.invariant c.in-Some.gone out full found in
    (λ e. absurd (cc), rw (← c.self.view_is) (λ f. absurd (n.not_full f)))

pub returns-in-Some-clause-within : goal.returns-in-Some-clause-within
returns-in-Some-clause-within c =
    let out : has c.self.inside.pages.items c.args.page ≡ false = search rules in
    let full : c.self.inside.slots ≤ length c.self.inside.pages.items = omega arith in
    let found : oldest_unfixed c.args.fixed.now c.self.inside.pages.items ≡ Some c.in-Some.gone = search rules in
    rw (c.push_front_reserved.ensures.items, c.take_off.ensures.items) (replaces _ c.args.fixed.now _ c.args.page c.self.invariant c.in-Some.gone out full found).kept.within

pub returns-in-None-clause-full : goal.returns-in-None-clause-full
returns-in-None-clause-full c =
    let out : has c.self.inside.pages.items c.args.page ≡ false = search rules in
    let full : c.self.inside.slots ≤ length c.self.inside.pages.items = omega arith in
    let f = refused c.self.inside.slots c.args.fixed.now c.self.inside.pages.items c.args.page c.self.invariant out full (sym c.in-None.ensures) in
    (rw (← c.self.view_is) (λ _. f), λ _. refl)
