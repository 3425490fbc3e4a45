-- Goals of `new_clients`.
use Rattle.std.proofs.Common.{rules, ◌≡◌, ◌++◌, ◌∷◌, [], ℕ, subst, arith}
use Rattle.cb_schedule.specs.WorldClientsState.{first_clients}
use Rattle.cb_schedule.proofs.ClientWorlds.{first_pushed}
use Rattle.cb_schedule.proofs.world_clients.new_clients.Goals as goal

pub loop-number-preserved : goal.loop-number-preserved
loop-number-preserved g c =
    let pushed : c.push.new.self.items ≡ c.loop-number.clients.items ++ c.in_ok-client.client ∷ [] = search rules in
    first_pushed c.args.limits.now c.loop-number.number c.new.result c.loop-number.clients.items c.push.new.self.items c.in_ok-client.client
    c.loop-number.invariant c.in_ok-client.ensures c.new.ensures pushed

pub returns : goal.returns
returns g c =
    let at_end : c.loop-number.number ≡ c.args.limits.now.clients =
    omega (arith, c.loop-number.auto.number-end, c.loop-number-test.false, c.clients-number-end.ensures.value) in
    subst (λ (number : ℕ). c.loop-number.clients.items ≡ first_clients c.args.limits.now number) at_end c.loop-number.invariant
