-- Goals of `Server::resume`.
use Rattle.std.proofs.Common.{◌≡◌, ◌≤◌, ℕ, ap, arith, rules, subst}
use Rattle.cb_page.specs.Bounds.{Bounds}
use Rattle.cb_server.specs.Taking.{Greets}
use Rattle.cb_server.proofs.Resuming.{HasGreeted, greets_all, greets_next, greets_none}
use Rattle.cb_server.proofs.server.Server.resume.Goals as goal

pub loop-client-init : goal.loop-client-init
loop-client-init c = greets_none c.args.limits.now c.args.store c.args.floor c.in_ok-server.server (search rules)

pub greet-requires : goal.greet-requires
greet-requires c =
    let same = ap (λ (b : Bounds). b.clients) c.loop-client.invariant.limits_are in
    let lt = c.loop-client-test.true in let end = c.clients-client-end.ensures.value in let is = c.new-in-loop-client.ensures in
    record { client = omega (arith, same, lt, end, is) }

pub loop-client-preserved : goal.loop-client-preserved
loop-client-preserved c =
    let l : 1 ≤ c.args.floor = search rules in
    let greets : Greets c.loop-client.server c.new-in-loop-client.result c.args.floor c.greet.new.self = search rules in
    greets_next c.args.limits.now c.args.store c.args.floor c.loop-client.client c.loop-client.server c.greet.new.self l c.loop-client.invariant
    (subst (λ (n : ℕ). Greets c.loop-client.server n c.args.floor c.greet.new.self) c.new-in-loop-client.ensures greets)

pub returns : goal.returns
returns c =
    let ge = c.loop-client-test.false in let end = c.clients-client-end.ensures.value in let far = c.loop-client.auto.client-end in
    let all : c.loop-client.client ≡ c.args.limits.now.clients = omega (arith, ge, end, far) in
    greets_all c.args.limits.now c.args.store c.args.floor c.loop-client.server
    (subst (λ (n : ℕ). HasGreeted c.args.limits.now c.args.store c.args.floor n c.loop-client.server) all c.loop-client.invariant)
