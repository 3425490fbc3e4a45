-- Goals of `Station::resume`.
use Rattle.std.proofs.Common.{rules, ℕ, Option, None, ◌∙◌, ap, sym, replicate}
use Rattle.cb_hands.specs.Hands.{HandState}
use Rattle.cb_station.proofs.Calls.{resumed_station}
use Rattle.cb_station.proofs.Holding.{holds_resumed}
use Rattle.cb_station.proofs.station.Station.resume.Goals as goal

pub invariant_of-result : goal.invariant_of-result
invariant_of-result c =
    let none : Option HandState = None in (
      resumed_station c.args.limits.now c.args.store c.args.floor _ c.in_ok-resume.ensures.resumed c.in_ok-resume.ensures.arose c.requires.plain
          (c.in_ok-new.ensures ∙ ap (λ (n : ℕ). replicate n none) c.clients-clients.ensures.value) (search rules) (search rules),
      c.new-2.ensures.forgotten ∙ sym c.in_ok-resume.ensures.resumed.forgotten,
      holds_resumed c.args.limits.now c.args.store c.args.floor _ _ _ c.in_ok-resume.ensures.resumed (c.in_ok-new.ensures ∙ ap (λ (n : ℕ). replicate n none) c.clients-clients.ensures.value),
    )

pub returns-clause-opened : goal.returns-clause-opened
returns-clause-opened c =
    let none : Option HandState = None in
    record {
      mailbox = search rules;
      hands = c.in_ok-new.ensures ∙ ap (λ (n : ℕ). replicate n none) c.clients-clients.ensures.value;
      history = search rules;
      flags = search rules;
      window = search rules;
      told = search rules;
    }
