-- Goals of `Station::new`.
use Rattle.std.proofs.Common.{rules, ℕ, Option, None, ◌∙◌, ap, sym, replicate}
use Rattle.cb_hands.specs.Hands.{HandState}
use Rattle.cb_station.proofs.Calls.{new_station}
use Rattle.cb_commit.specs.History.{CommitsState}
use Rattle.cb_station.proofs.Holding.{holds_new}
use Rattle.cb_station.proofs.station.Station.new.Goals as goal

pub invariant_of-result : goal.invariant_of-result
invariant_of-result c =
    let none : Option HandState = None in (
      new_station c.args.limits.now c.args.store _ c.in_ok-new.ensures.new c.in_ok-new.ensures.arose c.requires.plain
          (c.in_ok-new-2.ensures ∙ ap (λ (n : ℕ). replicate n none) c.clients.ensures.value) (search rules) (search rules),
      c.new-3.ensures.forgotten ∙ sym (ap (λ (k : CommitsState). k.forgotten) c.in_ok-new.ensures.new.commits),
      holds_new c.args.limits.now c.args.store _ _ _ c.in_ok-new.ensures.new (c.in_ok-new-2.ensures ∙ ap (λ (n : ℕ). replicate n none) c.clients.ensures.value),
    )

pub returns-clause-opened : goal.returns-clause-opened
returns-clause-opened c =
    let none : Option HandState = None in
    record {
      mailbox = search rules;
      hands = c.in_ok-new-2.ensures ∙ ap (λ (n : ℕ). replicate n none) c.clients.ensures.value;
      history = search rules;
      flags = search rules;
      window = search rules;
      told = search rules;
    }
