-- Goals of `Client::new`.
use Rattle.std.proofs.Common.{ℕ, refl, subst}
use Rattle.cb_page.specs.Numbers.{IsNumber}
use Rattle.cb_client_core.proofs.Reaching.{starts, starts_sound}
use Rattle.cb_client.proofs.client.Client.new.Goals as goal

pub invariant_of-result : goal.invariant_of-result
invariant_of-result g c = rw (c.in_ok-copies.ensures, c.in_ok-locks.ensures)
    (starts_sound c.args.no c.args.incarnation c.args.limits.now c.requires.client (subst (λ (n : ℕ). IsNumber n) c.get-known.ensures.value (c.get-known.ensures.least, c.get-known.ensures.greatest)))

pub returns-clause-state : goal.returns-clause-state
returns-clause-state g c = rw (c.in_ok-copies.ensures, c.in_ok-locks.ensures) refl

pub returns-clause-by_table : goal.returns-clause-by_table
returns-clause-by_table g c = rw (c.in_ok-copies.ensures, c.in_ok-locks.ensures) (starts c.args.no c.args.incarnation c.args.limits.now)
