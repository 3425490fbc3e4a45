-- Goals of `Client::restart`.
use Rattle.std.proofs.Common.{ℕ, refl, subst}
use Rattle.cb_page.specs.Numbers.{IsNumber}
use Rattle.cb_client_core.proofs.Reaching.{starts, starts_sound}
use Rattle.cb_client.proofs.client.Client.restart.Goals as goal

pub invariant_of-self : goal.invariant_of-self
invariant_of-self g c =
    let core = c.self.inside.core in
    rw (c.restart.ensures, c.restart-2.ensures, c.self.invariant.same_client, c.self.invariant.locked)
    (starts_sound core.no c.args.incarnation core.copies.limits c.self.invariant.no (subst (λ (n : ℕ). IsNumber n) c.get-known.ensures.value (c.get-known.ensures.least, c.get-known.ensures.greatest)))

pub returns-clause-state : goal.returns-clause-state
returns-clause-state g c = rw (← c.self.view_is, c.restart.ensures, c.restart-2.ensures, c.self.invariant.same_client, c.self.invariant.locked) refl

pub returns-clause-by_table : goal.returns-clause-by_table
returns-clause-by_table g c =
    let core = c.self.inside.core in
    rw (c.restart.ensures, c.restart-2.ensures, c.self.invariant.same_client, c.self.invariant.locked) (starts core.no c.args.incarnation core.copies.limits)
