-- Goals of `World::advance`.
use Rattle.std.proofs.Common.{refl, false, subst, rules}
use Rattle.cb_schedule.specs.Plays.{Steps}
use Rattle.cb_schedule.specs.WorldState.{WorldState}
use Rattle.cb_schedule.proofs.Worlds.{stepped}
use Rattle.cb_schedule.proofs.world.World.advance.Goals as goal

pub invariant_of-self-2 : goal.invariant_of-self-2
invariant_of-self-2 g c = (stepped _ _ c.args.event c.callback_read.ensures.promise c.self.invariant c.if-self.false refl refl c.tell.ensures.opening c.in_ok-tell.ensures.ok).0

pub returns-then-self-clause-ok : goal.returns-then-self-clause-ok
returns-then-self-clause-ok g c = tt

pub returns-then-self-clause-stays : goal.returns-then-self-clause-stays
returns-then-self-clause-stays g c = search rules

pub returns-clause-ok : goal.returns-clause-ok
returns-clause-ok g c =
    let one = (stepped _ (record { limits = c.self.inside.limits; net = c.tell.new.net; opening = c.tell.new.transcript.opening; transcript = c.tell.new.transcript.entries; commits = c.tell.new.transcript.commits; stopped = false }) c.args.event c.callback_read.ensures.promise c.self.invariant c.if-self.false refl refl c.tell.ensures.opening c.in_ok-tell.ensures.ok).1 in
    (one.0, subst (λ (w : WorldState). Steps w c.args.event one.0 (record { limits = c.self.inside.limits; net = c.tell.new.net; opening = c.tell.new.transcript.opening; transcript = c.tell.new.transcript.entries; commits = c.tell.new.transcript.commits; stopped = false })) c.self.view_is one.1)
