-- Goals of `Lives::new`.
use Rattle.cb_schedule.proofs.OverLives.{begins}
use Rattle.cb_schedule.proofs.Worlds.{sound_opening}
use Rattle.cb_schedule.proofs.lives.Lives.new.Goals as goal

pub invariant_of-result : goal.invariant_of-result
invariant_of-result g c =
    (begins c.args.limits.now c.in_ok-new.field-0 c.args.store (sound_opening c.args.store c.number-known.ensures.sound) c.in_ok-new.ensures.limits c.in_ok-new.ensures.opening c.in_ok-new.ensures.represents
    c.in_ok-first.first c.in_ok-opening.opening c.new-2.result c.in_ok-first.ensures c.in_ok-opening.ensures c.new-2.ensures).0

pub returns-clause-represents : goal.returns-clause-represents
returns-clause-represents g c =
    (begins c.args.limits.now c.in_ok-new.field-0 c.args.store (sound_opening c.args.store c.number-known.ensures.sound) c.in_ok-new.ensures.limits c.in_ok-new.ensures.opening c.in_ok-new.ensures.represents
    c.in_ok-first.first c.in_ok-opening.opening c.new-2.result c.in_ok-first.ensures c.in_ok-opening.ensures c.new-2.ensures).1

pub returns-clause-holds : goal.returns-clause-holds
returns-clause-holds g c =
    (begins c.args.limits.now c.in_ok-new.field-0 c.args.store (sound_opening c.args.store c.number-known.ensures.sound) c.in_ok-new.ensures.limits c.in_ok-new.ensures.opening c.in_ok-new.ensures.represents
    c.in_ok-first.first c.in_ok-opening.opening c.new-2.result c.in_ok-first.ensures c.in_ok-opening.ensures c.new-2.ensures).2
