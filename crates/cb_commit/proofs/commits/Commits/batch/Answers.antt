-- Goals of `Commits::batch`.
use Rattle.std.proofs.Common.{rules, subst}
use Rattle.cb_commit.specs.History.{AreCommits}
use Rattle.cb_commit.proofs.Changed.{changed_is_batch}
use Rattle.cb_commit.proofs.Folding.{catches_up}
use Rattle.cb_commit.proofs.commits.Commits.batch.Goals as goal

pub new-requires : goal.new-requires
new-requires c =
    rw (c.new-number.ensures, c.number-2.ensures.value, c.in_ok-pages.ensures, ← c.self.view_is) (changed_is_batch c.self.inside.flushed c.self.inside.store c.number-2.ensures.sound)

pub returns-clause-catches_up : goal.returns-clause-catches_up
returns-clause-catches_up c =
    let are : AreCommits c.args.self.now = subst AreCommits c.self.view_is c.self.invariant.0 in
    rw (c.new.ensures, c.new-number.ensures, c.number-2.ensures.value, c.in_ok-pages.ensures) (rw (← c.self.view_is) (catches_up _ c.self.invariant.0))

pub returns-clause-batch : goal.returns-clause-batch
returns-clause-batch c = search rules

pub returns-clause-can_flush : goal.returns-clause-can_flush
returns-clause-can_flush c = search rules
