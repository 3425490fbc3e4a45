-- Goals of `Commits::flushed`.
use Rattle.std.proofs.Common.{◌≡◌, ◌-◌, ◌∙◌, arith, length, rules, sym}
use Rattle.cb_commit.specs.History.{CommitsState, remembered}
use Rattle.cb_commit.specs.Memory.{commits_in}
use Rattle.cb_commit.proofs.Remembering.{dones_remembered, kept}
use Rattle.cb_commit.proofs.commits.Commits.flushed.Goals as goal

pub returns-clause-dones : goal.returns-clause-dones
returns-clause-dones c =
    let s : CommitsState = commits_in c.self.inside.opening.items c.self.inside.store c.self.inside.commits c.self.inside.flushed in
    let are = c.self.invariant.0 in
    let may = rw (← c.self.view_is) at c.requires in
    let have : c.remembered-commits.result.now ≡ remembered s = c.remembered-commits.ensures.value in
    let last : c.number-last.result ≡ s.store.number = c.number-last.ensures.value in
    let count : length (remembered s) - (s.store.number - c.get.result) - (length (remembered s) - (s.store.number - s.flushed)) ≡ c.args.number - s.flushed =
    omega (arith, kept s are, c.get.ensures.value, may.above, may.there, are.forgotten_on_disk) in
    c.in_ok-frames.ensures.dones ∙ rw (have, last, count, ← c.self.view_is) (sym (dones_remembered s c.args.number are may))

pub invariant_of-self : goal.invariant_of-self
invariant_of-self c = search rules

pub returns-clause-ok : goal.returns-clause-ok
returns-clause-ok c = search rules
