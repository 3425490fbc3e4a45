-- Goals of `next_life`.
use Rattle.std.proofs.Common.{subst, ◌∙◌}
use Rattle.cb_commit.specs.History.{AreCommits}
use Rattle.cb_server_state.specs.declared.server_state.ServerState.{ServerState}
use Rattle.cb_schedule.proofs.NextLives.{leaves, left_of, life_commits}
use Rattle.cb_schedule.proofs.life.next_life.Goals as goal

pub store_on_disk-requires-clause-fit : goal.store_on_disk-requires-clause-fit
store_on_disk-requires-clause-fit c =
    (life_commits c.args.server.now c.args.limits.now c.args.opening.now _ c.committed.result.now c.first.result.now c.limits-arose.ensures.arose
    (subst (λ (s : ServerState). AreCommits s.commits) c.state.ensures.value c.last_flushed-numbered.ensures.sound) c.requires.limits c.requires.opening c.requires.forgotten c.committed.ensures.value c.first.ensures).fit

pub store_on_disk-requires-clause-numbered : goal.store_on_disk-requires-clause-numbered
store_on_disk-requires-clause-numbered c =
    (life_commits c.args.server.now c.args.limits.now c.args.opening.now _ c.committed.result.now c.first.result.now c.limits-arose.ensures.arose
    (subst (λ (s : ServerState). AreCommits s.commits) c.state.ensures.value c.last_flushed-numbered.ensures.sound) c.requires.limits c.requires.opening c.requires.forgotten c.committed.ensures.value c.first.ensures).numbered

pub resume-requires : goal.resume-requires
resume-requires c =
    let life = life_commits c.args.server.now c.args.limits.now c.args.opening.now _ c.committed.result.now c.first.result.now c.limits-arose.ensures.arose
    (subst (λ (s : ServerState). AreCommits s.commits) c.state.ensures.value c.last_flushed-numbered.ensures.sound) c.requires.limits c.requires.opening c.requires.forgotten c.committed.ensures.value c.first.ensures in
    left_of c.args.limits.now c.args.opening.now c.in_ok-copy.field-0 c.first.result.now life.of (c.in_ok-copy.ensures ∙ c.in_ok-store.ensures)

pub returns-clause-store : goal.returns-clause-store
returns-clause-store c =
    leaves c.args.server.now c.args.limits.now c.args.opening.now c.in_ok-store.store c.args.number c.number.result c.committed.result.now c.first.result.now c.limits-arose.ensures.arose
    (subst (λ (s : ServerState). AreCommits s.commits) c.state.ensures.value c.last_flushed-numbered.ensures.sound) c.requires.limits c.requires.opening c.requires.forgotten c.committed.ensures.value c.number.ensures.value c.first.ensures c.in_ok-store.ensures
