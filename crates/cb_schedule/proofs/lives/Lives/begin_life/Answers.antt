-- Goals of `Lives::begin_life`.
use Rattle.std.proofs.Common.{◌≡◌, ◌-◌, ◌+◌, false, ap, length, subst, sym, ◌∙◌, arith}
use Rattle.cb_commit.specs.History.{AreCommits, store_at}
use Rattle.cb_commit.specs.Stores.{StoreState}
use Rattle.cb_server.specs.ServerValue.{IsResumed, ServerValue, commits_of}
use Rattle.cb_server_state.specs.declared.server_state.ServerState.{ServerState}
use Rattle.cb_transcript.specs.declared.lives_transcript.LivesEntry.TheVariants as entry
use Rattle.cb_transcript.specs.declared.restart.RestartAnswer.TheVariants as restart
use Rattle.cb_schedule.proofs.OverLives.{Ends, kept_count, restarted}
use Rattle.cb_schedule.proofs.lives.Lives.begin_life.Goals as goal
use Rattle.cb_schedule.specs.LivesPlays.{LivesStep}
use Rattle.cb_schedule.specs.LivesState.{IsAnswerOf, LivesState}
use Rattle.cb_schedule.specs.NextLife.{LeavesStore}

pub next_life-requires-clause-limits : goal.next_life-requires-clause-limits
next_life-requires-clause-limits g c = c.server-server.ensures.limits ∙ (c.self.invariant.running c.if-self.false).limits

pub overflow_sub-lost : goal.overflow_sub-lost
overflow_sub-lost g c =
    let v : LivesState = record { limits = c.self.inside.limits; net = c.self.inside.net; opening = c.self.inside.opening; floor = c.self.inside.floor; former = c.self.inside.former; told = c.self.inside.told; stopped = c.self.inside.stopped } in
    let asked = subst (λ (w : LivesState). IsAnswerOf w c.args.floor c.args.number restart.Restarted) (sym c.self.view_is) c.requires in
    let last : c.number.result ≡ (commits_of c.self.inside.net.server).store.number = c.number.ensures.value ∙ ap (λ (x : StoreState). x.number) (c.store.ensures.value ∙ ap (λ (x : ServerState). x.commits.store) (c.state.ensures.value ∙ ap (λ (x : ServerValue). x.state) c.server-server.ensures.value)) in
    let made = asked.1.made in
    omega (arith, made, last)

pub overflow_sub-count : goal.overflow_sub-count
overflow_sub-count g c =
    let v : LivesState = record { limits = c.self.inside.limits; net = c.self.inside.net; opening = c.self.inside.opening; floor = c.self.inside.floor; former = c.self.inside.former; told = c.self.inside.told; stopped = c.self.inside.stopped } in
    let asked = subst (λ (w : LivesState). IsAnswerOf w c.args.floor c.args.number restart.Restarted) (sym c.self.view_is) c.requires in
    let last : c.number.result ≡ (commits_of c.self.inside.net.server).store.number = c.number.ensures.value ∙ ap (λ (x : StoreState). x.number) (c.store.ensures.value ∙ ap (λ (x : ServerState). x.commits.store) (c.state.ensures.value ∙ ap (λ (x : ServerValue). x.state) c.server-server.ensures.value)) in
    let are : AreCommits (commits_of c.self.inside.net.server) = subst (λ (x : ServerState). AreCommits x.commits) (c.state.ensures.value ∙ ap (λ (x : ServerValue). x.state) c.server-server.ensures.value) c.store.ensures.sound in
    let kept = kept_count v c.args.number (c.self.invariant.running c.if-self.false) asked.1 are in
    let told : length c.commits.result.now ≡ length c.self.inside.told.commits = ap length c.commits.ensures in
    let enough = kept.0 in
    omega (arith, enough, told, last)

pub invariant_of-self-2 : goal.invariant_of-self-2
invariant_of-self-2 g c =
    let v : LivesState = record { limits = c.self.inside.limits; net = c.self.inside.net; opening = c.self.inside.opening; floor = c.self.inside.floor; former = c.self.inside.former; told = c.self.inside.told; stopped = c.self.inside.stopped } in
    let asked = subst (λ (w : LivesState). IsAnswerOf w c.args.floor c.args.number restart.Restarted) (sym c.self.view_is) c.requires in
    let last : c.number.result ≡ (commits_of c.self.inside.net.server).store.number = c.number.ensures.value ∙ ap (λ (x : StoreState). x.number) (c.store.ensures.value ∙ ap (λ (x : ServerState). x.commits.store) (c.state.ensures.value ∙ ap (λ (x : ServerValue). x.state) c.server-server.ensures.value)) in
    let are : AreCommits (commits_of c.self.inside.net.server) = subst (λ (x : ServerState). AreCommits x.commits) (c.state.ensures.value ∙ ap (λ (x : ServerValue). x.state) c.server-server.ensures.value) c.store.ensures.sound in
    let kept = kept_count v c.args.number (c.self.invariant.running c.if-self.false) asked.1 are in
    let told : length c.commits.result.now ≡ length c.self.inside.told.commits = ap length c.commits.ensures in
    let ends : Ends v c.args.floor c.args.number c.in_ok-life.life.0 c.in_ok-life.life.1 = record {
      new = asked.0;
      may = asked.1;
      leaves = subst (λ (x : ServerValue). LeavesStore x c.args.number c.in_ok-life.life.0) c.server-server.ensures.value c.in_ok-life.ensures.store;
      resumed = subst (λ (x : ServerValue). IsResumed c.self.inside.limits (store_at (commits_of x) c.args.number) c.args.floor c.in_ok-life.life.1) c.server-server.ensures.value c.in_ok-life.ensures.server;
    } in
    let counted : length c.commits.result.now - (c.number.result - c.args.number) ≡ v.former + (c.args.number - v.opening.number) = (λ k. told k - (last k - c.args.number)) ∙ kept.1 in
    let done = restarted v c.args.floor c.args.number c.in_ok-life.life.0 c.in_ok-life.life.1 (length c.commits.result.now - (c.number.result - c.args.number)) c.tell_life.new.told c.restart_server.new.self c.get-self-inside.result
    c.restart_server.ensures c.get-self-inside.ensures.value c.self.invariant c.if-self.false ends counted c.in_ok-tell_life.ensures.ok in
    done.0

pub returns-clause-ok : goal.returns-clause-ok
returns-clause-ok g c =
    let v : LivesState = record { limits = c.self.inside.limits; net = c.self.inside.net; opening = c.self.inside.opening; floor = c.self.inside.floor; former = c.self.inside.former; told = c.self.inside.told; stopped = c.self.inside.stopped } in
    let asked = subst (λ (w : LivesState). IsAnswerOf w c.args.floor c.args.number restart.Restarted) (sym c.self.view_is) c.requires in
    let last : c.number.result ≡ (commits_of c.self.inside.net.server).store.number = c.number.ensures.value ∙ ap (λ (x : StoreState). x.number) (c.store.ensures.value ∙ ap (λ (x : ServerState). x.commits.store) (c.state.ensures.value ∙ ap (λ (x : ServerValue). x.state) c.server-server.ensures.value)) in
    let are : AreCommits (commits_of c.self.inside.net.server) = subst (λ (x : ServerState). AreCommits x.commits) (c.state.ensures.value ∙ ap (λ (x : ServerValue). x.state) c.server-server.ensures.value) c.store.ensures.sound in
    let kept = kept_count v c.args.number (c.self.invariant.running c.if-self.false) asked.1 are in
    let told : length c.commits.result.now ≡ length c.self.inside.told.commits = ap length c.commits.ensures in
    let ends : Ends v c.args.floor c.args.number c.in_ok-life.life.0 c.in_ok-life.life.1 = record {
      new = asked.0;
      may = asked.1;
      leaves = subst (λ (x : ServerValue). LeavesStore x c.args.number c.in_ok-life.life.0) c.server-server.ensures.value c.in_ok-life.ensures.store;
      resumed = subst (λ (x : ServerValue). IsResumed c.self.inside.limits (store_at (commits_of x) c.args.number) c.args.floor c.in_ok-life.life.1) c.server-server.ensures.value c.in_ok-life.ensures.server;
    } in
    let counted : length c.commits.result.now - (c.number.result - c.args.number) ≡ v.former + (c.args.number - v.opening.number) = (λ k. told k - (last k - c.args.number)) ∙ kept.1 in
    let done = restarted v c.args.floor c.args.number c.in_ok-life.life.0 c.in_ok-life.life.1 (length c.commits.result.now - (c.number.result - c.args.number)) c.tell_life.new.told c.restart_server.new.self c.get-self-inside.result
    c.restart_server.ensures c.get-self-inside.ensures.value c.self.invariant c.if-self.false ends counted c.in_ok-tell_life.ensures.ok in
    subst (λ (w : LivesState). LivesStep w (entry.ServerRestarts (record { floor = c.args.floor; number = c.args.number; answer = restart.Restarted })) (record {
      limits = c.self.inside.limits;
      net = c.restart_server.new.self;
      opening = c.in_ok-life.life.0;
      floor = c.get-self-inside.result;
      former = length c.commits.result.now - (c.number.result - c.args.number);
      told = c.tell_life.new.told;
      stopped = false;
    })) c.self.view_is done.1
