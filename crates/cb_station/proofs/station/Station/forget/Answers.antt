-- Goals of `Station::forget`.
use Rattle.std.proofs.Common.{◌≡◌, ◌+◌, ◌-◌, ◌≤◌, ◌∙◌, ap, arith, length, refl, sym, subst}
use Rattle.cb_commit.specs.History as commits
use Rattle.cb_commit.specs.History.{AreCommits, CommitsState}
use Rattle.cb_mailboxes.specs.Dispatching.{DispatcherState}
use Rattle.cb_server.specs.ServerValue.{ServerValue, commits_of}
use Rattle.cb_server_state.specs.declared.server_state.ServerState.{ServerState}
use Rattle.cb_station.specs.Stations.{StationState, server_of}
use Rattle.cb_station.proofs.Remembering.{as_many, behind, forgets_station}
use Rattle.cb_station.proofs.station.Station.forget.Goals as goal

pub forget-requires : goal.forget-requires
forget-requires c = record { on_disk = rw c.number.ensures (subst (λ (v : StationState). c.args.written ≤ (server_of v).flushed) (sym c.self.view_is) c.requires.on_disk) }

pub forget-requires-2 : goal.forget-requires-2
forget-requires-2 c =
    let station : StationState = record { dispatcher = c.self.inside.dispatcher; hands = c.self.inside.hands; history = c.self.inside.history.items; flags = c.self.inside.flags } in
    let new : CommitsState = commits.forgot (commits_of c.self.inside.dispatcher.server) c.number.result in
    let same : c.state.result.now.commits ≡ new = ap (λ (s : ServerState). s.commits) c.state.ensures.value ∙ ap (λ (x : ServerValue). commits_of x) c.server.ensures.value ∙ ap (λ (d : DispatcherState). commits_of d.server) c.forget.ensures in
    let are : AreCommits new = subst AreCommits same c.committed.ensures.sound in
    let kept = ap length (c.committed.ensures.value ∙ ap commits.remembered same) in
    let entries = as_many station c.self.invariant.0 in
    let all = behind c.self.inside.history new entries are (omega (arith, c.self.invariant.1)) in
    omega (arith, all, kept, entries, ap length c.remembered.ensures.value, are.count, are.forgotten_on_disk, are.to_last)

pub invariant_of-self : goal.invariant_of-self
invariant_of-self c =
    let station : StationState = record { dispatcher = c.self.inside.dispatcher; hands = c.self.inside.hands; history = c.self.inside.history.items; flags = c.self.inside.flags } in
    let new : CommitsState = commits.forgot (commits_of c.self.inside.dispatcher.server) c.number.result in
    let same : c.state.result.now.commits ≡ new = ap (λ (s : ServerState). s.commits) c.state.ensures.value ∙ ap (λ (x : ServerValue). commits_of x) c.server.ensures.value ∙ ap (λ (d : DispatcherState). commits_of d.server) c.forget.ensures in
    let are : AreCommits new = subst AreCommits same c.committed.ensures.sound in
    let kept = ap length (c.committed.ensures.value ∙ ap commits.remembered same) in
    let all = behind c.self.inside.history new (as_many station c.self.invariant.0) are (omega (arith, c.self.invariant.1)) in
    let count : c.self.inside.history.forgotten + (length c.remembered.result.now - length c.committed.result.now) ≡ new.forgotten = omega (arith, all, kept, ap length c.remembered.ensures.value) in
    rw (c.forget.ensures, c.forget-2.ensures.items) (forgets_station station c.number.result c.self.invariant.0, c.forget-2.ensures.forgotten ∙ count, c.self.invariant.2)

pub returns : goal.returns
returns c = rw (c.forget.ensures, c.forget-2.ensures.items, c.number.ensures, ← c.self.view_is) refl
