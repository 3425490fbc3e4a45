-- As many entries of the history are forgotten as commits.
use Rattle.std.proofs.Common.{◌≡◌, ◌+◌, ◌-◌, ◌≤◌, ℕ, length, reverse, map, sym, ◌∙◌, ap, arith}
use Rattle.std.proofs.lemmas.List.{length-drop, length-map, length-reverse}
use Rattle.cb_commit.specs.History.{AreCommits, CommitsState, remembered}
use Rattle.cb_hands.specs.Running.{noted, noted_commit}
use Rattle.cb_hands.specs.declared.entry.Entry.{Entry}
use Rattle.cb_mailboxes.specs.Dispatching as dispatching
use Rattle.cb_mailboxes.specs.Dispatching.{DispatcherState}
use Rattle.cb_commit.specs.Past as past
use Rattle.cb_commit.specs.Past.{PastState}
use Rattle.cb_server.proofs.Serving.{arises_forgotten}
use Rattle.cb_server.specs.ServerValue.{commits_of}
use Rattle.cb_server_state.specs.Commits.{applied_commit}
use Rattle.cb_server_state.specs.States.{newest_first}
use Rattle.cb_server_state.specs.declared.server_state.ServerState.{ServerState}
use Rattle.cb_station.specs.Stations.{IsStation, StationState, forgot}

-- nothing is forgotten where nothing changes but room
pub still_forgotten : (entries : ℕ) (old new : DispatcherState) → entries ≡ (commits_of old.server).forgotten → dispatching.IsUnchanged old new → entries ≡ (commits_of new.server).forgotten
still_forgotten entries old new are same = are ∙ sym (ap (λ (s : ServerState). s.commits.forgotten) same.server.rest)

-- there is an entry for each commit
pub as_many : (station : StationState) → IsStation station → length station.history ≡ length (commits_of station.dispatcher.server).commits
as_many station is =
    let entries = station.history in
    let commits = (commits_of station.dispatcher.server).commits in
    sym (length-reverse entries) ∙ sym (length-map (reverse entries) noted) ∙ ap length is.replays.commits
    ∙ length-map (newest_first commits) noted_commit ∙ length-reverse (map applied_commit commits) ∙ length-map commits applied_commit

-- a station whose commits are forgotten is one
pub forgets_station : (station : StationState) (number : ℕ) → IsStation station → IsStation (forgot station number)
forgets_station station number is = record {
  arisen = arises_forgotten station.dispatcher.server number is.arisen;
  plain = is.plain;
  clients = is.clients;
  legal = is.legal;
  replays = is.replays;
  hand = is.hand;
  flags = is.flags;
}

-- So many entries more are to be forgotten as the history has more in memory than there are commits.
pub behind : (history : PastState Entry) (commits : CommitsState) → length history.items ≡ length commits.commits → AreCommits commits → history.forgotten ≤ commits.forgotten
    → history.forgotten + (length (past.remembered history) - length (remembered commits)) ≡ commits.forgotten
behind history commits as_many are less =
    omega (arith, as_many, less, length-drop history.forgotten history.items, length-drop commits.forgotten commits.commits, are.count, are.forgotten_on_disk, are.to_last)
