-- What holds at each turn of the loops of `Server::greatest_known`.
use Rattle.std.proofs.Common.{◌<◌, ◌≤◌, ℕ}
use Rattle.cb_links.specs.Changes.{session_of}
use Rattle.cb_server_state.specs.States.{or_zero}
use Rattle.cb_server.proofs.server.Server.greatest_known.Given as goal

-- Those of the clients before this one are no greater. And it is one of a client, or 0: below each
-- number that is above all of them.
abbrev pub invariant-loop-client : goal.invariant-loop-client
invariant-loop-client l = ((c : ℕ) → c < l.client → or_zero (session_of l.state.sessions c).incarnation ≤ or_zero l.greatest)
    × ((below : ℕ) → ((c : ℕ) → or_zero (session_of l.state.sessions c).incarnation < below) → or_zero l.greatest < below)
