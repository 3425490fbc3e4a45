-- What a message's incarnation and transaction are to the protocol's server.
use Rattle.std.specs.Prelude.{◌≡◌, ℕ, true, nat_lt, ◌==◌, if◌then◌else◌, [], ◌∷◌}
use Rattle.cb_links.specs.declared.sessions.Admission.{Admission}
use Rattle.cb_links.specs.declared.sessions.Admission.TheVariants.{Stale, Current, Unknown}
use Rattle.cb_links.specs.declared.sessions.Standing.{Standing}
use Rattle.cb_links.specs.declared.sessions.Standing.TheVariants as standing
use Rattle.cb_protocol.specs.Server.{ChangeSession, ForgetTransaction, Server, has_not_ended}
use Rattle.cb_protocol.specs.Server.{server_after}
use Rattle.cb_protocol.specs.Session.{BeginTransaction, has_live_txn}

-- greater than the current incarnation, equal to it or less (this project's rule)
abbrev pub admission_in : Server → (client incarnation : ℕ) → Admission
admission_in server client incarnation =
    if nat_lt (server.session client).current incarnation then Unknown
    else if incarnation == (server.session client).current then Current else Stale

-- later than the last transaction begun; else not ended, doomed or not; else ended (this project's
-- rule)
abbrev pub standing_in : Server → (client txn : ℕ) → Standing
standing_in server client txn =
    if nat_lt (server.session client).txn txn then standing.Later
    else if has_not_ended server client txn
    then (if server.doomed client then standing.Doomed else standing.Live)
    else standing.Ended

-- it is the client's last transaction, which lives
pub record IsLast (server : Server) (client txn : ℕ) : Type 0 where
  pub is : txn ≡ (server.session client).txn
  pub lives : has_live_txn (server.session client) ≡ true

-- where it has not ended and is not later
abbrev pub IsLastIfLive : Standing → Server → (client txn : ℕ) → Type 0
IsLastIfLive standing.Live server client txn = IsLast server client txn
IsLastIfLive standing.Doomed server client txn = IsLast server client txn
IsLastIfLive _ server client txn = Unit {0}

-- the server once that transaction of the client has begun
abbrev pub begun_server : Server → (client txn : ℕ) → Server
begun_server server client txn = server_after server
    (ForgetTransaction client ∷ ChangeSession client (BeginTransaction txn) ∷ [])
