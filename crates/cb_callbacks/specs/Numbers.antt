-- Whether a number is lacking for a message, and how its transaction stands.
use Rattle.std.specs.Prelude.{◌≡◌, ℕ, Bool, true}
use Rattle.cb_links.specs.declared.sessions.Standing.{Standing}
use Rattle.cb_protocol.specs.Messages.{Body}
use Rattle.cb_protocol.specs.Server.{Server, has_not_ended, server_after}
use Rattle.cb_protocol.specs.ServerMessages.{begin_transaction, lacks_number, named_txn}
use Rattle.cb_protocol.specs.Session.{has_live_txn}
use Rattle.cb_server_state.specs.Questions.{IsLastIfLive, standing_in}

-- whether a number is lacking for it, once its transaction has begun
abbrev pub LacksNumber : Server → ℕ → Body → Bool → Type 0
LacksNumber server client body answer =
    lacks_number (server_after server (begin_transaction server client (named_txn body)))
    client body ≡ answer

-- So the transaction stands beside the client's last one, as it was asked before it begins.
pub record IsStanding (server : Server) (client txn : ℕ) (standing : Standing) : Type 0 where
  pub is : standing ≡ standing_in server client txn
  pub last : IsLastIfLive standing server client txn

-- The transaction is the client's last one, which lives; doomed or not.
pub record IsLiveOne (server : Server) (client txn : ℕ) (is_doomed : Bool) : Type 0 where
  pub is : txn ≡ (server.session client).txn
  pub lives : has_live_txn (server.session client) ≡ true
  pub not_ended : has_not_ended server client txn ≡ true
  pub doomed : server.doomed client ≡ is_doomed
