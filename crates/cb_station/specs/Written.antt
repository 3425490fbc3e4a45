-- What a client wrote it still holds.
use Rattle.std.specs.Prelude.{◌≡◌, ◌<◌, ℕ, List, Option, Some, IsSome}
use Rattle.cb_hands.specs.Hands.{HandState, held_at}
use Rattle.cb_hands.specs.Joined.{stored_at}
use Rattle.cb_laws.specs.RowVersions.{HasRow, WroteByGrant}
use Rattle.cb_protocol.specs.Basics.{IsIn}
use Rattle.cb_protocol.specs.Messages.{PageWrite, write_of_page}
use Rattle.cb_protocol.specs.Server.{AppliedCommit, Server}

-- A stored hand holds each page that its incarnation wrote by the grant of a row that stands: it
-- gives the page back with the row. Neither rows nor commits have a grant that is still to come.
pub record HoldsWritten (server : Server) (hands : List (Option HandState)) : Type 0 where
  pub rows : (client page grant : ℕ) → HasRow server client page grant
      → grant < server.next_grant
  pub writes : (commit : AppliedCommit) → IsIn commit server.commits → (page : ℕ)
      (write : PageWrite) → write_of_page commit.writes page ≡ Some write
      → write.grant < server.next_grant
  pub held : (client page grant number : ℕ) (hand : HandState)
      → stored_at hands client ≡ Some hand
      → hand.incarnation ≡ (server.session client).current → HasRow server client page grant
      → WroteByGrant server.commits client (server.session client).current page grant number
      → IsSome (held_at hand.held page)
