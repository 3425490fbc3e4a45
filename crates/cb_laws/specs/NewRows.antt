-- A copy that a client gets is sent in the step in which the server notes it.
use Rattle.std.specs.Prelude.{◌⊎◌, ℕ}
use Rattle.cb_laws.specs.RowVersions.{GrantedSent, HasRow}
use Rattle.cb_protocol.specs.AnyMessages.{Input, input_steps}
use Rattle.cb_protocol.specs.Basics.{Bytes}
use Rattle.cb_protocol.specs.Server.{DeadlockTest, Server, server_after}
use Rattle.cb_protocol.specs.World.{messages_sent}

-- At any server, at every input: each row that is there afterwards was there before, or is sent to
-- its client by this very input. With `NoneWaitsInVain`, by which no first ask waits that may have
-- what it asks for, a new grant is sent in the step in which its ask may have it.
abbrev pub NewRowsAreSent : Type 0
NewRowsAreSent = (cycle : DeadlockTest) (server : Server) (input : Input)
    (client page grant : ℕ)
    → let steps = input_steps cycle server input in let after = server_after server steps in
    HasRow after client page grant
    → HasRow server client page grant
    ⊎ ((version : ℕ) × (bytes : Bytes)
    × GrantedSent (messages_sent steps) client (after.session client).current page grant version
    bytes)
