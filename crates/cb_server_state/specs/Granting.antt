-- A copy is granted.
use Rattle.std.specs.Prelude.{ℕ, List, [], ◌∷◌}
use Rattle.cb_protocol.specs.Server.{ChangeSession, Server, ServerStep}
use Rattle.cb_protocol.specs.Session.{GrantRow}
use Rattle.cb_protocol.specs.Settling.{send_granted}

-- the client gets a row with the next grant number, and a copy; no ask leaves
abbrev pub grant_copy : Server → (page client : ℕ) → List ServerStep
grant_copy server page client =
    ChangeSession client (GrantRow page server.next_grant)
    ∷ send_granted server client page server.next_grant ∷ []
