-- What becomes of a message that comes to a client, but for a page that is still to come in.
use Rattle.std.specs.Prelude.{◌≡◌, ℕ, true, ⊤}
use Rattle.std.specs.Vec.{vec_capacity}
use Rattle.cb_outbox.specs.Messages.{messages_of}
use Rattle.cb_protocol.specs.Messages.{Body, Granted}
use Rattle.cb_client_core.specs.ByTable.{Takes}
use Rattle.cb_client_core.specs.ClientState.{ClientState}
use Rattle.cb_client_core.specs.GrantCases.{case_at}
use Rattle.cb_client_core.specs.Room.{comes_in, room_at}
use Rattle.cb_client_core.specs.declared.client_core.granted.GrantCase.{GrantCase}
use Rattle.cb_client_core.specs.declared.client_core.taking.Received.{Received}
use Rattle.cb_client_core.specs.declared.client_core.taking.Received.TheVariants as received

-- A welcomed client's grant whose page comes into the pool.
pub record IsBrought (client : ClientState) (page grant version : ℕ) (case : GrantCase)
    : Type 0 where
  pub welcomed : client.welcomed ≡ true
  pub decided : case ≡ case_at client page grant version
  pub comes : comes_in case ≡ true

-- the message is such a grant
abbrev pub BringsSo : ClientState → Body → GrantCase → Type 0
BringsSo client (Granted page grant version bytes) case = IsBrought client page grant version case
BringsSo client _ case = ⊥

-- the message was taken, with room for just what it may need; or it brings a page in
abbrev pub Receives : ClientState → Body → Received → ClientState → Type 0
Receives old message (received.Said said) new = Takes old message (messages_of said.items) new
    × (vec_capacity said ≡ room_at old message)
Receives old message (received.Brings case) new = BringsSo old message case

-- what holds where it brings one
abbrev pub IfBrings : Received → Type 0 → Type 0
IfBrings (received.Said said) Holds = ⊤
IfBrings (received.Brings case) Holds = Holds
