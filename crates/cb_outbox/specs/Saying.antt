-- What the server does and sends, by the protocol's steps.
use Rattle.std.specs.Prelude.{◌≡◌, ◌≤◌, ◌+◌, ℕ, Bool, true, false, List, ◌++◌, length}
use Rattle.cb_protocol.specs.Messages.{Message}
use Rattle.cb_protocol.specs.Numbers.{copies_sent}
use Rattle.cb_protocol.specs.Server.{Server, ServerStep, server_after}
use Rattle.cb_protocol.specs.Settling.{Decided, Decision, Settled, decision_steps}
use Rattle.cb_protocol.specs.World.{messages_sent}

-- the messages sent, in order; room for so many in all; so many spare pages of that size
pub record OutboxState : Type 0 where
  pub sent : List Message
  pub room : ℕ
  pub spare : ℕ
  pub page_size : ℕ

-- room for all that these steps send, with a spare page for each copy of a page
pub record HasRoomFor (steps : List ServerStep) (outbox : OutboxState) : Type 0 where
  pub frames : length outbox.sent + length (messages_sent steps) ≤ outbox.room
  pub copies : copies_sent steps ≤ outbox.spare

-- The server did these steps, and what they send was appended, each copy in a spare page.
pub record Says (before : Server) (steps : Server → List ServerStep) (after : Server)
    (old new : OutboxState) : Type 0 where
  pub becomes : after ≡ server_after before (steps before)
  pub sends : new.sent ≡ old.sent ++ messages_sent (steps before)
  pub room : new.room ≡ old.room
  pub spare : new.spare + copies_sent (steps before) ≡ old.spare
  pub page_size : new.page_size ≡ old.page_size

-- the next ask is looked at
abbrev pub goes_on : Decision → Bool
goes_on (Settled steps) = false
goes_on (Decided steps) = true

-- The server did what the decision says; the flag says whether the next ask is looked at.
pub record Decides (before : Server) (decision : Server → Decision) (after : Server) (more : Bool)
    (old new : OutboxState) : Type 0 where
  pub says : Says before (λ server. decision_steps (decision server)) after old new
  pub goes : goes_on (decision before) ≡ more
