-- What a collected copy is.
use Rattle.std.specs.Prelude.{◌≡◌, ℕ, Some, None}
use Rattle.cb_frame.specs.declared.frame.Frame.{Frame}
use Rattle.cb_hands.specs.Hands.{HandState, held_at}
use Rattle.cb_hands.specs.declared.grant.Held.{Held}
use Rattle.cb_laws.specs.RowVersions.{IsAsStored}
use Rattle.cb_outbox.specs.Messages.{body_of}
use Rattle.cb_protocol.specs.Basics.{Bytes}
use Rattle.cb_protocol.specs.Messages.{Granted}
use Rattle.cb_protocol.specs.Server.{Server}

-- The hand comes to hold the page by the frame's grant, at the store's version; and the frame has
-- the store's bytes and version.
pub record IsCopyHeld (server : Server) (page grant version : ℕ) (bytes : Bytes) (held : Held)
    : Type 0 where
  pub by_grant : held.grant ≡ grant
  pub now : held.version ≡ server.store.version page
  pub stored : IsAsStored server page version bytes

-- Where the hand comes to hold a page by a frame, the frame is a copy of what is stored.
abbrev pub BringsCopy : Server → (old new : HandState) → Frame → Type 0
BringsCopy server old new frame = (page grant version : ℕ) (bytes : Bytes)
    → body_of frame.body ≡ Granted page grant version bytes
    → held_at old.held page ≡ None → (held : Held) → held_at new.held page ≡ Some held
    → IsCopyHeld server page grant version bytes held
