-- Packets and the protocol's messages that they carry.
use Rattle.std.specs.Prelude.{◌≡◌, ℕ, List, [], ◌∷◌, ⊤}
use Rattle.cb_frame.specs.Grammar.{IsFrame}
use Rattle.cb_frame.specs.declared.frame.Frame.{Frame}
use Rattle.cb_outbox.specs.Messages.{message_of}
use Rattle.cb_page.specs.Bounds.{Bounds}
use Rattle.cb_protocol.specs.Messages.{Message}

-- These bytes are the spelling of a frame under the limits, which carries the message.
pub record Spells (limits : Bounds) (bytes : List ℕ) (message : Message) : Type 0 where
  pub frame : Frame
  pub spelled : IsFrame limits frame bytes
  pub carries : message_of frame ≡ message

-- the packets carry these messages, in order
abbrev pub AllSpell : Bounds → List (List ℕ) → List Message → Type 0
AllSpell limits [] [] = ⊤
AllSpell limits (bytes ∷ packets) (message ∷ messages) =
    Spells limits bytes message × AllSpell limits packets messages
AllSpell limits [] (message ∷ messages) = ⊥
AllSpell limits (bytes ∷ packets) [] = ⊥
