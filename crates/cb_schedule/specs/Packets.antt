-- The packets of a world: the bytes of every frame that was ever sent.
use Rattle.std.specs.Prelude.{◌≡◌, ℕ, List, Option, None, Some, slice_get}
use Rattle.std.specs.List.{All}
use Rattle.cb_frame.specs.Grammar.{IsFrame}
use Rattle.cb_frame.specs.declared.frame.Frame.{Frame}
use Rattle.cb_page.specs.Bounds.{Bounds, AreInRange}

-- the limits of the frames, and the bytes of each packet, in the order in which they were sent
pub record PacketsState : Type 0 where
  pub limits : Bounds
  pub sent : List (List ℕ)

-- the spelling of some frame under these limits
abbrev pub IsSpelled : Bounds → List ℕ → Type 0
IsSpelled limits bytes = (frame : Frame) × IsFrame limits frame bytes

-- What holds of all packets: each is the spelling of a frame.
pub record ArePackets (packets : PacketsState) : Type 0 where
  pub limits : AreInRange packets.limits
  pub spelled : All (IsSpelled packets.limits) packets.sent

-- The packet of that number is this frame, spelled, and no other frame has its bytes.
pub record IsFrameAt (packets : PacketsState) (number : ℕ) (frame : Frame) : Type 0 where
  pub bytes : List ℕ
  pub is_sent : slice_get packets.sent number ≡ Some bytes
  pub spelled : IsFrame packets.limits frame bytes
  pub only : (other : Frame) → IsFrame packets.limits other bytes → other ≡ frame

-- that frame, or none where no packet of that number was sent yet
abbrev pub IsAt : PacketsState → (number : ℕ) → Option Frame → Type 0
IsAt packets number None = slice_get packets.sent number ≡ None
IsAt packets number (Some frame) = IsFrameAt packets number frame
