-- What the bytes of a stream begin with.
use Rattle.std.specs.Prelude.{◌≡◌, ℕ, ◌<◌, ◌≤◌, List, length, take}
use Rattle.cb_frame.specs.Grammar.{IsFrameInSome}
use Rattle.cb_page.specs.Bounds.{Bounds}
use Rattle.cb_serve.specs.Streams.{IsNoFrame, IsPart, IsUnread, again_header, header_of}
use Rattle.cb_serve.specs.declared.front.Front.{Front}
use Rattle.cb_serve.specs.declared.front.Front.TheVariants as front

-- what the bytes begin with: a piece, with as many of them as it has, or none that is whole
abbrev pub IsFront : Bounds → List ℕ → Front → Type 0
IsFront limits bytes (front.Frame frame used) =
    IsFrameInSome limits frame (take used bytes) × (used ≤ length bytes)
IsFront limits bytes front.Again = (header_of bytes ≡ again_header) × (16 ≤ length bytes)
IsFront limits bytes (front.Unread used) =
    IsUnread limits (take used bytes) × (used ≤ length bytes) × (0 < used)
IsFront limits bytes front.Part = IsPart limits bytes
IsFront limits bytes front.NoFrame = IsNoFrame limits bytes

-- what bytes are that are as many as their header says
abbrev pub IsWhole : Bounds → List ℕ → Front → Type 0
IsWhole limits bytes (front.Frame frame used) =
    IsFrameInSome limits frame (take used bytes) × (used ≤ length bytes)
IsWhole limits bytes (front.Unread used) = IsUnread limits bytes × (used ≡ length bytes)
IsWhole limits bytes _ = ⊥
