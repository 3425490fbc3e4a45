-- A stream of frames, and the pieces that it is cut into.
use Rattle.std.specs.Prelude.{◌≡◌, ℕ, ◌+◌, ◌<◌, ◌⊎◌, ◌&&◌, nat_le, Bool, true, false, List, [], ◌∷◌}
use Rattle.std.specs.Prelude.{length}
use Rattle.std.specs.Prelude.{take, Option, Some}
use Rattle.cb_frame.specs.Checks.{body_length, causes}
use Rattle.cb_frame.specs.declared.fault.FrameFault.{FrameFault}
use Rattle.cb_frame.specs.declared.fault.FrameFault.TheVariants as fault
use Rattle.cb_frame.specs.Grammar.{IsFrameInSome}
use Rattle.cb_frame.specs.Kinds.{kind_of_body}
use Rattle.cb_frame.specs.declared.frame.Frame.{Frame}
use Rattle.cb_frame.specs.declared.kind.Kind.{Kind}
use Rattle.cb_frame.specs.declared.kind.Kind.TheVariants as kind
use Rattle.cb_page.specs.Bounds.{Bounds}
use Rattle.cb_page.specs.Faults.{first_fault}
use Rattle.cb_shelf.specs.Living.{raise_end}

-- The header that stands alone and asks that what may be lost is said again: version 2, kind 0.
abbrev pub again_header : List ℕ
again_header =
    2 ∷ 0 ∷ 0 ∷ 0 ∷ 0 ∷ 0 ∷ 0 ∷ 0 ∷ 0 ∷ 0 ∷ 0 ∷ 0 ∷ 0 ∷ 0 ∷ 0 ∷ 0 ∷ []

-- the fault is one of the header alone
abbrev pub is_of_header : Option FrameFault → Bool
is_of_header (Some fault.Version) = true
is_of_header (Some fault.Kind) = true
is_of_header (Some fault.Length) = true
is_of_header _ = false

-- no frame has these 16 bytes as its header: by its version, its kind or its length
abbrev pub is_no_header : Bounds → List ℕ → Bool
is_no_header limits header = is_of_header (first_fault (causes limits header))

-- the header that bytes begin with, and how many bytes it says that the whole has
abbrev pub header_of : List ℕ → List ℕ
header_of bytes = take 16 bytes

abbrev pub whole_length : List ℕ → ℕ
whole_length bytes = 16 + body_length (header_of bytes)

-- A piece of a stream: a frame, with the bytes that spell it; the header that asks for what may be
-- lost; bytes that are passed over; or a Hello that is let go, with the bytes that spell it.
pub data Piece : Type 0 where
  comes : Frame → List ℕ → Piece
  asks_again : Piece
  passed_over : List ℕ → Piece
  let_go : Frame → List ℕ → Piece

abbrev pub bytes_of : Piece → List ℕ
bytes_of (comes frame bytes) = bytes
bytes_of asks_again = again_header
bytes_of (passed_over bytes) = bytes
bytes_of (let_go frame bytes) = bytes

-- a Hello, and one of that incarnation or a greater one
abbrev pub is_hello : Kind → Bool
is_hello kind.Hello = true
is_hello _ = false

abbrev pub greets_from : (end : ℕ) → Frame → Bool
greets_from end frame = nat_le end frame.incarnation && is_hello (kind_of_body frame.body)

-- Bytes as many as their header says, which is one that frames have; but no frame.
pub record IsUnread (limits : Bounds) (bytes : List ℕ) : Type 0 where
  pub header : is_no_header limits (header_of bytes) ≡ false
  pub whole : length bytes ≡ whole_length bytes
  pub unread : (frame : Frame) → ¬ IsFrameInSome limits frame bytes

abbrev pub IsPiece : Bounds → Piece → Type 0
IsPiece limits (comes frame bytes) = IsFrameInSome limits frame bytes
IsPiece limits asks_again = Unit {0}
IsPiece limits (passed_over bytes) = IsUnread limits bytes
IsPiece limits (let_go frame bytes) =
    IsFrameInSome limits frame bytes × (greets_from raise_end frame ≡ true)

-- how many of the pieces are passed over
abbrev pub passed : Piece → ℕ
passed (passed_over bytes) = 1
passed _ = 0

abbrev pub count_passed : List Piece → ℕ
count_passed [] = 0
count_passed (piece ∷ pieces) = passed piece + count_passed pieces

-- less than a whole piece: less than a header, or fewer bytes than the header says
abbrev pub IsPart : Bounds → List ℕ → Type 0
IsPart limits bytes = (length bytes < 16)
    ⊎ ((is_no_header limits (header_of bytes) ≡ false) × (length bytes < whole_length bytes))

-- It goes on with a header that no frame has.
pub record IsNoFrame (limits : Bounds) (bytes : List ℕ) : Type 0 where
  pub header : is_no_header limits (header_of bytes) ≡ true
  pub not_again : ¬ (header_of bytes ≡ again_header)

-- no whole piece: less than one, or what none begins with
abbrev pub IsRest : Bounds → List ℕ → Type 0
IsRest limits bytes = IsPart limits bytes ⊎ IsNoFrame limits bytes
