-- What the head of a frame says.
use Rattle.std.specs.Prelude.{◌≡◌, ◌≤◌, ℕ, List, Option, length, take}
use Rattle.std.specs.Option.{option_or}
use Rattle.cb_frame.specs.Grammar.{IsFrameInSome}
use Rattle.cb_frame.specs.Kinds.{code_of, kind_of_body}
use Rattle.cb_frame.specs.declared.frame.Frame.{Frame}
use Rattle.cb_handle.specs.Causes.{in_bytes, in_limits}
use Rattle.cb_handle.specs.declared.refusal.HandleRefusal.{HandleRefusal}
use Rattle.cb_page.specs.Bounds.{Bounds}
use Rattle.rughvadi.specs.declared.alone.FrameHead.{FrameHead}

-- the head of that frame, of so many bytes
pub record Heads (frame : Frame) (size : ℕ) (head : FrameHead) : Type 0 where
  pub length_is : head.length ≡ size
  pub client : head.client ≡ frame.client
  pub kind : head.kind ≡ code_of (kind_of_body frame.body)
  pub incarnation : head.incarnation ≡ frame.incarnation

-- the head of the frame that the bytes begin with
pub record IsHeadOf (limits : Bounds) (bytes : List ℕ) (head : FrameHead) : Type 0 where
  pub frame : Frame
  pub read : IsFrameInSome limits frame (take head.length bytes)
  pub within : head.length ≤ length bytes
  pub heads : Heads frame head.length head

-- what is in the way of reading it: the limits, or the bytes
abbrev pub head_cause : Bounds → List ℕ → Option HandleRefusal
head_cause limits bytes = option_or (in_limits limits) (in_bytes limits bytes)
