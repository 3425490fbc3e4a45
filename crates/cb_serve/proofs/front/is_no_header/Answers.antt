-- Goals of `is_no_header`.
use Rattle.std.proofs.Common.{◌≡◌, ℕ, List, ap, sym, take, drop, false}
use Rattle.std.proofs.lemmas.List.{take-append-drop}
use Rattle.cb_frame.proofs.Again.{spelled_again}
use Rattle.cb_frame.specs.Grammar.{IsFrameInSome}
use Rattle.cb_frame.specs.declared.frame.Frame.{Frame}
use Rattle.cb_page.specs.Bounds.{AreInRange, Bounds}
use Rattle.cb_serve.specs.Streams.{is_no_header, is_of_header}
use Rattle.cb_serve.proofs.front.is_no_header.Goals as goal

-- bytes that begin with a frame have no fault
begins : (l : Bounds) (bytes : List ℕ) (f : Frame) (used : ℕ) → AreInRange l → IsFrameInSome l f (take used bytes) → false ≡ is_no_header l bytes
begins l bytes f used range is =
    sym (ap is_of_header (spelled_again l is.0 f (take used bytes) (drop used bytes) bytes range is.1 (sym (take-append-drop used bytes))).faultless)

pub returns-in_default : goal.returns-in_default
returns-in_default c =
    begins c.args.limits.now c.args.header.now c.in_default.field-0.0 c.in_default.field-0.1 c.pages-in_range.ensures.in_range c.in_default.ensures.found
