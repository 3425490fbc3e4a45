-- Goals of `read_whole`.
use Rattle.std.proofs.Common.{◌≡◌, ◌++◌, ℕ, List, [], ◌↔◌, IsTrue, Bool, false, refl, sym}
use Rattle.std.proofs.lemmas.List.{append-nil}
use Rattle.cb_frame.specs.declared.fault.FrameFault.{FrameFault}
use Rattle.cb_frame.specs.declared.fault.FrameFault.TheVariants as fault
use Rattle.cb_frame.specs.Grammar.{IsFrameIn, IsFrameInSome}
use Rattle.cb_frame.specs.declared.frame.Frame.{Frame}
use Rattle.cb_frame.specs.declared.version.FrameVersion.{FrameVersion}
use Rattle.cb_page.specs.Bounds.{Bounds}
use Rattle.cb_serve.proofs.front.read_whole.Goals as goal

-- bytes that are refused, and not for want of memory, are no frame
not_read : (l : Bounds) (bytes : List ℕ) (e : FrameFault) (wants : Bool)
    → ((version : FrameVersion) (frame : Frame) (spelled rest : List ℕ) → IsFrameIn version l frame spelled → bytes ≡ spelled ++ rest → e ≡ fault.Memory)
    → (IsTrue wants ↔ (e ≡ fault.Memory)) → wants ≡ false → (frame : Frame) → ¬ IsFrameInSome l frame bytes
not_read l bytes e wants only means no_memory frame is =
    let told : IsTrue wants = means.1 (only is.0 frame bytes [] is.1 (sym (append-nil bytes))) in absurd (cc)

pub returns : goal.returns
returns c = (
  record {
    header = c.requires.header;
    whole = c.requires.whole;
    unread = not_read c.args.limits.now c.args.bytes.now c.in-Err.fault c.wants_memory.result c.in-Err.ensures.only c.wants_memory.ensures c.if-wants_memory.false;
  },
  refl,
)
