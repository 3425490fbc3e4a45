-- Goals of `frame_in`.
use Rattle.std.proofs.Common.{ℕ, [], ap, sym}
use Rattle.std.proofs.lemmas.List.{append-nil}
use Rattle.cb_frame.specs.declared.frame.Frame.{Frame}
use Rattle.std.specs.Prelude.{Err}
use Rattle.cb_frame.specs.declared.fault.FrameFault.{FrameFault}
use Rattle.cb_schedule.proofs.Sends.{has_bytes, in_newest}
use Rattle.cb_frame.specs.declared.version.FrameVersion.TheVariants.{Two}
use Rattle.cb_schedule.proofs.packet.frame_in.Goals as goal

pub returns-in-Ok-clause-found : goal.returns-in-Ok-clause-found
returns-in-Ok-clause-found c frame is = ap (λ (r : Frame × ℕ). r.0)
    (c.in-Ok.ensures.only Two frame _ [] (in_newest _ frame _ is) (sym (append-nil _)))

-- a frame in front is refused only for memory
pub unreachable-requires : goal.unreachable-requires
unreachable-requires c = c.in_default.not-Memory (c.in-Err.ensures.only Two c.requires.0 _ [] (in_newest _ c.requires.0 _ c.requires.1) (sym (append-nil _)))

pub returns-in-Memory-clause-memory : goal.returns-in-Memory-clause-memory
returns-in-Memory-clause-memory c frame is = has_bytes c.args.limits.now frame c.args.bytes.now (λ none. c.in-Err.ensures.memory none (ap (λ (f : FrameFault). Err f) c.in-Memory.is)) is
