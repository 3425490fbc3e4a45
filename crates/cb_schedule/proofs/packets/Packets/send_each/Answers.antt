-- Goals of `Packets::send_each`.
use Rattle.std.proofs.Common.{subst, sym}
use Rattle.cb_frame.specs.Grammar.{Fits}
use Rattle.cb_frame.specs.declared.frame.Frame.{Frame}
use Rattle.cb_schedule.specs.Packets.{PacketsState}
use Rattle.cb_schedule.proofs.Sends.{one_of}
use Rattle.cb_schedule.proofs.packets.Packets.send_each.Goals as goal

pub send-requires : goal.send-requires
send-requires c =
    let one : Fits c.args.self.now.limits c.frame-item.result = subst (λ (f : Frame). Fits c.args.self.now.limits f) (sym c.frame-item.is)
    (one_of (Fits c.args.self.now.limits) c.args.frames.now c.loop-frame.frame-index c.frame-item.result c.requires c.loop-frame-test.true) in
    subst (λ (v : PacketsState). Fits v.limits c.frame-item.result) (sym c.loop-frame.invariant) one
