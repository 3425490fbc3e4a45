-- Goals of `Packets::frame`.
use Rattle.std.proofs.Common.{rules, ◌≡◌, subst, sym, Some}
use Rattle.std.specs.Prelude.{slice_get}
use Rattle.cb_schedule.specs.Packets.{PacketsState, IsFrameAt, IsSpelled}
use Rattle.cb_frame.specs.Grammar.{IsFrame}
use Rattle.cb_frame.specs.declared.frame.Frame.{Frame}
use Rattle.cb_schedule.proofs.Sends.{spelled_at}
use Rattle.cb_schedule.proofs.packets.Packets.frame.Goals as goal

pub frame_in-requires : goal.frame_in-requires
frame_in-requires c =
    let at : slice_get c.self.inside.sent.items c.args.number ≡ Some c.in-Some.bytes.now = search rules in
    spelled_at (record { limits = c.self.inside.limits; sent = c.self.inside.sent.items }) c.args.number c.in-Some.bytes.now c.self.invariant at

pub returns-in_ok-frame-in-Some-clause-ok : goal.returns-in_ok-frame-in-Some-clause-ok
returns-in_ok-frame-in-Some-clause-ok c =
    let at : slice_get c.self.inside.sent.items c.args.number ≡ Some c.in-Some.bytes.now = search rules in
    let is : IsSpelled c.self.inside.limits c.in-Some.bytes.now = spelled_at (record { limits = c.self.inside.limits; sent = c.self.inside.sent.items }) c.args.number c.in-Some.bytes.now c.self.invariant at in
    subst (λ (v : PacketsState). IsFrameAt v c.args.number c.in_ok-frame-in-Some.frame) c.self.view_is (record {
      bytes = c.in-Some.bytes.now;
      is_sent = at;
      spelled = subst (λ (f : Frame). IsFrame c.self.inside.limits f c.in-Some.bytes.now) (sym (c.in_ok-frame-in-Some.ensures.found is.0 is.1)) is.1;
      only = λ other h. sym (c.in_ok-frame-in-Some.ensures.found other h);
    })
