-- Goals of `Packets::send`.
use Rattle.std.proofs.Common.{◌≡◌, ◌∷◌, ◌++◌, [], subst, sym}
use Rattle.cb_frame.specs.Grammar.{Fits}
use Rattle.cb_frame.specs.Spelling.{spelling}
use Rattle.cb_schedule.specs.Packets.{PacketsState}
use Rattle.cb_schedule.proofs.Sends.{one_more}
use Rattle.cb_schedule.proofs.packets.Packets.send.Goals as goal

pub invariant_of-self-2 : goal.invariant_of-self-2
invariant_of-self-2 c =
    let items : c.push.new.self.items ≡ c.self.inside.sent.items ++ spelling c.args.frame.now ∷ [] = cc (c.in_ok-push.ensures.items, c.new-packet.ensures, c.in_ok-bytes.ensures) in
    let fits : Fits c.self.inside.limits c.args.frame.now = subst (λ (v : PacketsState). Fits v.limits c.args.frame.now) (sym c.self.view_is) c.requires in
    rw items (one_more (record { limits = c.self.inside.limits; sent = c.self.inside.sent.items }) c.args.frame.now c.self.invariant fits)
