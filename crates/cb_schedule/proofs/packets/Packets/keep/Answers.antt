-- Goals of `Packets::keep`.
use Rattle.cb_schedule.proofs.Sends.{first_ones}
use Rattle.cb_schedule.proofs.packets.Packets.keep.Goals as goal

pub invariant_of-self : goal.invariant_of-self
invariant_of-self c = rw c.truncate.ensures.items (first_ones (record { limits = c.self.inside.limits; sent = c.self.inside.sent.items }) c.args.count c.self.invariant)
