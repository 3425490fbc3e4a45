-- Goals of `Client::take`.
use Rattle.std.proofs.Common.{rules}
use Rattle.cb_outbox.specs.Messages.{body_of, messages_of}
use Rattle.cb_client_core.specs.Parts.{client_in}
use Rattle.cb_client.specs.ByTable.{Takes}
use Rattle.cb_client.proofs.FramesFit.{body_frames_fit}
use Rattle.cb_client.proofs.client.Client.take.Goals as goal

pub returns-in-Said-clause-fits : goal.returns-in-Said-clause-fits
returns-in-Said-clause-fits g c = rw (← c.self.view_is)
    (body_frames_fit _ _ c.args.frame.now.body c.in-Said.said.items c.self.invariant
    (rw (← c.self.view_is) at c.requires.body)
    (rw c.in-Said.is at c.in_ok-said.ensures.receives).0)

pub returns-in-Ok-clause-fits : goal.returns-in-Ok-clause-fits
returns-in-Ok-clause-fits g c =
    let takes : Takes (client_in c.self.inside.core) (body_of c.args.frame.now.body)
    (messages_of c.in-Ok.said.items) (client_in c.bring_in.new.self) = search rules in
    rw (← c.self.view_is)
    (body_frames_fit _ _ c.args.frame.now.body c.in-Ok.said.items c.self.invariant
    (rw (← c.self.view_is) at c.requires.body) takes)
