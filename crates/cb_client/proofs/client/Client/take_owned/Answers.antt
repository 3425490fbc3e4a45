-- Goals of `Client::take_owned`.
use Rattle.cb_client.proofs.FramesFit.{body_frames_fit}
use Rattle.cb_client.proofs.client.Client.take_owned.Goals as goal

pub returns-in-Ok-clause-fits : goal.returns-in-Ok-clause-fits
returns-in-Ok-clause-fits g c = rw (← c.self.view_is)
    (body_frames_fit _ _ c.args.frame.body c.in-Ok.said.items c.self.invariant (rw (← c.self.view_is) at c.requires.body) c.in-Ok.ensures.ok)
