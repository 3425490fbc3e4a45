-- Goals of `ClientCore::receive_granted`.
use Rattle.std.proofs.Common.{◌∙◌, sym}
use Rattle.cb_client_core.specs.Parts.{client_in}
use Rattle.cb_client_core.proofs.Frames.{unwelcomed}
use Rattle.cb_client_core.proofs.Room.{unwelcomed_room}
use Rattle.cb_protocol.specs.Messages.{Granted}
use Rattle.cb_client_core.proofs.client_core.ClientCore.receive_granted.Goals as goal

pub returns-then-not-self-clause-receives : goal.returns-then-not-self-clause-receives
returns-then-not-self-clause-receives g c = λ bytes. (
  rw c.new.ensures.items (unwelcomed _ _ c.if-not-self.true (λ e. cc)),
  c.new.ensures.capacity ∙ sym (unwelcomed_room (client_in c.args.self.now) (Granted c.args.page c.args.grant c.args.version bytes) c.if-not-self.true),
)
