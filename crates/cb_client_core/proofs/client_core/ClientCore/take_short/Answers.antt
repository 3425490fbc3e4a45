-- Goals of `ClientCore::take_short`.
use Rattle.std.proofs.Common.{sym, refl, ◌∙◌}
use Rattle.cb_outbox.specs.Messages.{short_of}
use Rattle.cb_client_core.specs.Parts.{client_in}
use Rattle.cb_client_core.proofs.Frames.{ignored_short, unwelcomed_short}
use Rattle.cb_client_core.proofs.Room.{ignored_room, unwelcomed_room}
use Rattle.cb_client_core.proofs.client_core.ClientCore.take_short.Goals as goal

pub returns-then-not-self : goal.returns-then-not-self
returns-then-not-self g c = record {
  ok = rw c.new-then-not-self.ensures.items (unwelcomed_short _ _ c.if-not-self.true c.in_default.not-Welcome);
  err = tt;
  room = c.new-then-not-self.ensures.capacity ∙ sym (unwelcomed_room (client_in c.args.self.now) (short_of c.args.body) c.if-not-self.true);
  none = λ e. refl;
  sound = c.requires.sound;
}

pub returns-in_default-body : goal.returns-in_default-body
returns-in_default-body g c = record {
  ok = rw c.new-in_default-body.ensures.items (ignored_short _ _ c.if-not-self.false c.in_default.not-Welcome c.in_default-body.not-MayWrite c.in_default-body.not-Callback c.in_default-body.not-Done c.in_default-body.not-AbortNow c.in_default-body.not-Downgrade);
  err = tt;
  room = c.new-in_default-body.ensures.capacity ∙ sym (ignored_room (client_in c.args.self.now) c.args.body c.if-not-self.false c.in_default-body.not-Callback c.in_default-body.not-Done c.in_default-body.not-AbortNow c.in_default-body.not-Downgrade);
  none = λ e. refl;
  sound = c.requires.sound;
}
