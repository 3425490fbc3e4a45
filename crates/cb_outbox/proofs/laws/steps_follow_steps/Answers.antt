-- Goals of `steps_follow_steps`.
use Rattle.cb_outbox.proofs.Saying.{room_after, room_first, says_then}
use Rattle.cb_outbox.proofs.laws.steps_follow_steps.Goals as goal

pub returns : goal.returns
returns c = record {
  done = says_then;
  room = λ before after steps others old new. record {
    first = room_first (steps before) others old;
    next = room_after before after steps others old new;
  };
}
