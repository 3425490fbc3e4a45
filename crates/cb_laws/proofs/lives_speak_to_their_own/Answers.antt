-- Goals of `lives_speak_to_their_own`.
use Rattle.cb_laws.proofs.LivesStand.{events_send}
use Rattle.cb_laws.proofs.lives_speak_to_their_own.Goals as goal

pub returns : goal.returns
returns c = record { sends = events_send }
