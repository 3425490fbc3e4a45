-- Goals of `play_in_life`.
use Rattle.std.proofs.Common.{ap, ◌∙◌}
use Rattle.cb_server.specs.ServerValue.{ServerValue, server_of}
use Rattle.cb_transcript.specs.ProtocolEvents.{event_of}
use Rattle.cb_schedule.proofs.OverLives.{untold_fits}
use Rattle.cb_schedule.proofs.lives.play_in_life.Goals as goal

pub untold-applied-requires : goal.untold-applied-requires
untold-applied-requires g c =
    let listed = c.committed.ensures.all c.server.ensures.forgotten ∙ ap (λ (s : ServerValue). (server_of s).commits) c.server.ensures.value in
    rw c.commits.ensures (untold_fits c.args.net.now c.event.new.self (event_of c.args.event) c.in_ok-answer.answer c.args.former c.args.told.now.commits c.committed.result.now c.requires c.in_ok-answer.ensures.ok listed)
