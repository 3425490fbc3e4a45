-- Goals of `World::committed`.
use Rattle.std.proofs.Common.{◌≡◌, ◌∙◌, ap, map, subst}
use Rattle.cb_server.specs.ServerValue.{ServerValue, server_of}
use Rattle.cb_transcript.specs.Transcripts.{committed_name}
use Rattle.cb_schedule.specs.WorldState.{WorldState}
use Rattle.cb_schedule.proofs.Telling.{listed_are_told}
use Rattle.cb_schedule.proofs.world.World.committed.Goals as goal

pub returns-then-self-clause-told : goal.returns-then-self-clause-told
returns-then-self-clause-told g c = tt

pub returns-clause-told : goal.returns-clause-told
returns-clause-told g c =
    let v : WorldState = record {
      limits = c.self.inside.limits;
      net = c.self.inside.net;
      opening = c.self.inside.transcript.opening;
      transcript = c.self.inside.transcript.entries;
      commits = c.self.inside.transcript.commits;
      stopped = c.self.inside.stopped;
    } in
    let reached = c.self.invariant.running c.if-self.false in
    let listed = c.committed.ensures.all c.server.ensures.forgotten ∙ ap (λ (s : ServerValue). (server_of s).commits) c.server.ensures.value in
    subst (λ (w : WorldState). map committed_name c.committed.result.now ≡ w.commits) c.self.view_is
    (listed_are_told v reached.world c.committed.result.now reached.represents listed)
