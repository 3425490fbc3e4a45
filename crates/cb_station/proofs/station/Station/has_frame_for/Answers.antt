-- Goals of `Station::has_frame_for`.
use Rattle.std.proofs.Common.{rules, [], ◌≢◌, ◌↔◌, ◌<◌, IsTrue, subst}
use Rattle.cb_station.specs.Stations.{StationState, mailbox_of}
use Rattle.cb_station.proofs.station.Station.has_frame_for.Goals as goal

pub returns-then-has_client : goal.returns-then-has_client
returns-then-has_client c =
    let told : IsTrue c.has_frame_for.result ↔ (mailbox_of c.args.self.now c.args.client ≢ []) = subst (λ (v : StationState). IsTrue c.has_frame_for.result ↔ (mailbox_of v c.args.client ≢ [])) c.self.view_is c.has_frame_for.ensures in
    let there : c.args.client < c.args.self.now.dispatcher.server.limits.clients = search rules in
    (λ t. (there, told.0 t), λ b. told.1 b.1)
