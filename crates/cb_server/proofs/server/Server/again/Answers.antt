-- Goals of `Server::again`.
use Rattle.std.proofs.Common.{◌≤◌, subst}
use Rattle.std.specs.List.{AllByRecursion}
use Rattle.std.specs.Vec.{vec_capacity}
use Rattle.cb_frame.specs.Grammar.{Fits}
use Rattle.cb_protocol.specs.AnyMessages.{SendsAgain}
use Rattle.cb_server.specs.ServerValue.{ServerValue, most_frames, server_of}
use Rattle.cb_server.proofs.Serving.{fits_said, rests, said_room}
use Rattle.cb_server.proofs.server.Server.again.Goals as goal

pub invariant_of-self-2 : goal.invariant_of-self-2
invariant_of-self-2 c =
    rests c.self.inside.limits c.self.inside.engine c.again.new.self c.take.new.self SendsAgain c.self.invariant tt
    c.in_ok-again.ensures.ok c.take.ensures.left c.take.ensures.page_size c.take.ensures.spare c.take.ensures.no_room

pub returns-clause-fits : goal.returns-clause-fits
returns-clause-fits c =
    subst (λ (v : ServerValue). AllByRecursion (Fits v.limits) c.take.result.items) c.self.view_is
    (fits_said c.self.inside.limits c.self.inside.engine c.again.new.self SendsAgain c.take.result.items c.self.invariant tt
    c.in_ok-again.ensures.ok c.take.ensures.frames)

pub returns-clause-room : goal.returns-clause-room
returns-clause-room c =
    subst (λ (v : ServerValue). vec_capacity c.take.result ≤ most_frames (server_of v)) c.self.view_is
    (said_room c.self.inside.limits c.self.inside.engine c.again.new.self SendsAgain (vec_capacity c.take.result) c.self.invariant
    c.in_ok-again.ensures.ok c.take.ensures.room)
