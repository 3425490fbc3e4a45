-- Goals of `Server::take_owned`.
use Rattle.std.proofs.Common.{◌≤◌, sym, subst}
use Rattle.std.specs.List.{AllByRecursion}
use Rattle.std.specs.Vec.{vec_capacity}
use Rattle.cb_frame.specs.Grammar.{Fits}
use Rattle.cb_server.specs.ServerValue.{ServerValue, most_frames, server_of}
use Rattle.cb_server.specs.Taking.{input_of}
use Rattle.cb_server.proofs.Serving.{fits_said, input_taken, ready, rests, said_room}
use Rattle.cb_server.proofs.server.Server.take_owned.Goals as goal

pub take_owned-requires-clause-ready : goal.take_owned-requires-clause-ready
take_owned-requires-clause-ready c = ready c.self.inside.limits c.self.inside.engine c.self.invariant

pub invariant_of-self : goal.invariant_of-self
invariant_of-self c =
    rests c.self.inside.limits c.self.inside.engine c.take_owned.new.self c.take.new.self (input_of c.args.frame) c.self.invariant
    (input_taken c.self.inside.limits c.self.inside.engine c.args.frame (subst (λ (v : ServerValue). Fits v.limits c.args.frame) (sym c.self.view_is) c.requires) c.in-Ok.ensures.taken)
    c.in-Ok.ensures.ok c.take.ensures.left c.take.ensures.page_size c.take.ensures.spare c.take.ensures.no_room

pub returns-in-Ok-clause-fits : goal.returns-in-Ok-clause-fits
returns-in-Ok-clause-fits c =
    subst (λ (v : ServerValue). AllByRecursion (Fits v.limits) c.take.result.items) c.self.view_is
    (fits_said c.self.inside.limits c.self.inside.engine c.take_owned.new.self (input_of c.args.frame) c.take.result.items c.self.invariant
    (input_taken c.self.inside.limits c.self.inside.engine c.args.frame (subst (λ (v : ServerValue). Fits v.limits c.args.frame) (sym c.self.view_is) c.requires) c.in-Ok.ensures.taken)
    c.in-Ok.ensures.ok c.take.ensures.frames)

pub returns-in-Ok-clause-room : goal.returns-in-Ok-clause-room
returns-in-Ok-clause-room c =
    subst (λ (v : ServerValue). vec_capacity c.take.result ≤ most_frames (server_of v)) c.self.view_is
    (said_room c.self.inside.limits c.self.inside.engine c.take_owned.new.self (input_of c.args.frame) (vec_capacity c.take.result) c.self.invariant
    c.in-Ok.ensures.ok c.take.ensures.room)
