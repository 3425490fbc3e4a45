-- Goals of `Server::take`.
use Rattle.std.proofs.Common.{◌≤◌, sym, subst}
use Rattle.std.specs.List.{AllByRecursion}
use Rattle.std.specs.Vec.{vec_capacity}
use Rattle.cb_frame.specs.Grammar.{Fits}
use Rattle.cb_server.specs.ServerValue.{ServerValue, most_frames, server_of}
use Rattle.cb_server.specs.Taking.{input_of}
use Rattle.cb_server.proofs.Serving.{fits_said, input_taken, ready, rests, said_room}
use Rattle.cb_server.proofs.server.Server.take.Goals as goal

pub take-requires-clause-ready : goal.take-requires-clause-ready
take-requires-clause-ready c = ready c.self.inside.limits c.self.inside.engine c.self.invariant

pub invariant_of-self-2 : goal.invariant_of-self-2
invariant_of-self-2 c =
    rests c.self.inside.limits c.self.inside.engine c.take.new.self c.take-2.new.self (input_of c.args.frame.now) c.self.invariant
    (input_taken c.self.inside.limits c.self.inside.engine c.args.frame.now (subst (λ (v : ServerValue). Fits v.limits c.args.frame.now) (sym c.self.view_is) c.requires) c.in_ok-take.ensures.taken)
    c.in_ok-take.ensures.ok c.take-2.ensures.left c.take-2.ensures.page_size c.take-2.ensures.spare c.take-2.ensures.no_room

pub returns-clause-fits : goal.returns-clause-fits
returns-clause-fits c =
    subst (λ (v : ServerValue). AllByRecursion (Fits v.limits) c.take-2.result.items) c.self.view_is
    (fits_said c.self.inside.limits c.self.inside.engine c.take.new.self (input_of c.args.frame.now) c.take-2.result.items c.self.invariant
    (input_taken c.self.inside.limits c.self.inside.engine c.args.frame.now (subst (λ (v : ServerValue). Fits v.limits c.args.frame.now) (sym c.self.view_is) c.requires) c.in_ok-take.ensures.taken)
    c.in_ok-take.ensures.ok c.take-2.ensures.frames)

pub returns-clause-room : goal.returns-clause-room
returns-clause-room c =
    subst (λ (v : ServerValue). vec_capacity c.take-2.result ≤ most_frames (server_of v)) c.self.view_is
    (said_room c.self.inside.limits c.self.inside.engine c.take.new.self (input_of c.args.frame.now) (vec_capacity c.take-2.result) c.self.invariant
    c.in_ok-take.ensures.ok c.take-2.ensures.room)
