-- Goals of `Worker::drop_at`.
use Rattle.std.proofs.Common.{IsTrue, inr, refl, rules}
use Rattle.cb_worker.proofs.Dropping.{is_dropped, kept}
use Rattle.cb_worker.proofs.Knowing.{same_known}
use Rattle.cb_worker.proofs.Staying.{after}
use Rattle.cb_worker.proofs.worker.Worker.drop_at.Goals as goal

pub returns-then-branch-clause-dropped : goal.returns-then-branch-clause-dropped
returns-then-branch-clause-dropped g c =
    let aborted : IsTrue c.in_ok-serve_first.field-0 = search rules in
    inr (c.in_ok-serve_first.ensures.aborted.0 aborted).ended

pub returns-clause-dropped : goal.returns-clause-dropped
returns-clause-dropped g c =
    is_dropped c.args.self.now c.serve_first.new.self c.drop_open.new.self c.hand_all_in.new.self c.serve_first.new.station c.hand_all_in.new.station c.hand_all_in.result c.serve_first.ensures.still c.in_ok-drop_open.ensures.dropped
    c.in_ok-drop_open.ensures.says c.hand_all_in.ensures.sound c.hand_all_in.ensures.hands c.hand_all_in.ensures.client

pub returns-clause-refused : goal.returns-clause-refused
returns-clause-refused g c =
    kept c.args.self.now c.serve_first.new.self c.drop_open.new.self c.hand_all_in.new.self c.hand_all_in.result c.serve_first.ensures.still c.in_ok-drop_open.ensures.says c.hand_all_in.ensures.refused

pub returns-in_err-drop_open-clause-still : goal.returns-in_err-drop_open-clause-still
returns-in_err-drop_open-clause-still g c = after c.args.self.now c.serve_first.new.self c.drop_open.new.self c.serve_first.ensures.still c.drop_open.ensures.still

pub returns-clause-still : goal.returns-clause-still
returns-clause-still g c =
    after c.args.self.now c.drop_open.new.self c.hand_all_in.new.self (after c.args.self.now c.serve_first.new.self c.drop_open.new.self c.serve_first.ensures.still c.drop_open.ensures.still) c.hand_all_in.ensures.still

pub hand_all_in-requires : goal.hand_all_in-requires
hand_all_in-requires g c =
    same_known _ c.serve_first.new.station c.serve_first.new.station c.serve_first.new.self.hand c.drop_open.new.self.hand refl c.drop_open.ensures.hand c.serve_first.ensures.known
