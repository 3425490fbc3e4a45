-- Goals of `Worker::begin_fetch`.
use Rattle.std.proofs.Common.{refl}
use Rattle.cb_worker.proofs.Knowing.{same_known}
use Rattle.cb_worker.proofs.Staying.{after}
use Rattle.cb_worker.proofs.worker.Worker.begin_fetch.Goals as goal

pub returns-in_err-read_or_ask-clause-still : goal.returns-in_err-read_or_ask-clause-still
returns-in_err-read_or_ask-clause-still g c = after c.args.self.now c.serve_first.new.self c.read_or_ask.new.self c.serve_first.ensures.still c.read_or_ask.ensures.still

pub returns-then-branch-clause-still : goal.returns-then-branch-clause-still
returns-then-branch-clause-still g c = after c.args.self.now c.serve_first.new.self c.read_or_ask.new.self c.serve_first.ensures.still c.read_or_ask.ensures.still

pub returns-clause-still : goal.returns-clause-still
returns-clause-still g c =
    after c.args.self.now c.read_or_ask.new.self c.go_on.new.self (after c.args.self.now c.serve_first.new.self c.read_or_ask.new.self c.serve_first.ensures.still c.read_or_ask.ensures.still) c.go_on.ensures.still

pub go_on-requires : goal.go_on-requires
go_on-requires g c =
    same_known _ c.serve_first.new.station c.serve_first.new.station c.serve_first.new.self.hand c.read_or_ask.new.self.hand refl c.read_or_ask.ensures.hand c.serve_first.ensures.known
