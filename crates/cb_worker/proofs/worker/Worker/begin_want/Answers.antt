-- Goals of `Worker::begin_want`.
use Rattle.std.proofs.Common.{IsTrue, refl, rules}
use Rattle.cb_worker.proofs.Knowing.{same_known}
use Rattle.cb_worker.proofs.Staying.{after}
use Rattle.cb_worker.proofs.Steps.{begun_at}
use Rattle.cb_worker.proofs.Using.{asks_fixed, asks_used, wanted_over, wanted_so}
use Rattle.cb_worker.proofs.Keeping.{then_keeps}
use Rattle.cb_worker.specs.Workers.{seen_by}
use Rattle.cb_worker.proofs.worker.Worker.begin_want.Goals as goal

pub returns-then-aborted-clause-begun : goal.returns-then-aborted-clause-begun
returns-then-aborted-clause-begun g c =
    let aborted : IsTrue c.in_ok-aborted.aborted = search rules in
    wanted_over c.args.self.now c.serve_first.new.self c.args.page (c.in_ok-aborted.ensures.aborted.0 aborted).ended.idle

pub returns-clause-begun : goal.returns-clause-begun
returns-clause-begun g c =
    begun_at c.go_on.result (wanted_so c.args.self.now c.ask_to_write.new.self c.go_on.new.self c.args.page
    (then_keeps (seen_by c.args.self.now) (seen_by c.serve_first.new.self) (seen_by c.ask_to_write.new.self) c.serve_first.ensures.used (asks_used c.serve_first.new.self c.ask_to_write.new.self c.args.page c.in_ok-ask_to_write.ensures.asks))
    (asks_fixed c.serve_first.new.self c.ask_to_write.new.self c.args.page c.in_ok-ask_to_write.ensures.asks) c.go_on.ensures.still.keeps)

pub returns-in_err-ask_to_write-clause-still : goal.returns-in_err-ask_to_write-clause-still
returns-in_err-ask_to_write-clause-still g c = after c.args.self.now c.serve_first.new.self c.ask_to_write.new.self c.serve_first.ensures.still c.ask_to_write.ensures.still

pub returns-clause-still : goal.returns-clause-still
returns-clause-still g c =
    after c.args.self.now c.ask_to_write.new.self c.go_on.new.self (after c.args.self.now c.serve_first.new.self c.ask_to_write.new.self c.serve_first.ensures.still c.ask_to_write.ensures.still) c.go_on.ensures.still

pub go_on-requires : goal.go_on-requires
go_on-requires g c =
    same_known _ c.serve_first.new.station c.serve_first.new.station c.serve_first.new.self.hand c.ask_to_write.new.self.hand refl c.ask_to_write.ensures.hand c.serve_first.ensures.known
