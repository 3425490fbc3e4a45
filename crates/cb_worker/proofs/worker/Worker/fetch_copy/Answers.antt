-- Goals of `Worker::fetch_copy`.
use Rattle.std.proofs.Common.{rules, sym}
use Rattle.cb_worker.proofs.Reading.{reads_in_one}
use Rattle.cb_worker.proofs.Staying.{after, read_here_still}
use Rattle.cb_worker.proofs.worker.Worker.fetch_copy.Goals as goal

pub returns-then-read_here-clause-had : goal.returns-then-read_here-clause-had
returns-then-read_here-clause-had g c = reads_in_one c.args.self.now c.args.page (sym c.if-read_here.ensures.here)

pub returns-in-Ended-clause-reads : goal.returns-in-Ended-clause-reads
returns-in-Ended-clause-reads g c = search rules

pub returns-in_err-wait_on-clause-still : goal.returns-in_err-wait_on-clause-still
returns-in_err-wait_on-clause-still g c =
    let waited = after c.read_here.new.self c.begin_fetch-first.new.self c.wait_on.new.self c.begin_fetch-first.ensures.still c.wait_on.ensures.still in
    after c.args.self.now c.read_here.new.self c.wait_on.new.self (read_here_still c.args.self.now c.read_here.new.self c.args.page c.read_here.ensures.after) waited

pub returns-in-There-clause-still : goal.returns-in-There-clause-still
returns-in-There-clause-still g c =
    let waited = after c.read_here.new.self c.begin_fetch-first.new.self c.wait_on.new.self c.begin_fetch-first.ensures.still c.wait_on.ensures.still in
    after c.args.self.now c.read_here.new.self c.wait_on.new.self (read_here_still c.args.self.now c.read_here.new.self c.args.page c.read_here.ensures.after) waited

pub returns-in-Ended-clause-still : goal.returns-in-Ended-clause-still
returns-in-Ended-clause-still g c =
    let waited = after c.read_here.new.self c.begin_fetch-first.new.self c.wait_on.new.self c.begin_fetch-first.ensures.still c.wait_on.ensures.still in
    after c.args.self.now c.read_here.new.self c.wait_on.new.self (read_here_still c.args.self.now c.read_here.new.self c.args.page c.read_here.ensures.after) waited

pub returns-then-read_here-clause-still : goal.returns-then-read_here-clause-still
returns-then-read_here-clause-still g c = read_here_still c.args.self.now c.read_here.new.self c.args.page c.read_here.ensures.after
