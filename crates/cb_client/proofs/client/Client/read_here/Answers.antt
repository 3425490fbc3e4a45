-- Goals of `Client::read_here`.
use Rattle.cb_client.proofs.Calling.{copied, read_shut_out, refused_here, stays_here}
use Rattle.cb_client.proofs.Refusals.{page_shut}
use Rattle.std.proofs.Common.{sym}
use Rattle.cb_client.proofs.client.Client.read_here.Goals as goal

pub returns-in-Ok-clause-here : goal.returns-in-Ok-clause-here
returns-in-Ok-clause-here g c = (copied c.args.self.now c.lock_here.new.self c.args.page c.in-Ok.ensures.decided c.lock_here.result c.lock_here.ensures.here c.lock_here.ensures.read c.lock_here.ensures.away c.lock_here.ensures.page c.lock_here.ensures.locks).0

pub returns-in-Ok-clause-after : goal.returns-in-Ok-clause-after
returns-in-Ok-clause-after g c = (copied c.args.self.now c.lock_here.new.self c.args.page c.in-Ok.ensures.decided c.lock_here.result c.lock_here.ensures.here c.lock_here.ensures.read c.lock_here.ensures.away c.lock_here.ensures.page c.lock_here.ensures.locks).1

pub returns-in-Ok-clause-by_table : goal.returns-in-Ok-clause-by_table
returns-in-Ok-clause-by_table g c = (copied c.args.self.now c.lock_here.new.self c.args.page c.in-Ok.ensures.decided c.lock_here.result c.lock_here.ensures.here c.lock_here.ensures.read c.lock_here.ensures.away c.lock_here.ensures.page c.lock_here.ensures.locks).2

pub returns-in-Err-clause-here : goal.returns-in-Err-clause-here
returns-in-Err-clause-here g c = sym (refused_here c.args.self.now c.args.page c.in-Err.field-0
    (read_shut_out c.args.self.now c.args.page c.in-Err.field-0 (page_shut c.args.self.now c.args.page _ c.in-Err.ensures.decided)))

pub returns-in-Err-clause-after : goal.returns-in-Err-clause-after
returns-in-Err-clause-after g c = stays_here c.args.self.now c.args.page (refused_here c.args.self.now c.args.page c.in-Err.field-0
    (read_shut_out c.args.self.now c.args.page c.in-Err.field-0 (page_shut c.args.self.now c.args.page _ c.in-Err.ensures.decided)))
