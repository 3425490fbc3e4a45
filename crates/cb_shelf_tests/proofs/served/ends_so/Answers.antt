-- Goals of `ends_so`.
use Rattle.cb_serve.proofs.Holding.{holds_still}
use Rattle.cb_shelf_tests.proofs.served.ends_so.Goals as goal

pub serve-served-requires-clause-holds : goal.serve-served-requires-clause-holds
serve-served-requires-clause-holds g c =
    holds_still g.S.Store c.in-Ok-load.store c.begin_life.new.self.conn c.load.new.self.conn c.in-Ok-load.ensures.holds c.in-Ok-load.ensures.same
