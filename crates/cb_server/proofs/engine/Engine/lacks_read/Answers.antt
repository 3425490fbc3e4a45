-- Goals of `Engine::lacks_read`.
use Rattle.std.proofs.Common.{◌∙◌, ap}
use Rattle.std.specs.Option.{is_some}
use Rattle.cb_server.proofs.Beginning.{row_in, stands_in}
use Rattle.cb_server.proofs.engine.Engine.lacks_read.Goals as goal

pub returns : goal.returns
returns c =
    c.lacks_grant.ensures c.args.txn c.args.page
    (stands_in c.args.self.now c.state-state.result.now c.args.client c.args.txn c.standing-standing.result c.state-state.ensures.value c.standing-standing.ensures.value c.standing-standing.ensures.last)
    (c.is_some-has_row.ensures ∙ ap is_some (row_in c.args.self.now c.state-state.result.now c.args.client c.args.page c.row.result c.state-state.ensures.value c.row.ensures.value))
