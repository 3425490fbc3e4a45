-- Goals of `ServerState::sole_row`.
use Rattle.std.proofs.Common.{◌≡◌, ◌∙◌, not, rules}
use Rattle.std.specs.Option.{is_some}
use Rattle.cb_server_state.proofs.Rows.{sole_by}
use Rattle.cb_server_state.proofs.server_state.ServerState.sole_row.Goals as goal

pub returns : goal.returns
returns c =
    let none : c.is_none.result ≡ not (is_some c.first.result) = search rules in
    none ∙ sole_by c.args.self.now c.args.client c.args.page c.rows_of_page-others.result c.remove.new.self c.first.result
    c.requires.agree c.rows_of_page-others.ensures.members c.remove.ensures c.first.ensures
