-- Goals of `Server::state`.
use Rattle.cb_server.proofs.RowsSaid.{says_row_versions}
use Rattle.cb_server.proofs.server.Server.state.Goals as goal

pub returns-clause-rows : goal.returns-clause-rows
returns-clause-rows c = says_row_versions _
