-- Goals of `ServerState::is_write_holder`.
use Rattle.std.proofs.Common.{◌≡◌, Some, length, rules}
use Rattle.cb_directory.specs.Directories.{holder}
use Rattle.cb_server_state.proofs.Rows.{sole_of}
use Rattle.cb_server_state.proofs.server_state.ServerState.is_write_holder.Goals as goal

pub returns-clause-sole : goal.returns-clause-sole
returns-clause-sole c holds =
    let held : holder c.args.self.now.directory c.args.page ≡ Some c.args.client = search rules in
    sole_of c.args.self.now c.args.client c.args.page (length c.args.self.now.sessions) (c.holder.ensures.rule.alone c.args.page c.args.client held)
