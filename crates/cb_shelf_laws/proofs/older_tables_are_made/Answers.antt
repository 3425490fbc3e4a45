-- Goals of `older_tables_are_made`.
use Rattle.cb_shelf_laws.proofs.Creating.{old_made}
use Rattle.cb_shelf_laws.proofs.older_tables_are_made.Goals as goal

pub returns : goal.returns
returns g c = record { law = old_made g.S.Store }
