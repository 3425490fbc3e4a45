-- Goals of `tables_are_made`.
use Rattle.cb_shelf_laws.proofs.Creating.{tables_made}
use Rattle.cb_shelf_laws.proofs.tables_are_made.Goals as goal

pub returns : goal.returns
returns g c = record { law = tables_made g.S.Store }
