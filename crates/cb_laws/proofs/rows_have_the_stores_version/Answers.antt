-- Goals of `rows_have_the_stores_version`.
use Rattle.cb_laws.proofs.RowVersions.{copies_on_their_way, server_row_versions, world_row_versions}
use Rattle.cb_laws.proofs.rows_have_the_stores_version.Goals as goal

pub returns : goal.returns
returns c = record { servers = server_row_versions; law = world_row_versions; on_their_way = copies_on_their_way }
