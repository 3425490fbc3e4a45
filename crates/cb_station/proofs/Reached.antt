-- What the protocol says of servers that arose, of a station's server.
use Rattle.std.proofs.Common.{◌≡◌, ◌∙◌, false}
use Rattle.cb_server.specs.ServerValue.{IsServer, ServerValue, server_of}
use Rattle.cb_server.proofs.LawsKept.{reached}
use Rattle.cb_protocol.proofs.MarksKept.{orderly}
use Rattle.cb_protocol.proofs.LivePermissions.{AnyMessage}
use Rattle.cb_protocol.proofs.ServerOrder.{Orderly}

pub in_order : (state : ServerValue) → IsServer state → Orderly AnyMessage (server_of state)
in_order state arisen = orderly (server_of state) (reached state arisen)

-- a server that keeps no permission
pub keeps_none : (state : ServerValue) → IsServer state → state.limits.keep_write ≡ false → (server_of state).store.keep_write ≡ false
keeps_none state arisen plain = arisen.of.keep_write ∙ plain
