-- Goals of `permissions_are_live_unless_kept`.
use Rattle.cb_protocol.proofs.LivePermissions.{permissions_live, plain_holds_up}
use Rattle.cb_protocol.proofs.deadlock.permissions_are_live_unless_kept.Goals as goal

pub returns : goal.returns
returns c = record { live = permissions_live; holds_up = plain_holds_up }
