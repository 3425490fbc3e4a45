-- Goals of `permit`.
use Rattle.std.proofs.Common.{sym}
use Rattle.cb_station.proofs.Following.{held_place}
use Rattle.cb_station.proofs.station.collecting.permit.Goals as goal

pub has_permission-requires-clause-page : goal.has_permission-requires-clause-page
has_permission-requires-clause-page c = c.requires.pages c.args.page (held_place c.args.hand.now.held c.args.page c.in-Some.held (sym c.in-Some.ensures))
