-- Goals of `waits_by_place`.
use Rattle.cb_waits.proofs.Cycles.{closes_cycle_is_test}
use Rattle.cb_waits.proofs.Rows.{edges_of_ask, no_ask_no_edge}
use Rattle.cb_waits.proofs.laws.waits_by_place.Goals as goal

pub returns : goal.returns
returns c = record {
  place = edges_of_ask;
  none = λ server client none other. no_ask_no_edge server client other none;
  test = closes_cycle_is_test;
}
