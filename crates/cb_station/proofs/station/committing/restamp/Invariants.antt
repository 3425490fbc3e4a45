-- What holds at each turn of the loops of `restamp`.
use Rattle.std.proofs.Common.{◌≡◌, drop, length}
use Rattle.cb_hands.specs.OwnHand.{all_restamped}
use Rattle.cb_hands.specs.Joined.{Follow}
use Rattle.cb_station.proofs.station.committing.restamp.Given as goal

abbrev pub invariant-loop-page : goal.invariant-loop-page
invariant-loop-page l = record {
  left : all_restamped l.hand (drop l.page-index l.pages) l.fn.version ≡ all_restamped l.initial.hand l.pages l.fn.version;
  follow : Follow l.initial.hands l.hands l.initial.hand l.hand;
  client : l.hand.client ≡ l.initial.hand.client;
  size : length l.hand.held ≡ length l.initial.hand.held;
}
