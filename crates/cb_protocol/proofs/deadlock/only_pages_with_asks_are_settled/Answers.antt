-- Goals of `only_pages_with_asks_are_settled`.
use Rattle.cb_protocol.proofs.SettlingAgain.{empty_page, passed_over, listed_enough, settling_ends}
use Rattle.cb_protocol.proofs.deadlock.only_pages_with_asks_are_settled.Goals as goal

pub returns : goal.returns
returns c = record { empty = empty_page; passed_over = passed_over; listed = listed_enough; ends = settling_ends }
