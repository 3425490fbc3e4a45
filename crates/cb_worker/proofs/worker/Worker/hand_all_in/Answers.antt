-- Goals of `Worker::hand_all_in`.
use Rattle.cb_worker.proofs.worker.Worker.hand_all_in.Goals as goal

pub returns-clause-hands : goal.returns-clause-hands
returns-clause-hands g c = (c.hand_kept_in-handed.new.station, c.hand_kept_in-handed.ensures.hands, c.tell.ensures)
