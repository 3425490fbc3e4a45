-- Goals of `cycle_test_is_exact`.
use Rattle.cb_protocol.proofs.CycleTest.{test_is_exact}
use Rattle.cb_protocol.proofs.deadlock.cycle_test_is_exact.Goals as goal

pub returns : goal.returns
returns c = record { exact = test_is_exact }
