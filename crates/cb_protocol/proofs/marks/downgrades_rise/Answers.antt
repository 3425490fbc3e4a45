-- Goals of `downgrades_rise`.
use Rattle.cb_protocol.proofs.DowngradesSent.{downgrades_rise, holder_stays_while_read_waits}
use Rattle.cb_protocol.proofs.marks.downgrades_rise.Goals as goal

pub returns : goal.returns
returns c = record { once = downgrades_rise; holder_stays = holder_stays_while_read_waits }
