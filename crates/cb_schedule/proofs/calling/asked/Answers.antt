-- Goals of `asked`.
use Rattle.std.proofs.Common.{[]}
use Rattle.cb_schedule.proofs.Replying.{ask_there, asks_for}
use Rattle.cb_schedule.proofs.calling.asked.Goals as goal

pub unreachable-requires : goal.unreachable-requires
unreachable-requires g c = ask_there c.args.client.now c.requires.0 c.requires.1 (c.in-None.ensures.by_table [])

pub returns : goal.returns
returns g c page out =
    asks_for c.args.client.now page c.from.result c.in-Some.ask c.one.result out (c.in-Some.ensures.by_table []) c.in-Some.ensures.fits c.from.ensures c.one.ensures
