-- Goals of `deliver`.
use Rattle.std.proofs.Common.{refl, subst, sym}
use Rattle.cb_client.specs.ClientState.{ClientState}
use Rattle.cb_schedule.specs.ByWorld.{StaysOne}
use Rattle.cb_schedule.proofs.ClientWorlds.{takes_stays}
use Rattle.cb_schedule.proofs.calling.deliver.Goals as goal

pub returns-in-Ok-clause-stays : goal.returns-in-Ok-clause-stays
returns-in-Ok-clause-stays g c = takes_stays c.args.client.now c.take_owned.new.self _ _ c.in-Ok.ensures.ok

pub returns-in-Err-clause-stays : goal.returns-in-Err-clause-stays
returns-in-Err-clause-stays g c =
    subst (λ (x : ClientState). StaysOne c.args.client.now x) (sym c.in-Err.ensures.unchanged) (record { no = refl; incarnation = refl; limits = refl })
