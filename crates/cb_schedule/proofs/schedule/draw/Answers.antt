-- Goals of `draw`.
use Rattle.std.proofs.Common.{◌≡◌, rules}
use Rattle.cb_commit.specs.Stores.{zeros}
use Rattle.cb_transcript.specs.Drawn.{starts}
use Rattle.cb_schedule.proofs.Drawing.{are_drawn}
use Rattle.cb_schedule.specs.Draws.{IsOpening}
use Rattle.cb_schedule.proofs.schedule.draw.Goals as goal

pub returns : goal.returns
returns c =
    let limits = c.args.limits.now in
    let store : c.in_ok-store.store ≡ zeros limits = search rules in
    let first : c.new-drawing.result ≡ starts limits c.args.seed = search rules in
    let opening : IsOpening limits c.in_ok-world.world = record {
      limits = c.in_ok-world.ensures.limits;
      tells = rw store at c.in_ok-world.ensures.told;
      packets = c.in_ok-world.ensures.packets;
      shows = rw store at c.in_ok-world.ensures.represents;
    } in
    are_drawn c.draw_all.result _ limits c.args.seed c.args.count c.in_ok-world.world opening c.draw_all.ensures.as_many (rw first at c.draw_all.ensures.next)
