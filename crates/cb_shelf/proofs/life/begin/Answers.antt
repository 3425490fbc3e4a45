-- Goals of `begin`.
use Rattle.std.proofs.Common.{◌≡◌, rules}
use Rattle.cb_shelf.specs.Living.{life_from}
use Rattle.cb_shelf.proofs.Settling.{begun_survives}
use Rattle.cb_shelf.proofs.life.begin.Goals as goal

pub returns-clause-crash : goal.returns-clause-crash
returns-clause-crash g c =
    let is : c.in_ok-life.life ≡ life_from c.in_ok-below.below = search rules in
    begun_survives g.S.Store c.in_ok-below.below c.in_ok-life.life c.args.conn.now c.look_below.new.conn c.write_begin.new.conn is
    c.in_ok-below.ensures.told c.look_below.ensures.same c.look_below.ensures.crash c.write_begin.ensures.crash
