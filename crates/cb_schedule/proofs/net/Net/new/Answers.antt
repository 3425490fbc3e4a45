-- Goals of `Net::new`.
use Rattle.std.proofs.Common.{[], subst, sym}
use Rattle.cb_server_state.specs.States.{opening_of}
use Rattle.cb_schedule.specs.Packets.{PacketsState}
use Rattle.cb_schedule.specs.Wire.{AllSpell}
use Rattle.cb_schedule.proofs.net.Net.new.Goals as goal

pub returns-clause-represents : goal.returns-clause-represents
returns-clause-represents g c = record {
  server = sym c.in_ok-new.ensures.server;
  world_clients = c.in_ok-new-2.ensures.opening (opening_of c.args.store);
  packets = subst (λ (p : PacketsState). AllSpell c.in_ok-new-2.field-0.limits p.sent []) (sym c.new-3.ensures) tt;
}
