-- Goals of `Server::flushed`.
use Rattle.std.proofs.Common.{◌≡◌, true, refl, sym, ap, arith, subst}
use Rattle.std.specs.List.{AllByRecursion}
use Rattle.cb_frame.specs.Grammar.{Fits}
use Rattle.cb_outbox.specs.Messages.{messages_of}
use Rattle.cb_protocol.specs.AnyMessages.{ReachesDisk}
use Rattle.cb_protocol.specs.Flush.{can_flush}
use Rattle.cb_server.specs.Answering.{server_in}
use Rattle.cb_server.specs.ServerValue.{ServerValue, most_frames, server_of}
use Rattle.cb_server.specs.Taking.{Does}
use Rattle.cb_server.proofs.Arising.{arises, said_fits}
use Rattle.cb_server.proofs.Flushing.{flush_needs}
use Rattle.cb_server.proofs.server.Server.flushed.Goals as goal

pub flushed-requires : goal.flushed-requires
flushed-requires c = subst (λ (v : ServerValue). can_flush (server_of v) c.args.number ≡ true) (sym c.self.view_is) c.requires

pub invariant_of-self-2 : goal.invariant_of-self-2
invariant_of-self-2 c = record {
  is = arises c.self.inside.limits c.self.inside.engine.callbacks.state c.flushed.new.self.state (ReachesDisk c.args.number) c.self.invariant.is tt
      c.in_ok-dones.ensures.ok.stays c.in_ok-dones.ensures.ok.becomes;
  sent = c.self.invariant.sent;
  page_size = c.self.invariant.page_size;
  room = let same = flush_needs (server_in c.self.inside.engine) c.args.number in let now = ap most_frames c.in_ok-dones.ensures.ok.becomes in
      let room = c.self.invariant.room in omega (arith, same, now, room);
  spare = c.self.invariant.spare;
}

pub returns-clause-fits : goal.returns-clause-fits
returns-clause-fits c =
    subst (λ (v : ServerValue). AllByRecursion (Fits v.limits) c.in_ok-dones.dones.items) c.self.view_is
    (said_fits c.self.inside.limits c.self.inside.engine.callbacks.state (ReachesDisk c.args.number) c.in_ok-dones.dones.items c.self.invariant.is tt c.in_ok-dones.ensures.dones)

pub returns-clause-ok : goal.returns-clause-ok
returns-clause-ok c =
    subst (λ (v : ServerValue). Does v (ReachesDisk c.args.number) (messages_of c.in_ok-dones.dones.items) (record { limits = c.self.inside.limits; state = c.flushed.new.self.state })) c.self.view_is
    (record { sends = c.in_ok-dones.ensures.dones; becomes = c.in_ok-dones.ensures.ok.becomes; limits = refl; opening = c.in_ok-dones.ensures.ok.stays.opening; forgotten = c.in_ok-dones.ensures.ok.stays.forgotten })
