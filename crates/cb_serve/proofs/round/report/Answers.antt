-- Goals of `report`.
use Rattle.std.proofs.Common.{◌∙◌, ◌≤◌, ℕ, ap, arith, subst, sym}
use Rattle.std.specs.List.{AllByRecursion}
use Rattle.cb_frame.specs.Grammar.{Fits}
use Rattle.cb_outbox.specs.Messages.{messages_of}
use Rattle.cb_page.specs.Bounds.{Bounds}
use Rattle.cb_protocol.specs.AnyMessages.{ReachesDisk}
use Rattle.cb_server.specs.ServerValue.{ServerValue, forgot}
use Rattle.cb_server.specs.Taking.{Does}
use Rattle.cb_serve.proofs.Writing.{flushed_to}
use Rattle.cb_serve.proofs.round.report.Goals as goal

pub forget-requires : goal.forget-requires
forget-requires c =
    let far : c.number-number.result ≤ c.flushed.new.self.state.commits.flushed =
    flushed_to c.args.server.now c.flushed.new.self c.number-number.result (messages_of c.in_ok-dones.dones.items) c.in_ok-dones.ensures.ok in
    record { on_disk = omega arith }

pub returns-clause-fits : goal.returns-clause-fits
returns-clause-fits c =
    subst (λ (l : Bounds). AllByRecursion (Fits l) c.in_ok-dones.dones.items)
    (sym (ap (λ (v : ServerValue). v.limits) c.forget.ensures ∙ c.in_ok-dones.ensures.ok.limits)) c.in_ok-dones.ensures.fits

pub returns-clause-ok : goal.returns-clause-ok
returns-clause-ok c = record {
  reported = c.flushed.new.self;
  does = subst (λ (n : ℕ). Does c.args.server.now (ReachesDisk n) (messages_of c.in_ok-dones.dones.items) c.flushed.new.self) c.number-number.ensures c.in_ok-dones.ensures.ok;
  fit = c.in_ok-dones.ensures.fits;
  forgets = c.forget.ensures ∙ ap (forgot c.flushed.new.self) c.number-number.ensures;
}
