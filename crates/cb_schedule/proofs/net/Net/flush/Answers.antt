-- Goals of `Net::flush`.
use Rattle.std.proofs.Common.{subst, sym, ap, ◌∙◌}
use Rattle.std.proofs.lemmas.Result.{IfOk-weaker}
use Rattle.std.specs.Prelude.{ℕ}
use Rattle.cb_commit.specs.Stores.{StoreState}
use Rattle.cb_server_state.specs.declared.server_state.ServerState.{ServerState}
use Rattle.cb_protocol.specs.World.{Event, FlushAll}
use Rattle.cb_schedule.specs.NetMoves.{FlushesTo, NetBecomes}
use Rattle.cb_schedule.specs.NetState.{NetState}
use Rattle.cb_schedule.proofs.Nets.{flushes_all}
use Rattle.cb_schedule.proofs.net.Net.flush.Goals as goal

pub returns-clause-ok : goal.returns-clause-ok
returns-clause-ok g c =
    let net = c.args.self.now in
    let last = c.number-last.ensures.value ∙ ap (λ (s : StoreState). s.number) (c.store.ensures.value ∙ ap (λ (h : ServerState). h.commits.store) c.state.ensures.value)
    ∙ ap (λ (n : NetState). n.server.state.commits.store.number) c.self.view_is in
    IfOk-weaker c.flush_to.result (λ a. (event : Event) → FlushesTo net event c.number-last.result → NetBecomes net event a c.flush_to.new.self) (λ a. NetBecomes net FlushAll a c.flush_to.new.self)
    (λ a becomes. becomes FlushAll (subst (λ (number : ℕ). FlushesTo net FlushAll number) (sym last) (flushes_all net))) c.flush_to.ensures.ok
