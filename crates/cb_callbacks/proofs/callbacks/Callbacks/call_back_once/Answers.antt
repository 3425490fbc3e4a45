-- Goals of `Callbacks::call_back_once`.
use Rattle.std.proofs.Common.{◌≡◌, Bool, ℕ, sym, subst, false, rules}
use Rattle.cb_asks.specs.Queues.{waiting_ask}
use Rattle.cb_page.specs.Clients.{has}
use Rattle.cb_outbox.specs.Saying.{HasRoomFor, Says}
use Rattle.cb_protocol.specs.Server.{set_called_back}
use Rattle.cb_protocol.specs.Settling.{call_back_once, nobody, send_callbacks}
use Rattle.cb_callbacks.specs.Callbacks.{CallbacksState}
use Rattle.cb_server_state.specs.States.{server_of}
use Rattle.cb_callbacks.proofs.Noted.{called_back, kept_noted, notes_called, room_called}
use Rattle.cb_callbacks.proofs.callbacks.Callbacks.call_back_once.Goals as goal

pub call_back-requires-clause-room : goal.call_back-requires-clause-room
call_back-requires-clause-room c =
    let first : c.args.first.called_back ≡ false = search rules in
    subst (λ (left_out : ℕ → Bool). HasRoomFor (send_callbacks (server_of c.self.inside.state) left_out c.args.page c.args.first.client (server_of c.self.inside.state).clients) c.args.outbox.now) none
    (room_called (server_of c.self.inside.state) c.args.page (waiting_ask c.args.first) c.args.outbox.now first
    (subst (λ (v : CallbacksState). HasRoomFor (call_back_once (server_of v.state) c.args.page (waiting_ask c.args.first)) c.args.outbox.now) (sym c.self.view_is) c.requires.room))
  where
    none : nobody ≡ has c.empty-nobody.result
    none = sym (λ i client. c.empty-nobody.ensures client i)

pub invariant_of-self : goal.invariant_of-self
invariant_of-self c =
    kept_noted c.self.inside.state c.self.inside.view c.mark_called_back.new.self c.args.page set_called_back notes_called c.self.invariant c.mark_called_back.ensures.has

pub returns-then-not-first-clause-says : goal.returns-then-not-first-clause-says
returns-then-not-first-clause-says c =
    let first : c.args.first.called_back ≡ false = search rules in
    subst (λ (v : CallbacksState). Says (server_of v.state) (λ server. call_back_once server c.args.page (waiting_ask c.args.first))
    (server_of (record c.self.inside.state { asks = c.mark_called_back.new.self })) c.args.outbox.now c.call_back.new.outbox) c.self.view_is
    (called_back c.self.inside.state c.mark_called_back.new.self c.args.page (waiting_ask c.args.first) c.args.outbox.now c.call_back.new.outbox first
    (subst (λ (left_out : ℕ → Bool). Says (server_of c.self.inside.state) (λ server. send_callbacks server left_out c.args.page c.args.first.client server.clients) (server_of c.self.inside.state) c.args.outbox.now c.call_back.new.outbox)
    none c.call_back.ensures) c.mark_called_back.ensures.has)
  where
    none : has c.empty-nobody.result ≡ nobody
    none = λ i client. c.empty-nobody.ensures client i
