-- Goals of `Callbacks::+settle_page`.
use Rattle.std.proofs.Common.{◌≡◌, ◌∙◌, ◌+◌, ◌-◌, ◌<◌, ℕ, sym, subst, arith}
use Rattle.cb_outbox.specs.Saying.{HasRoomFor, Says}
use Rattle.cb_protocol.specs.Settling.{settle_page}
use Rattle.cb_protocol.specs.WaitsFor.{on_cycle}
use Rattle.cb_server_state.specs.States.{server_of}
use Rattle.cb_callbacks.proofs.Settling.{left_decided, room_decided, room_others, settles_last}
use Rattle.cb_outbox.proofs.Saying.{settle_more, settle_stop}
use Rattle.cb_callbacks.proofs.callbacks.Callbacks.+settle_page.Goals as goal
use Rattle.cb_callbacks.proofs.callbacks.Callbacks.+settle_page.Goals.{else-goes_on-via-then-goes_on+else-asks-gt0, else-goes_on-via-else-goes_on}

pub decide-goes_on-requires-clause-room : goal.decide-goes_on-requires-clause-room
decide-goes_on-requires-clause-room t c = room_decided on_cycle c.args.asks (server_of c.args.self.now.state) c.args.page c.args.outbox.now c.requires.room

pub settle_page-requires : goal.settle_page-requires
settle_page-requires t c =
    let some = c.if-asks-gt0.true in
    let measure = c.decreases in
    let stays = c.decide-goes_on.ensures.stays in
    let less : c.args.asks ≡ (c.args.asks - 1) + 1 = omega (arith, some) in (
      omega (arith, measure, some),
      (
        subst (λ (n : ℕ). c.args.page < n) (sym stays.pages) c.requires.page,
        (
          left_decided on_cycle (server_of c.args.self.now.state) _ c.args.page _ c.args.outbox.now c.decide-goes_on.new.outbox c.requires.page c.decide-goes_on.ensures.decides c.requires.left,
          (
            c.decide-goes_on.ensures.decides.says.page_size ∙ c.requires.size ∙ sym stays.page_size,
            subst (λ (n : ℕ). HasRoomFor (settle_page on_cycle n (server_of c.decide-goes_on.new.self.state) c.args.page) c.decide-goes_on.new.outbox) less
                (room_others on_cycle c.args.asks (server_of c.args.self.now.state) _ c.args.page c.args.outbox.now c.decide-goes_on.new.outbox c.requires.room c.if-goes_on.ensures.decides),
          ),
        ),
      ),
    )

pub returns-then-asks-gt0-clause-says : goal.returns-then-asks-gt0-clause-says
returns-then-asks-gt0-clause-says t c =
    let some = c.if-asks-gt0.true in
    let less : (c.args.asks - 1) + 1 ≡ c.args.asks = omega (arith, some) in
    settle_more on_cycle (server_of c.args.self.now.state) (server_of c.decide-goes_on.new.self.state) (server_of c.settle_page.new.self.state) c.args.asks c.args.page
    c.args.outbox.now c.decide-goes_on.new.outbox c.settle_page.new.outbox c.if-goes_on.ensures.decides
    (subst (λ (n : ℕ). Says (server_of c.decide-goes_on.new.self.state) (λ server. settle_page on_cycle n server c.args.page) (server_of c.settle_page.new.self.state) c.decide-goes_on.new.outbox c.settle_page.new.outbox)
    less c.settle_page.ensures.says)

pub returns-else-goes_on-clause-says : goal.returns-else-goes_on-clause-says
returns-else-goes_on-clause-says t c = elim c.else-goes_on.branch [
  | else-goes_on-via-then-goes_on+else-asks-gt0 w ↦
      let none = w.if-asks-gt0.false in
      settles_last on_cycle (server_of c.args.self.now.state) (server_of c.decide-goes_on.new.self.state) c.args.page c.args.asks c.args.outbox.now c.decide-goes_on.new.outbox
      (omega (arith, none)) w.if-goes_on.ensures.decides
  | else-goes_on-via-else-goes_on w ↦
      settle_stop on_cycle (server_of c.args.self.now.state) (server_of c.decide-goes_on.new.self.state) c.args.asks c.args.page c.args.outbox.now c.decide-goes_on.new.outbox w.if-goes_on.ensures.decides
]
