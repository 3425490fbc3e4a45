-- Goals of `Engine::grant_free`.
use Rattle.std.proofs.Common.{rules, ℕ, ◌≤◌, [], ◌∷◌, subst}
use Rattle.cb_protocol.specs.Messages.{AbortNow}
use Rattle.cb_protocol.specs.Settling.{send_to}
use Rattle.cb_server.specs.Answering.{server_in}
use Rattle.cb_server.proofs.FreePages.{answered, doomed_steps, ended_steps, free_begun, free_by, grants_as_asked, number_begun, room_to_grant, takes_begun}
use Rattle.cb_server.proofs.Beginning.{current_begun, grants_after_begin}
use Rattle.cb_server.proofs.Making.{makes_as, makes_nothing}
use Rattle.cb_server.proofs.engine.Engine.grant_free.Goals as goal

pub grant-requires-clause-greeted : goal.grant-requires-clause-greeted
grant-requires-clause-greeted c =
    subst (λ (n : ℕ). 1 ≤ n)
    (current_begun c.args.self.now c.begin_or_abort.new.self c.args.client c.args.txn c.args.incarnation c.in-Live.ensures.begins c.requires.current)
    (search rules)

pub grant-requires-clause-size : goal.grant-requires-clause-size
grant-requires-clause-size c =
    (grants_after_begin c.args.self.now c.begin_or_abort.new.self c.args.client c.args.txn c.in-Live.ensures.begins c.requires.room).size

pub grant-requires-clause-nobody : goal.grant-requires-clause-nobody
grant-requires-clause-nobody c =
    let free = free_begun c.args.self.now c.begin_or_abort.new.self c.args.client c.args.txn c.args.page c.in-Live.ensures.begins
    (free_by c.args.self.now c.args.client c.args.page c.requires.page c.requires.free) in
    free.nobody c.args.page free.within

pub grant-requires-clause-alone : goal.grant-requires-clause-alone
grant-requires-clause-alone c =
    (free_begun c.args.self.now c.begin_or_abort.new.self c.args.client c.args.txn c.args.page c.in-Live.ensures.begins
    (free_by c.args.self.now c.args.client c.args.page c.requires.page c.requires.free)).alone

pub grant-requires-clause-no_row : goal.grant-requires-clause-no_row
grant-requires-clause-no_row c =
    (free_begun c.args.self.now c.begin_or_abort.new.self c.args.client c.args.txn c.args.page c.in-Live.ensures.begins
    (free_by c.args.self.now c.args.client c.args.page c.requires.page c.requires.free)).no_row

pub grant-requires-clause-left : goal.grant-requires-clause-left
grant-requires-clause-left c =
    number_begun c.args.self.now c.begin_or_abort.new.self c.args.client c.args.txn c.args.page c.in-Live.ensures
    (free_begun c.args.self.now c.begin_or_abort.new.self c.args.client c.args.txn c.args.page c.in-Live.ensures.begins
    (free_by c.args.self.now c.args.client c.args.page c.requires.page c.requires.free)) c.requires.number

pub grant-requires-clause-room : goal.grant-requires-clause-room
grant-requires-clause-room c =
    room_to_grant c.begin_or_abort.new.self c.args.client c.args.page
    (grants_after_begin c.args.self.now c.begin_or_abort.new.self c.args.client c.args.txn c.in-Live.ensures.begins c.requires.room)

pub returns-in-Live : goal.returns-in-Live
returns-in-Live c =
    takes_begun c.args.self.now c.begin_or_abort.new.self (record { callbacks = c.grant.new.self; outbox = c.grant.new.outbox }) c.args.client c.args.txn c.args.page c.in-Live.ensures.begins
    (record {
      says = grants_as_asked (server_in c.begin_or_abort.new.self) _ c.args.client c.args.txn c.args.page c.begin_or_abort.new.self.outbox c.grant.new.outbox c.in-Live.ensures.stands
          (free_begun c.args.self.now c.begin_or_abort.new.self c.args.client c.args.txn c.args.page c.in-Live.ensures.begins
          (free_by c.args.self.now c.args.client c.args.page c.requires.page c.requires.free)) c.grant.ensures.says;
      stays = c.grant.ensures.stays;
    })

pub returns-in-Doomed : goal.returns-in-Doomed
returns-in-Doomed c =
    let doomed = c.in-Doomed.ensures in
    takes_begun c.args.self.now doomed.between c.begin_or_abort.new.self c.args.client c.args.txn c.args.page doomed.has.begins
    (makes_as doomed.between c.begin_or_abort.new.self (answered c.args.client c.args.txn c.args.page) (λ s. send_to s c.args.client (AbortNow c.args.txn) ∷ [])
    (doomed_steps (server_in doomed.between) c.args.client c.args.txn c.args.page doomed.has.stands
    (free_begun c.args.self.now doomed.between c.args.client c.args.txn c.args.page doomed.has.begins
    (free_by c.args.self.now c.args.client c.args.page c.requires.page c.requires.free)).nobody) doomed.told)

pub returns-in-Ended : goal.returns-in-Ended
returns-in-Ended c =
    takes_begun c.args.self.now c.begin_or_abort.new.self c.begin_or_abort.new.self c.args.client c.args.txn c.args.page c.in-Ended.ensures.begins
    (makes_as c.begin_or_abort.new.self c.begin_or_abort.new.self (answered c.args.client c.args.txn c.args.page) (λ s. [])
    (ended_steps (server_in c.begin_or_abort.new.self) c.args.client c.args.txn c.args.page c.in-Ended.ensures.stands
    (free_begun c.args.self.now c.begin_or_abort.new.self c.args.client c.args.txn c.args.page c.in-Ended.ensures.begins
    (free_by c.args.self.now c.args.client c.args.page c.requires.page c.requires.free)).nobody) (makes_nothing c.begin_or_abort.new.self))
