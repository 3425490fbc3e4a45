-- Goals of `Worker::ask_to_write`.
use Rattle.std.proofs.Common.{◌≡◌, [], Ok, refl}
use Rattle.cb_client.specs.CallAnswers.{Wants}
use Rattle.cb_client.specs.declared.answers.WantAnswer.TheVariants as want
use Rattle.cb_worker.proofs.Asking.{asks_to_write, may_already}
use Rattle.cb_worker.proofs.Staying.{wants_still}
use Rattle.cb_worker.proofs.worker.Worker.ask_to_write.Goals as goal

pub returns-in-Permitted-clause-still : goal.returns-in-Permitted-clause-still
returns-in-Permitted-clause-still g c =
    let w : Wants c.self.inside.client c.args.page (Ok want.Permitted) c.want.new.self = rw c.in-Permitted.is at c.in_ok-want.ensures.by_table in
    let none : c.self.inside.said ≡ [] = rw (← c.self.view_is) at c.requires.silent in
    rw (← c.self.view_is) (wants_still (record { client = c.self.inside.client; hand = c.self.inside.hand; collected = c.self.inside.collected; said = c.self.inside.said }) _ c.args.page (Ok want.Permitted) w none none refl)

pub returns-in-Permitted-clause-asks : goal.returns-in-Permitted-clause-asks
returns-in-Permitted-clause-asks g c =
    let w : Wants c.self.inside.client c.args.page (Ok want.Permitted) c.want.new.self = rw c.in-Permitted.is at c.in_ok-want.ensures.by_table in
    may_already c.args.self.now _ c.args.page (rw (← c.self.view_is) w) (rw (← c.self.view_is) at c.requires.silent)

pub returns-in-Asked-clause-still : goal.returns-in-Asked-clause-still
returns-in-Asked-clause-still g c =
    let w : Wants c.self.inside.client c.args.page (Ok (want.Asked c.in-Asked.ask)) c.want.new.self = rw c.in-Asked.is at c.in_ok-want.ensures.by_table in
    let none : c.self.inside.said ≡ [] = rw (← c.self.view_is) at c.requires.silent in
    rw (← c.self.view_is) (wants_still (record { client = c.self.inside.client; hand = c.self.inside.hand; collected = c.self.inside.collected; said = c.self.inside.said }) _ c.args.page (Ok (want.Asked c.in-Asked.ask)) w none c.keep.ensures refl)

pub returns-in-Asked-clause-asks : goal.returns-in-Asked-clause-asks
returns-in-Asked-clause-asks g c =
    let w : Wants c.self.inside.client c.args.page (Ok (want.Asked c.in-Asked.ask)) c.want.new.self = rw c.in-Asked.is at c.in_ok-want.ensures.by_table in
    asks_to_write c.args.self.now _ c.args.page c.in-Asked.ask (rw (← c.self.view_is) w) c.keep.ensures
