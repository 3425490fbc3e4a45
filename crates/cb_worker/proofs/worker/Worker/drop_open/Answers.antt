-- Goals of `Worker::drop_open`.
use Rattle.std.proofs.Common.{◌≡◌, List, [], refl, subst, sym}
use Rattle.cb_client.specs.ByTable.{Calls, over}
use Rattle.cb_frame.specs.declared.frame.Frame.{Frame}
use Rattle.cb_outbox.specs.Messages.{messages_of}
use Rattle.cb_protocol.specs.Answers.{AnsweredOk}
use Rattle.cb_protocol.specs.ClientCalls.{CallDrop}
use Rattle.cb_worker.proofs.Dropping.{says}
use Rattle.cb_worker.proofs.Standing.{dropped}
use Rattle.cb_worker.proofs.Staying.{dropped_still}
use Rattle.cb_worker.proofs.worker.Worker.drop_open.Goals as goal

pub returns-clause-dropped : goal.returns-clause-dropped
returns-clause-dropped g c = dropped _ _ _ c.in_ok-said.ensures.ok c.in_ok-said.ensures.over

pub returns-clause-still : goal.returns-clause-still
returns-clause-still g c =
    let none : c.self.inside.said ≡ [] = rw (← c.self.view_is) at c.requires.silent in
    let calls : Calls c.self.inside.client CallDrop AnsweredOk (messages_of c.of.result) over c.drop_txn.new.self = subst (λ (l : List Frame). Calls c.self.inside.client CallDrop AnsweredOk (messages_of l) over c.drop_txn.new.self) (sym c.of.ensures) c.in_ok-said.ensures.ok in
    let still = dropped_still (record { client = c.self.inside.client; hand = c.self.inside.hand; collected = c.self.inside.collected; said = c.self.inside.said }) (record { client = c.drop_txn.new.self; hand = c.self.inside.hand; collected = c.self.inside.collected; said = c.of.result }) calls c.in_ok-said.ensures.over none refl in
    rw (← c.self.view_is) still

pub returns-clause-says : goal.returns-clause-says
returns-clause-says g c =
    let none : c.self.inside.said ≡ [] = rw (← c.self.view_is) at c.requires.silent in
    let calls : Calls c.self.inside.client CallDrop AnsweredOk (messages_of c.of.result) over c.drop_txn.new.self = subst (λ (l : List Frame). Calls c.self.inside.client CallDrop AnsweredOk (messages_of l) over c.drop_txn.new.self) (sym c.of.ensures) c.in_ok-said.ensures.ok in
    let still = dropped_still (record { client = c.self.inside.client; hand = c.self.inside.hand; collected = c.self.inside.collected; said = c.self.inside.said }) (record { client = c.drop_txn.new.self; hand = c.self.inside.hand; collected = c.self.inside.collected; said = c.of.result }) calls c.in_ok-said.ensures.over none refl in
    rw (← c.self.view_is) (says (record { client = c.self.inside.client; hand = c.self.inside.hand; collected = c.self.inside.collected; said = c.self.inside.said }) _ c.in_ok-said.said.items c.of.ensures c.in_ok-said.ensures.ok still)
