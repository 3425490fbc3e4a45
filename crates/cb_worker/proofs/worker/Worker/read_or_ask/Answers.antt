-- Goals of `Worker::read_or_ask`.
use Rattle.std.proofs.Common.{◌≡◌, ◌∙◌, true, false, rules, Ok, None, List, [], inr, ap, refl, sym}
use Rattle.cb_frame.specs.declared.frame.Frame.{Frame}
use Rattle.cb_outbox.specs.Messages.{messages_of}
use Rattle.cb_client.specs.CallAnswers.{AnswersRead, after_read}
use Rattle.cb_client.specs.declared.answers.ReadAnswer.TheVariants as read
use Rattle.cb_worker.proofs.Asking.{asks_for, says_it}
use Rattle.cb_worker.proofs.Reading.{at_hand}
use Rattle.cb_worker.proofs.Refusing.{lacks_grant}
use Rattle.cb_worker.proofs.Staying.{behind_nothing, read_still, says_ask, says_nothing}
use Rattle.cb_worker.specs.Workers.{WorkerState, shows_copy}
use Rattle.cb_worker.proofs.worker.Worker.read_or_ask.Goals as goal

pub returns-then-shown-clause-reads : goal.returns-then-shown-clause-reads
returns-then-shown-clause-reads g c =
    let a : AnswersRead c.self.inside.client c.args.page (Ok (read.Bytes c.in-Bytes.field-0)) = rw c.in-Bytes.is at c.in_ok-read.ensures.answer in
    let shown : shows_copy c.args.self.now c.args.page ≡ true = search rules in
    rw (← c.self.view_is) (at_hand (record { client = c.self.inside.client; hand = c.self.inside.hand; collected = c.self.inside.collected; said = c.self.inside.said }) c.args.page c.in-Bytes.field-0
    c.read.follows.lender-at-none (rw (← c.self.view_is) at shown) a c.read.follows.holds-at-none)

pub returns-in-Bytes-clause-refused : goal.returns-in-Bytes-clause-refused
returns-in-Bytes-clause-refused g c =
    let a : AnswersRead c.self.inside.client c.args.page (Ok (read.Bytes c.in-Bytes.field-0)) = rw c.in-Bytes.is at c.in_ok-read.ensures.answer in
    let unshown : shows_copy c.args.self.now c.args.page ≡ false = search rules in
    inr (lacks_grant c.args.self.now (record { client = c.read.follows.lender-at-none; hand = c.self.inside.hand; collected = None; said = [] }) c.args.page c.in-Bytes.field-0 (rw (← c.self.view_is) a)
    (c.read.follows.holds-at-none ∙ ap (λ (w : WorkerState). after_read w.client c.args.page) c.self.view_is)
    (ap (λ (w : WorkerState). w.hand) c.self.view_is) unshown)

pub returns-in-Some-clause-reads : goal.returns-in-Some-clause-reads
returns-in-Some-clause-reads g c =
    let a : AnswersRead c.self.inside.client c.args.page (Ok read.Asked) = rw c.in-Asked.is at c.in_ok-read.ensures.answer in
    asks_for c.args.self.now _ c.args.page c.in-Some.ask (rw (← c.self.view_is) a) (rw (← c.self.view_is) c.read.follows.holds-at-none) c.in-Some.ensures.by_table c.keep.ensures

pub returns-in_default-clause-reads : goal.returns-in_default-clause-reads
returns-in_default-clause-reads g c =
    let a : AnswersRead c.self.inside.client c.args.page (Ok read.Asked) = rw c.in-Asked.is at c.in_ok-read.ensures.answer in
    absurd (says_it c.self.inside.client c.read.follows.lender-at-none c.args.page a c.read.follows.holds-at-none c.in_default.ensures.by_table)

pub returns-then-shown-clause-still : goal.returns-then-shown-clause-still
returns-then-shown-clause-still g c =
    let a : AnswersRead c.self.inside.client c.args.page (Ok (read.Bytes c.in-Bytes.field-0)) = rw c.in-Bytes.is at c.in_ok-read.ensures.answer in
    let none : c.self.inside.said ≡ [] = rw (← c.self.view_is) at c.requires.silent in
    rw (← c.self.view_is) (read_still (record { client = c.self.inside.client; hand = c.self.inside.hand; collected = c.self.inside.collected; said = c.self.inside.said }) _ c.args.page c.in_ok-read.ensures.by_table c.read.follows.holds-at-none
    (behind_nothing c.self.inside.said c.self.inside.said c.in_ok-read.ensures.by_table.messages none (ap (λ (l : List Frame). messages_of l) none ∙ sym (says_nothing c.self.inside.client c.args.page c.in-Bytes.field-0.now c.in_ok-read.ensures.by_table a))) refl)

pub returns-in-Bytes-clause-still : goal.returns-in-Bytes-clause-still
returns-in-Bytes-clause-still g c =
    let a : AnswersRead c.self.inside.client c.args.page (Ok (read.Bytes c.in-Bytes.field-0)) = rw c.in-Bytes.is at c.in_ok-read.ensures.answer in
    let none : c.self.inside.said ≡ [] = rw (← c.self.view_is) at c.requires.silent in
    rw (← c.self.view_is) (read_still (record { client = c.self.inside.client; hand = c.self.inside.hand; collected = c.self.inside.collected; said = c.self.inside.said }) _ c.args.page c.in_ok-read.ensures.by_table c.read.follows.holds-at-none
    (behind_nothing c.self.inside.said c.self.inside.said c.in_ok-read.ensures.by_table.messages none (ap (λ (l : List Frame). messages_of l) none ∙ sym (says_nothing c.self.inside.client c.args.page c.in-Bytes.field-0.now c.in_ok-read.ensures.by_table a))) refl)

pub returns-in-Some-clause-still : goal.returns-in-Some-clause-still
returns-in-Some-clause-still g c =
    let a : AnswersRead c.self.inside.client c.args.page (Ok read.Asked) = rw c.in-Asked.is at c.in_ok-read.ensures.answer in
    let none : c.self.inside.said ≡ [] = rw (← c.self.view_is) at c.requires.silent in
    let asks = asks_for (record { client = c.self.inside.client; hand = c.self.inside.hand; collected = c.self.inside.collected; said = c.self.inside.said }) (record { client = c.read.follows.lender-at-none; hand = c.self.inside.hand; collected = c.self.inside.collected; said = c.keep.new.self }) c.args.page c.in-Some.ask a c.read.follows.holds-at-none c.in-Some.ensures.by_table c.keep.ensures in
    rw (← c.self.view_is) (read_still (record { client = c.self.inside.client; hand = c.self.inside.hand; collected = c.self.inside.collected; said = c.self.inside.said }) (record { client = c.read.follows.lender-at-none; hand = c.self.inside.hand; collected = c.self.inside.collected; said = c.keep.new.self }) c.args.page c.in_ok-read.ensures.by_table c.read.follows.holds-at-none
    (behind_nothing c.self.inside.said c.keep.new.self c.in_ok-read.ensures.by_table.messages none (asks.said ∙ sym (says_ask c.self.inside.client c.args.page c.in_ok-read.ensures.by_table a))) refl)

pub returns-in_default-clause-still : goal.returns-in_default-clause-still
returns-in_default-clause-still g c =
    let a : AnswersRead c.self.inside.client c.args.page (Ok read.Asked) = rw c.in-Asked.is at c.in_ok-read.ensures.answer in
    absurd (says_it c.self.inside.client c.read.follows.lender-at-none c.args.page a c.read.follows.holds-at-none c.in_default.ensures.by_table)
