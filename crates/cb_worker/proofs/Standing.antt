-- What the client's words of its transaction mean.
use Rattle.std.proofs.Common.{◌≡◌, ◌≢◌, Bool, true, false, List, [], Option, Some, None, IfSome, ap, refl, sym, ◌∙◌, not, if◌then◌else◌}
use Rattle.cb_client.specs.ByTable.{Calls, limits_at, over}
use Rattle.cb_client_core.specs.ClientState.{ClientState, client_of, outcome_of, status_of}
use Rattle.cb_client_core.specs.declared.stage.Outcome.{Outcome}
use Rattle.cb_client_core.specs.declared.stage.ClientStatus as says
use Rattle.cb_client_core.specs.declared.stage.ClientStatus.TheVariants as statuses
use Rattle.cb_client_core.specs.declared.stage.Stage.TheVariants as stages
use Rattle.cb_protocol.proofs.PagesStay.{last_outcome_is_true}
use Rattle.cb_protocol.specs.Answers as table
use Rattle.cb_protocol.specs.Cache.{Committing, Idle, Open, TransactionState, is_committing}
use Rattle.cb_protocol.specs.Client.{Aborted, Ask, Client, Dropped, LastOutcome, StatusCommitting, StatusIdle, StatusNotWelcome, StatusOpen, StatusWaiting, client_status, is_asking, welcomed_status}
use Rattle.cb_protocol.specs.ClientAlone.{ReceivesCall}
use Rattle.cb_protocol.specs.ClientCalls.{CallDrop, accept_or_refuse, call_fault, client_call, first_refusal, open_causes}
use Rattle.cb_protocol.specs.Messages.{Message}
use Rattle.cb_protocol.specs.Serial.{Operation}
use Rattle.cb_worker.specs.Committing.{IsCommitting}
use Rattle.cb_worker.specs.Waiting.{IsFinished, ending_of}
use Rattle.cb_worker.specs.Workers.{Ended, HasTransaction, IsIdle, WasAborted, WorkerState}
use Rattle.cb_worker.specs.declared.answers.Finished.{Finished}

committing : (w : Bool) (s : TransactionState) (a : Ask) → StatusCommitting ≡ (if not w then StatusNotWelcome else welcomed_status s a) → is_committing s ≡ true
committing false s a e = absurd cc
committing true Idle a e = absurd cc
committing true Open a e = absurd (go (is_asking a) e)
  where
    go : (b : Bool) → StatusCommitting ≡ (if b then StatusWaiting else StatusOpen) → ⊥
    go true e = absurd cc
    go false e = absurd cc
committing true Committing a e = refl

idle : (w : Bool) (s : TransactionState) (a : Ask) → StatusIdle ≡ (if not w then StatusNotWelcome else welcomed_status s a) → s ≡ Idle
idle false s a e = absurd cc
idle true Idle a e = refl
idle true Open a e = absurd (go (is_asking a) e)
  where
    go : (b : Bool) → StatusIdle ≡ (if b then StatusWaiting else StatusOpen) → ⊥
    go true e = absurd cc
    go false e = absurd cc
idle true Committing a e = absurd cc

said_committing : (s : says.ClientStatus) → status_of s ≡ StatusCommitting → s ≡ statuses.Committing
said_committing statuses.NotWelcome e = absurd cc
said_committing statuses.Idle e = absurd cc
said_committing statuses.Open e = absurd cc
said_committing statuses.Waiting e = absurd cc
said_committing statuses.Committing e = refl

-- one that says so is committing
pub committing_so : (v : ClientState) (s : says.ClientStatus) → ((ops : List Operation) → status_of s ≡ client_status (client_of v ops)) → s ≡ statuses.Committing → IsCommitting v
committing_so v s says_so is = sym (rw is at (says_so []))

pub says_committing : (v : ClientState) (s : says.ClientStatus) → ((ops : List Operation) → status_of s ≡ client_status (client_of v ops)) → IsCommitting v → s ≡ statuses.Committing
says_committing v s says_so c = said_committing s (says_so [] ∙ c)

-- and its transaction is then
pub is_then : (v : ClientState) → IsCommitting v → is_committing (client_of v []).cache.status ≡ true
is_then v c = committing v.welcomed (client_of v []).cache.status (client_of v []).ask (sym c)

-- one that says that it is idle is
pub idle_so : (w : WorkerState) (s : says.ClientStatus) → ((ops : List Operation) → status_of s ≡ client_status (client_of w.client ops)) → s ≡ statuses.Idle → IsIdle w
idle_so w s says_so is ops = idle _ _ _ (rw is at (says_so ops))

-- a call that is answered isn't refused
unrefused : (v : ClientState) (ops : List Operation) → (client_call (limits_at v) (client_of v ops) CallDrop).word ≡ table.AnsweredOk → first_refusal (open_causes (client_of v ops)) ≡ None
unfolding call_fault client_call
unrefused v ops e = go (first_refusal (open_causes (client_of v ops))) refl e
  where
    go : (f : Option table.ClientFault) → first_refusal (open_causes (client_of v ops)) ≡ f → (accept_or_refuse (limits_at v) (client_of v ops) CallDrop f).word ≡ table.AnsweredOk → first_refusal (open_causes (client_of v ops)) ≡ None
    go None e w = e
    go (Some f) e w = absurd cc

-- a client that was told to drop its transaction has dropped it
pub dropped : (old : ClientState) (new : WorkerState) (messages : List Message) → Calls old CallDrop table.AnsweredOk messages over new.client → new.client.stage ≡ stages.Idle → Ended new Dropped
dropped old new messages calls idle = record {
  idle = λ ops. rw idle refl;
  so = λ ops.
      let law = last_outcome_is_true (limits_at old) (client_of old ops) (ReceivesCall CallDrop) in
      let so = rw (unrefused old ops (calls.word ops)) at law in
      ap (λ (c : Client). c.last_outcome) (sym (calls.makes.after ops)) ∙ so;
}

-- a call to drop that is answered is accepted
pub accepted : (v : ClientState) (ops : List Operation) → (client_call (limits_at v) (client_of v ops) CallDrop).word ≡ table.AnsweredOk → call_fault (limits_at v) (client_of v ops) CallDrop ≡ None
unfolding call_fault
accepted v ops e = unrefused v ops e

-- one that says anything but that it isn't welcomed is
pub welcomed_so : (v : ClientState) (s : says.ClientStatus) → ((ops : List Operation) → status_of s ≡ client_status (client_of v ops)) → s ≢ statuses.NotWelcome → v.welcomed ≡ true
welcomed_so v s says_so n = go v.welcomed refl
  where
    unsaid : (t : says.ClientStatus) → status_of t ≡ StatusNotWelcome → t ≡ statuses.NotWelcome
    unsaid statuses.NotWelcome f = refl
    unsaid statuses.Idle f = absurd cc
    unsaid statuses.Open f = absurd cc
    unsaid statuses.Waiting f = absurd cc
    unsaid statuses.Committing f = absurd cc

    go : (w : Bool) → v.welcomed ≡ w → v.welcomed ≡ true
    go true f = f
    go false f = absurd (n (unsaid s (rw f at (says_so []))))

said_idle : (s : says.ClientStatus) → status_of s ≡ StatusIdle → s ≡ statuses.Idle
said_idle statuses.NotWelcome e = absurd cc
said_idle statuses.Idle e = refl
said_idle statuses.Open e = absurd cc
said_idle statuses.Waiting e = absurd cc
said_idle statuses.Committing e = absurd cc

resting : (k : Client) → k.cache.welcomed ≡ true → k.cache.status ≡ Idle → client_status k ≡ StatusIdle
resting k f e = rw (f, e) refl

-- one that says anything but that it is idle has no aborted transaction
pub going_on : (w : WorkerState) (s : says.ClientStatus) → ((ops : List Operation) → status_of s ≡ client_status (client_of w.client ops)) → s ≢ statuses.Idle → ¬ WasAborted w
going_on w s says_so n was = n (said_idle s (says_so [] ∙ resting (client_of w.client []) was.welcomed (was.ended.idle [])))

-- nor has one that says that the last one ended in another way
pub ended_else : (w : WorkerState) (last : Option Outcome) → ((ops : List Operation) → outcome_of last ≡ (client_of w.client ops).last_outcome) → outcome_of last ≢ Aborted → ¬ WasAborted w
ended_else w last says_so n was = n (says_so [] ∙ was.ended.so [])

-- nor has one whose last transaction ended in another way
pub ended_once : (w : WorkerState) (o : LastOutcome) → Ended w o → o ≢ Aborted → ¬ WasAborted w
ended_once w o ended n was = n (sym (ended.so []) ∙ was.ended.so [])

-- how the last transaction ended, by what the client says of it
pub finished_so : (w : WorkerState) (last : Outcome) (r : Option Finished) → IsIdle w → ((ops : List Operation) → outcome_of (Some last) ≡ (client_of w.client ops).last_outcome)
    → IfSome r (λ finished. outcome_of (Some last) ≡ ending_of finished) → IfSome r (IsFinished w)
finished_so w last None idle says_so is = tt
finished_so w last (Some f) idle says_so is = record { idle = idle; so = λ ops. sym (says_so ops) ∙ is }

unwelcomed : (w : Bool) (s : TransactionState) (a : Ask) → StatusNotWelcome ≡ (if not w then StatusNotWelcome else welcomed_status s a) → w ≡ false
unwelcomed false s a e = refl
unwelcomed true Idle a e = absurd cc
unwelcomed true Open a e = absurd (go (is_asking a) e)
  where
    go : (b : Bool) → StatusNotWelcome ≡ (if b then StatusWaiting else StatusOpen) → ⊥
    go true e = absurd cc
    go false e = absurd cc
unwelcomed true Committing a e = absurd cc

-- one that says that it isn't welcomed isn't
pub unwelcomed_so : (v : ClientState) (s : says.ClientStatus) → ((ops : List Operation) → status_of s ≡ client_status (client_of v ops)) → s ≡ statuses.NotWelcome → v.welcomed ≡ false
unwelcomed_so v s says_so is = unwelcomed v.welcomed (client_of v []).cache.status (client_of v []).ask (rw is at (says_so []))

-- one that says neither that it isn't welcomed nor that it is idle has a transaction
pub busy_so : (w : WorkerState) (s : says.ClientStatus) → ((ops : List Operation) → status_of s ≡ client_status (client_of w.client ops)) → s ≢ statuses.NotWelcome → s ≢ statuses.Idle → HasTransaction w
busy_so w s says_so n i =
    let is : w.client.welcomed ≡ true = welcomed_so w.client s says_so n in
    record { welcomed = is; busy = λ ops e. i (said_idle s (says_so ops ∙ resting (client_of w.client ops) is e)) }

-- one that isn't welcomed, or is idle, has none
pub none_unwelcomed : (w : WorkerState) → w.client.welcomed ≡ false → HasTransaction w → ⊥
none_unwelcomed w f h = absurd (let e : true ≡ false = sym h.welcomed ∙ f in cc)

pub none_idle : (w : WorkerState) → IsIdle w → HasTransaction w → ⊥
none_idle w is h = h.busy [] (is [])
