-- What the protocol's table says of a commit.
use Rattle.std.proofs.lemmas.Bool.Decides.{nat_tests}
use Rattle.std.proofs.Common.{◌==◌, ◌≡◌, ◌<◌, ℕ, true, List, [], ◌∷◌, Some, refl, sym, ◌∙◌, ap, arith}
use Rattle.cb_frame.specs.declared.writes.Write.{Write}
use Rattle.cb_outbox.specs.Messages.{page_writes}
use Rattle.cb_protocol.specs.Answers as table
use Rattle.cb_protocol.specs.Cache.{Finish}
use Rattle.cb_protocol.specs.Cache as protocol
use Rattle.cb_protocol.specs.Client.{ChangeCache, Client, bodies_said, is_asking}
use Rattle.cb_protocol.specs.ClientCalls.{CallFinish, say_commit, written_pages}
use Rattle.cb_protocol.specs.Messages.{Commit, Message}
use Rattle.cb_protocol.specs.Ranges.{InputFits}
use Rattle.cb_protocol.specs.Serial.{Operation}
use Rattle.cb_protocol.proofs.ClientInvariant.{tidy}
use Rattle.cb_client_core.specs.ClientState.{ClientState, IsClient, ask_of, base_of, client_of, locks_with, stage_of}
use Rattle.cb_client.specs.ByTable.{Calls, IsRefused, RefusesOrLacks, as_before, limits_at, messages_from}
use Rattle.cb_cache.specs.CacheState.{client_with}
use Rattle.cb_client.specs.declared.client_fault.ClientFault.{ClientFault}
use Rattle.cb_client.specs.declared.client_fault.ClientFault.TheVariants as fault
use Rattle.cb_client_core.specs.declared.stage.PendingAsk.TheVariants as asks
use Rattle.cb_client_core.specs.declared.stage.Stage.TheVariants as stages
use Rattle.cb_client.proofs.CallSteps.{FindsNone, accepted, accepts}
use Rattle.cb_client_core.proofs.Keeping.{keeps}
use Rattle.cb_client_core.proofs.Reaching.{calls_reach}

-- an ask is out only while a transaction is open, for a page that there is
pub asking_open : (v : ClientState) → IsClient v → is_asking (ask_of v.ask) ≡ true → v.stage ≡ stages.Idle → ⊥
asking_open v is e n = by ((tidy (limits_at v) (InputFits (limits_at v)) (client_of v is.reached.operations) is.reached.arises).asking e)
  where
    by : (client_of v is.reached.operations).cache.status ≡ protocol.Open → ⊥
    by o = absurd (let z : protocol.Idle ≡ protocol.Open = sym (ap stage_of n) ∙ o in cc)

pub asking_within : (v : ClientState) (page : ℕ) → IsClient v → v.ask ≡ asks.Write page → page < v.copies.limits.pages
asking_within v page is e = (tidy (limits_at v) (InputFits (limits_at v)) (client_of v is.reached.operations) is.reached.arises).write_within page (rw e (same page))
  where
    same : (q : ℕ) → (q == q) ≡ true
    same q = grind (arith, nat_tests)

pub finishes : (v : ClientState) (said : Message) → FindsNone v CallFinish
    → ((ops : List Operation) → messages_from v (bodies_said (say_commit (limits_at v) (client_of v ops))) ≡ said ∷ [])
    → Calls v CallFinish table.AnsweredOk (said ∷ []) as_before (record v { stage = stages.Committing })
finishes v said h commit = accepted v (record v { stage = stages.Committing }) CallFinish table.AnsweredOk (λ ops. ChangeCache Finish ∷ say_commit (limits_at v) (client_of v ops)) (said ∷ []) as_before (record {
  accepts = accepts v CallFinish h;
  reply = λ ops. refl;
  said = λ ops. commit ops;
  after = λ ops. refl;
  limits = refl;
  same_no = refl;
  same_incarnation = refl;
  references = refl;
})

pub finish_keeps : (v : ClientState) (said : Message) → FindsNone v CallFinish
    → ((ops : List Operation) → messages_from v (bodies_said (say_commit (limits_at v) (client_of v ops))) ≡ said ∷ []) → IsClient v → IsClient (record v { stage = stages.Committing })
finish_keeps v said h commit is =
    let new : ClientState = record v { stage = stages.Committing } in
    keeps v new is refl refl refl refl refl refl refl is.same_txn (λ q. refl) (λ q. refl) (λ q e. e) (λ q e. e) is.room (calls_reach v new CallFinish (finishes v said h commit) is.reached)

-- the table's refusal of a commit, which is no want of memory
pub refuses_finish : (v : ClientState) (f : ClientFault) → IsRefused v CallFinish f → RefusesOrLacks v CallFinish f v
refuses_finish v fault.Memory r = absurd (let z = r.named in cc)
refuses_finish v _ r = (r, refl)

-- the commit's message
pub commit_said : (v : ClientState) (txn : ℕ) (writes : List Write) → v.txn ≡ Some txn
    → ((k : Client) → page_writes writes ≡ written_pages (client_with v.copies k) v.copies.limits.pages)
    → (ops : List Operation) → messages_from v (bodies_said (say_commit (limits_at v) (client_of v ops)))
    ≡ record { client = v.no; incarnation = v.incarnation; body = Commit txn (page_writes writes) } ∷ []
commit_said v txn writes begun said ops = rw (begun, said (locks_with v.locks (base_of v ops))) refl
