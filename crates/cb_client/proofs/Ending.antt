-- What the protocol's table says of a drop.
use Rattle.std.proofs.Common.{◌≡◌, ℕ, true, List, ◌∷◌, [], ◌++◌, Option, Some, None, unwrap_or, refl, sym, ◌∙◌, ap}
use Rattle.std.specs.Option.{option_map}
use Rattle.cb_cache.specs.CacheState.{CacheState}
use Rattle.cb_cache.specs.Ending.{pages_steps}
use Rattle.cb_frame.specs.declared.frame.Frame.{Frame}
use Rattle.cb_locks.specs.Locks.{LocksState}
use Rattle.cb_outbox.specs.Messages.{messages_of}
use Rattle.cb_protocol.specs.Answers as table
use Rattle.cb_protocol.specs.Cache.{Abandon}
use Rattle.cb_protocol.specs.Client.{ChangeCache, EndTransaction, Say, bodies_said}
use Rattle.cb_protocol.specs.Client as protocol
use Rattle.cb_protocol.specs.ClientCalls.{Call, CallDrop, call_fault, first_refusal, open_causes, reply_with}
use Rattle.cb_protocol.specs.Messages.{Drop}
use Rattle.cb_protocol.specs.Serial.{Operation}
use Rattle.cb_client_core.proofs.Ending.{EndsSo, after_drop, drop_steps, drop_whole, ended_keeps, same_pages, same_sender}
use Rattle.cb_client_core.specs.ClientState.{ClientState, IsClient, base_of, client_of}
use Rattle.cb_client_core.specs.declared.stage.PendingAsk.TheVariants as asks
use Rattle.cb_client_core.specs.declared.stage.Outcome.TheVariants as outcomes
use Rattle.cb_client_core.specs.declared.stage.Stage.TheVariants as stages
use Rattle.cb_client.specs.declared.client_fault.ClientFault.{ClientFault}
use Rattle.cb_client.specs.declared.client_fault.ClientFault.TheVariants as faults
use Rattle.cb_client.specs.ByTable.{Calls, IsRefused, RefusesOrLacks, limits_at, over}
use Rattle.cb_client.proofs.CallSteps.{FindsNone, accepted, accepts}
use Rattle.cb_client_core.proofs.Reaching.{calls_reach}

-- a drop is refused as any call that needs an open transaction
pub drop_is : (v : ClientState) (r : Option (Option table.ClientFault)) → ((ops : List Operation) → r ≡ option_map Some (first_refusal (open_causes (client_of v ops))))
    → (ops : List Operation) → r ≡ option_map Some (call_fault (limits_at v) (client_of v ops) CallDrop)
unfolding call_fault
drop_is v r e ops = e ops

pub refuses_or_lacks : (v : ClientState) (call : Call) (f : ClientFault) → IsRefused v call f → RefusesOrLacks v call f v
refuses_or_lacks v call faults.Memory r = absurd (let z : None ≡ Some r.reason = r.named in cc)
refuses_or_lacks v call _ r = (r, refl)

pub drops : (v : ClientState) (txn : ℕ) (frames : List Frame) (copies : CacheState) (locks : LocksState) → IsClient v → FindsNone v CallDrop → v.txn ≡ Some txn
    → EndsSo v (drop_steps protocol.Dropped txn) true frames copies locks → Calls v CallDrop table.AnsweredOk (messages_of frames) over (after_drop v txn outcomes.Dropped copies locks)
drops v txn frames copies locks is h begun ends = accepted v (after_drop v txn outcomes.Dropped copies locks) CallDrop table.AnsweredOk (λ ops. drop_steps protocol.Dropped txn ++ pages_steps v.copies v.locks true v.copies.limits.pages) (messages_of frames) over (record {
  accepts = accepts v CallDrop h;
  reply = λ ops i. reply_with table.AnsweredOk (EndTransaction protocol.Dropped ∷ ChangeCache Abandon ∷ Say (Drop (number i)) ∷ same_pages v true ops i);
  said = λ ops. same_sender v is (bodies_said (drop_steps protocol.Dropped txn ++ pages_steps v.copies v.locks true v.copies.limits.pages)) ∙ sym ends.says;
  after = λ ops. ends.becomes (base_of v ops) ∙ ap (λ (n : ℕ). client_of (record v { copies = copies; locks = locks; stage = stages.Idle; ask = asks.Nothing; dropped = Some n; last = Some outcomes.Dropped }) []) number;
  limits = ends.limits;
  same_no = refl;
  same_incarnation = refl;
  references = ends.references;
})
  where
    number : unwrap_or v.txn 0 ≡ txn
    number = ap (λ (t : Option ℕ). unwrap_or t 0) begun

pub drop_keeps : (v : ClientState) (txn : ℕ) (frames : List Frame) (copies : CacheState) (locks : LocksState) → IsClient v → FindsNone v CallDrop → v.txn ≡ Some txn
    → EndsSo v (drop_steps protocol.Dropped txn) true frames copies locks → IsClient (after_drop v txn outcomes.Dropped copies locks)
drop_keeps v txn frames copies locks is h begun ends =
    ended_keeps v (after_drop v txn outcomes.Dropped copies locks) is ends.limits refl refl refl refl ends.unlocked (drop_whole v protocol.Dropped txn frames copies locks is ends)
    (calls_reach v (after_drop v txn outcomes.Dropped copies locks) CallDrop (drops v txn frames copies locks is h begun ends) is.reached)
