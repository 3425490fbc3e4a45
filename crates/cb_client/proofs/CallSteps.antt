-- What the protocol's table says of each call.
use Rattle.std.proofs.Common.{◌≡◌, ◌≢◌, ◌+◌, ◌<◌, ℕ, List, [], ◌∷◌, Option, Some, None, unwrap_or, refl, sym, ◌∙◌, ap, arith}
use Rattle.std.specs.Option.{option_map}
use Rattle.cb_protocol.proofs.Cases.{call_accepted, fault_of_hello, fault_of_peek}
use Rattle.cb_protocol.specs.Answers as table
use Rattle.cb_protocol.specs.Basics.{Bytes}
use Rattle.cb_protocol.specs.Cache.{Begin, Idle}
use Rattle.cb_protocol.specs.Client.{ChangeCache, ClientStep, Say, bodies_said, client_after}
use Rattle.cb_protocol.specs.ClientCalls.{Call, CallBegin, CallHello, CallPeek, Reply, accept_call, call_fault, client_call, peek_word, reply_with}
use Rattle.cb_protocol.specs.Messages.{Hello, Message}
use Rattle.cb_protocol.specs.Ranges.{InputFits}
use Rattle.cb_protocol.specs.Serial.{Operation}
use Rattle.cb_cache.specs.CacheState.{content_at}
use Rattle.cb_client_core.specs.ClientState.{ClientState, IsClient, client_of, stage_of}
use Rattle.cb_client_core.specs.declared.stage.Stage.{Stage}
use Rattle.cb_client_core.specs.declared.stage.Stage.TheVariants as stages
use Rattle.cb_client_core.proofs.Reaching.{calls_reach}
use Rattle.cb_client_core.proofs.Keeping.{keeps}
use Rattle.cb_protocol.proofs.ClientInvariant.{tidy}
use Rattle.cb_client.specs.ByTable.{Calls, IsRefusal, IsRefused, as_before, limits_at, messages_from, references_of, refusal, with_read}
use Rattle.cb_client.specs.declared.client_fault.ClientFault.{ClientFault}

-- What an accepted call makes, where its reply is known.
pub record Accepted (v : ClientState) (call : Call) (answered : table.AnswerWord) (steps : List Operation → List ClientStep) (messages : List Message)
    (history : List Operation → List Operation) (w : ClientState) : Type 0 where
  pub accepts : IsRefusal v call None
  pub reply : (operations : List Operation) → accept_call (limits_at v) (client_of v operations) call ≡ reply_with answered (steps operations)
  pub said : (operations : List Operation) → messages_from v (bodies_said (steps operations)) ≡ messages
  pub after : (operations : List Operation) → client_after v.copies.limits.keep_write (client_of v operations) (steps operations) ≡ client_of w (history operations)
  pub limits : w.copies.limits ≡ v.copies.limits
  pub same_no : w.no ≡ v.no
  pub same_incarnation : w.incarnation ≡ v.incarnation
  pub references : references_of w ≡ with_read v answered call (references_of v)

pub accepted : (v w : ClientState) (call : Call) (answered : table.AnswerWord) (steps : List Operation → List ClientStep) (messages : List Message) (history : List Operation → List Operation)
    → Accepted v call answered steps messages history w → Calls v call answered messages history w
accepted v w call answered steps messages history a = record {
  word = λ ops. ap (λ (r : Reply). r.word) (reply ops);
  makes = record {
    said = λ ops. ap (λ (r : Reply). messages_from v (bodies_said r.steps)) (reply ops) ∙ a.said ops;
    after = λ ops. ap (λ (r : Reply). client_after v.copies.limits.keep_write (client_of v ops) r.steps) (reply ops) ∙ a.after ops;
    limits = a.limits;
    no = a.same_no;
    incarnation = a.same_incarnation;
  };
  references = a.references;
}
  where
    reply : (ops : List Operation) → client_call (limits_at v) (client_of v ops) call ≡ reply_with answered (steps ops)
    reply ops = call_accepted (limits_at v) (client_of v ops) call (a.accepts ops) ∙ a.reply ops

-- no cause of a refusal was found
abbrev pub FindsNone : ClientState → Call → Type 0
FindsNone v call = (ops : List Operation) → None ≡ option_map Some (call_fault (limits_at v) (client_of v ops) call)

pub accepts : (v : ClientState) (call : Call) → FindsNone v call → IsRefusal v call None
accepts v call d ops = none_of _ (d ops)
  where
    none_of : (f : Option table.ClientFault) → None ≡ option_map Some f → f ≡ None
    none_of None e = refl
    none_of (Some f) e = absurd cc

pub refused : (v : ClientState) (call : Call) (f : ClientFault)
    → ((ops : List Operation) → Some (refusal f) ≡ option_map Some (call_fault (limits_at v) (client_of v ops) call)) → IsRefused v call f
refused v call f d = by (refusal f) refl
  where
    never : (x : Option table.ClientFault) → Some None ≡ option_map Some x → ⊥
    never None e = absurd cc
    never (Some y) e = absurd cc

    same : (r : table.ClientFault) (x : Option table.ClientFault) → Some (Some r) ≡ option_map Some x → x ≡ Some r
    same r None e = absurd cc
    same r (Some y) e = cc

    by : (r : Option table.ClientFault) → refusal f ≡ r → IsRefused v call f
    by None e = absurd (never _ (ap Some (sym e) ∙ d []))
    by (Some r) e = record { reason = r; named = e; refuses = λ ops. same r _ (ap Some (sym e) ∙ d ops) }

pub greets : (v : ClientState) → Calls v CallHello table.AnsweredOk (record { client = v.no; incarnation = v.incarnation; body = Hello } ∷ []) as_before v
greets v = accepted v v CallHello table.AnsweredOk (λ ops. Say Hello ∷ []) _ as_before (record {
  accepts = λ ops. fault_of_hello (limits_at v) (client_of v ops);
  reply = λ ops. refl;
  said = λ ops. refl;
  after = λ ops. refl;
  limits = refl;
  same_no = refl;
  same_incarnation = refl;
  references = refl;
})

peek_refers : (v : ClientState) (page : ℕ) (bytes : Option Bytes) → references_of v ≡ with_read v (peek_word bytes) (CallPeek page) (references_of v)
peek_refers v page None = refl
peek_refers v page (Some bytes) = refl

pub peeks : (v : ClientState) (page : ℕ) (bytes : Option Bytes) → bytes ≡ content_at v.copies page → Calls v (CallPeek page) (peek_word bytes) [] as_before v
peeks v page bytes e = accepted v v (CallPeek page) (peek_word bytes) (λ ops. []) [] as_before (record {
  accepts = λ ops. fault_of_peek (limits_at v) (client_of v ops) page;
  reply = λ ops. ap (λ (o : Option Bytes). reply_with (peek_word o) []) (sym e);
  said = λ ops. refl;
  after = λ ops. refl;
  limits = refl;
  same_no = refl;
  same_incarnation = refl;
  references = peek_refers v page bytes;
})

-- the transaction that has begun has a number
pub has_begun : (v : ClientState) → IsClient v → v.stage ≢ stages.Idle → v.txn ≡ None → ⊥
has_begun v is n e = none_begun v.txn e ((tidy (limits_at v) (InputFits (limits_at v)) (client_of v is.reached.operations) is.reached.arises).begun (not_idle v.stage n))
  where
    none_begun : (t : Option ℕ) → t ≡ None → 0 < unwrap_or t 0 → ⊥
    none_begun None e lt = absurd (omega arith)
    none_begun (Some x) e lt = absurd cc

    not_idle : (s : Stage) → s ≢ stages.Idle → stage_of s ≢ Idle
    not_idle stages.Idle n z = n refl
    not_idle stages.Open n z = absurd cc
    not_idle stages.Committing n z = absurd cc

pub begins : (v : ClientState) (txn : ℕ) → FindsNone v CallBegin → txn ≡ unwrap_or v.txn 0 + 1
    → Calls v CallBegin table.AnsweredOk [] as_before (record v { txn = Some txn; stage = stages.Open; locks = record v.locks { txn = Some txn } })
begins v txn h e = rw e (accepted v (record v { txn = Some (unwrap_or v.txn 0 + 1); stage = stages.Open; locks = record v.locks { txn = Some (unwrap_or v.txn 0 + 1) } })
    CallBegin table.AnsweredOk (λ ops. ChangeCache Begin ∷ []) [] as_before (record {
      accepts = accepts v CallBegin h;
      reply = λ ops. refl;
      said = λ ops. refl;
      after = λ ops. refl;
      limits = refl;
      same_no = refl;
      same_incarnation = refl;
      references = refl;
    }))

pub begin_keeps : (v : ClientState) (txn : ℕ) → FindsNone v CallBegin → txn ≡ unwrap_or v.txn 0 + 1 → IsClient v
    → IsClient (record v { txn = Some txn; stage = stages.Open; locks = record v.locks { txn = Some txn } })
begin_keeps v txn h e is =
    let new : ClientState = record v { txn = Some txn; stage = stages.Open; locks = record v.locks { txn = Some txn } } in
    keeps v new is refl refl refl refl refl refl refl refl (λ q. refl) (λ q. refl) (λ q e. e) (λ q e. e) is.room (calls_reach v new CallBegin (begins v txn h e) is.reached)
