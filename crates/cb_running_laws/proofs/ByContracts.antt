-- Which public calls are steps, by what their contracts say.
use Rattle.std.proofs.Common.{◌≡◌, true≢false, ◌<◌, ℕ, true, List, [], length, Option}
use Rattle.std.proofs.Common.{Some}
use Rattle.std.proofs.Common.{None, refl, sym, ◌∙◌, ap, subst, unwrap_or}
use Rattle.std.proofs.lemmas.List.{append-nil}
use Rattle.std.specs.Option.{is_some, option_map}
use Rattle.cb_cache.specs.CacheState.{content_at}
use Rattle.cb_client.proofs.CallSteps.{FindsNone}
use Rattle.cb_client.proofs.Calling.{reads}
use Rattle.cb_client.specs.ByTable.{Calls, as_before, limits_at}
use Rattle.cb_client.specs.CallAnswers.{bytes_at, page_read, puts, sees}
use Rattle.cb_client_core.specs.ClientState.{ClientState, IsClient, client_of}
use Rattle.cb_outbox.specs.Messages.{messages_of}
use Rattle.cb_protocol.specs.Answers as table
use Rattle.cb_protocol.specs.Basics.{Bytes, is_none}
use Rattle.cb_protocol.specs.ClientCalls.{Call, CallBegin, CallRead, CallWrite, call_fault}
use Rattle.cb_protocol.specs.Serial.{Operation, PerformedOperation, Saw}
use Rattle.cb_station.specs.Stations.{StationState}
use Rattle.cb_station.specs.Telling as telling
use Rattle.cb_running_laws.proofs.Calling.{at_itself, at_others}
use Rattle.cb_running_laws.proofs.Worlds.{lent}
use Rattle.cb_running_laws.specs.ByContracts.{BeginsAreSteps, CommitsAreSteps, FlushesAreSteps}
use Rattle.cb_running_laws.specs.ByContracts.{ForgetsAreSteps, HitsAreSteps, JoinsAreSteps}
use Rattle.cb_running_laws.specs.ByContracts.{LeavesAreSteps, NewStationsHaveOpened}
use Rattle.cb_running_laws.specs.ByContracts.{RefusalsAreSteps, RestartsAreSteps}
use Rattle.cb_running_laws.specs.ByContracts.{ResumedStationsHaveOpened, TellsAreSteps}
use Rattle.cb_running_laws.specs.ByContracts.{TurnsAreSteps, WritesAreSteps, with_worker}
use Rattle.cb_running_laws.specs.Programs.{Program, limits_in}
use Rattle.cb_running_laws.specs.Programs.HasBegun.{anew, in_life}
use Rattle.cb_running_laws.specs.Steps.{Becomes, CallsClient, OthersStay, operation_of, performs}
use Rattle.cb_worker.proofs.Keeping.{read_free}
use Rattle.cb_worker.proofs.Reading.{reads as read_is, three}
use Rattle.cb_worker.specs.Moving.{new_worker}
use Rattle.cb_worker.specs.Workers.{WorkerState, after_hit, may_hit, shows_copy, with_client}

pub new_stations_have_opened : NewStationsHaveOpened
new_stations_have_opened limits store station sound new opened = record {
  sound = sound;
  server = anew new;
  hands = opened.hands;
  mailbox = opened.mailbox;
  nobody = λ client. refl;
  nothing = refl;
}

pub resumed_stations_have_opened : ResumedStationsHaveOpened
resumed_stations_have_opened limits store floor station sound least most resumed opened = record {
  sound = sound;
  server = in_life floor least most resumed;
  hands = opened.hands;
  mailbox = opened.mailbox;
  nobody = λ client. refl;
  nothing = refl;
}

others_stay : (old : Program) (after : StationState) (c : ℕ) (worker : Option WorkerState)
    → OthersStay old c (with_worker old after c worker)
others_stay old after c worker other n = at_others old.worker c other worker n

pub becomes : (old : Program) (after : StationState) (c : ℕ) (k next : WorkerState)
    → old.worker c ≡ Some k → Becomes old c k next (with_worker old after c (Some next))
becomes old after c k next was = record {
  was = was;
  becomes = at_itself old.worker c (Some next);
  others = others_stay old after c (Some next);
}

pub joins_are_steps : JoinsAreSteps
joins_are_steps old c hand after absent joined = record {
  absent = absent;
  hand = hand;
  joined = joined;
  becomes = at_itself old.worker c (Some (new_worker hand (limits_in old)));
  others = others_stay old after c (Some (new_worker hand (limits_in old)));
  silent = refl;
}

pub restarts_are_steps : RestartsAreSteps
restarts_are_steps old c incarnation k hand after was restarted = record {
  worker = k;
  hand = hand;
  restarted = restarted;
  becomes = becomes old after c k (new_worker hand (limits_in old)) was;
  silent = refl;
}

pub leaves_are_steps : LeavesAreSteps
leaves_are_steps old c k after was left = record {
  worker = k;
  was = was;
  left = left;
  gone = at_itself old.worker c None;
  others = others_stay old after c None;
  silent = refl;
}

pub turns_are_steps : TurnsAreSteps
turns_are_steps old c k next after result was turns = record {
  worker = k;
  next = next;
  result = result;
  turns = turns;
  becomes = becomes old after c k next was;
  silent = refl;
}

pub commits_are_steps : CommitsAreSteps
commits_are_steps old c k next after result was commits = record {
  worker = k;
  next = next;
  result = result;
  commits = commits;
  becomes = becomes old after c k next was;
  silent = refl;
}

-- a call that says nothing, and changes the client alone
module _ (old : Program) (c : ℕ) (k next : WorkerState) (was : old.worker c ≡ Some k)
    (rest : next ≡ with_client k next.client) where
  quiet : (call : Call) (word : table.AnswerWord) (history : List Operation → List Operation)
      (performed : List PerformedOperation)
      → Calls k.client call word [] history next.client
      → performed ≡ performs k.client call word old.performed
      → CallsClient old c call (record (with_worker old old.station c (Some next)) {
        performed = performed;
      })
  quiet call word history performed calls same = record {
    worker = k;
    next = next;
    word = word;
    messages = [];
    history = history;
    calls = calls;
    said = ap (λ (x : WorkerState). messages_of x.said) rest
        ∙ sym (append-nil (messages_of k.said));
    rest = rest ∙ (λ i. record k { client = next.client; said = kept i });
    station = refl;
    becomes = record {
      was = was;
      becomes = at_itself old.worker c (Some next);
      others = others_stay old old.station c (Some next);
    };
    performed = same;
  }
    where
      kept : k.said ≡ next.said
      kept = sym (ap (λ (x : WorkerState). x.said) rest)

pub begins_are_steps : BeginsAreSteps
begins_are_steps old c txn k next was begins rest =
    quiet old c k next was rest CallBegin table.AnsweredOk as_before old.performed begins.1 refl

pub writes_are_steps : WritesAreSteps
writes_are_steps old c page bytes k next was writes rest =
    quiet old c k next was rest (CallWrite page bytes) table.AnsweredOk (puts page bytes) _ writes
    refl

-- a read that can be answered here
module _ (k : WorkerState) (page : ℕ) (is : IsClient k.client) (may : may_hit k page ≡ true) where
  parts : (shows_copy k page ≡ true) × (is_some (content_at k.client.copies page) ≡ true)
      × (is_none (call_fault (limits_at k.client) (client_of k.client []) (CallRead page)) ≡ true)
  parts = three _ _ _ may

  none_of : (f : Option table.ClientFault) → is_none f ≡ true → f ≡ None
  none_of None z = refl
  none_of (Some f) z = absurd (true≢false (sym z))

  accepted : call_fault (limits_at k.client) (client_of k.client []) (CallRead page) ≡ None
  accepted = none_of (call_fault (limits_at k.client) (client_of k.client []) (CallRead page))
      parts.2

  finds : FindsNone k.client (CallRead page)
  unfolding call_fault
  finds ops = ap (λ (f : Option table.ClientFault). option_map (λ (x : table.ClientFault). Some x)
      f)
      (sym accepted)

  within : page < length k.client.locks.locked
  within = subst (λ (n : ℕ). page < n) (sym is.locked)
      (read_free (limits_at k.client) (client_of k.client []) page accepted).1

  reads_so : Calls k.client (CallRead page) (table.AnsweredBytes (bytes_at k.client page)) []
      (sees page (bytes_at k.client page)) (page_read k.client page)
  reads_so = reads k.client page finds within parts.1

  after_reading : after_hit k page ≡ with_client k (page_read k.client page)
  after_reading = sym (read_is k page may)

  after_client : (after_hit k page).client ≡ page_read k.client page
  after_client = ap (λ (x : WorkerState). x.client) after_reading

-- it is a step, by which the bytes in the pool are seen
pub read_at_hand : (old : Program) (c : ℕ) (k : WorkerState) (page : ℕ) (bytes : Bytes)
    → old.worker c ≡ Some k → IsClient k.client → may_hit k page ≡ true
    → bytes ≡ bytes_at k.client page
    → CallsClient old c (CallRead page)
    (record (with_worker old old.station c (Some (after_hit k page))) {
      performed = operation_of k.client (Saw page bytes) old.performed;
    })
read_at_hand old c k page bytes was is may here =
    quiet old c k (after_hit k page) was
    (after_reading k page is may ∙ ap (with_client k) (sym (after_client k page is may)))
    (CallRead page) (table.AnsweredBytes (bytes_at k.client page))
    (sees page (bytes_at k.client page)) (operation_of k.client (Saw page bytes) old.performed)
    (subst (λ (x : ClientState). Calls k.client (CallRead page)
    (table.AnsweredBytes (bytes_at k.client page)) [] (sees page (bytes_at k.client page)) x)
    (sym (after_client k page is may)) (reads_so k page is may))
    (ap (λ (b : Bytes). operation_of k.client (Saw page b) old.performed) here)

pub hits_are_steps : HitsAreSteps
hits_are_steps old c page bytes k was is hit =
    read_at_hand old c k page bytes was is hit.may
    (sym (ap (λ (o : Option Bytes). unwrap_or o []) (lent k page bytes [] hit)))

pub flushes_are_steps : FlushesAreSteps
flushes_are_steps old number after can flushed = record {
  can = can;
  posts = flushed.posts can;
  hands = flushed.hands;
  workers = λ client. refl;
  silent = refl;
}

pub forgets_are_steps : ForgetsAreSteps
forgets_are_steps old number = record {
  station = refl;
  workers = λ client. refl;
  silent = refl;
}

pub tells_are_steps : TellsAreSteps
tells_are_steps old after = (
  λ tells. record {
    station = tells.rest ∙ ap
        (λ (f : _). telling.with_untold (record old.station { flags = f })
        (telling.untold_in after))
        (sym (ap (λ (s : StationState). s.flags) tells.rest));
    workers = λ client. refl;
    silent = refl;
  },
  λ same. record { station = same; workers = λ client. refl; silent = refl },
)

pub refusals_are_steps : RefusalsAreSteps
refusals_are_steps old after unchanged = record {
  unchanged = unchanged;
  workers = λ client. refl;
  silent = refl;
}
