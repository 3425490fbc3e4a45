-- What a page's count leaves, and in which transaction.
use Rattle.std.proofs.Common.{◌≡◌, ◌≢◌, ◌<◌, ◌≤◌, ◌+◌, ◌-◌, ◌%◌, ◌&&◌, inl, inr, ℕ, Bool, true, false, List, [], Option, Some, None, Result, Ok, Err, IfOk, ap, arith, refl, subst, sym, ◌∙◌}
use Rattle.std.specs.Prelude.{MatchBool}
use Rattle.cb_client.specs.ByTable.{Calls, limits_at}
use Rattle.cb_client.specs.CallAnswers.{Begins, Writes}
use Rattle.cb_client_core.specs.ClientState.{ClientState, client_of}
use Rattle.cb_protocol.proofs.Cases.{call_accepted, call_refused}
use Rattle.cb_protocol.specs.Answers as table
use Rattle.cb_protocol.specs.Basics.{Bytes}
use Rattle.cb_protocol.specs.Cache.{Committing, Idle, Open, TransactionState, is_committing, is_open}
use Rattle.cb_protocol.specs.Client as protocol
use Rattle.cb_protocol.specs.Client.{Client, client_after}
use Rattle.cb_protocol.specs.ClientCalls.{Call, CallBegin, CallWrite, Reply, accept_call, call_fault}
use Rattle.cb_protocol.specs.Serial.{Operation}
use Rattle.cb_worker.proofs.Chain.{calls_keep_written, other_writes_keep, want_keeps_bytes, write_replaces_bytes}
use Rattle.cb_worker.proofs.Standing.{is_then}
use Rattle.cb_worker.specs.Committing.{IsCommitting}
use Rattle.cb_worker.specs.Handing.{HasCommitted}
use Rattle.cb_worker.specs.Keeping.{HasWritten}
use Rattle.cb_worker.specs.ReadToCommit.{KeepsWritten}
use Rattle.cb_worker.specs.Waiting.{Wants}
use Rattle.cb_worker.specs.Workers.{WorkerState, last_txn, seen_by, with_client}
use Rattle.cb_worker.specs.Moving.{IsStill}
use Rattle.cb_worker.specs.declared.answers.Finished.TheVariants as finished
use Rattle.cb_worker.specs.declared.answers.Wanted.TheVariants as wanted
use Rattle.cb_worker.specs.declared.worker_fault.WorkerFault.{WorkerFault}
use Rattle.cb_office.specs.Jobs.{CommitsJob, CountsBoth, CountsUp, EndsJob, HasEnded, IsAborted, IsOneMore, ReadsPage}

-- the number of the last transaction after a call that is answered so
number_after : (old new : ClientState) (call : Call) (history : List Operation → List Operation) → Calls old call table.AnsweredOk [] history new
    → last_txn new ≡ (client_after old.copies.limits.keep_write (client_of old []) (accept_call (limits_at old) (client_of old []) call).steps).cache.number
number_after old new call history calls = go (call_fault (limits_at old) (client_of old []) call) refl
  where
    go : (f : Option table.ClientFault) → call_fault (limits_at old) (client_of old []) call ≡ f
        → last_txn new ≡ (client_after old.copies.limits.keep_write (client_of old []) (accept_call (limits_at old) (client_of old []) call).steps).cache.number
    go (Some f) e = absurd (let w = ap (λ (r : Reply). r.word) (call_refused (limits_at old) (client_of old []) call f e) in let b = calls.word [] in cc)
    go None e =
        ap (λ (c : Client). c.cache.number) (sym (calls.makes.after []))
        ∙ ap (λ (r : Reply). (client_after old.copies.limits.keep_write (client_of old []) r.steps).cache.number) (call_accepted (limits_at old) (client_of old []) call e)

-- a transaction that begins is a later one
pub begins_later : (old new : ClientState) (txn : ℕ) → Begins old (Ok txn) new → last_txn old < last_txn new
begins_later old new txn begins =
    let next : last_txn new ≡ last_txn old + 1 = number_after old new CallBegin (λ ops. ops) begins.1 in
    omega arith

-- one that writes a page is the same
pub writes_same : (old new : ClientState) (page : ℕ) (bytes : Bytes) → Writes old page bytes (Ok tt) new → last_txn new ≡ last_txn old
writes_same old new page bytes writes = number_after old new (CallWrite page bytes) _ writes

-- and its transaction is where it was
status_same : (old new : ClientState) (page : ℕ) (bytes : Bytes) → Writes old page bytes (Ok tt) new → (client_of new []).cache.status ≡ (client_of old []).cache.status
status_same old new page bytes writes = go (call_fault (limits_at old) (client_of old []) (CallWrite page bytes)) refl
  where
    go : (f : Option table.ClientFault) → call_fault (limits_at old) (client_of old []) (CallWrite page bytes) ≡ f → (client_of new []).cache.status ≡ (client_of old []).cache.status
    go (Some f) e = absurd (let w = ap (λ (r : Reply). r.word) (call_refused (limits_at old) (client_of old []) (CallWrite page bytes) f e) in let b = writes.word [] in cc)
    go None e =
        ap (λ (c : Client). c.cache.status) (sym (writes.makes.after []))
        ∙ ap (λ (r : Reply). (client_after old.copies.limits.keep_write (client_of old []) r.steps).cache.status) (call_accepted (limits_at old) (client_of old []) (CallWrite page bytes) e)

-- a page that was read, permitted and written with its bytes counted up was counted up
pub counts_up : (page grant : ℕ) (old reading permitted new : WorkerState) (bytes counted : Bytes) → ReadsPage old reading page grant bytes → Wants reading permitted page wanted.Permitted
    → IsStill reading permitted → IsOneMore bytes counted → Writes permitted.client page counted (Ok tt) new.client → new ≡ with_client permitted new.client → CountsUp page old new
counts_up page grant old reading permitted new bytes counted reads wants waits more writes others = record {
  grant = grant;
  bytes = bytes;
  reading = reading;
  reads = reads;
  permitted = permitted;
  wants = wants;
  waits = waits;
  counted = counted;
  more = more;
  writes = writes;
  others = others;
  written = write_replaces_bytes permitted new page grant bytes counted (want_keeps_bytes reading permitted page grant bytes reads.uses wants) writes;
  last = writes_same permitted.client new.client page counted writes ∙ (waits.txn ∙ reads.still.txn);
}

is_open_now : (s : TransactionState) (may : Bool) → (is_open s && may) ≡ true → s ≡ Open
is_open_now Open may e = refl
is_open_now Idle may e = absurd cc
is_open_now Committing may e = absurd cc

open_busy : (s : TransactionState) → s ≡ Open → s ≢ Idle
open_busy s e = λ z. absurd (let no : Open ≡ Idle = sym e ∙ z in cc)

module _ (page : ℕ) (old new : WorkerState) (counts : CountsUp page old new) where
  -- its transaction is open all the while
  open_then : (seen_by counts.permitted).cache.status ≡ Open
  open_then = is_open_now (seen_by counts.permitted).cache.status ((seen_by counts.permitted).cache.may_write page) (counts.wants.1 [])

  open_after : (seen_by new).cache.status ≡ Open
  open_after = status_same counts.permitted.client new.client page counts.counted counts.writes ∙ open_then

  -- so it isn't committing
  pub not_committing : IsCommitting new.client → ⊥
  not_committing committing = absurd (let no : is_committing Open ≡ true = subst (λ (s : TransactionState). is_committing s ≡ true) open_after (is_then new.client committing) in cc)

  -- what was written of another page stays
  pub keeps_other : (other : ℕ) → other ≢ page → KeepsWritten old new other
  keeps_other other apart grant bytes written =
      let busy = open_busy (seen_by counts.permitted).cache.status open_then in
      let read : HasWritten (seen_by counts.reading) other grant bytes = calls_keep_written old counts.reading other counts.reads.still (counts.waits.keeps.stays.busy busy) grant bytes written in
      let kept : HasWritten (seen_by counts.permitted) other grant bytes = calls_keep_written counts.reading counts.permitted other counts.waits busy grant bytes read in
      other_writes_keep counts.permitted new page other counts.counted apart counts.writes grant bytes kept

-- so both are counted up, where one is after the other
counts_both : (client : ℕ) (old between new : WorkerState) → CountsUp (client % 2) old between → CountsUp (1 - client % 2) between new → CountsBoth client old new
counts_both client old between new first second = record {
  between = between;
  first = first;
  second = second;
  keeps = keeps_other (1 - client % 2) between new second (client % 2) (λ same. absurd (omega arith));
}

-- so after the second one was counted, or the transaction was aborted
pub then_counts : (client : ℕ) (counted : Result Bool WorkerFault) (old between new : WorkerState) → CountsUp (client % 2) old between
    → IfOk counted (λ counts. MatchBool counts (CountsUp (1 - client % 2) between new) (HasEnded (last_txn between.client) new protocol.Aborted))
    → IfOk counted (λ counts. MatchBool counts (CountsBoth client old new) (HasEnded (last_txn old.client) new protocol.Aborted))
then_counts client (Ok true) old between new first second = counts_both client old between new first second
then_counts client (Ok false) old between new first second = record { last = second.last ∙ first.last; ended = second.ended }
then_counts client (Err fault) old between new first second = tt

-- in the transaction that there was
pub both_last : (client : ℕ) (old new : WorkerState) → CountsBoth client old new → last_txn new.client ≡ last_txn old.client
both_last client old new both = both.second.last ∙ both.first.last

-- what was committed is both pages as they were counted up
pub commits_job : (client number txn : ℕ) (old begun counted new : WorkerState) → Begins old.client (Ok txn) begun.client → begun ≡ with_client old begun.client → CountsBoth client begun counted
    → HasCommitted counted (finished.Committed number) → HasEnded (last_txn begun.client) new (protocol.Committed number) → CommitsJob client number old new
commits_job client number txn old begun counted new begins rest counts (inl committing) ended = absurd (not_committing (1 - client % 2) counts.between counted counts.second committing)
commits_job client number txn old begun counted new begins rest counts (inr handed) ended = record {
  start = old;
  begun = begun;
  txn = txn;
  begins = begins;
  rest = rest;
  since = begins_later old.client begun.client txn begins;
  counted = counted;
  counts = counts;
  handed = handed;
  first = handed.written.each (client % 2) counts.first.grant counts.first.counted (counts.keeps counts.first.grant counts.first.counted counts.first.written);
  second = handed.written.each (1 - client % 2) counts.second.grant counts.second.counted counts.second.written;
  committed = ended;
}

-- what was done since a worker was done since it was an earlier one
pub commits_since : (client number : ℕ) (older old new : WorkerState) → last_txn older.client ≤ last_txn old.client → CommitsJob client number old new → CommitsJob client number older new
commits_since client number older old new before commits =
    let since : last_txn old.client < last_txn commits.begun.client = commits.since in
    record {
      start = commits.start;
      begun = commits.begun;
      txn = commits.txn;
      begins = commits.begins;
      rest = commits.rest;
      since = omega arith;
      counted = commits.counted;
      counts = commits.counts;
      handed = commits.handed;
      first = commits.first;
      second = commits.second;
      committed = commits.committed;
    }

pub aborts_since : (older old new : WorkerState) → last_txn older.client ≤ last_txn old.client → IsAborted old new → last_txn older.client ≤ last_txn new.client
aborts_since older old new before aborted =
    let begun : last_txn old.client < aborted.0 = aborted.1 in
    let last : last_txn new.client ≡ aborted.0 = aborted.2.last in
    omega arith

-- so of one try of a job, however it ended
pub ends_since : (client : ℕ) (ended : Option ℕ) (older old new : WorkerState) → last_txn older.client ≤ last_txn old.client → EndsJob client ended old new → EndsJob client ended older new
ends_since client (Some number) older old new before ends = commits_since client number older old new before ends
ends_since client None older old new before ends =
    let begun : last_txn old.client < ends.0 = ends.1 in
    (ends.0, omega arith, ends.2)

pub if_ended_since : (client : ℕ) (tried : Result (Option ℕ) WorkerFault) (older old new : WorkerState) → last_txn old.client ≡ last_txn older.client → IfOk tried (λ ended. EndsJob client ended old new)
    → IfOk tried (λ ended. EndsJob client ended older new)
if_ended_since client (Ok ended) older old new same ends = ends_since client ended older old new (let e : last_txn old.client ≡ last_txn older.client = same in omega arith) ends
if_ended_since client (Err fault) older old new same ends = tt
