-- What a worker's transaction uses stays while it serves, asks and commits.
use Rattle.std.proofs.Common.{◌≡◌, ◌≢◌, ◌⊎◌, inl, inr, ℕ, zero, suc, Bool, true, false, List, [], ◌∷◌, ◌<◌, length, slice_set, Option, Some, None, Result, Ok, Err, refl, sym, ◌∙◌, ap, subst, arith, if◌then◌else◌}
use Rattle.std.specs.Prelude.{⊤}
use Rattle.std.proofs.lemmas.Bool.{cases_eq}
use Rattle.std.proofs.lemmas.List.{get_or-set_other, get_or-set_same, length-set}
use Rattle.std.specs.Option.{is_some}
use Rattle.cb_cache.specs.CacheState.{content_at, copy_at}
use Rattle.cb_client.specs.ByTable.{Calls, Takes, as_before, limits_at}
use Rattle.cb_client.specs.CallAnswers.{Wants, after_read, copy_by, page_asked, page_read, short_message}
use Rattle.cb_client.specs.FramesTaken.{TakesFrame, is_for}
use Rattle.cb_client.specs.declared.answers.WantAnswer.{WantAnswer}
use Rattle.cb_client.specs.declared.answers.WantAnswer.TheVariants as want
use Rattle.cb_client.specs.declared.client_fault.ClientFault.{ClientFault}
use Rattle.cb_client_core.specs.ClientState.{ClientState, IsClient, client_of, stage_of}
use Rattle.cb_client_core.specs.declared.stage.Stage.TheVariants as stages
use Rattle.cb_frame.specs.declared.frame.Frame.{Frame}
use Rattle.cb_outbox.specs.Messages.{body_of, messages_of}
use Rattle.cb_page.specs.Flags.{has}
use Rattle.cb_protocol.proofs.Cases.{call_refused}
use Rattle.cb_protocol.specs.Answers as table
use Rattle.cb_protocol.specs.Basics.{Bytes, is_none}
use Rattle.cb_protocol.specs.Cache.{Idle, Open}
use Rattle.cb_protocol.specs.Client.{Aborted, Client, ReadAsk, asks_to_read, client_after, is_fixed}
use Rattle.cb_protocol.specs.ClientCalls.{Call, CallFinish, CallRead, CallWant, Reply, call_fault, client_call}
use Rattle.cb_protocol.specs.Messages.{Message}
use Rattle.cb_protocol.specs.Serial.{Operation}
use Rattle.cb_station.specs.Stations.{StationState}
use Rattle.cb_station.specs.declared.office_fault.OfficeFault.{OfficeFault}
use Rattle.cb_worker.proofs.Keeping.{as_it_was, asks_keeps, finish_keeps, fixed_alone, asks_none, locks_keep, over_keeps, read_free, steps_keep, take_keeps, want_fixes, want_on}
use Rattle.cb_worker.proofs.Reading.{three}
use Rattle.cb_worker.specs.Asking.{AsksToWrite}
use Rattle.cb_worker.specs.Committing.{FinishesOrAgain}
use Rattle.cb_worker.specs.Handing.{WasOver}
use Rattle.cb_worker.proofs.Going.{goes_same, take_goes}
use Rattle.cb_worker.specs.Keeping.{AsksNoPage, KeepsFixed, KeepsUsed, KeepsWanted, OpenOrAborted, Uses}
use Rattle.cb_worker.specs.Steps.{Begun}
use Rattle.cb_worker.specs.Turns.{AfterCollecting, Collects, HandsIn, TakesCollected, Turns, TurnsBy, without_first}
use Rattle.cb_worker.specs.Workers.{Hit, IsIdle, WorkerState, after_hit, may_hit, seen_by, shows_copy, with_client}
use Rattle.cb_worker.specs.declared.awaited.Awaited.{Awaited}
use Rattle.cb_worker.specs.declared.awaited.Awaited.TheVariants as awaited
use Rattle.cb_worker.specs.declared.worker_fault.WorkerFault.{WorkerFault}
use Rattle.cb_worker.specs.declared.worker_fault.WorkerFault.TheVariants as worker

-- whatever the transaction did
any_history : (k : Client) (v : ClientState) (h : List Operation) → KeepsUsed k (client_of v h) → KeepsUsed k (client_of v [])
any_history k v h x = record {
  stays = record { busy = λ n. x.stays.busy n; fixed = λ p n f. x.stays.fixed p n f; wrote = λ p n. x.stays.wrote p n };
  uses = λ p g b n u. let w = x.uses p g b n u in record { reading = w.reading; content = w.content; safe = w.safe };
}

pub same_used : (old new : ClientState) → new ≡ old → KeepsUsed (client_of old []) (client_of new [])
same_used old new e = subst (λ (v : ClientState). KeepsUsed (client_of old []) (client_of v [])) (sym e) (as_it_was (client_of old []))

-- by what it takes
pub takes_used : (old new : ClientState) (frame : Frame) (said : List Message) → TakesFrame old frame said new → KeepsUsed (client_of old []) (client_of new [])
takes_used old new frame said t = by (is_for old frame) refl
  where
    by : (b : Bool) → is_for old frame ≡ b → KeepsUsed (client_of old []) (client_of new [])
    by true e =
        let takes : Takes old (body_of frame.body) said new = t.own e in
        any_history (client_of old []) new (takes.history []) (subst (λ (k : Client). KeepsUsed (client_of old []) k) (takes.makes.after [])
        (take_keeps (limits_at old) (client_of old []) takes.let_go (body_of frame.body) (takes.allowed [])))
    by false e = same_used old new (t.unchanged e)

-- by a turn, whatever holds of two states that are the same, and of one that takes a frame
module _ (R : Client → Client → Type 0) (kept : (k : Client) → R k k)
    (takes : (old new : ClientState) (frame : Frame) (said : List Message) → TakesFrame old frame said new → R (client_of old []) (client_of new [])) where
  same_by : (old new : ClientState) → new ≡ old → R (client_of old []) (client_of new [])
  same_by old new e = subst (λ (v : ClientState). R (client_of old []) (client_of v [])) (sym e) (kept (client_of old []))

  taken_by : (old new : WorkerState) (frame : Frame) (r : Result Bool WorkerFault) → TakesCollected old frame r new → R (seen_by old) (seen_by new)
  taken_by old new frame (Ok turned) h = takes old.client new.client frame (messages_of new.said) h.1.takes
  taken_by old new frame (Err (worker.Client f)) h = same_by old.client new.client (ap (λ (w : WorkerState). w.client) h.2)
  taken_by old new frame (Err (worker.Office f)) h = same_by old.client new.client (ap (λ (w : WorkerState). w.client) h.2)
  taken_by old new frame (Err worker.Halted) h = absurd h

  handed_by : (old new : WorkerState) (before after : StationState) (frame : Frame) (rest : List Frame) (r : Result Bool WorkerFault) → HandsIn old before frame rest r new after → R (seen_by old) (seen_by new)
  handed_by old new before after frame rest r h = by h.answer h.left
    where
      by : (a : Result ⊤ OfficeFault) → new ≡ without_first old new.hand rest a → R (seen_by old) (seen_by new)
      by (Err f) e = same_by old.client new.client (ap (λ (w : WorkerState). w.client) e)
      by (Ok done) e = same_by old.client new.client (ap (λ (w : WorkerState). w.client) e)

  collects_by : (old new : WorkerState) (before after : StationState) (r : Result Bool WorkerFault) → Collects old before r new after → R (seen_by old) (seen_by new)
  collects_by old new before after r h = by h.answer h.taken
    where
      by : (a : Result (Option Frame) OfficeFault) → AfterCollecting a old r new → R (seen_by old) (seen_by new)
      by (Err f) t = same_by old.client new.client (ap (λ (w : WorkerState). w.client) t.1)
      by (Ok None) t = same_by old.client new.client (ap (λ (w : WorkerState). w.client) t.1)
      by (Ok (Some frame)) t = taken_by (record old { hand = new.hand; collected = Some frame }) new frame r t

  turn_by : (old new : WorkerState) (before after : StationState) (r : Result Bool WorkerFault) → Turns old before r new after → R (seen_by old) (seen_by new)
  turn_by old new before after r t = go old.said old.collected t
    where
      go : (said : List Frame) (kept : Option Frame) → TurnsBy said kept old before r new after → R (seen_by old) (seen_by new)
      go (frame ∷ rest) kept h = handed_by old new before after frame rest r h
      go [] (Some frame) h = taken_by old new frame r h.0
      go [] None h = collects_by old new before after r h

pub turn_keeps : (old new : WorkerState) (before after : StationState) (r : Result Bool WorkerFault) → Turns old before r new after → KeepsUsed (seen_by old) (seen_by new)
turn_keeps old new before after r t = turn_by KeepsUsed as_it_was takes_used old new before after r t

-- an open one goes on so, or is aborted
takes_on : (old new : ClientState) (frame : Frame) (said : List Message) → TakesFrame old frame said new → OpenOrAborted (client_of old []) (client_of new [])
takes_on old new frame said t = by (is_for old frame) refl
  where
    by : (b : Bool) → is_for old frame ≡ b → OpenOrAborted (client_of old []) (client_of new [])
    by true e =
        let takes : Takes old (body_of frame.body) said new = t.own e in
        let goes : OpenOrAborted (client_of old []) (client_of new (takes.history [])) = subst (λ (k : Client). OpenOrAborted (client_of old []) k) (takes.makes.after []) (take_goes (limits_at old) (client_of old []) takes.let_go (body_of frame.body)) in
        record { idle = λ i. goes.idle i; opened = λ o. goes.opened o }
    by false e = subst (λ (v : ClientState). OpenOrAborted (client_of old []) (client_of v [])) (sym (t.unchanged e)) (goes_same (client_of old []))

pub turn_goes : (old new : WorkerState) (before after : StationState) (r : Result Bool WorkerFault) → Turns old before r new after → OpenOrAborted (seen_by old) (seen_by new)
turn_goes old new before after r t = turn_by OpenOrAborted goes_same takes_on old new before after r t

pub hit_goes : (w : WorkerState) (page : ℕ) → OpenOrAborted (seen_by w) (seen_by (after_hit w page))
hit_goes w page = go (may_hit w page)
  where
    go : (b : Bool) → OpenOrAborted (seen_by w) (seen_by (if b then with_client w (page_read w.client page) else w))
    go true = record { idle = λ e. (e, refl); opened = λ e. inl e }
    go false = goes_same (seen_by w)

-- by its client's calls
called_used : (old new : ClientState) (call : Call) (word : table.AnswerWord) (said : List Message) (history : List Operation → List Operation) → Calls old call word said history new
    → KeepsUsed (client_of old []) (client_after old.copies.limits.keep_write (client_of old []) (client_call (limits_at old) (client_of old []) call).steps) → KeepsUsed (client_of old []) (client_of new [])
called_used old new call word said history calls k = any_history (client_of old []) new (history []) (subst (λ (c : Client). KeepsUsed (client_of old []) c) (calls.makes.after []) k)

want_called : (old new : ClientState) (page : ℕ) (word : table.AnswerWord) (said : List Message) → Calls old (CallWant page) word said as_before new → KeepsUsed (client_of old []) (client_of new [])
want_called old new page word said calls =
    called_used old new (CallWant page) word said as_before calls (steps_keep old.copies.limits.keep_write (client_of old []) _ (want_on (limits_at old) (client_of old []) page))

pub wants_used : (old new : ClientState) (page : ℕ) (r : Result WantAnswer ClientFault) → Wants old page r new → KeepsUsed (client_of old []) (client_of new [])
wants_used old new page (Ok want.Permitted) calls = want_called old new page table.Permitted [] calls
wants_used old new page (Ok (want.Asked frame)) calls = want_called old new page table.Asked (short_message frame ∷ []) calls
wants_used old new page (Err f) refuses = same_used old new refuses.1

-- a want that is answered was accepted
not_refused : (old : ClientState) (page : ℕ) (word : table.AnswerWord) → ((f : table.ClientFault) → table.Refused f ≢ word) → (client_call (limits_at old) (client_of old []) (CallWant page)).word ≡ word
    → call_fault (limits_at old) (client_of old []) (CallWant page) ≡ None
not_refused old page word n e = go (call_fault (limits_at old) (client_of old []) (CallWant page)) refl
  where
    go : (f : Option table.ClientFault) → call_fault (limits_at old) (client_of old []) (CallWant page) ≡ f → call_fault (limits_at old) (client_of old []) (CallWant page) ≡ None
    go None g = g
    go (Some f) g = absurd (n f (sym (ap (λ (r : Reply). r.word) (call_refused (limits_at old) (client_of old []) (CallWant page) f g)) ∙ e))

want_fixed : (old new : ClientState) (page : ℕ) (word : table.AnswerWord) (said : List Message) → ((f : table.ClientFault) → table.Refused f ≢ word) → Calls old (CallWant page) word said as_before new
    → is_fixed (client_of new []) page ≡ true
want_fixed old new page word said n calls =
    ap (λ (c : Client). is_fixed c page) (sym (calls.makes.after [])) ∙ want_fixes (limits_at old) (client_of old []) page old.copies.limits.keep_write (not_refused old page word n (calls.word []))

pub asks_fixed : (old new : WorkerState) (page : ℕ) → AsksToWrite old page new → is_fixed (seen_by new) page ≡ true
asks_fixed old new page a = by a.answered
  where
    by : (a.word ≡ table.Permitted) ⊎ (a.word ≡ table.Asked) → is_fixed (seen_by new) page ≡ true
    by (inl e) = want_fixed old.client new.client page a.word (messages_of new.said) (λ f g. absurd (let z : table.Refused f ≡ table.Permitted = g ∙ e in cc)) a.calls
    by (inr e) = want_fixed old.client new.client page a.word (messages_of new.said) (λ f g. absurd (let z : table.Refused f ≡ table.Asked = g ∙ e in cc)) a.calls

pub asks_used : (old new : WorkerState) (page : ℕ) → AsksToWrite old page new → KeepsUsed (seen_by old) (seen_by new)
asks_used old new page a = want_called old.client new.client page a.word (messages_of new.said) a.calls

pub finishes_used : (old new : ClientState) (frame : Frame) → FinishesOrAgain old frame new → KeepsUsed (client_of old []) (client_of new [])
finishes_used old new frame (inl calls) = called_used old new CallFinish _ _ as_before calls (finish_keeps (limits_at old) (client_of old []) old.copies.limits.keep_write)
finishes_used old new frame (inr again) = same_used old new again.2

-- a dropped one keeps nothing
pub dropped_fixed : (old new : ClientState) → new.stage ≡ stages.Idle → KeepsFixed (client_of old []) (client_of new [])
dropped_fixed old new idle = over_keeps (client_of old []) (client_of new []) (ap stage_of idle)

-- by a read
pub within : (flags : List Bool) (q : ℕ) → has flags q ≡ true → q < length flags
within [] q e = absurd cc
within (x ∷ xs) zero e = omega arith
within (x ∷ xs) (suc q) e = let l = within xs q e in omega (arith, l)

stays_locked : (flags : List Bool) (page q : ℕ) → has flags q ≡ true → has (slice_set flags page true) q ≡ true
stays_locked flags page q e = by (cases_eq q page)
  where
    by : (q ≡ page) ⊎ (q ≢ page) → has (slice_set flags page true) q ≡ true
    by (inl here) = subst (λ (k : ℕ). has (slice_set flags page true) k ≡ true) (sym here) (get_or-set_same flags page true false (subst (λ (k : ℕ). k < length flags) here (within flags q e)))
    by (inr apart) = get_or-set_other flags page q true false apart ∙ e

read_used : (v : ClientState) (page : ℕ) → KeepsUsed (client_of v []) (client_of (page_read v page) [])
read_used v page = locks_keep (client_of v []) (λ p. has (slice_set v.locks.locked page true) p) (λ p e. stays_locked v.locks.locked page p e)

pub hit_used : (w : WorkerState) (page : ℕ) → KeepsUsed (seen_by w) (seen_by (after_hit w page))
hit_used w page = go (may_hit w page)
  where
    go : (b : Bool) → KeepsUsed (seen_by w) (seen_by (if b then with_client w (page_read w.client page) else w))
    go true = read_used w.client page
    go false = as_it_was (seen_by w)

-- and by an ask to read
pub asked_fixed : (v : ClientState) (page : ℕ) → KeepsFixed (client_of v []) (client_of (page_asked v page) [])
asked_fixed v page = asks_keeps (client_of v []) (ReadAsk page)

pub after_read_fixed : (v : ClientState) (page : ℕ) → KeepsFixed (client_of v []) (client_of (after_read v page) [])
after_read_fixed v page = go (is_none (call_fault (limits_at v) (client_of v []) (CallRead page))) (is_some (content_at v.copies page))
  where
    go : (a b : Bool) → KeepsFixed (client_of v []) (client_of (if a then if b then page_read v page else page_asked v page else v) [])
    go true true = fixed_alone _ _ (read_used v page)
    go true false = asked_fixed v page
    go false b = fixed_alone _ _ (as_it_was (client_of v []))

-- a page that was used when it came to be wanted
pub wanted_so : (one two three : WorkerState) (page : ℕ) → KeepsUsed (seen_by one) (seen_by two) → is_fixed (seen_by two) page ≡ true → KeepsFixed (seen_by two) (seen_by three)
    → KeepsWanted (seen_by one) (seen_by three) page
wanted_so one two three page used fixed keeps = record {
  fixed = λ n. keeps.stays.fixed page n fixed;
  uses = λ g b n u. keeps.uses page g b n fixed (used.uses page g b (keeps.stays.busy n) u);
}

pub wanted_still : (one two three : WorkerState) (page : ℕ) → KeepsWanted (seen_by one) (seen_by two) page → KeepsFixed (seen_by two) (seen_by three) → KeepsWanted (seen_by one) (seen_by three) page
wanted_still one two three page wanted keeps = record {
  fixed = λ n. keeps.stays.fixed page n (wanted.fixed (keeps.stays.busy n));
  uses = λ g b n u. keeps.uses page g b n (wanted.fixed (keeps.stays.busy n)) (wanted.uses g b (keeps.stays.busy n) u);
}

pub wanted_over : (old new : WorkerState) (page : ℕ) → IsIdle new → KeepsWanted (seen_by old) (seen_by new) page
wanted_over old new page idle = record { fixed = λ n. absurd (n (idle [])); uses = λ g b n u. absurd (n (idle [])) }

-- while it is waited for
pub begun_still : (a : Awaited) (one two three : WorkerState) → Begun a one two → KeepsFixed (seen_by two) (seen_by three) → OpenOrAborted (seen_by two) (seen_by three) → Begun a one three
begun_still (awaited.Permission page) one two three b k o = wanted_still one two three page b k
begun_still awaited.Welcome one two three b k o = tt
begun_still (awaited.Page page) one two three b k o = tt
begun_still awaited.End one two three (inl was) k o =
    let rests = o.idle (was.over []) in inl (record { over = λ ops. rests.0; aborted = λ e. rests.1 ∙ was.aborted e })
begun_still awaited.End one two three (inr handed) k o = inr handed

-- one that was open, and is over once its client has served, was aborted
pub was_over : (old new : WorkerState) → OpenOrAborted (seen_by old) (seen_by new) → IsIdle new → WasOver old new
was_over old new goes over = record { over = over; aborted = λ e. by (goes.opened e) }
  where
    by : ((seen_by new).cache.status ≡ Open) ⊎ (((seen_by new).cache.status ≡ Idle) × ((seen_by new).last_outcome ≡ Aborted)) → (seen_by new).last_outcome ≡ Aborted
    by (inl o) = absurd (let z : Open ≡ Idle = sym o ∙ over [] in cc)
    by (inr ended) = ended.1

-- a page that was just read is used
held_by : (h : Option ℕ) (version grant x : ℕ) → copy_by h version ≡ Some (grant, x) → h ≡ Some grant
held_by None version grant x e = absurd cc
held_by (Some g) version grant x e = let pair : (g, version) ≡ (grant, x) = cc in ap Some (ap (λ (c : ℕ × ℕ). c.0) pair)

none_of : (f : Option table.ClientFault) → is_none f ≡ true → f ≡ None
none_of None e = refl
none_of (Some f) e = absurd cc

pub uses_read : (before : WorkerState) (w : WorkerState) (page : ℕ) (bytes : Bytes) → Hit before page bytes → w ≡ after_hit before page → content_at w.client.copies page ≡ Some bytes → IsClient w.client
    → (grant : ℕ) × Uses (seen_by w) page grant bytes
uses_read before w page bytes hit e content is = by (may_hit before page) hit.may e
  where
    by : (b : Bool) → may_hit before page ≡ true → w ≡ after_hit before page → (grant : ℕ) × Uses (seen_by w) page grant bytes
    by b may e = (hit.held.grant, record { reading = (held, locked); content = content; safe = inr asks })
      where
        w_is : w ≡ with_client before (page_read before.client page)
        w_is = e ∙ ap (λ (x : Bool). if x then with_client before (page_read before.client page) else before) may

        held : (copy_at w.client.copies page).held ≡ Some hit.held.grant
        held = ap (λ (x : WorkerState). (copy_at x.client.copies page).held) w_is ∙ held_by (copy_at before.client.copies page).held (copy_at before.client.copies page).version hit.held.grant hit.held.version hit.same

        free : call_fault (limits_at before.client) (client_of before.client []) (CallRead page) ≡ None
        free = none_of (call_fault (limits_at before.client) (client_of before.client []) (CallRead page))
            (three (shows_copy before page) (is_some (content_at before.client.copies page)) (is_none (call_fault (limits_at before.client) (client_of before.client []) (CallRead page))) may).2

        wide : page < length before.client.locks.locked
        wide =
            let size : length w.client.locks.locked ≡ w.client.copies.limits.pages = is.locked in
            let same : length w.client.locks.locked ≡ length before.client.locks.locked = ap (λ (x : WorkerState). length x.client.locks.locked) w_is ∙ length-set before.client.locks.locked page true in
            let pages : w.client.copies.limits.pages ≡ before.client.copies.limits.pages = ap (λ (x : WorkerState). x.client.copies.limits.pages) w_is in
            let lt = (read_free (limits_at before.client) (client_of before.client []) page free).1 in omega (arith, size, same, pages, lt)

        locked : has w.client.locks.locked page ≡ true
        locked = ap (λ (x : WorkerState). has x.client.locks.locked page) w_is ∙ get_or-set_same before.client.locks.locked page true false wide

        asks : AsksNoPage (seen_by w)
        asks q = ap (λ (x : WorkerState). asks_to_read (seen_by x).ask q) w_is ∙ asks_none (client_of before.client []).ask q (read_free (limits_at before.client) (client_of before.client []) page free).0
