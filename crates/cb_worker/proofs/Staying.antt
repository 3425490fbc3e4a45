-- A worker stays the one that it is: of the same incarnation of the same client, and no transaction begins.
use Rattle.std.proofs.Common.{◌≡◌, ◌++◌, inl, inr, ℕ, Bool, true, false, List, [], ◌∷◌, Option, Some, None, Result, Ok, Err, refl, sym, ◌∙◌, ap, subst, if◌then◌else◌}
use Rattle.std.specs.Prelude.{⊤}
use Rattle.cb_client.specs.ByTable.{Called, Calls, Makes, as_before, limits_at, over}
use Rattle.std.specs.Option.{is_some}
use Rattle.cb_cache.specs.CacheState.{content_at}
use Rattle.cb_client.specs.CallAnswers.{Answers, Wants, after_read, page_asked, page_read, read_ask, short_message}
use Rattle.cb_client_core.specs.declared.stage.Stage.TheVariants as stages
use Rattle.cb_client.specs.FramesTaken.{TakesFrame, is_for}
use Rattle.cb_client.specs.declared.answers.WantAnswer.{WantAnswer}
use Rattle.cb_client.specs.declared.answers.WantAnswer.TheVariants as want
use Rattle.cb_client.specs.declared.client_fault.ClientFault.{ClientFault}
use Rattle.cb_client_core.specs.ClientState.{ClientState, client_of}
use Rattle.cb_frame.specs.declared.frame.Body.{Body}
use Rattle.cb_frame.specs.declared.frame.Body.TheVariants as body
use Rattle.cb_frame.specs.declared.frame.Frame.{Frame}
use Rattle.cb_frame.specs.declared.frame.ShortBody.TheVariants as short
use Rattle.cb_frame.specs.declared.writes.Write.{Write}
use Rattle.cb_hands.specs.Hands.{HandState, restamped, without_permissions}
use Rattle.cb_station.specs.Commits.{writes_of}
use Rattle.cb_station.specs.Moves.{committed, ended_if_over, given_back, is_over, is_stray, received_of}
use Rattle.cb_station.specs.Stations.{StationState, server_of}
use Rattle.cb_station.specs.declared.office_fault.OfficeFault.{OfficeFault}
use Rattle.cb_outbox.specs.Messages.{body_of, messages_of}
use Rattle.cb_protocol.proofs.Cases.{call_accepted, call_refused}
use Rattle.cb_protocol.proofs.ClientReady.{Plain, PlainChange, plain_pages}
use Rattle.cb_protocol.proofs.TranscriptStill.{Still, StillChange, still_number, still_takes}
use Rattle.cb_protocol.specs.Answers as table
use Rattle.cb_protocol.specs.Basics.{Bytes, Limits, is_none}
use Rattle.cb_protocol.specs.Cache.{CacheChange, LetGo, MakeBare, RefuseGrant, YieldPermission}
use Rattle.cb_protocol.specs.Client.{ChangeCache, Client, ClientStep, EndTransaction, MarkDue, MarkDueDowngrade, MarkWanted, Say, SetAsk, WriteAsk}
use Rattle.cb_protocol.specs.ClientCalls.{Call, CallDrop, CallFinish, CallRead, CallWant, accept_call, call_fault, client_call, reply_with, say_ask_write}
use Rattle.cb_protocol.specs.ClientEnd.{end_pages}
use Rattle.cb_protocol.specs.ClientMessages.{client_take}
use Rattle.cb_protocol.specs.Messages.{Message}
use Rattle.cb_protocol.specs.Serial.{Operation}
use Rattle.cb_protocol.specs.Server.{Server}
use Rattle.cb_worker.proofs.Keeping.{fixed_alone, then_fixed}
use Rattle.cb_worker.proofs.Using.{after_read_fixed, dropped_fixed, finishes_used, hit_used, same_used, takes_used, wants_used}
use Rattle.cb_station.specs.Calls.{Collected, Committed, Took}
use Rattle.cb_worker.specs.Committing.{CommitsAt, FinishesOrAgain, HandsCommitIn}
use Rattle.cb_worker.specs.Turns.{AfterCollecting, Collects, HandsIn, TakesCollected, Turns, TurnsBy, without_first}
use Rattle.cb_worker.specs.Workers.{IsOf, WorkerState, after_hit, last_txn, may_hit, seen_by, with_client}
use Rattle.cb_worker.specs.Asking.{frame_of}
use Rattle.cb_worker.specs.Keeping.{KeepsFixed}
use Rattle.cb_worker.specs.Moving.{CallClient, Commit, IsStill, Moved, MovesBy, ReadAtHand, Turn}
use Rattle.cb_worker.specs.declared.worker_fault.WorkerFault.{WorkerFault}
use Rattle.cb_worker.specs.declared.worker_fault.WorkerFault.TheVariants as worker

-- a hand of the same incarnation of the same client
abbrev IsSameHand : HandState → HandState → Type 0
IsSameHand next hand = (next.client ≡ hand.client) × (next.incarnation ≡ hand.incarnation)

same_hand : (next hand : HandState) → next ≡ hand → IsSameHand next hand
same_hand next hand e = (ap (λ (h : HandState). h.client) e, ap (λ (h : HandState). h.incarnation) e)

either : (b : Bool) (one other hand : HandState) → IsSameHand one hand → IsSameHand other hand → IsSameHand (if b then one else other) hand
either true one other hand p q = p
either false one other hand p q = q

back_same : (hand : HandState) (x : Body) → IsSameHand (given_back hand x) hand
back_same hand (body.Short (short.GiveBack p g)) = (refl, refl)
back_same hand (body.Short short.Hello) = (refl, refl)
back_same hand (body.Short (short.AskRead t p)) = (refl, refl)
back_same hand (body.Short (short.AskWrite t p g)) = (refl, refl)
back_same hand (body.Short (short.InUse t p g)) = (refl, refl)
back_same hand (body.Short (short.Drop t)) = (refl, refl)
back_same hand (body.Short short.Welcome) = (refl, refl)
back_same hand (body.Short (short.MayWrite t p g)) = (refl, refl)
back_same hand (body.Short (short.Callback p g)) = (refl, refl)
back_same hand (body.Short (short.Done t n)) = (refl, refl)
back_same hand (body.Short (short.AbortNow t)) = (refl, refl)
back_same hand (body.Short (short.Downgraded p g t)) = (refl, refl)
back_same hand (body.Short (short.Downgrade p g t)) = (refl, refl)
back_same hand (body.Commit t ws) = (refl, refl)
back_same hand (body.Granted p g v bs) = (refl, refl)

received_same : (server : Server) (hand : HandState) (x : Body) → IsSameHand (received_of server hand x) hand
received_same server hand (body.Granted p g v bs) = either _ _ hand hand (refl, refl) (refl, refl)
received_same server hand (body.Short (short.MayWrite t p g)) = either _ _ hand hand (refl, refl) (refl, refl)
received_same server hand (body.Short short.Hello) = (refl, refl)
received_same server hand (body.Short (short.AskRead t p)) = (refl, refl)
received_same server hand (body.Short (short.AskWrite t p g)) = (refl, refl)
received_same server hand (body.Short (short.GiveBack p g)) = (refl, refl)
received_same server hand (body.Short (short.InUse t p g)) = (refl, refl)
received_same server hand (body.Short (short.Drop t)) = (refl, refl)
received_same server hand (body.Short short.Welcome) = (refl, refl)
received_same server hand (body.Short (short.Callback p g)) = (refl, refl)
received_same server hand (body.Short (short.Done t n)) = (refl, refl)
received_same server hand (body.Short (short.AbortNow t)) = (refl, refl)
received_same server hand (body.Short (short.Downgraded p g t)) = (refl, refl)
received_same server hand (body.Short (short.Downgrade p g t)) = (refl, refl)
received_same server hand (body.Commit t ws) = (refl, refl)

took_same : (before after : StationState) (frame : Frame) (hand next : HandState) (r : Result ⊤ OfficeFault) → Took before frame hand r after next → IsSameHand next hand
took_same before after frame hand next (Err f) t = same_hand next hand t.err.1
took_same before after frame hand next (Ok done) t = by (is_stray hand frame.body) refl
  where
    by : (b : Bool) → is_stray hand frame.body ≡ b → IsSameHand next hand
    by true e = same_hand next hand (t.stray e).1
    by false e =
        let moved = t.moved e in let back = back_same hand frame.body in
        let ended : IsSameHand (ended_if_over (server_of after) (given_back hand frame.body)) (given_back hand frame.body) =
        either (is_over (server_of after) (given_back hand frame.body).client (given_back hand frame.body).txn) (without_permissions (given_back hand frame.body)) (given_back hand frame.body) (given_back hand frame.body) (refl, refl) (refl, refl) in
        (ap (λ (h : HandState). h.client) moved ∙ ended.0 ∙ back.0, ap (λ (h : HandState). h.incarnation) moved ∙ ended.1 ∙ back.1)

collected_same : (before after : StationState) (hand next : HandState) (r : Result (Option Frame) OfficeFault) → Collected before hand r after next → IsSameHand next hand
collected_same before after hand next (Err f) t = same_hand next hand t.err.1
collected_same before after hand next (Ok None) t = same_hand next hand t.moved
collected_same before after hand next (Ok (Some frame)) t =
    let moved = t.moved in let got = received_same (server_of before) hand frame.body in
    (ap (λ (h : HandState). h.client) moved ∙ got.0, ap (λ (h : HandState). h.incarnation) moved ∙ got.1)

-- what gives up pages begins no transaction
gives_up_still : (m : CacheChange) → PlainChange m → StillChange m
gives_up_still (LetGo p) a = tt
gives_up_still (MakeBare p) a = tt
gives_up_still (YieldPermission p) a = tt
gives_up_still (RefuseGrant p g) a = tt
gives_up_still _ a = absurd a

plain_still : (steps : List ClientStep) → Plain steps → Still steps
plain_still [] a = tt
plain_still (ChangeCache m ∷ steps) a = (gives_up_still m a.0, plain_still steps a.1)
plain_still (Say b ∷ steps) a = plain_still steps a
plain_still (SetAsk x ∷ steps) a = absurd a
plain_still (MarkWanted p ∷ steps) a = absurd a
plain_still (MarkDue p ∷ steps) a = absurd a
plain_still (MarkDueDowngrade p y ∷ steps) a = absurd a
plain_still (EndTransaction l ∷ steps) a = absurd a

-- a call begins none where it would begin none if it were accepted
call_still : (L : Limits) (k : Client) (call : Call) → Still (accept_call L k call).steps → Still (client_call L k call).steps
call_still L k call a = go (call_fault L k call) refl
  where
    go : (f : Option table.ClientFault) → call_fault L k call ≡ f → Still (client_call L k call).steps
    go None e = rw (call_accepted L k call e) a
    go (Some f) e = rw (call_refused L k call f e) tt

drop_still : (L : Limits) (k : Client) → Still (accept_call L k CallDrop).steps
drop_still L k = (tt, plain_still (end_pages k true L.pages) (plain_pages k true L.pages))

want_still : (L : Limits) (k : Client) (page : ℕ) → Still (accept_call L k (CallWant page)).steps
want_still L k page = go (k.cache.may_write page) (k.cache.held page)
  where
    go : (b : Bool) (h : Option ℕ) → Still (if b then reply_with table.Permitted (MarkWanted page ∷ []) else reply_with table.Asked (MarkWanted page ∷ SetAsk (WriteAsk page) ∷ say_ask_write k page h)).steps
    go true h = tt
    go false None = tt
    go false (Some g) = tt

-- a client of the same incarnation, with the same limits, whose last transaction is the same
pub record IsSameClient (old new : ClientState) : Type 0 where
  pub no : new.no ≡ old.no
  pub incarnation : new.incarnation ≡ old.incarnation
  pub limits : new.copies.limits ≡ old.copies.limits
  pub txn : last_txn new ≡ last_txn old
  pub keeps : KeepsFixed (client_of old []) (client_of new [])

same_client : (old new : ClientState) → new ≡ old → IsSameClient old new
same_client old new e = record {
  no = ap (λ (c : ClientState). c.no) e;
  incarnation = ap (λ (c : ClientState). c.incarnation) e;
  limits = ap (λ (c : ClientState). c.copies.limits) e;
  txn = ap (λ (c : ClientState). last_txn c) e;
  keeps = fixed_alone _ _ (same_used old new e);
}

-- a client stays the same one by steps of which none begins a transaction
made_same : (old new : ClientState) (steps : Client → List ClientStep) (said : List Message) (history : List Operation → List Operation) → Makes old steps said history new → Still (steps (client_of old [])) → KeepsFixed (client_of old []) (client_of new [])
    → IsSameClient old new
made_same old new steps said history makes still keeps = record {
  no = makes.no;
  incarnation = makes.incarnation;
  limits = makes.limits;
  txn = ap (λ (c : Client). c.cache.number) (sym (makes.after [])) ∙ still_number old.copies.limits.keep_write (client_of old []) (steps (client_of old [])) still;
  keeps = keeps;
}

-- so by what it takes
takes_same : (old new : ClientState) (frame : Frame) (said : List Message) → TakesFrame old frame said new → IsSameClient old new
takes_same old new frame said t = by (is_for old frame) refl
  where
    by : (b : Bool) → is_for old frame ≡ b → IsSameClient old new
    by true e =
        let takes = t.own e in
        made_same old new (λ (k : Client). client_take (limits_at old) k (body_of frame.body) takes.let_go) said takes.history takes.makes (still_takes (limits_at old) (client_of old []) (body_of frame.body) takes.let_go)
        (fixed_alone _ _ (takes_used old new frame said t))
    by false e = same_client old new (t.unchanged e)

-- and by a call that begins none
called_same : (old new : ClientState) (call : Call) (word : table.AnswerWord) (said : List Message) (history : List Operation → List Operation) → Calls old call word said history new
    → Still (accept_call (limits_at old) (client_of old []) call).steps → KeepsFixed (client_of old []) (client_of new []) → IsSameClient old new
called_same old new call word said history calls still keeps =
    made_same old new (λ (k : Client). (client_call (limits_at old) k call).steps) said history calls.makes (call_still (limits_at old) (client_of old []) call still) keeps

-- It is the same one, however it came there.
pub record IsSameOne (old new : WorkerState) : Type 0 where
  pub no : new.client.no ≡ old.client.no
  pub incarnation : new.client.incarnation ≡ old.client.incarnation
  pub limits : new.client.copies.limits ≡ old.client.copies.limits
  pub txn : last_txn new.client ≡ last_txn old.client
  pub hand : new.hand.client ≡ old.hand.client
  pub hand_incarnation : new.hand.incarnation ≡ old.hand.incarnation
  pub keeps : KeepsFixed (seen_by old) (seen_by new)

-- and by which moves
pub by_moves : (old new : WorkerState) (moves : List Moved) → IsSameOne old new → MovesBy old moves new → IsStill old new
by_moves old new moves is moved = record {
  no = is.no;
  incarnation = is.incarnation;
  limits = is.limits;
  txn = is.txn;
  hand = is.hand;
  hand_incarnation = is.hand_incarnation;
  keeps = is.keeps;
  moves = moves;
  moved = moved;
}

pub same_one : (old new : WorkerState) → IsStill old new → IsSameOne old new
same_one old new is = record { no = is.no; incarnation = is.incarnation; limits = is.limits; txn = is.txn; hand = is.hand; hand_incarnation = is.hand_incarnation; keeps = is.keeps }

append_moves : (one two three : WorkerState) (xs ys : List Moved) → MovesBy one xs two → MovesBy two ys three → MovesBy one (xs ++ ys) three
append_moves one two three [] ys e m = subst (λ (w : WorkerState). MovesBy w ys three) e m
append_moves one two three (x ∷ xs) ys m n = (m.0, append_moves x.worker two three xs ys m.1 n)

same_so : (old new : WorkerState) → new ≡ old → IsSameOne old new
same_so old new e = record {
  no = ap (λ (w : WorkerState). w.client.no) e;
  incarnation = ap (λ (w : WorkerState). w.client.incarnation) e;
  limits = ap (λ (w : WorkerState). w.client.copies.limits) e;
  txn = ap (λ (w : WorkerState). last_txn w.client) e;
  hand = ap (λ (w : WorkerState). w.hand.client) e;
  hand_incarnation = ap (λ (w : WorkerState). w.hand.incarnation) e;
  keeps = fixed_alone _ _ (same_used old.client new.client (ap (λ (w : WorkerState). w.client) e));
}

-- so a worker whose client and whose hand stay the same
still : (old new : WorkerState) → IsSameClient old.client new.client → IsSameHand new.hand old.hand → IsSameOne old new
still old new c h = record { no = c.no; incarnation = c.incarnation; limits = c.limits; txn = c.txn; hand = h.0; hand_incarnation = h.1; keeps = c.keeps }

-- and one whose hand is as it was
same_hand_still : (old new : WorkerState) → IsSameClient old.client new.client → new.hand ≡ old.hand → IsSameOne old new
same_hand_still old new c e = still old new c (same_hand new.hand old.hand e)

-- so by a read without the office
hit_same : (w : WorkerState) (page : ℕ) → IsSameOne w (after_hit w page)
hit_same w page = go (may_hit w page) (fixed_alone _ _ (hit_used w page))
  where
    go : (b : Bool) → KeepsFixed (seen_by w) (seen_by (if b then with_client w (page_read w.client page) else w)) → IsSameOne w (if b then with_client w (page_read w.client page) else w)
    go true k = record { no = refl; incarnation = refl; limits = refl; txn = refl; hand = refl; hand_incarnation = refl; keeps = k }
    go false k = same_so w w refl

pub same : (old new : WorkerState) → new ≡ old → IsStill old new
same old new e = by_moves old new [] (same_so old new e) e

pub hit_still : (w : WorkerState) (page : ℕ) → IsStill w (after_hit w page)
hit_still w page = go (may_hit w page) refl
  where
    go : (b : Bool) → may_hit w page ≡ b → IsStill w (after_hit w page)
    go true e = by_moves w (after_hit w page) (record { move = ReadAtHand page; worker = after_hit w page } ∷ []) (hit_same w page) ((e, refl), refl)
    go false e = same w (after_hit w page) (rw e refl)

pub read_here_still : (old new : WorkerState) (page : ℕ) → new ≡ after_hit old page → IsStill old new
read_here_still old new page e = rw e (hit_still old page)

-- a call by which nothing but the client and what it said changes
called_move : (old new : WorkerState) (call : Call) (word : table.AnswerWord) (messages : List Message) (history : List Operation → List Operation) → Calls old.client call word messages history new.client
    → messages_of new.said ≡ messages_of old.said ++ messages → new ≡ record old { client = new.client; said = new.said } → IsSameOne old new → IsStill old new
called_move old new call word messages history calls said rest is = by_moves old new (record { move = CallClient call; worker = new } ∷ []) is
    (record { word = word; messages = messages; history = history; calls = calls; said = said; rest = rest }, refl)

-- by a want
wants_same : (old new : ClientState) (page : ℕ) (r : Result WantAnswer ClientFault) → Wants old page r new → IsSameClient old new
wants_same old new page (Ok want.Permitted) calls = called_same old new (CallWant page) _ _ _ calls (want_still (limits_at old) (client_of old []) page) (fixed_alone _ _ (wants_used old new page (Ok want.Permitted) calls))
wants_same old new page (Ok (want.Asked frame)) calls = called_same old new (CallWant page) _ _ _ calls (want_still (limits_at old) (client_of old []) page) (fixed_alone _ _ (wants_used old new page (Ok (want.Asked frame)) calls))
wants_same old new page (Err f) refuses = same_client old new refuses.1

-- what is kept then, behind nothing
abbrev pub KeepsAsk : Result WantAnswer ClientFault → List Frame → Type 0
KeepsAsk (Ok want.Permitted) said = said ≡ []
KeepsAsk (Ok (want.Asked ask)) said = said ≡ frame_of ask ∷ []
KeepsAsk (Err f) said = said ≡ []

wants_move : (old new : WorkerState) (page : ℕ) (r : Result WantAnswer ClientFault) → Wants old.client page r new.client → old.said ≡ [] → KeepsAsk r new.said → new ≡ record old { client = new.client; said = new.said } → IsSameOne old new → IsStill old new
wants_move old new page (Ok want.Permitted) calls none kept rest is = called_move old new (CallWant page) table.Permitted [] as_before calls (ap (λ (l : List Frame). messages_of l) kept ∙ sym (ap (λ (l : List Frame). messages_of l ++ []) none)) rest is
wants_move old new page (Ok (want.Asked ask)) calls none kept rest is = called_move old new (CallWant page) table.Asked (short_message ask ∷ []) as_before calls (ap (λ (l : List Frame). messages_of l) kept ∙ sym (ap (λ (l : List Frame). messages_of l ++ short_message ask ∷ []) none)) rest is
wants_move old new page (Err f) refuses none kept rest is = by_moves old new [] is (rest ∙ (λ i. record old { client = refuses.1 i; said = (kept ∙ sym none) i }))

pub wants_still : (old new : WorkerState) (page : ℕ) (r : Result WantAnswer ClientFault) → Wants old.client page r new.client → old.said ≡ [] → KeepsAsk r new.said → new ≡ record old { client = new.client; said = new.said } → IsStill old new
wants_still old new page r wants none kept rest = wants_move old new page r wants none kept rest (same_hand_still old new (wants_same old.client new.client page r wants) (ap (λ (w : WorkerState). w.hand) rest))

-- by a drop
pub dropped_still : (old new : WorkerState) → Calls old.client CallDrop table.AnsweredOk (messages_of new.said) over new.client → new.client.stage ≡ stages.Idle → old.said ≡ [] → new ≡ record old { client = new.client; said = new.said } → IsStill old new
dropped_still old new calls idle none rest = called_move old new CallDrop table.AnsweredOk (messages_of new.said) over calls (sym (ap (λ (l : List Frame). messages_of l ++ messages_of new.said) none)) rest
    (same_hand_still old new (called_same old.client new.client CallDrop table.AnsweredOk (messages_of new.said) over calls (drop_still (limits_at old.client) (client_of old.client [])) (dropped_fixed old.client new.client idle))
    (ap (λ (w : WorkerState). w.hand) rest))

finishes_same : (old new : ClientState) (frame : Frame) → FinishesOrAgain old frame new → IsSameClient old new
finishes_same old new frame (inl calls) = called_same old new CallFinish _ _ _ calls (tt, tt) (fixed_alone _ _ (finishes_used old new frame (inl calls)))
finishes_same old new frame (inr again) = same_client old new again.2

-- a hand whose commit was handed in
committed_hand : (writes : List Write) (hand : HandState) (number : ℕ) → IsSameHand (committed hand writes number) hand
committed_hand [] hand number = (refl, refl)
committed_hand (w ∷ writes) hand number = committed_hand writes (restamped hand w.page number) number

committed_same : (before after : StationState) (frame : Frame) (reads : List Bool) (hand next : HandState) (r : Result ℕ OfficeFault) → Committed before frame reads hand r after next → IsSameHand next hand
committed_same before after frame reads hand next (Err f) t = same_hand next hand t.err.1
committed_same before after frame reads hand next (Ok number) t =
    let moved = t.moved in let same = committed_hand (writes_of frame) hand number in
    (ap (λ (h : HandState). h.client) moved ∙ same.0, ap (λ (h : HandState). h.incarnation) moved ∙ same.1)

handed_commit_still : (old new : WorkerState) (before after : StationState) (r : Result ℕ OfficeFault) → HandsCommitIn old before r new after → IsSameOne old new
handed_commit_still old new before after r h =
    still old new (finishes_same old.client new.client h.frame h.finishes) (committed_same before after h.frame h.reads old.hand new.hand r h.committed)

-- by a commit
pub commits_same : (old new : WorkerState) (before after : StationState) (r : Result ℕ WorkerFault) → CommitsAt old before r new after → IsSameOne old new
commits_same old new before after (Ok number) h = handed_commit_still old new before after (Ok number) h
commits_same old new before after (Err (worker.Office f)) h = handed_commit_still old new before after (Err f) h
commits_same old new before after (Err (worker.Client f)) h = same_so old new h.1
commits_same old new before after (Err worker.Halted) h = absurd h

pub commits_still : (old new : WorkerState) (before after : StationState) (r : Result ℕ WorkerFault) → CommitsAt old before r new after → IsStill old new
commits_still old new before after r h = by_moves old new (record { move = Commit before r after; worker = new } ∷ []) (commits_same old new before after r h) (h, refl)

taken_still : (old new : WorkerState) (frame : Frame) (r : Result Bool WorkerFault) → TakesCollected old frame r new → IsSameOne old new
taken_still old new frame (Ok turned) h =
    same_hand_still old new (takes_same old.client new.client frame (messages_of new.said) h.1.takes) (ap (λ (w : WorkerState). w.hand) h.1.rest)
taken_still old new frame (Err (worker.Client f)) h = same_so old new h.2
taken_still old new frame (Err (worker.Office f)) h = same_so old new h.2
taken_still old new frame (Err worker.Halted) h = absurd h

handed_still : (old new : WorkerState) (before after : StationState) (frame : Frame) (rest : List Frame) (r : Result Bool WorkerFault) → HandsIn old before frame rest r new after → IsSameOne old new
handed_still old new before after frame rest r h = by h.answer h.took h.left
  where
    by : (a : Result ⊤ OfficeFault) → Took before frame old.hand a after new.hand → new ≡ without_first old new.hand rest a → IsSameOne old new
    by (Err f) t e = same_so old new e
    by (Ok done) t e =
        still old new (same_client old.client new.client (ap (λ (w : WorkerState). w.client) e)) (took_same before after frame old.hand new.hand (Ok done) t)

collects_still : (old new : WorkerState) (before after : StationState) (r : Result Bool WorkerFault) → Collects old before r new after → IsSameOne old new
collects_still old new before after r h = by h.answer h.collected h.taken
  where
    by : (a : Result (Option Frame) OfficeFault) → Collected before old.hand a after new.hand → AfterCollecting a old r new → IsSameOne old new
    by (Err f) c t = same_so old new t.1
    by (Ok None) c t = same_so old new t.1
    by (Ok (Some frame)) c t =
        let hand = collected_same before after old.hand new.hand (Ok (Some frame)) c in
        let next = taken_still (record old { hand = new.hand; collected = Some frame }) new frame r t in
        record { no = next.no; incarnation = next.incarnation; limits = next.limits; txn = next.txn; hand = hand.0; hand_incarnation = hand.1; keeps = next.keeps }

-- a turn leaves it the same
pub turned_same : (old new : WorkerState) (before after : StationState) (r : Result Bool WorkerFault) → Turns old before r new after → IsSameOne old new
turned_same old new before after r t = go old.said old.collected t
  where
    go : (said : List Frame) (kept : Option Frame) → TurnsBy said kept old before r new after → IsSameOne old new
    go (frame ∷ rest) kept h = handed_still old new before after frame rest r h
    go [] (Some frame) h = taken_still old new frame r h.0
    go [] None h = collects_still old new before after r h

pub turned : (old new : WorkerState) (before after : StationState) (r : Result Bool WorkerFault) → Turns old before r new after → IsStill old new
turned old new before after r t = by_moves old new (record { move = Turn before r after; worker = new } ∷ []) (turned_same old new before after r t) (t, refl)

-- so do two changes
pub after : (one two three : WorkerState) → IsStill one two → IsStill two three → IsStill one three
after one two three p q = by_moves one three (p.moves ++ q.moves) (record {
  no = q.no ∙ p.no;
  incarnation = q.incarnation ∙ p.incarnation;
  limits = q.limits ∙ p.limits;
  txn = q.txn ∙ p.txn;
  hand = q.hand ∙ p.hand;
  hand_incarnation = q.hand_incarnation ∙ p.hand_incarnation;
  keeps = then_fixed (seen_by one) (seen_by two) (seen_by three) p.keeps q.keeps;
}) (append_moves one two three p.moves q.moves p.moved q.moved)

-- a read or an ask for a page leaves it the same
read_same : (old new : WorkerState) (page : ℕ) → new.client ≡ after_read old.client page → new.hand ≡ old.hand → IsSameOne old new
read_same old new page e hand = same_hand_still old new (subst (λ (v : ClientState). IsSameClient old.client v) (sym e) (by (is_none (call_fault (limits_at old.client) (client_of old.client []) (CallRead page))) (is_some (content_at old.client.copies page)) (after_read_fixed old.client page))) hand
  where
    by : (a b : Bool) → KeepsFixed (client_of old.client []) (client_of (if a then if b then page_read old.client page else page_asked old.client page else old.client) [])
        → IsSameClient old.client (if a then if b then page_read old.client page else page_asked old.client page else old.client)
    by true true k = record { no = refl; incarnation = refl; limits = refl; txn = refl; keeps = k }
    by true false k = record { no = refl; incarnation = refl; limits = refl; txn = refl; keeps = k }
    by false b k = record { no = refl; incarnation = refl; limits = refl; txn = refl; keeps = k }

-- so what the table says of it is kept behind nothing
-- what a read that is answered says
pub says_nothing : (v : ClientState) (page : ℕ) (bytes : Bytes) (called : Called v (CallRead page) (after_read v page)) → Answers v (CallRead page) (table.AnsweredBytes bytes) [] → called.messages ≡ []
says_nothing v page bytes called a = sym (called.calls.makes.said []) ∙ a.said []

pub says_ask : (v : ClientState) (page : ℕ) (called : Called v (CallRead page) (after_read v page)) → Answers v (CallRead page) table.Asked (read_ask v page ∷ []) → called.messages ≡ read_ask v page ∷ []
says_ask v page called a = sym (called.calls.makes.said []) ∙ a.said []

pub behind_nothing : (old new : List Frame) (messages : List Message) → old ≡ [] → messages_of new ≡ messages → messages_of new ≡ messages_of old ++ messages
behind_nothing old new messages none e = e ∙ sym (ap (λ (l : List Frame). messages_of l ++ messages) none)

pub read_still : (old new : WorkerState) (page : ℕ) → (called : Called old.client (CallRead page) (after_read old.client page)) → new.client ≡ after_read old.client page → messages_of new.said ≡ messages_of old.said ++ called.messages
    → new ≡ record old { client = new.client; said = new.said } → IsStill old new
read_still old new page called e said rest = called_move old new (CallRead page) called.answered called.messages called.history
    (subst (λ (v : ClientState). Calls old.client (CallRead page) called.answered called.messages called.history v) (sym e) called.calls) said rest (read_same old new page e (ap (λ (w : WorkerState). w.hand) rest))

-- and it is of the incarnation of the client that it was of
pub stays_so : (old new : WorkerState) (client incarnation : ℕ) → IsOf old client incarnation → IsSameOne old new → IsOf new client incarnation
stays_so old new client incarnation p q = record {
  no = q.no ∙ p.no;
  incarnation = q.incarnation ∙ p.incarnation;
  hand = q.hand ∙ p.hand;
  hand_incarnation = q.hand_incarnation ∙ p.hand_incarnation;
}

pub stays : (old new : WorkerState) (client incarnation : ℕ) → IsOf old client incarnation → IsStill old new → IsOf new client incarnation
stays old new client incarnation p q = stays_so old new client incarnation p (same_one old new q)
