-- How a transaction's commit is said, and said again.
use Rattle.std.proofs.Common.{◌≡◌, ◌≢◌, inl, inr, ℕ, zero, suc, Bool, List, [], ◌∷◌, Option, Some, None, Result, Ok, Err, IfErr, IfOk, refl, sym, ◌∙◌, ap, subst, option_to_list}
use Rattle.std.specs.Prelude.{OnOk, ⊤}
use Rattle.std.specs.Option.{option_map}
use Rattle.cb_client.specs.ByTable.{Refuses, RefusesOrLacks, limits_at, messages_from}
use Rattle.cb_client.specs.CallAnswers.{Finishes, FinishesWith, SaysCommit}
use Rattle.cb_client.specs.declared.client_fault.ClientFault.{ClientFault}
use Rattle.cb_client.specs.declared.client_fault.ClientFault.TheVariants as fault
use Rattle.cb_client_core.specs.ClientState.{ClientState, IsClient, client_of, stage_of}
use Rattle.cb_client_core.specs.declared.stage.Stage.{Stage}
use Rattle.cb_client_core.specs.declared.stage.Stage.TheVariants as stages
use Rattle.cb_cache.specs.CacheState.{limits_of}
use Rattle.cb_frame.specs.declared.frame.Frame.{Frame}
use Rattle.cb_outbox.specs.Messages.{message_of}
use Rattle.cb_protocol.proofs.Cases.{call_accepted, call_refused}
use Rattle.cb_protocol.specs.Answers as table
use Rattle.cb_protocol.specs.Basics.{Bytes, Limits}
use Rattle.cb_protocol.specs.Cache.{Finish, Idle, cache_after}
use Rattle.cb_protocol.specs.Client.{Client, bodies_said, client_after}
use Rattle.cb_protocol.specs.ClientCalls.{CallFinish, Reply, call_fault, commit_again, say_commit, written_page, written_pages}
use Rattle.cb_protocol.specs.Messages.{Body, Commit, PageWrite}
use Rattle.cb_protocol.specs.Serial.{Operation}
use Rattle.cb_hands.specs.Hands.{HandState}
use Rattle.cb_station.specs.Stations.{StationState}
use Rattle.cb_station.specs.declared.office_fault.OfficeFault.{OfficeFault}
use Rattle.cb_worker.proofs.Standing.{is_then}
use Rattle.cb_worker.proofs.Written.{SaysAlike, alike_pages, are_written, committing_busy, says_alike}
use Rattle.cb_station.specs.Calls.{Committed}
use Rattle.cb_worker.specs.Workers.{HasTransaction, WorkerState, seen_by, with_client}
use Rattle.cb_worker.specs.Moving.{IsStill}
use Rattle.cb_worker.specs.Committing.{AreLocked, FinishesOrAgain, HandsCommitIn, HandsFrameIn, IsCommitting, RefusesFrame}

-- the client once its transaction has finished
abbrev finished : (keep : Bool) → Client → Client
finished keep k = record k { cache = cache_after keep k.cache Finish }

-- it says the same commit
same_page : (keep : Bool) (k : Client) (page : ℕ) (h : Option ℕ) (b : Option Bytes) → written_page (finished keep k) page h b ≡ written_page k page h b
same_page keep k page None b = refl
same_page keep k page (Some g) None = refl
same_page keep k page (Some g) (Some b) = refl

same_pages : (keep : Bool) (k : Client) (end : ℕ) → written_pages (finished keep k) end ≡ written_pages k end
same_pages keep k zero = refl
same_pages keep k (suc page) = rw (same_pages keep k page, same_page keep k page (k.cache.held page) (k.cache.content page)) refl

same_sender : (old new : ClientState) (bodies : List Body) → new.no ≡ old.no → new.incarnation ≡ old.incarnation → messages_from new bodies ≡ messages_from old bodies
same_sender old new bodies e f = rw (e, f) refl

-- what a client that has finished says of its commit is what it said
pub finished_says : (old new : ClientState) (frame : Frame) → Finishes old (Ok frame) new → SaysCommit new frame
finished_says old new frame calls ops = go (call_fault (limits_at old) (client_of old ops) CallFinish) refl
  where
    go : (f : Option table.ClientFault) → call_fault (limits_at old) (client_of old ops) CallFinish ≡ f
        → messages_from new (bodies_said (say_commit (limits_at new) (client_of new ops))) ≡ message_of frame ∷ []
    go (Some f) e = absurd (let w = ap (λ (r : Reply). r.word) (call_refused _ _ _ f e) in let b = calls.word ops in cc)
    go None e =
        let keep = old.copies.limits.keep_write in
        let k = client_of old ops in
        let reply = call_accepted (limits_at old) k CallFinish e in
        let said : messages_from old (bodies_said (say_commit (limits_at old) k)) ≡ message_of frame ∷ [] =
        sym (ap (λ (r : Reply). messages_from old (bodies_said r.steps)) reply) ∙ calls.makes.said ops in
        let after : finished keep k ≡ client_of new ops = sym (ap (λ (r : Reply). client_after keep k r.steps) reply) ∙ calls.makes.after ops in
        same_sender old new (bodies_said (say_commit (limits_at new) (client_of new ops))) calls.makes.no calls.makes.incarnation
        ∙ ap (λ (L : Limits). messages_from old (bodies_said (say_commit L (client_of new ops)))) (ap limits_of calls.makes.limits)
        ∙ ap (λ (c : Client). messages_from old (bodies_said (say_commit (limits_at old) c))) (sym after)
        ∙ ap (λ (pages : List PageWrite). messages_from old (Commit k.cache.number pages ∷ [])) (same_pages keep k old.copies.limits.pages)
        ∙ said

-- a client that is committing says its commit again
pub again_says : (v : ClientState) (frame : Frame) → IsCommitting v
    → ((ops : List Operation) → messages_from v (bodies_said (commit_again (limits_at v) (client_of v ops))) ≡ option_to_list (option_map message_of (Some frame)))
    → SaysCommit v frame
again_says v frame is said ops = rw (is_then v is) at (said ops)

pub again_none : (v : ClientState) → IsCommitting v
    → ((ops : List Operation) → messages_from v (bodies_said (commit_again (limits_at v) (client_of v ops))) ≡ option_to_list (option_map message_of None)) → ⊥
again_none v is said = absurd (let e = rw (is_then v is) at (said []) in cc)

-- what a client's finish is answered
pub finishes : (old new : ClientState) (r : Result Frame ClientFault) → Finishes old r new → IfOk r (λ frame. FinishesOrAgain old frame new)
finishes old new (Ok frame) f = inl f
finishes old new (Err e) f = tt

pub finish_says : (old new : ClientState) (r : Result Frame ClientFault) → Finishes old r new → IfOk r (SaysCommit new)
finish_says old new (Ok frame) f = finished_says old new frame f
finish_says old new (Err e) f = tt

pub finish_refused : (old new : ClientState) (r : Result Frame ClientFault) → (IsCommitting old → ⊥) → Finishes old r new → IfErr r (λ e. RefusesFrame old e new)
finish_refused old new (Ok frame) n f = tt
finish_refused old new (Err e) n f = inl (n, f)

-- a refusal leaves the client as it was
as_it_was : (old new : ClientState) (f : ClientFault) → RefusesOrLacks old CallFinish f new → new ≡ old
as_it_was old new fault.Memory r = r.1
as_it_was old new _ r = r.1

pub refusal_leaves : (old new : ClientState) (f : ClientFault) → RefusesFrame old f new → new ≡ old
refusal_leaves old new f (inl r) = as_it_was old new f r.1
refusal_leaves old new f (inr r) = r.2

-- what a client is answered that finishes by a frame
pub by_frame : (old new : ClientState) (frame : Frame) (r : Result ⊤ ClientFault) → FinishesWith old frame r new → OnOk r (FinishesOrAgain old frame new)
by_frame old new frame (Ok done) f = inl f
by_frame old new frame (Err e) f = tt

pub by_frame_says : (old new : ClientState) (frame : Frame) (r : Result ⊤ ClientFault) → FinishesWith old frame r new → OnOk r (SaysCommit new frame)
by_frame_says old new frame (Ok done) f = finished_says old new frame f
by_frame_says old new frame (Err e) f = tt

refuses_only : (old new : ClientState) (e : ClientFault) → Refuses old CallFinish e new → RefusesOrLacks old CallFinish e new
refuses_only old new fault.Memory r = absurd (let z = r.0.named in cc)
refuses_only old new _ r = r

pub by_frame_refused : (old new : ClientState) (frame : Frame) (r : Result ⊤ ClientFault) → (IsCommitting old → ⊥) → FinishesWith old frame r new → IfErr r (λ e. RefusesFrame old e new)
by_frame_refused old new frame (Ok done) n f = tt
by_frame_refused old new frame (Err e) n f = inl (n, refuses_only old new e f)

-- a client that has a transaction, or is committing, isn't idle
pub has_stage : (w : WorkerState) → HasTransaction w → w.client.stage ≢ stages.Idle
has_stage w has e = has.busy [] (ap stage_of e)

pub committing_stage : (v : ClientState) → IsCommitting v → v.stage ≢ stages.Idle
committing_stage v is e = committing_busy _ (is_then v is) (ap stage_of e)

busy_stage : (s : Stage) → s ≢ stages.Idle → stage_of s ≢ Idle
busy_stage stages.Idle n z = n refl
busy_stage stages.Open n z = absurd cc
busy_stage stages.Committing n z = absurd cc

-- a frame that said the commit says it while the transaction isn't over
pub still_says : (old served : WorkerState) (frame : Frame) → IsClient old.client → SaysCommit old.client frame → IsStill old served → served.client.stage ≢ stages.Idle → SaysCommit served.client frame
still_says old served frame is says still busy ops =
    let L = limits_at old.client in
    same_sender old.client served.client (bodies_said (say_commit (limits_at served.client) (client_of served.client ops))) still.no still.incarnation
    ∙ ap (λ (l : Limits). messages_from old.client (bodies_said (say_commit l (client_of served.client ops)))) (ap limits_of still.limits)
    ∙ ap (λ (n : ℕ). messages_from old.client (Commit n (written_pages (client_of served.client ops) L.pages) ∷ [])) still.txn
    ∙ ap (λ (pages : List PageWrite). messages_from old.client (Commit (client_of old.client ops).cache.number pages ∷ [])) (alike_pages (client_of old.client ops) (client_of served.client ops) L.pages (λ page. record { wrote = (one page).wrote; held = (one page).held; content = (one page).content }))
    ∙ says ops
  where
    one : (page : ℕ) → SaysAlike (seen_by old) (seen_by served) page
    one page = says_alike old.client (seen_by served) page is still.keeps (busy_stage served.client.stage busy)

-- the frame is handed in, once the client has said it
pub hands_commit_in : (old mid new : WorkerState) (before after : StationState) (frame : Frame) (r : Result ℕ OfficeFault)
    → FinishesOrAgain old.client frame mid.client → SaysCommit mid.client frame → IsClient mid.client → mid ≡ with_client old mid.client → HandsFrameIn mid before frame r new after
    → HandsCommitIn old before r new after
hands_commit_in old mid new before after frame r finishes says is rest h =
    let same : mid.client ≡ new.client = sym (ap (λ (w : WorkerState). w.client) h.rest) in
    let said : SaysCommit new.client frame = subst (λ (c : ClientState). SaysCommit c frame) same says in
    record {
      frame = frame;
      reads = h.reads;
      finishes = subst (λ (c : ClientState). FinishesOrAgain old.client frame c) same finishes;
      says = said;
      written = are_written new.client frame said (subst IsClient same is);
      locked = subst (λ (c : ClientState). AreLocked c h.reads) same h.locked;
      committed = subst (λ (hand : HandState). Committed before frame h.reads hand r after new.hand) (ap (λ (w : WorkerState). w.hand) rest) h.committed;
      rest = h.rest ∙ ap (λ (w : WorkerState). record w { hand = new.hand }) rest ∙ ap (λ (c : ClientState). record old { client = c; hand = new.hand }) same;
    }
