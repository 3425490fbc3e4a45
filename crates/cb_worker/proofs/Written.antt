-- What a transaction wrote is what its commit says.
use Rattle.std.proofs.Common.{◌≡◌, ◌≢◌, ◌⊎◌, ◌||◌, ◌==◌, ◌++◌, ◌<◌, ◌≤◌, inl, inr, ℕ, zero, suc, Bool, true, false, if◌then◌else◌, List, [], ◌∷◌, Option, Some, None, Ok, refl, sym, ◌∙◌, ap, subst, arith}
use Rattle.std.proofs.lemmas.Bool.{cases_lt}
use Rattle.cb_client.specs.ByTable.{limits_at}
use Rattle.cb_client.specs.CallAnswers.{SaysCommit}
use Rattle.cb_client_core.specs.ClientState.{ClientState, IsClient, client_of}
use Rattle.cb_frame.specs.declared.frame.Body.{Body}
use Rattle.cb_frame.specs.declared.frame.Body.TheVariants as body
use Rattle.cb_frame.specs.declared.frame.Frame.{Frame}
use Rattle.cb_frame.specs.declared.frame.ShortBody.TheVariants as short
use Rattle.cb_outbox.specs.Messages.{body_of, page_writes}
use Rattle.cb_protocol.proofs.Cases.{call_accepted, call_refused}
use Rattle.cb_protocol.proofs.ClientInvariant.{ClientKeeps, tidy}
use Rattle.cb_protocol.proofs.PagesStay.{fixed_pages_stay}
use Rattle.cb_protocol.specs.Answers as table
use Rattle.cb_protocol.specs.Basics.{Bytes}
use Rattle.cb_protocol.specs.Cache.{Committing, Idle, Open, TransactionState, is_committing}
use Rattle.cb_protocol.specs.Client.{Aborted, Client, Committed, client_after, is_fixed}
use Rattle.cb_protocol.specs.ClientCalls.{CallFinish, Reply, call_fault, written_page, written_pages}
use Rattle.cb_protocol.specs.ClientLaws.{IsHere}
use Rattle.cb_protocol.specs.Messages.{Commit, Message, PageWrite, write_of_page}
use Rattle.cb_protocol.specs.Ranges.{InputFits}
use Rattle.cb_station.specs.Commits.{writes_in, writes_of}
use Rattle.cb_station.specs.Stations.{StationState}
use Rattle.cb_worker.proofs.Keeping.{fixed_alone}
use Rattle.cb_worker.proofs.Standing.{is_then}
use Rattle.cb_worker.proofs.Using.{finishes_used, within}
use Rattle.cb_worker.specs.Committing.{FinishesOrAgain, HandsCommitIn, IsCommitting}
use Rattle.cb_worker.specs.Handing.{HandedCommitIn, HasCommitted}
use Rattle.cb_worker.specs.Keeping.{AreWritten, HasWritten, KeepsFixed, Uses}
use Rattle.cb_worker.specs.Steps.{Begun}
use Rattle.cb_worker.specs.Waiting.{ending_of}
use Rattle.cb_worker.specs.Workers.{Ends, HasTransaction, WorkerState, seen_by}
use Rattle.cb_worker.specs.Moving.{IsStill}
use Rattle.cb_worker.specs.declared.answers.Finished.{Finished}
use Rattle.cb_worker.specs.declared.answers.Finished.TheVariants as finished
use Rattle.cb_worker.specs.declared.awaited.Awaited.TheVariants as awaited

find_some : (xs ys : List PageWrite) (p : ℕ) (x : PageWrite) → write_of_page xs p ≡ Some x → write_of_page (xs ++ ys) p ≡ Some x
find_some [] ys p x e = absurd cc
find_some (y ∷ xs) ys p x e = grind (arith, find_some xs ys p x)

find_none : (xs ys : List PageWrite) (p : ℕ) → write_of_page xs p ≡ None → write_of_page (xs ++ ys) p ≡ write_of_page ys p
find_none [] ys p e = refl
find_none (y ∷ xs) ys p e = grind (arith, find_none xs ys p)

-- what is said of a page names it alone
another : (k : Client) (n p : ℕ) (h : Option ℕ) (b : Option Bytes) → n ≢ p → write_of_page (written_page k n h b) p ≡ None
another k n p None b apart = refl
another k n p (Some g) None apart = refl
another k n p (Some g) (Some b) apart = go (k.cache.wrote n)
  where
    go : (w : Bool) → write_of_page (if w then record { page = n; grant = g; bytes = b } ∷ [] else []) p ≡ None
    go true = grind arith
    go false = refl

none_before : (k : Client) (n p : ℕ) → n ≤ p → write_of_page (written_pages k n) p ≡ None
none_before k zero p le = refl
none_before k (suc n) p le =
    find_none (written_pages k n) (written_page k n (k.cache.held n) (k.cache.content n)) p (none_before k n p (omega (arith, le)))
    ∙ another k n p (k.cache.held n) (k.cache.content n) (λ e. absurd (omega (arith, le, e)))

-- a page that was written is said with its grant and its bytes
itself : (k : Client) (p g : ℕ) (b : Bytes) → HasWritten k p g b → write_of_page (written_page k p (k.cache.held p) (k.cache.content p)) p ≡ Some (record { page = p; grant = g; bytes = b })
itself k p g b h = rw (h.uses.reading.0, h.uses.content, h.wrote) (grind arith)

there : (k : Client) (n p g : ℕ) (b : Bytes) → p < n → HasWritten k p g b → write_of_page (written_pages k n) p ≡ Some (record { page = p; grant = g; bytes = b })
there k zero p g b lt h = absurd (omega (arith, lt))
there k (suc n) p g b lt h = by (λ below. there k n p g b below h) (cases_lt p n)
  where
    by : (p < n → write_of_page (written_pages k n) p ≡ Some (record { page = p; grant = g; bytes = b })) → (p < n) ⊎ (n ≤ p)
        → write_of_page (written_pages k n ++ written_page k n (k.cache.held n) (k.cache.content n)) p ≡ Some (record { page = p; grant = g; bytes = b })
    by earlier (inl below) = find_some (written_pages k n) (written_page k n (k.cache.held n) (k.cache.content n)) p _ (earlier below)
    by earlier (inr le) =
        let same : p ≡ n = omega (arith, lt, le) in
        find_none (written_pages k n) (written_page k n (k.cache.held n) (k.cache.content n)) p (none_before k n p le)
        ∙ subst (λ (m : ℕ). write_of_page (written_page k m (k.cache.held m) (k.cache.content m)) p ≡ Some (record { page = p; grant = g; bytes = b })) same (itself k p g b h)

-- and only such a page is said
wrote_it : (k : Client) (n p : ℕ) (x : PageWrite) (h : Option ℕ) (b : Option Bytes) → write_of_page (written_page k n h b) p ≡ Some x → k.cache.wrote p ≡ true
wrote_it k n p x None b e = absurd cc
wrote_it k n p x (Some g) None e = absurd cc
wrote_it k n p x (Some g) (Some b) e = go (k.cache.wrote n) refl e
  where
    go : (w : Bool) → k.cache.wrote n ≡ w → write_of_page (if w then record { page = n; grant = g; bytes = b } ∷ [] else []) p ≡ Some x → k.cache.wrote p ≡ true
    go false f e = absurd cc
    go true f e = by (n == p) refl e
      where
        by : (s : Bool) → (n == p) ≡ s → (if s then Some (record { page = n; grant = g; bytes = b }) else None) ≡ Some x → k.cache.wrote p ≡ true
        by false d e = absurd cc
        by true d e = let same : n ≡ p = grind arith in subst (λ (m : ℕ). k.cache.wrote m ≡ true) same f

alone : (k : Client) (n p : ℕ) (x : PageWrite) → write_of_page (written_pages k n) p ≡ Some x → k.cache.wrote p ≡ true
alone k zero p x e = absurd cc
alone k (suc n) p x e = go (alone k n p) (write_of_page (written_pages k n) p) refl
  where
    go : ((y : PageWrite) → write_of_page (written_pages k n) p ≡ Some y → k.cache.wrote p ≡ true) → (r : Option PageWrite) → write_of_page (written_pages k n) p ≡ r → k.cache.wrote p ≡ true
    go earlier (Some y) f = earlier y f
    go earlier None f = wrote_it k n p x (k.cache.held n) (k.cache.content n) (sym (find_none (written_pages k n) (written_page k n (k.cache.held n) (k.cache.content n)) p f) ∙ e)

-- the writes of a frame that says a commit
says_writes : (x : Body) (n : ℕ) (ws : List PageWrite) → body_of x ≡ Commit n ws → page_writes (writes_in x) ≡ ws
says_writes (body.Commit txn writes) n ws e = cc
says_writes (body.Granted page grant version bytes) n ws e = absurd cc
says_writes (body.Short short.Hello) n ws e = absurd cc
says_writes (body.Short (short.AskRead t p)) n ws e = absurd cc
says_writes (body.Short (short.AskWrite t p g)) n ws e = absurd cc
says_writes (body.Short (short.GiveBack p g)) n ws e = absurd cc
says_writes (body.Short (short.InUse t p g)) n ws e = absurd cc
says_writes (body.Short (short.Drop t)) n ws e = absurd cc
says_writes (body.Short short.Welcome) n ws e = absurd cc
says_writes (body.Short (short.MayWrite t p g)) n ws e = absurd cc
says_writes (body.Short (short.Callback p g)) n ws e = absurd cc
says_writes (body.Short (short.Done t m)) n ws e = absurd cc
says_writes (body.Short (short.AbortNow t)) n ws e = absurd cc
says_writes (body.Short (short.Downgraded p g t)) n ws e = absurd cc
says_writes (body.Short (short.Downgrade p g t)) n ws e = absurd cc

first_body : (a b : Message) (xs ys : List Message) → a ∷ xs ≡ b ∷ ys → a.body ≡ b.body
first_body a b xs ys e = let z : a ≡ b = cc in ap (λ (m : Message). m.body) z

says_so : (v : ClientState) (frame : Frame) → SaysCommit v frame → page_writes (writes_of frame) ≡ written_pages (client_of v []) v.copies.limits.pages
says_so v frame says = says_writes frame.body _ _ (sym (first_body _ _ _ _ (says [])))

pub are_written : (v : ClientState) (frame : Frame) → SaysCommit v frame → IsClient v → AreWritten (client_of v []) (page_writes (writes_of frame))
are_written v frame says is = subst (λ (ws : List PageWrite). AreWritten (client_of v []) ws) (sym (says_so v frame says)) (record {
  each = λ page grant bytes h. there (client_of v []) v.copies.limits.pages page grant bytes (subst (λ (n : ℕ). page < n) is.locked (within v.locks.locked page h.uses.reading.1)) h;
  alone = λ page write e. alone (client_of v []) v.copies.limits.pages page write e;
})

-- the client is committing then
pub committing_busy : (s : TransactionState) → is_committing s ≡ true → s ≢ Idle
committing_busy Idle e = absurd cc
committing_busy _ e = λ z. absurd cc

finishing : (old new : ClientState) (frame : Frame) → FinishesOrAgain old frame new → (client_of new []).cache.status ≢ Idle
finishing old new frame (inl calls) = go (call_fault (limits_at old) (client_of old []) CallFinish) refl
  where
    go : (f : Option table.ClientFault) → call_fault (limits_at old) (client_of old []) CallFinish ≡ f → (client_of new []).cache.status ≢ Idle
    go (Some f) e = absurd (let w = ap (λ (r : Reply). r.word) (call_refused _ _ _ f e) in let b = calls.word [] in cc)
    go None e = λ z. absurd (let is : Committing ≡ Idle = sym committing ∙ z in cc)
      where
        committing : (client_of new []).cache.status ≡ Committing
        committing = ap (λ (k : Client). k.cache.status) (sym (calls.makes.after [])) ∙ ap (λ (r : Reply). (client_after old.copies.limits.keep_write (client_of old []) r.steps).cache.status) (call_accepted (limits_at old) (client_of old []) CallFinish e)
finishing old new frame (inr again) = subst (λ (v : ClientState). (client_of v []).cache.status ≢ Idle) (sym again.2) (committing_busy _ (is_then old again.0))

-- a page that was written is fixed
wrote_fixed : (wanted wrote : Bool) → wrote ≡ true → (wanted || wrote) ≡ true
wrote_fixed true wrote e = refl
wrote_fixed false wrote e = e

-- what was written stays written while the transaction isn't over
pub stays_written : (old new : Client) → KeepsFixed old new → new.cache.status ≢ Idle → (page grant : ℕ) (bytes : Bytes) → HasWritten old page grant bytes → HasWritten new page grant bytes
stays_written old new k n page grant bytes h = record {
  uses = k.uses page grant bytes n (wrote_fixed (old.wanted page) (old.cache.wrote page) h.wrote) h.uses;
  wrote = k.stays.wrote page n ∙ h.wrote;
}

written_before : (old new : Client) (ws : List PageWrite) → KeepsFixed old new → new.cache.status ≢ Idle → AreWritten new ws → AreWritten old ws
written_before old new ws k n a = record {
  each = λ page grant bytes h. a.each page grant bytes (stays_written old new k n page grant bytes h);
  alone = λ page write e. sym (k.stays.wrote page n) ∙ a.alone page write e;
}

-- a page that the transaction wrote it uses
uses_written : (v : ClientState) (page : ℕ) → IsClient v → (client_of v []).cache.wrote page ≡ true → (grant : ℕ) × (bytes : Bytes) × Uses (client_of v []) page grant bytes
uses_written v page is wrote = by ((client_of v []).cache.held page) refl ((client_of v []).cache.content page) refl
  where
    fixed : is_fixed (client_of v []) page ≡ true
    fixed = wrote_fixed ((client_of v []).wanted page) ((client_of v []).cache.wrote page) wrote

    here : IsHere (client_of v is.reached.operations) page
    here = (fixed_pages_stay (limits_at v) (InputFits (limits_at v)) (client_of v is.reached.operations) is.reached.arises).0 page fixed

    tidied : ClientKeeps (limits_at v) (client_of v is.reached.operations)
    tidied = tidy (limits_at v) (InputFits (limits_at v)) (client_of v is.reached.operations) is.reached.arises

    by : (h : Option ℕ) → (client_of v []).cache.held page ≡ h → (o : Option Bytes) → (client_of v []).cache.content page ≡ o → (grant : ℕ) × (bytes : Bytes) × Uses (client_of v []) page grant bytes
    by None e o f = absurd (tidied.locked_held page here.read e)
    by (Some g) e None f = absurd (here.bytes f)
    by (Some g) e (Some b) f = (g, b, record { reading = (e, here.read); content = f; safe = inl fixed })

-- both clients say the same of the page: neither wrote it, or both did, by one grant and with the same bytes
pub record SaysAlike (old new : Client) (page : ℕ) : Type 0 where
  pub wrote : new.cache.wrote page ≡ old.cache.wrote page
  pub held : old.cache.wrote page ≡ true → new.cache.held page ≡ old.cache.held page
  pub content : old.cache.wrote page ≡ true → new.cache.content page ≡ old.cache.content page

unwritten : (k : Client) (page : ℕ) (h : Option ℕ) (b : Option Bytes) → k.cache.wrote page ≡ false → written_page k page h b ≡ []
unwritten k page None b e = refl
unwritten k page (Some g) None e = refl
unwritten k page (Some g) (Some b) e = rw e refl

both_wrote : (old new : Client) (page : ℕ) (h : Option ℕ) (b : Option Bytes) → new.cache.wrote page ≡ old.cache.wrote page → written_page new page h b ≡ written_page old page h b
both_wrote old new page None b e = refl
both_wrote old new page (Some g) None e = refl
both_wrote old new page (Some g) (Some b) e = rw e refl

alike_page : (old new : Client) (page : ℕ) → SaysAlike old new page → written_page new page (new.cache.held page) (new.cache.content page) ≡ written_page old page (old.cache.held page) (old.cache.content page)
alike_page old new page a = by (old.cache.wrote page) refl
  where
    by : (w : Bool) → old.cache.wrote page ≡ w → written_page new page (new.cache.held page) (new.cache.content page) ≡ written_page old page (old.cache.held page) (old.cache.content page)
    by false e = unwritten new page _ _ (a.wrote ∙ e) ∙ sym (unwritten old page _ _ e)
    by true e =
        ap (λ (h : Option ℕ). written_page new page h (new.cache.content page)) (a.held e)
        ∙ ap (λ (b : Option Bytes). written_page new page (old.cache.held page) b) (a.content e)
        ∙ both_wrote old new page (old.cache.held page) (old.cache.content page) a.wrote

pub alike_pages : (old new : Client) (n : ℕ) → ((page : ℕ) → SaysAlike old new page) → written_pages new n ≡ written_pages old n
alike_pages old new zero a = refl
alike_pages old new (suc n) a =
    ap (λ (ws : List PageWrite). ws ++ written_page new n (new.cache.held n) (new.cache.content n)) (alike_pages old new n a)
    ∙ ap (λ (ws : List PageWrite). written_pages old n ++ ws) (alike_page old new n (a n))

-- so of each page, while the transaction isn't over
pub says_alike : (v : ClientState) (new : Client) (page : ℕ) → IsClient v → KeepsFixed (client_of v []) new → new.cache.status ≢ Idle → SaysAlike (client_of v []) new page
says_alike v new page is k n = record {
  wrote = k.stays.wrote page n;
  held = λ e. (kept e).reading.0 ∙ sym (uses_written v page is e).2.reading.0;
  content = λ e. (kept e).content ∙ sym (uses_written v page is e).2.content;
}
  where
    kept : (e : (client_of v []).cache.wrote page ≡ true) → Uses new page (uses_written v page is e).0 (uses_written v page is e).1
    kept e =
        let used = uses_written v page is e in
        k.uses page used.0 used.1 n (wrote_fixed ((client_of v []).wanted page) ((client_of v []).cache.wrote page) e) used.2

-- so the commit says what was written as its call began
pub handed_written : (old served new : WorkerState) (before after : StationState) (number : ℕ) → IsStill old served → (h : HandsCommitIn served before (Ok number) new after)
    → AreWritten (seen_by old) (page_writes (writes_of h.frame))
handed_written old served new before after number still h =
    let busy = finishing served.client new.client h.frame h.finishes in
    let used = finishes_used served.client new.client h.frame h.finishes in
    let mid = written_before (seen_by served) (seen_by new) _ (fixed_alone (seen_by served) (seen_by new) used) busy h.written in
    written_before (seen_by old) (seen_by served) _ still.keeps (used.stays.busy busy) mid

-- one that is answered as committed was handed in, or was committing before
pub has_committed : (old new : WorkerState) (answer : Finished) → HasTransaction old → Ends old new (ending_of answer) → Begun awaited.End old new → HasCommitted old answer
has_committed old new finished.Aborted had ends begun = tt
has_committed old new (finished.Committed number) had ends (inr handed) = inr handed
has_committed old new (finished.Committed number) had ends (inl was) = go (seen_by old).cache.status refl
  where
    go : (s : TransactionState) → (seen_by old).cache.status ≡ s → IsCommitting old.client ⊎ HandedCommitIn old
    go Idle e = absurd (had.busy [] e)
    go Open e = absurd (let a : (seen_by new).last_outcome ≡ Aborted = was.aborted e in let b : (seen_by new).last_outcome ≡ Committed number = ends.ended.so [] in let z : Aborted ≡ Committed number = sym a ∙ b in cc)
    go Committing e = inl (rw (had.welcomed, e) refl)
