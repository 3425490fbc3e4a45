-- What the protocol's table says of a transaction's end.
use Rattle.std.proofs.Common.{if◌then◌else◌, ◌≡◌, ◌≢◌, ◌<◌, ◌==◌, ℕ, zero, suc, Bool, true, false, true≢false, ◌&&◌, ◌||◌, List, [], ◌∷◌, ◌++◌, length, map, replicate, slice_index_or, Option, Some, None, IfSome, unwrap_or, refl, sym, ◌∙◌, ap, subst, arith}
use Rattle.std.specs.Option.{is_some}
use Rattle.std.proofs.lemmas.Bool.Decides.{nat_tests}
use Rattle.std.proofs.lemmas.List.{length-replicate}
use Rattle.cb_page.specs.Bounds.{Bounds}
use Rattle.cb_page.specs.Flags.{has}
use Rattle.cb_frame.specs.declared.frame.Frame.{Frame}
use Rattle.cb_outbox.specs.Messages.{messages_of}
use Rattle.cb_protocol.proofs.Cases.{client_after_append, takes_welcomed}
use Rattle.cb_protocol.specs.Basics.{is_none, update}
use Rattle.cb_protocol.specs.Cache.{Abandon, LetGo, TakeDone}
use Rattle.cb_protocol.specs.Client.{ChangeCache, Client, ClientStep, DueDowngrade, EndTransaction, LastOutcome, Say, bodies_said, client_after}
use Rattle.cb_protocol.specs.Client as protocol
use Rattle.cb_protocol.specs.ClientEnd.{end_page, end_pages, give_down}
use Rattle.cb_protocol.specs.ClientMessages.{client_take, of_committing_txn, of_open_txn}
use Rattle.cb_protocol.specs.Messages.{AbortNow, Body, Done, Drop, GiveBack}
use Rattle.cb_protocol.proofs.PagesStay.{fixed_pages_stay}
use Rattle.cb_protocol.specs.ClientLaws.{IsHere}
use Rattle.cb_protocol.specs.Ranges.{BodyFits, InputFits}
use Rattle.cb_protocol.specs.Serial.{Operation}
use Rattle.cb_cache.specs.CacheState.{CacheState, content_at, copy_at}
use Rattle.cb_locks.specs.Dues.{called_by, is_due, nothing_due}
use Rattle.cb_locks.specs.Locks.{LocksState, due_at, ended}
use Rattle.cb_locks.specs.declared.dues.PageDue.{PageDue}
use Rattle.cb_cache.specs.Ending.{Ends, all_sent_by, pages_steps}
use Rattle.cb_cache.specs.Owing.{OwesLocked, holder}
use Rattle.cb_cache.proofs.Walk.{pages_by_sight}
use Rattle.cb_client_core.specs.ClientState.{ClientState, IsClient, IsReached, base_of, client_of}
use Rattle.cb_client_core.specs.declared.stage.PendingAsk.TheVariants as asks
use Rattle.cb_client_core.specs.declared.stage.Outcome.{Outcome}
use Rattle.cb_client_core.specs.declared.stage.Outcome.TheVariants as outcomes
use Rattle.cb_client_core.specs.declared.stage.Stage.TheVariants as stages
use Rattle.cb_client_core.specs.ByTable.{Takes, limits_at, messages_from, over}
use Rattle.cb_client_core.proofs.Reaching.{takes_reach}
use Rattle.cb_client_core.proofs.Taking.{fixed_locked, kept}

-- what the end of a transaction needs
pub owes : (v : ClientState) → IsClient v → OwesLocked v.copies v.locks
owes v is = record {
  sized = is.locked;
  due_locked = is.due_locked;
  due_held = is.due_held;
  bare_locked = is.bare_locked;
  wrote_locked = λ p e. fixed_locked v is p (rw e (or_true (has v.copies.wanted p)));
}
  where
    or_true : (b : Bool) → (b || true) ≡ true
    or_true true = refl
    or_true false = refl

-- a page without bytes isn't held
abbrev Whole : Client → ℕ → Type 0
Whole k p = k.cache.content p ≡ None → k.cache.held p ≡ None

page_whole : (keep_write : Bool) (k l : Client) (d : Bool) (q p : ℕ) (r : Option ℕ) → Whole l p → Whole (client_after keep_write l (end_page k d q r)) p
page_whole keep_write k l d q p None h = h
page_whole keep_write k l d q p (Some g) h = go (d && k.cache.wrote q) (k.due q || is_none (k.cache.content q)) d (k.due_downgrade q)
  where
    go : (a b x : Bool) (y : Option DueDowngrade) → Whole (client_after keep_write l (if a then Say (GiveBack q g) ∷ [] else if b then ChangeCache (LetGo q) ∷ Say (GiveBack q g) ∷ [] else if x then [] else give_down q y)) p
    go true b x y = h
    go false true x y = λ e. by (p == q) refl e
      where
        by : (c : Bool) → (p == q) ≡ c → update l.cache.content q None p ≡ None → update l.cache.held q None p ≡ None
        by true t e = rw t refl
        by false t e = rw t (h (rw t at e))
    go false false true y = h
    go false false false None = h
    go false false false (Some y) = h

pages_whole : (keep_write : Bool) (k l : Client) (d : Bool) (n p : ℕ) → Whole l p → Whole (client_after keep_write l (end_pages k d n)) p
pages_whole keep_write k l d zero p h = h
pages_whole keep_write k l d (suc n) p h = subst (λ (x : Client). Whole x p) (sym (client_after_append keep_write l (end_pages k d n) (end_page k d n (k.cache.held n))))
    (page_whole keep_write k (client_after keep_write l (end_pages k d n)) d n p (k.cache.held n) (pages_whole keep_write k l d n p h))

-- a bare page goes
bare_goes : (keep_write : Bool) (k l : Client) (d : Bool) (n p g : ℕ) → p < n → k.cache.held p ≡ Some g → (d && k.cache.wrote p) ≡ false → is_none (k.cache.content p) ≡ true → Whole (client_after keep_write l (end_pages k d n)) p
bare_goes keep_write k l d zero p g lt h w b = absurd (omega arith)
bare_goes keep_write k l d (suc n) p g lt h w b = subst (λ (x : Client). Whole x p) (sym (client_after_append keep_write l (end_pages k d n) (end_page k d n (k.cache.held n))))
    (by (client_after keep_write l (end_pages k d n)) (λ below. bare_goes keep_write k l d n p g below h w b) (n == p) refl)
  where
    self : (x : ℕ) → (x == x) ≡ true
    self x = grind (arith, nat_tests)

    or_true : (x : Bool) → (x || true) ≡ true
    or_true true = refl
    or_true false = refl

    here : end_page k d p (k.cache.held p) ≡ ChangeCache (LetGo p) ∷ Say (GiveBack p g) ∷ []
    here = rw (h, w, b, or_true (k.due p)) refl

    by : (m : Client) → (p < n → Whole m p) → (c : Bool) → (n == p) ≡ c → Whole (client_after keep_write m (end_page k d n (k.cache.held n))) p
    by m more true t = let same : n ≡ p = grind (arith, nat_tests) in rw same (rw here (λ e. rw (self p) refl))
    by m more false t = let other : n ≢ p = grind (arith, nat_tests) in page_whole keep_write k m d n p (k.cache.held n) (more (omega (arith, other, lt)))

-- at the end each page held has its bytes
ends_whole : (keep_write : Bool) (k l : Client) (d : Bool) (n p : ℕ) → (k.cache.held p ≢ None → p < n) → (k.cache.wrote p ≡ true → k.cache.content p ≢ None)
    → (k.cache.held p ≡ None → l.cache.held p ≡ None) → (k.cache.content p ≢ None → Whole l p) → Whole (client_after keep_write l (end_pages k d n)) p
ends_whole keep_write k l d n p within wrote none some = by (k.cache.held p) refl (k.cache.content p) refl
  where
    written : k.cache.content p ≡ None → (d && k.cache.wrote p) ≡ false
    written e = go d (k.cache.wrote p) refl
      where
        go : (x w : Bool) → k.cache.wrote p ≡ w → (x && w) ≡ false
        go false w t = refl
        go true false t = refl
        go true true t = absurd (wrote t e)

    by : (r : Option ℕ) → k.cache.held p ≡ r → (o : Option (List ℕ)) → k.cache.content p ≡ o → Whole (client_after keep_write l (end_pages k d n)) p
    by None h o e = pages_whole keep_write k l d n p (λ z. none h)
    by (Some g) h None e = bare_goes keep_write k l d n p g (within (λ z. absurd (let x : Some g ≡ None = sym h ∙ z in cc))) h (written e) (rw e refl)
    by (Some g) h (Some bytes) e = pages_whole keep_write k l d n p (some (λ z. absurd (let x : Some bytes ≡ None = sym e ∙ z in cc)))

-- what the transaction wrote is in the pool
written_here : (v : ClientState) → IsClient v → (p : ℕ) → has v.copies.wrote p ≡ true → content_at v.copies p ≢ None
written_here v is p w = let h : IsHere (client_of v is.reached.operations) p = (fixed_pages_stay (limits_at v) (InputFits (limits_at v)) (client_of v is.reached.operations) is.reached.arises).0 p (rw w (or_true (has v.copies.wanted p))) in h.bytes
  where
    or_true : (b : Bool) → (b || true) ≡ true
    or_true true = refl
    or_true false = refl

abbrev pub EndsSo : ClientState → List ClientStep → Bool → List Frame → CacheState → LocksState → Type 0
EndsSo v steps dropped frames copies locks = Ends v.copies v.locks steps dropped frames copies locks

default_everywhere : {A : Type 0} (n q : ℕ) (a : A) → slice_index_or (replicate n a) q a ≡ a
default_everywhere zero q a = refl
default_everywhere (suc n) zero a = refl
default_everywhere (suc n) (suc q) a = default_everywhere n q a

-- what holds of a client whose transaction has ended
pub ended_keeps : (v w : ClientState) (is : IsClient v) → w.copies.limits ≡ v.copies.limits → w.no ≡ v.no → w.incarnation ≡ v.incarnation → w.txn ≡ v.txn → w.ask ≡ asks.Nothing → w.locks ≡ ended v.locks
    → ((p : ℕ) → content_at w.copies p ≡ None → (copy_at w.copies p).held ≡ None) → IsReached w → IsClient w
ended_keeps v w is limits number own txn ask locks whole r = record {
  no = rw (limits, number) is.no;
  incarnation = rw own is.incarnation;
  locked = ap (λ (l : LocksState). length l.locked) locks ∙ length-replicate (length v.locks.locked) false ∙ is.locked ∙ ap (λ (b : Bounds). b.pages) (sym limits);
  dues = ap (λ (l : LocksState). length l.dues) locks ∙ length-replicate (length v.locks.dues) nothing_due ∙ is.dues ∙ ap (λ (b : Bounds). b.pages) (sym limits);
  same_client = ap (λ (l : LocksState). l.client) locks ∙ is.same_client ∙ sym number;
  same_incarnation = ap (λ (l : LocksState). l.incarnation) locks ∙ is.same_incarnation ∙ sym own;
  same_txn = ap (λ (l : LocksState). l.txn) locks ∙ is.same_txn ∙ sym txn;
  due_held = λ q. subst (λ (due : PageDue). IfSome (called_by due) (λ called. (copy_at w.copies q).held ≡ Some called.0)) (sym (none_due q)) tt;
  due_locked = λ q e. absurd (true≢false (sym e ∙ ap is_due (none_due q)));
  bare_locked = λ q e n. absurd (true≢false (sym e ∙ ap is_some (whole q n)));
  room = λ q e other. absurd (let z : asks.Nothing ≡ asks.Read q = sym ask ∙ e in cc);
  reached = r;
}
  where
    none_due : (q : ℕ) → due_at w.locks q ≡ nothing_due
    none_due q = ap (λ (l : LocksState). due_at l q) locks ∙ default_everywhere (length v.locks.dues) q nothing_due

-- the steps of the pages, whatever the operations were
pub same_pages : (v : ClientState) (d : Bool) (ops : List Operation) → end_pages (client_of v ops) d v.copies.limits.pages ≡ pages_steps v.copies v.locks d v.copies.limits.pages
same_pages v d ops = pages_by_sight (client_of v ops) (holder v.copies v.locks) d v.copies.limits.pages (λ p. refl) (λ p. refl) (λ p. refl) (λ p. refl) (λ p. refl)

pub same_sender : (v : ClientState) (is : IsClient v) (bodies : List Body) → messages_from v bodies ≡ all_sent_by v.locks bodies
same_sender v is bodies = λ i. map (λ (body : Body). record { client = sym is.same_client i; incarnation = sym is.same_incarnation i; body = body }) bodies

-- Done, of another transaction
pub done_ignored : (v : ClientState) (txn number : ℕ) → v.welcomed ≡ true → of_committing_txn (client_of v []) txn ≡ false → Takes v (Done txn number) [] v
done_ignored v txn number welcomed other = record {
  let_go = None;
  allowed = λ ops. tt;
  history = λ ops. ops;
  makes = record {
    said = λ ops. ap (λ (s : List ClientStep). messages_from v (bodies_said s)) (table ops);
    after = λ ops. ap (λ (s : List ClientStep). client_after v.copies.limits.keep_write (client_of v ops) s) (table ops);
    limits = refl;
    no = refl;
    incarnation = refl;
  };
  references = refl;
}
  where
    table : (ops : List Operation) → client_take (limits_at v) (client_of v ops) (Done txn number) None ≡ []
    table ops = takes_welcomed (limits_at v) (client_of v ops) (Done txn number) None welcomed (λ e. cc) ∙ rw other refl

abbrev pub done_steps : ℕ → List ClientStep
done_steps number = EndTransaction (protocol.Committed number) ∷ ChangeCache (TakeDone number) ∷ []

abbrev pub after_done : ClientState → ℕ → CacheState → LocksState → ClientState
after_done v number copies locks = record v { copies = copies; locks = locks; stage = stages.Idle; ask = asks.Nothing; last = Some (outcomes.Committed number) }

pub done_takes : (v : ClientState) (txn number : ℕ) (frames : List Frame) (copies : CacheState) (locks : LocksState) → IsClient v → v.welcomed ≡ true → of_committing_txn (client_of v []) txn ≡ true
    → EndsSo v (done_steps number) false frames copies locks → Takes v (Done txn number) (messages_of frames) (after_done v number copies locks)
done_takes v txn number frames copies locks is welcomed right ends = record {
  let_go = None;
  allowed = λ ops. tt;
  history = over;
  makes = record {
    said = λ ops. ap (λ (s : List ClientStep). messages_from v (bodies_said s)) (table ops) ∙ same_sender v is (bodies_said (done_steps number ++ pages_steps v.copies v.locks false v.copies.limits.pages)) ∙ sym ends.says;
    after = λ ops. ap (λ (s : List ClientStep). client_after v.copies.limits.keep_write (client_of v ops) s) (table ops) ∙ ends.becomes (base_of v ops);
    limits = ends.limits;
    no = refl;
    incarnation = refl;
  };
  references = ends.references;
}
  where
    table : (ops : List Operation) → client_take (limits_at v) (client_of v ops) (Done txn number) None ≡ done_steps number ++ pages_steps v.copies v.locks false v.copies.limits.pages
    table ops =
        takes_welcomed (limits_at v) (client_of v ops) (Done txn number) None welcomed (λ e. cc)
        ∙ (rw right refl) ∙ ap (λ (s : List ClientStep). EndTransaction (protocol.Committed number) ∷ ChangeCache (TakeDone number) ∷ s) (same_pages v false ops)

pub done_keeps : (v : ClientState) (txn number : ℕ) (frames : List Frame) (copies : CacheState) (locks : LocksState) → (is : IsClient v) → BodyFits (limits_at v) (Done txn number) → v.welcomed ≡ true → of_committing_txn (client_of v []) txn ≡ true
    → EndsSo v (done_steps number) false frames copies locks → IsClient (after_done v number copies locks)
done_keeps v txn number frames copies locks is fits welcomed right ends =
    ended_keeps v (after_done v number copies locks) is ends.limits refl refl refl refl ends.unlocked whole
    (takes_reach v (after_done v number copies locks) (Done txn number) (done_takes v txn number frames copies locks is welcomed right ends) fits is.reached)
  where
    k : Client
    k = holder v.copies v.locks

    whole : (p : ℕ) → content_at copies p ≡ None → (copy_at copies p).held ≡ None
    whole p = subst (λ (x : Client). Whole x p) (ends.becomes protocol.new_client)
        (ends_whole v.copies.limits.keep_write (holder v.copies v.locks) (client_after v.copies.limits.keep_write (holder v.copies v.locks) (done_steps number)) false v.copies.limits.pages p
        (λ h. (kept v is).held_within p h) (λ w. written_here v is p w) (λ h. h) (λ s e. absurd (s e)))

-- AbortNow, of another transaction
pub abort_ignored : (v : ClientState) (txn : ℕ) → v.welcomed ≡ true → of_open_txn (client_of v []) txn ≡ false → Takes v (AbortNow txn) [] v
abort_ignored v txn welcomed other = record {
  let_go = None;
  allowed = λ ops. tt;
  history = λ ops. ops;
  makes = record {
    said = λ ops. ap (λ (s : List ClientStep). messages_from v (bodies_said s)) (table ops);
    after = λ ops. ap (λ (s : List ClientStep). client_after v.copies.limits.keep_write (client_of v ops) s) (table ops);
    limits = refl;
    no = refl;
    incarnation = refl;
  };
  references = refl;
}
  where
    table : (ops : List Operation) → client_take (limits_at v) (client_of v ops) (AbortNow txn) None ≡ []
    table ops = takes_welcomed (limits_at v) (client_of v ops) (AbortNow txn) None welcomed (λ e. cc) ∙ rw other refl

abbrev pub drop_steps : LastOutcome → ℕ → List ClientStep
drop_steps outcome txn = EndTransaction outcome ∷ ChangeCache Abandon ∷ Say (Drop txn) ∷ []

abbrev pub after_drop : ClientState → ℕ → Outcome → CacheState → LocksState → ClientState
after_drop v txn outcome copies locks = record v { copies = copies; locks = locks; stage = stages.Idle; ask = asks.Nothing; dropped = Some txn; last = Some outcome }

-- the copies of a dropped transaction
pub drop_whole : (v : ClientState) (outcome : LastOutcome) (txn : ℕ) (frames : List Frame) (copies : CacheState) (locks : LocksState) (is : IsClient v) → EndsSo v (drop_steps outcome txn) true frames copies locks
    → (p : ℕ) → content_at copies p ≡ None → (copy_at copies p).held ≡ None
drop_whole v outcome txn frames copies locks is ends p = subst (λ (x : Client). Whole x p) (ends.becomes protocol.new_client)
    (ends_whole v.copies.limits.keep_write (holder v.copies v.locks) (client_after v.copies.limits.keep_write (holder v.copies v.locks) (drop_steps outcome txn)) true v.copies.limits.pages p
    (λ h. (kept v is).held_within p h) (λ w. written_here v is p w) (λ h. none (has v.copies.wrote p) h) (λ s e. some (has v.copies.wrote p) s e))
  where
    none : (w : Bool) → (copy_at v.copies p).held ≡ None → (if w then None else (copy_at v.copies p).held) ≡ None
    none true h = refl
    none false h = h

    some : (w : Bool) → content_at v.copies p ≢ None → (if w then None else content_at v.copies p) ≡ None → (if w then None else (copy_at v.copies p).held) ≡ None
    some true s e = refl
    some false s e = absurd (s e)

pub abort_takes : (v : ClientState) (txn : ℕ) (frames : List Frame) (copies : CacheState) (locks : LocksState) → IsClient v → v.welcomed ≡ true → of_open_txn (client_of v []) txn ≡ true
    → EndsSo v (drop_steps protocol.Aborted txn) true frames copies locks → Takes v (AbortNow txn) (messages_of frames) (after_drop v txn outcomes.Aborted copies locks)
abort_takes v txn frames copies locks is welcomed right ends = record {
  let_go = None;
  allowed = λ ops. tt;
  history = over;
  makes = record {
    said = λ ops. ap (λ (s : List ClientStep). messages_from v (bodies_said s)) (table ops) ∙ same_sender v is (bodies_said (drop_steps protocol.Aborted txn ++ pages_steps v.copies v.locks true v.copies.limits.pages)) ∙ sym ends.says;
    after = λ ops. ap (λ (s : List ClientStep). client_after v.copies.limits.keep_write (client_of v ops) s) (table ops) ∙ ends.becomes (base_of v ops)
        ∙ ap (λ (n : ℕ). client_of (record v { copies = copies; locks = locks; stage = stages.Idle; ask = asks.Nothing; dropped = Some n; last = Some outcomes.Aborted }) []) number;
    limits = ends.limits;
    no = refl;
    incarnation = refl;
  };
  references = ends.references;
}
  where
    number : unwrap_or v.txn 0 ≡ txn
    number = grind (arith, nat_tests)

    table : (ops : List Operation) → client_take (limits_at v) (client_of v ops) (AbortNow txn) None ≡ drop_steps protocol.Aborted txn ++ pages_steps v.copies v.locks true v.copies.limits.pages
    table ops =
        takes_welcomed (limits_at v) (client_of v ops) (AbortNow txn) None welcomed (λ e. cc)
        ∙ (rw right refl) ∙ (λ i. EndTransaction protocol.Aborted ∷ ChangeCache Abandon ∷ Say (Drop (number i)) ∷ same_pages v true ops i)

pub abort_keeps : (v : ClientState) (txn : ℕ) (frames : List Frame) (copies : CacheState) (locks : LocksState) → (is : IsClient v) → BodyFits (limits_at v) (AbortNow txn) → v.welcomed ≡ true → of_open_txn (client_of v []) txn ≡ true
    → EndsSo v (drop_steps protocol.Aborted txn) true frames copies locks → IsClient (after_drop v txn outcomes.Aborted copies locks)
abort_keeps v txn frames copies locks is fits welcomed right ends =
    ended_keeps v (after_drop v txn outcomes.Aborted copies locks) is ends.limits refl refl refl refl ends.unlocked (drop_whole v protocol.Aborted txn frames copies locks is ends)
    (takes_reach v (after_drop v txn outcomes.Aborted copies locks) (AbortNow txn) (abort_takes v txn frames copies locks is welcomed right ends) fits is.reached)
