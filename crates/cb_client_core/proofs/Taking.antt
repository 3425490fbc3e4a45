-- What the protocol's table says of each message.
use Rattle.std.proofs.Common.{◌≡◌, ◌≢◌, ◌<◌, ◌==◌, ℕ, Bool, true, false, true≢false, ◌&&◌, ◌||◌, List, [], ◌∷◌, length, Option, Some, None, IfSome, IsSome, unwrap_or, slice_set, slice_index_or, refl, sym, ◌∙◌, ap, arith, subst}
use Rattle.std.specs.Option.{is_some}
use Rattle.std.proofs.Math.ListN.{length-set}
use Rattle.std.proofs.lemmas.Bool.Decides.{nat_tests}
use Rattle.std.proofs.lemmas.List.{get_or-set_same, get_or-set_other}
use Rattle.cb_page.specs.Flags.{has}
use Rattle.cb_protocol.proofs.Cases.{takes_welcome, takes_welcomed}
use Rattle.cb_protocol.proofs.ClientInvariant.{ClientKeeps, tidy}
use Rattle.cb_protocol.proofs.PagesStay.{fixed_pages_stay}
use Rattle.cb_protocol.specs.Basics.{is_exactly, update}
use Rattle.cb_protocol.specs.Cache.{LetGo, RefuseGrant, TakePermission, YieldPermission}
use Rattle.cb_protocol.specs.Client.{ChangeCache, Client, ClientStep, MarkDue, MarkDueDowngrade, NoAsk, Say, SetAsk, asks_to_write, bodies_said, client_after, new_client}
use Rattle.cb_protocol.specs.ClientLaws.{IsHere}
use Rattle.cb_protocol.specs.ClientMessages.{ChoiceAllowed, client_take, of_open_txn, take_welcomed}
use Rattle.cb_protocol.specs.Messages.{Body, Callback, Downgrade, Downgraded, GiveBack, InUse, MayWrite, Message, Welcome}
use Rattle.cb_protocol.specs.Ranges.{BodyFits, InputFits}
use Rattle.cb_protocol.specs.Serial.{Operation}
use Rattle.cb_page.specs.Bounds.{Bounds}
use Rattle.cb_cache.specs.ByTable.{Does, DoesInTxn}
use Rattle.cb_cache.specs.CacheState.{CacheState, client_with, content_at, copy_at}
use Rattle.cb_locks.specs.Dues.{called_by, is_due, noted, nothing_due}
use Rattle.cb_frame.specs.declared.frame.Frame.{Frame}
use Rattle.cb_frame.specs.declared.frame.ShortBody.TheVariants as short
use Rattle.cb_outbox.specs.Messages.{message_of}
use Rattle.cb_locks.specs.Frames.{saying}
use Rattle.cb_locks.specs.Locks.{callback, due_at, with_noted}
use Rattle.cb_locks.specs.declared.dues.DueDowngrade as locks
use Rattle.cb_locks.specs.declared.dues.PageDue.{PageDue}
use Rattle.cb_client_core.specs.ClientState.{ClientState, HasRoomLeft, IsClient, IsReached, ask_of, base_of, client_of, downgrade_of, locks_with}
use Rattle.cb_client_core.specs.declared.stage.PendingAsk.TheVariants as asks
use Rattle.cb_client_core.specs.ByTable.{Takes, as_before, limits_at, messages_from, references_of, with_brought}
use Rattle.cb_client_core.proofs.Keeping.{HasRoomToRead, keeps}
use Rattle.cb_client_core.proofs.Reaching.{takes_reach}
use Rattle.cb_client_core.proofs.RoomLeft.{room_same, room_without}

-- What a message makes, where the table's steps are known.
pub record Branch (v : ClientState) (message : Body) (steps : List ClientStep) (messages : List Message) (w : ClientState) : Type 0 where
  pub table : (ops : List Operation) → take_welcomed (limits_at v) (client_of v ops) message None ≡ steps
  pub said : messages_from v (bodies_said steps) ≡ messages
  pub after : (ops : List Operation) → client_after v.copies.limits.keep_write (client_of v ops) steps ≡ client_of w ops
  pub limits : w.copies.limits ≡ v.copies.limits
  pub same_no : w.no ≡ v.no
  pub same_incarnation : w.incarnation ≡ v.incarnation
  pub references : references_of w ≡ with_brought v message (references_of v)

pub takes : (v w : ClientState) (message : Body) (steps : List ClientStep) (messages : List Message) → v.welcomed ≡ true → message ≢ Welcome
    → ((ops : List Operation) → ChoiceAllowed (limits_at v) (client_of v ops) message None) → Branch v message steps messages w → Takes v message messages w
takes v w message steps messages welcomed other allowed b = record {
  let_go = None;
  allowed = allowed;
  history = as_before;
  makes = record {
    said = λ ops. ap (λ (s : List ClientStep). messages_from v (bodies_said s)) (table ops) ∙ b.said;
    after = λ ops. ap (λ (s : List ClientStep). client_after v.copies.limits.keep_write (client_of v ops) s) (table ops) ∙ b.after ops;
    limits = b.limits;
    no = b.same_no;
    incarnation = b.same_incarnation;
  };
  references = b.references;
}
  where
    table : (ops : List Operation) → client_take (limits_at v) (client_of v ops) message None ≡ steps
    table ops = takes_welcomed (limits_at v) (client_of v ops) message None welcomed other ∙ b.table ops

pub welcomes : (v : ClientState) → Takes v Welcome [] (record v { welcomed = true })
welcomes v = record {
  let_go = None;
  allowed = λ ops. tt;
  history = as_before;
  makes = record {
    said = λ ops. ap (λ (s : List ClientStep). messages_from v (bodies_said s)) (takes_welcome (limits_at v) (client_of v ops) None);
    after = λ ops. ap (λ (s : List ClientStep). client_after v.copies.limits.keep_write (client_of v ops) s) (takes_welcome (limits_at v) (client_of v ops) None);
    limits = refl;
    no = refl;
    incarnation = refl;
  };
  references = refl;
}

pub welcome_keeps : (v : ClientState) → IsClient v → IsClient (record v { welcomed = true })
welcome_keeps v is =
    let new : ClientState = record v { welcomed = true } in
    keeps v new is refl refl refl refl refl refl refl is.same_txn (λ q. refl) (λ q. refl) (λ q e. e) (λ q e. e) is.room (takes_reach v new Welcome (welcomes v) tt is.reached)

-- a message that is made by the locks' client
abbrev pub by_locks : ClientState → Body → Message
by_locks v body = record { client = v.locks.client; incarnation = v.locks.incarnation; body = body }

pub from_locks : (v : ClientState) → IsClient v → (body : Body) → messages_from v (body ∷ []) ≡ by_locks v body ∷ []
from_locks v is body = λ i. record { client = sym is.same_client i; incarnation = sym is.same_incarnation i; body = body } ∷ []

-- what the protocol says of every client that is reached
pub kept : (v : ClientState) (is : IsClient v) → ClientKeeps (limits_at v) (client_of v is.reached.operations)
kept v is = tidy (limits_at v) (InputFits (limits_at v)) (client_of v is.reached.operations) is.reached.arises

-- what the transaction wrote or wants to is locked
pub fixed_locked : (v : ClientState) → IsClient v → (p : ℕ) → (has v.copies.wanted p || has v.copies.wrote p) ≡ true → has v.locks.locked p ≡ true
fixed_locked v is p e = let h : IsHere (client_of v is.reached.operations) p = (fixed_pages_stay (limits_at v) (InputFits (limits_at v)) (client_of v is.reached.operations) is.reached.arises).0 p e in h.read

pub unlocked_unwritten : (v : ClientState) → IsClient v → (p : ℕ) → has v.locks.locked p ≡ false → has v.copies.wrote p ≡ false
unlocked_unwritten v is p e = by (has v.copies.wrote p) refl
  where
    by : (b : Bool) → has v.copies.wrote p ≡ b → b ≡ false
    by false t = refl
    by true t = absurd (true≢false (sym (fixed_locked v is p (rw t (or_true (has v.copies.wanted p)))) ∙ e))
      where
        or_true : (b : Bool) → (b || true) ≡ true
        or_true true = refl
        or_true false = refl

-- a transaction that has locked a page has a number
pub locked_begun : (v : ClientState) → IsClient v → (p : ℕ) → has v.locks.locked p ≡ true → IsSome v.locks.txn
locked_begun v is p e = rw is.same_txn (some v.txn refl)
  where
    some : (t : Option ℕ) → v.txn ≡ t → IsSome t
    some (Some t) s = refl
    some None s = absurd (let n : (client_of v is.reached.operations).cache.status ≢ Rattle.cb_protocol.specs.Cache.Idle = λ z. true≢false (sym e ∙ (kept v is).idle_unlocked z p) in let lt = (kept v is).begun n in let z : unwrap_or v.txn 0 ≡ 0 = ap (λ (o : Option ℕ). unwrap_or o 0) s in omega arith)

-- the grant of each page, and its bytes, after a step of the copies
pub seen_alone : (v w : CacheState) (p g : ℕ) → Does v (ChangeCache (RefuseGrant p g) ∷ []) w → (q : ℕ) → (copy_at w q).held ≡ (copy_at v q).held
seen_alone v w p g d q = sym (ap (λ (k : Client). k.cache.held q) (d.becomes new_client))

pub callback_refused : (v : ClientState) (p g : ℕ) (copies : CacheState) → IsClient v → v.welcomed ≡ true → is_exactly (copy_at v.copies p).held g ≡ false
    → Does v.copies (ChangeCache (RefuseGrant p g) ∷ []) copies → Takes v (Callback p g) (by_locks v (GiveBack p g) ∷ []) (record v { copies = copies })
callback_refused v p g copies is welcomed other d = takes v (record v { copies = copies }) (Callback p g) (ChangeCache (RefuseGrant p g) ∷ Say (GiveBack p g) ∷ []) _ welcomed (λ e. cc) (λ ops. tt) (record {
  table = λ ops. rw other refl;
  said = from_locks v is (GiveBack p g);
  after = λ ops. d.becomes (locks_with v.locks (base_of v ops));
  limits = d.limits;
  same_no = refl;
  same_incarnation = refl;
  references = d.references;
})

-- the bytes of a page are where they were, where a step leaves them
pub bytes_seen : (v w : CacheState) (p g : ℕ) → Does v (ChangeCache (RefuseGrant p g) ∷ []) w → (q : ℕ) → content_at w q ≡ content_at v q
bytes_seen v w p g d q = sym (ap (λ (k : Client). k.cache.content q) (d.becomes new_client))

-- it is what it was after a step that changes nothing of the pool
pub room_stays : (v : ClientState) (copies : CacheState) (steps : List ClientStep) → IsClient v → Does v.copies steps copies
    → ((other : Client) → HasRoomLeft (limits_at v) (client_with v.copies other) → HasRoomLeft (limits_at v) (client_after v.copies.limits.keep_write (client_with v.copies other) steps))
    → HasRoomToRead (record v { copies = copies })
room_stays v copies steps is d left p ask other = rw d.limits (
    room_same (limits_at v) (client_with copies (client_after v.copies.limits.keep_write other steps)) (client_with copies other) (λ q. refl) (λ q. refl)
    (subst (λ (k : Client). HasRoomLeft (limits_at v) k) (d.becomes other) (left other (is.room p ask other)))
    )

pub callback_refused_keeps : (v : ClientState) (p g : ℕ) (copies : CacheState) → IsClient v → v.welcomed ≡ true → BodyFits (limits_at v) (Callback p g) → is_exactly (copy_at v.copies p).held g ≡ false
    → Does v.copies (ChangeCache (RefuseGrant p g) ∷ []) copies → IsClient (record v { copies = copies })
callback_refused_keeps v p g copies is welcomed fits other d =
    let new : ClientState = record v { copies = copies } in
    keeps v new is d.limits refl refl refl refl refl refl is.same_txn (λ q. refl) (seen_alone v.copies copies p g d) (λ q e. e) (λ q e. sym (bytes_seen v.copies copies p g d q) ∙ e)
    (room_stays v copies _ is d (λ other h. room_same (limits_at v) _ _ (λ q. refl) (λ q. refl) h)) (takes_reach v new (Callback p g) (callback_refused v p g copies is welcomed other d) fits is.reached)

-- what is due of each page, once something is noted of one
pub put_due : {A : Type 0} (f : PageDue → A) (dues : List PageDue) (p q : ℕ) (due : PageDue) → p < length dues
    → update (λ x. f (slice_index_or dues x nothing_due)) p (f due) q ≡ f (slice_index_or (slice_set dues p due) q nothing_due)
put_due f dues p q due lt = by (q == p) refl
  where
    by : (b : Bool) → (q == p) ≡ b → update (λ x. f (slice_index_or dues x nothing_due)) p (f due) q ≡ f (slice_index_or (slice_set dues p due) q nothing_due)
    by true e = let same : q ≡ p = grind (arith, nat_tests) in rw (e, same) (ap f (sym (get_or-set_same dues p due nothing_due lt)))
    by false e = let other : q ≢ p = grind (arith, nat_tests) in rw e (ap f (sym (get_or-set_other dues p q due nothing_due other)))

pub due_same : {A : Type 0} (f : PageDue → A) (dues : List PageDue) (p q : ℕ) (due : PageDue) → p < length dues → f (slice_index_or dues p nothing_due) ≡ f due
    → f (slice_index_or dues q nothing_due) ≡ f (slice_index_or (slice_set dues p due) q nothing_due)
due_same f dues p q due lt e = by (q == p) refl
  where
    by : (b : Bool) → (q == p) ≡ b → f (slice_index_or dues q nothing_due) ≡ f (slice_index_or (slice_set dues p due) q nothing_due)
    by true t = let same : q ≡ p = grind (arith, nat_tests) in rw same (e ∙ ap f (sym (get_or-set_same dues p due nothing_due lt)))
    by false t = let other : q ≢ p = grind (arith, nat_tests) in ap f (sym (get_or-set_other dues p q due nothing_due other))

-- a page of the store has its place among what is due
pub among_dues : (v : ClientState) → IsClient v → (p : ℕ) → p < v.copies.limits.pages → p < length v.locks.dues
among_dues v is p lt = let d = is.dues in omega arith

pub held_is : (r : Option ℕ) (g : ℕ) → is_exactly r g ≡ true → r ≡ Some g
held_is None g e = absurd (true≢false (sym e))
held_is (Some h) g e = let same : h ≡ g = grind (arith, nat_tests) in ap Some same

pub callback_in_use : (v : ClientState) (p g txn : ℕ) → IsClient v → v.welcomed ≡ true → p < v.copies.limits.pages → is_exactly (copy_at v.copies p).held g ≡ true → has v.locks.locked p ≡ true
    → v.locks.txn ≡ Some txn → Takes v (Callback p g) (by_locks v (InUse txn p g) ∷ []) (record v { locks = with_noted v.locks p g None })
callback_in_use v p g txn is welcomed lt held locked begun = takes v (record v { locks = with_noted v.locks p g None }) (Callback p g) (MarkDue p ∷ Say (InUse (unwrap_or v.txn 0) p g) ∷ []) _ welcomed (λ e. cc) (λ ops. tt) (record {
  table = λ ops. rw (held, locked) refl;
  said = from_locks v is (InUse (unwrap_or v.txn 0) p g) ∙ ap (λ (n : ℕ). by_locks v (InUse n p g) ∷ []) (ap (λ (t : Option ℕ). unwrap_or t 0) (sym is.same_txn ∙ begun));
  after = λ ops i. record (client_of v ops) {
    due = λ q. put_due (λ d. is_some d.callback) v.locks.dues p q (noted (due_at v.locks p) g None) (among_dues v is p lt) i;
    due_downgrade = λ q. due_same (λ d. downgrade_of d.downgrade) v.locks.dues p q (noted (due_at v.locks p) g None) (among_dues v is p lt) refl i;
  };
  limits = refl;
  same_no = refl;
  same_incarnation = refl;
  references = refl;
})

-- what holds of a client of which one thing more is due
pub noted_keeps : (v : ClientState) (p g : ℕ) (tag : Option ℕ) → IsClient v → p < v.copies.limits.pages → is_exactly (copy_at v.copies p).held g ≡ true → has v.locks.locked p ≡ true
    → IsReached (record v { locks = with_noted v.locks p g tag }) → IsClient (record v { locks = with_noted v.locks p g tag })
noted_keeps v p g tag is lt held locked r = record {
  no = is.no;
  incarnation = is.incarnation;
  locked = is.locked;
  dues = length-set v.locks.dues p (noted (due_at v.locks p) g tag) ∙ is.dues;
  same_client = is.same_client;
  same_incarnation = is.same_incarnation;
  same_txn = is.same_txn;
  due_held = λ q. by_page q (q == p) refl;
  due_locked = λ q e. locked_by q e (q == p) refl;
  bare_locked = is.bare_locked;
  room = is.room;
  reached = r;
}
  where
    Names : ℕ → PageDue → Type 0
    Names q d = IfSome (called_by d) (λ called. (copy_at v.copies q).held ≡ Some called.0)

    new_names : (d : PageDue) → Names p d → (t : Option ℕ) → Names p (noted d g t)
    new_names d n None = held_is _ g held
    new_names d n (Some t) = by_callback d.callback refl
      where
        by_callback : (c : Option ℕ) → d.callback ≡ c → Names p (noted d g (Some t))
        by_callback None e = rw e (held_is _ g held)
        by_callback (Some h) e = rw e (let old : IfSome (called_by d) (λ called. (copy_at v.copies p).held ≡ Some called.0) = n in rw e at old)

    by_page : (q : ℕ) (b : Bool) → (q == p) ≡ b → Names q (due_at (with_noted v.locks p g tag) q)
    by_page q true t = let same : q ≡ p = grind (arith, nat_tests) in rw (same, get_or-set_same v.locks.dues p (noted (due_at v.locks p) g tag) nothing_due (among_dues v is p lt)) (new_names (due_at v.locks p) (is.due_held p) tag)
    by_page q false t = let other : q ≢ p = grind (arith, nat_tests) in rw (get_or-set_other v.locks.dues p q (noted (due_at v.locks p) g tag) nothing_due other) (is.due_held q)

    locked_by : (q : ℕ) → is_due (due_at (with_noted v.locks p g tag) q) ≡ true → (b : Bool) → (q == p) ≡ b → has v.locks.locked q ≡ true
    locked_by q e true t = let same : q ≡ p = grind (arith, nat_tests) in rw same locked
    locked_by q e false t = let other : q ≢ p = grind (arith, nat_tests) in is.due_locked q (sym (ap is_due (get_or-set_other v.locks.dues p q (noted (due_at v.locks p) g tag) nothing_due other)) ∙ e)

pub callback_gives : (v : ClientState) (p g : ℕ) (copies : CacheState) → IsClient v → v.welcomed ≡ true → is_exactly (copy_at v.copies p).held g ≡ true → has v.locks.locked p ≡ false
    → Does v.copies (ChangeCache (LetGo p) ∷ []) copies → Takes v (Callback p g) (by_locks v (GiveBack p g) ∷ []) (record v { copies = copies })
callback_gives v p g copies is welcomed held locked d = takes v (record v { copies = copies }) (Callback p g) (ChangeCache (LetGo p) ∷ Say (GiveBack p g) ∷ []) _ welcomed (λ e. cc) (λ ops. tt) (record {
  table = λ ops. rw (held, locked) refl;
  said = from_locks v is (GiveBack p g);
  after = λ ops. d.becomes (locks_with v.locks (base_of v ops));
  limits = d.limits;
  same_no = refl;
  same_incarnation = refl;
  references = d.references;
})

-- what a copy that goes leaves
pub held_without : (v w : CacheState) (p : ℕ) → Does v (ChangeCache (LetGo p) ∷ []) w → (q : ℕ) → (copy_at w q).held ≡ update (λ x. (copy_at v x).held) p None q
held_without v w p d q = sym (ap (λ (k : Client). k.cache.held q) (d.becomes new_client))

pub bytes_without : (v w : CacheState) (p : ℕ) → Does v (ChangeCache (LetGo p) ∷ []) w → (q : ℕ) → content_at w q ≡ update (λ x. content_at v x) p None q
bytes_without v w p d q = sym (ap (λ (k : Client). k.cache.content q) (d.becomes new_client))

-- nothing is due of a page that isn't locked
pub none_due : (v : ClientState) → IsClient v → (p : ℕ) → has v.locks.locked p ≡ false → called_by (due_at v.locks p) ≡ None
none_due v is p e = by (due_at v.locks p) (is.due_locked p)
  where
    by : (d : PageDue) → (is_due d ≡ true → has v.locks.locked p ≡ true) → called_by d ≡ None
    by d n = go d.callback refl d.downgrade refl
      where
        go : (c : Option ℕ) → d.callback ≡ c → (y : Option locks.DueDowngrade) → d.downgrade ≡ y → called_by d ≡ None
        go None c None y = rw (c, y) refl
        go None c (Some x) y = absurd (true≢false (sym (n (rw (c, y) refl)) ∙ e))
        go (Some x) c y z = absurd (true≢false (sym (n (rw c refl)) ∙ e))

-- what holds of a client still holds without the copy of a page that isn't locked
pub let_go_keeps : (v : ClientState) (p : ℕ) (copies : CacheState) → IsClient v → has v.locks.locked p ≡ false → Does v.copies (ChangeCache (LetGo p) ∷ []) copies
    → IsReached (record v { copies = copies }) → IsClient (record v { copies = copies })
let_go_keeps v p copies is locked d r = record {
  no = rw d.limits is.no;
  incarnation = is.incarnation;
  locked = is.locked ∙ ap (λ (b : Bounds). b.pages) (sym d.limits);
  dues = is.dues ∙ ap (λ (b : Bounds). b.pages) (sym d.limits);
  same_client = is.same_client;
  same_incarnation = is.same_incarnation;
  same_txn = is.same_txn;
  due_held = λ q. names q (q == p) refl;
  due_locked = is.due_locked;
  bare_locked = λ q e n. bare q e n (q == p) refl;
  room = room_stays v copies _ is d (λ other h. room_without (limits_at v) (client_with v.copies other) p h);
  reached = r;
}
  where
    names : (q : ℕ) (b : Bool) → (q == p) ≡ b → IfSome (called_by (due_at v.locks q)) (λ called. (copy_at copies q).held ≡ Some called.0)
    names q true t = let same : q ≡ p = grind (arith, nat_tests) in rw (same, none_due v is p locked) tt
    names q false t = rw (held_without v.copies copies p d q, t) (is.due_held q)

    bare : (q : ℕ) → is_some (copy_at copies q).held ≡ true → content_at copies q ≡ None → (b : Bool) → (q == p) ≡ b → has v.locks.locked q ≡ true
    bare q e n true t = let gone : (copy_at copies q).held ≡ None = rw (held_without v.copies copies p d q, t) refl in absurd (true≢false (sym e ∙ ap is_some gone))
    bare q e n false t =
        let held : (copy_at copies q).held ≡ (copy_at v.copies q).held = rw (held_without v.copies copies p d q, t) refl in
        let bytes : content_at copies q ≡ content_at v.copies q = rw (bytes_without v.copies copies p d q, t) refl in
        is.bare_locked q (sym (ap is_some held) ∙ e) (sym bytes ∙ n)

-- the frame that says a page is in use
pub in_use_said : (v : ClientState) (p g : ℕ) (tag : Option ℕ) (frame : Frame) (Said : Message → Type 0) → IsSome v.locks.txn
    → IfSome v.locks.txn (λ txn. frame ≡ saying (callback v.locks p g tag) (short.InUse txn p g))
    → ((txn : ℕ) → v.locks.txn ≡ Some txn → Said (by_locks v (InUse txn p g))) → Said (message_of frame)
in_use_said v p g tag frame Said some said next = by v.locks.txn refl some said
  where
    by : (t : Option ℕ) → v.locks.txn ≡ t → IsSome t → IfSome t (λ txn. frame ≡ saying (callback v.locks p g tag) (short.InUse txn p g)) → Said (message_of frame)
    by None e i f = absurd (true≢false (sym i))
    by (Some txn) e i f = rw f (next txn e)

-- how each branch of Callback ends
pub callback_in_use_keeps : (v : ClientState) (p g : ℕ) → IsClient v → v.welcomed ≡ true → BodyFits (limits_at v) (Callback p g) → is_exactly (copy_at v.copies p).held g ≡ true → has v.locks.locked p ≡ true
    → IsClient (record v { locks = with_noted v.locks p g None })
callback_in_use_keeps v p g is welcomed fits held locked = noted_keeps v p g None is fits.0 held locked (by v.locks.txn refl (locked_begun v is p locked))
  where
    by : (t : Option ℕ) → v.locks.txn ≡ t → IsSome t → IsReached (record v { locks = with_noted v.locks p g None })
    by None e i = absurd (true≢false (sym i))
    by (Some txn) e i = takes_reach v (record v { locks = with_noted v.locks p g None }) (Callback p g) (callback_in_use v p g txn is welcomed fits.0 held locked e) fits is.reached

pub callback_in_use_takes : (v : ClientState) (p g : ℕ) (frame : Frame) → IsClient v → v.welcomed ≡ true → p < v.copies.limits.pages → is_exactly (copy_at v.copies p).held g ≡ true → has v.locks.locked p ≡ true
    → IfSome v.locks.txn (λ txn. frame ≡ saying (callback v.locks p g None) (short.InUse txn p g))
    → Takes v (Callback p g) (message_of frame ∷ []) (record v { locks = with_noted v.locks p g None })
callback_in_use_takes v p g frame is welcomed lt held locked said =
    in_use_said v p g None frame (λ m. Takes v (Callback p g) (m ∷ []) (record v { locks = with_noted v.locks p g None })) (locked_begun v is p locked) said
    (λ txn e. callback_in_use v p g txn is welcomed lt held locked e)

pub callback_gives_keeps : (v : ClientState) (p g : ℕ) (copies : CacheState) → IsClient v → v.welcomed ≡ true → BodyFits (limits_at v) (Callback p g) → is_exactly (copy_at v.copies p).held g ≡ true → has v.locks.locked p ≡ false
    → Does v.copies (ChangeCache (LetGo p) ∷ []) copies → IsClient (record v { copies = copies })
callback_gives_keeps v p g copies is welcomed fits held locked d =
    let_go_keeps v p copies is locked d (takes_reach v (record v { copies = copies }) (Callback p g) (callback_gives v p g copies is welcomed held locked d) fits is.reached)

-- Downgrade: only where permission is kept
pub downgrade_ignored : (v : ClientState) (p g t : ℕ) → v.welcomed ≡ true → v.copies.limits.keep_write ≡ false → Takes v (Downgrade p g t) [] v
downgrade_ignored v p g t welcomed keeps_none = takes v v (Downgrade p g t) [] [] welcomed (λ e. cc) (λ ops. tt) (record {
  table = λ ops. rw keeps_none refl;
  said = refl;
  after = λ ops. refl;
  limits = refl;
  same_no = refl;
  same_incarnation = refl;
  references = refl;
})

pub downgrade_refused : (v : ClientState) (p g t : ℕ) (copies : CacheState) → IsClient v → v.welcomed ≡ true → v.copies.limits.keep_write ≡ true → is_exactly (copy_at v.copies p).held g ≡ false
    → Does v.copies (ChangeCache (RefuseGrant p g) ∷ []) copies → Takes v (Downgrade p g t) (by_locks v (GiveBack p g) ∷ []) (record v { copies = copies })
downgrade_refused v p g t copies is welcomed kept_ones other d = takes v (record v { copies = copies }) (Downgrade p g t) (ChangeCache (RefuseGrant p g) ∷ Say (GiveBack p g) ∷ []) _ welcomed (λ e. cc) (λ ops. tt) (record {
  table = λ ops. rw (kept_ones, other) refl;
  said = from_locks v is (GiveBack p g);
  after = λ ops. d.becomes (locks_with v.locks (base_of v ops));
  limits = d.limits;
  same_no = refl;
  same_incarnation = refl;
  references = d.references;
})

pub downgrade_refused_keeps : (v : ClientState) (p g t : ℕ) (copies : CacheState) → IsClient v → v.welcomed ≡ true → BodyFits (limits_at v) (Downgrade p g t) → v.copies.limits.keep_write ≡ true → is_exactly (copy_at v.copies p).held g ≡ false
    → Does v.copies (ChangeCache (RefuseGrant p g) ∷ []) copies → IsClient (record v { copies = copies })
downgrade_refused_keeps v p g t copies is welcomed fits kept_ones other d =
    let new : ClientState = record v { copies = copies } in
    keeps v new is d.limits refl refl refl refl refl refl is.same_txn (λ q. refl) (seen_alone v.copies copies p g d) (λ q e. e) (λ q e. sym (bytes_seen v.copies copies p g d q) ∙ e)
    (room_stays v copies _ is d (λ other h. room_same (limits_at v) _ _ (λ q. refl) (λ q. refl) h)) (takes_reach v new (Downgrade p g t) (downgrade_refused v p g t copies is welcomed kept_ones other d) fits is.reached)

-- the page may be written, by the permission with that tag
abbrev pub permitted : ClientState → (p t : ℕ) → Bool
permitted v p t = has v.copies.may_write p && (unwrap_or (copy_at v.copies p).tag 0 == t)

pub downgrade_answered : (v : ClientState) (p g t : ℕ) → IsClient v → v.welcomed ≡ true → v.copies.limits.keep_write ≡ true → is_exactly (copy_at v.copies p).held g ≡ true → permitted v p t ≡ false
    → Takes v (Downgrade p g t) (by_locks v (Downgraded p g t) ∷ []) v
downgrade_answered v p g t is welcomed kept_ones held other = takes v v (Downgrade p g t) (Say (Downgraded p g t) ∷ []) _ welcomed (λ e. cc) (λ ops. tt) (record {
  table = λ ops. rw (kept_ones, held, other) refl;
  said = from_locks v is (Downgraded p g t);
  after = λ ops. refl;
  limits = refl;
  same_no = refl;
  same_incarnation = refl;
  references = refl;
})

pub downgrade_in_use : (v : ClientState) (p g t txn : ℕ) → IsClient v → v.welcomed ≡ true → p < v.copies.limits.pages → v.copies.limits.keep_write ≡ true → is_exactly (copy_at v.copies p).held g ≡ true
    → permitted v p t ≡ true → (has v.copies.wanted p || has v.copies.wrote p) ≡ true → v.locks.txn ≡ Some txn
    → Takes v (Downgrade p g t) (by_locks v (InUse txn p g) ∷ []) (record v { locks = with_noted v.locks p g (Some t) })
downgrade_in_use v p g t txn is welcomed lt kept_ones held may fixed begun = takes v (record v { locks = with_noted v.locks p g (Some t) }) (Downgrade p g t)
    (MarkDueDowngrade p (record { grant = g; tag = t }) ∷ Say (InUse (unwrap_or v.txn 0) p g) ∷ []) _ welcomed (λ e. cc) (λ ops. tt) (record {
      table = λ ops. rw (kept_ones, held, may, fixed) refl;
      said = from_locks v is (InUse (unwrap_or v.txn 0) p g) ∙ ap (λ (n : ℕ). by_locks v (InUse n p g) ∷ []) (ap (λ (x : Option ℕ). unwrap_or x 0) (sym is.same_txn ∙ begun));
      after = λ ops i. record (client_of v ops) {
        due = λ q. due_same (λ d. is_some d.callback) v.locks.dues p q (noted (due_at v.locks p) g (Some t)) (among_dues v is p lt) refl i;
        due_downgrade = λ q. put_due (λ d. downgrade_of d.downgrade) v.locks.dues p q (noted (due_at v.locks p) g (Some t)) (among_dues v is p lt) i;
      };
      limits = refl;
      same_no = refl;
      same_incarnation = refl;
      references = refl;
    })

pub downgrade_in_use_keeps : (v : ClientState) (p g t : ℕ) → IsClient v → v.welcomed ≡ true → BodyFits (limits_at v) (Downgrade p g t) → v.copies.limits.keep_write ≡ true → is_exactly (copy_at v.copies p).held g ≡ true
    → permitted v p t ≡ true → (has v.copies.wanted p || has v.copies.wrote p) ≡ true → IsClient (record v { locks = with_noted v.locks p g (Some t) })
downgrade_in_use_keeps v p g t is welcomed fits kept_ones held may fixed =
    let locked = fixed_locked v is p fixed in noted_keeps v p g (Some t) is fits.0 held locked (by v.locks.txn refl (locked_begun v is p locked))
  where
    by : (x : Option ℕ) → v.locks.txn ≡ x → IsSome x → IsReached (record v { locks = with_noted v.locks p g (Some t) })
    by None e i = absurd (true≢false (sym i))
    by (Some txn) e i = takes_reach v (record v { locks = with_noted v.locks p g (Some t) }) (Downgrade p g t) (downgrade_in_use v p g t txn is welcomed fits.0 kept_ones held may fixed e) fits is.reached

pub downgrade_in_use_takes : (v : ClientState) (p g t : ℕ) (frame : Frame) → IsClient v → v.welcomed ≡ true → p < v.copies.limits.pages → v.copies.limits.keep_write ≡ true → is_exactly (copy_at v.copies p).held g ≡ true
    → permitted v p t ≡ true → (has v.copies.wanted p || has v.copies.wrote p) ≡ true → IfSome v.locks.txn (λ txn. frame ≡ saying (callback v.locks p g (Some t)) (short.InUse txn p g))
    → Takes v (Downgrade p g t) (message_of frame ∷ []) (record v { locks = with_noted v.locks p g (Some t) })
downgrade_in_use_takes v p g t frame is welcomed lt kept_ones held may fixed said =
    in_use_said v p g (Some t) frame (λ m. Takes v (Downgrade p g t) (m ∷ []) (record v { locks = with_noted v.locks p g (Some t) })) (locked_begun v is p (fixed_locked v is p fixed)) said
    (λ txn e. downgrade_in_use v p g t txn is welcomed lt kept_ones held may fixed e)

pub downgrade_yields : (v : ClientState) (p g t : ℕ) (copies : CacheState) → IsClient v → v.welcomed ≡ true → v.copies.limits.keep_write ≡ true → is_exactly (copy_at v.copies p).held g ≡ true
    → permitted v p t ≡ true → (has v.copies.wanted p || has v.copies.wrote p) ≡ false
    → Does v.copies (ChangeCache (YieldPermission p) ∷ []) copies → Takes v (Downgrade p g t) (by_locks v (Downgraded p g t) ∷ []) (record v { copies = copies })
downgrade_yields v p g t copies is welcomed kept_ones held may fixed d = takes v (record v { copies = copies }) (Downgrade p g t) (ChangeCache (YieldPermission p) ∷ Say (Downgraded p g t) ∷ []) _ welcomed (λ e. cc) (λ ops. tt) (record {
  table = λ ops. rw (kept_ones, held, may, fixed) refl;
  said = from_locks v is (Downgraded p g t);
  after = λ ops. d.becomes (locks_with v.locks (base_of v ops));
  limits = d.limits;
  same_no = refl;
  same_incarnation = refl;
  references = d.references;
})

pub downgrade_yields_keeps : (v : ClientState) (p g t : ℕ) (copies : CacheState) → IsClient v → v.welcomed ≡ true → BodyFits (limits_at v) (Downgrade p g t) → v.copies.limits.keep_write ≡ true → is_exactly (copy_at v.copies p).held g ≡ true
    → permitted v p t ≡ true → (has v.copies.wanted p || has v.copies.wrote p) ≡ false
    → Does v.copies (ChangeCache (YieldPermission p) ∷ []) copies → IsClient (record v { copies = copies })
downgrade_yields_keeps v p g t copies is welcomed fits kept_ones held may fixed d =
    let new : ClientState = record v { copies = copies } in
    keeps v new is d.limits refl refl refl refl refl refl is.same_txn (λ q. refl) (λ q. sym (ap (λ (k : Client). k.cache.held q) (d.becomes new_client))) (λ q e. e) (λ q e. ap (λ (k : Client). k.cache.content q) (d.becomes new_client) ∙ e)
    (room_stays v copies _ is d (λ other h. room_same (limits_at v) _ _ (λ q. refl) (λ q. refl) h)) (takes_reach v new (Downgrade p g t) (downgrade_yields v p g t copies is welcomed kept_ones held may fixed d) fits is.reached)

-- MayWrite: of the open transaction, asked for, of the grant held
abbrev pub answers_ask : ClientState → (txn p g : ℕ) → Bool
answers_ask v txn p g = of_open_txn (client_of v []) txn && asks_to_write (ask_of v.ask) p && is_exactly (copy_at v.copies p).held g

pub may_write_ignored : (v : ClientState) (txn p g : ℕ) → v.welcomed ≡ true → answers_ask v txn p g ≡ false → Takes v (MayWrite txn p g) [] v
may_write_ignored v txn p g welcomed other = takes v v (MayWrite txn p g) [] [] welcomed (λ e. cc) (λ ops. tt) (record {
  table = λ ops. rw other refl;
  said = refl;
  after = λ ops. refl;
  limits = refl;
  same_no = refl;
  same_incarnation = refl;
  references = refl;
})

pub may_write_taken : (v : ClientState) (txn p g : ℕ) (copies : CacheState) → v.welcomed ≡ true → answers_ask v txn p g ≡ true
    → DoesInTxn txn v.copies (ChangeCache (TakePermission p) ∷ []) copies → Takes v (MayWrite txn p g) [] (record v { copies = copies; ask = asks.Nothing })
may_write_taken v txn p g copies welcomed answers d = takes v (record v { copies = copies; ask = asks.Nothing }) (MayWrite txn p g) (SetAsk NoAsk ∷ ChangeCache (TakePermission p) ∷ []) [] welcomed (λ e. cc) (λ ops. tt) (record {
  table = λ ops. rw answers refl;
  said = refl;
  after = λ ops. d.becomes (record (locks_with v.locks (base_of v ops)) { ask = NoAsk }) same;
  limits = d.limits;
  same_no = refl;
  same_incarnation = refl;
  references = d.references;
})
  where
    same : unwrap_or v.txn 0 ≡ txn
    same = grind (arith, nat_tests)

pub may_write_keeps : (v : ClientState) (txn p g : ℕ) (copies : CacheState) → IsClient v → v.welcomed ≡ true → BodyFits (limits_at v) (MayWrite txn p g) → answers_ask v txn p g ≡ true
    → DoesInTxn txn v.copies (ChangeCache (TakePermission p) ∷ []) copies → IsClient (record v { copies = copies; ask = asks.Nothing })
may_write_keeps v txn p g copies is welcomed fits answers d =
    let new : ClientState = record v { copies = copies; ask = asks.Nothing } in
    let some : Client = record new_client { cache = record new_client.cache { number = txn } } in
    keeps v new is d.limits refl refl refl refl refl refl is.same_txn (λ q. refl) (λ q. sym (ap (λ (k : Client). k.cache.held q) (d.becomes some refl))) (λ q e. e) (λ q e. ap (λ (k : Client). k.cache.content q) (d.becomes some refl) ∙ e)
    (λ q e other. absurd cc) (takes_reach v new (MayWrite txn p g) (may_write_taken v txn p g copies welcomed answers d) fits is.reached)
