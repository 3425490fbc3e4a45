-- Settling a page changes that page alone, leaves its first ask on no cycle, and leaves nothing more to be done there.
use Rattle.std.proofs.Common.{◌≡◌, ◌↔◌, ◌∙◌, ℕ, zero, suc, ◌+◌, ◌<◌, ◌≤◌, Bool, true, false, not, ◌==◌, ◌&&◌, ◌||◌, if◌then◌else◌, ◌≢◌, ◌⊎◌, List, [], ◌∷◌, ◌++◌, length, Option, Some, None, ap, arith, add-one, refl, sym, subst, inl, inr}
use Rattle.std.specs.Prelude.{⊤}
use Rattle.cb_protocol.specs.Basics.{update, is_none, is_exactly}
use Rattle.cb_protocol.specs.Server.{DeadlockTest, WaitingAsk, Server, ServerStep, Send, MarkCalledBack, MarkDowngradeSent, RemoveAsk, Doom, after_first, without_client, set_called_back, set_downgrade_sent, after_server_step, server_after, is_live_permission}
use Rattle.cb_protocol.specs.Session.{Session, GrantRow, session_after}
use Rattle.cb_protocol.specs.Settling.{no_other_holder, sole_row, send_callback, send_callbacks, nobody, send_downgrade, keeps_permission, send_downgrades, doom_client, Decision, Settled, Decided, wait_or_doom, permit_write, grant_row, call_back_once, downgrade_once, decide_read, decide_write, decide, settle_page, settle_pages}
use Rattle.cb_protocol.specs.WaitsFor.{WaitsFor, HoldsUp, LiesOnCycle, NoCycle, AsksInRange}
use Rattle.cb_protocol.specs.Deadlock.{ask_count, OneAsk, DoomsOnCycle}
use Rattle.cb_protocol.proofs.CyclePaths.{Clear, has_count, count_has, stays_clear, none_where_clear, below_or_not, same_or_not}
use Rattle.cb_protocol.proofs.ServerOrder.{after_append}

-- a test of who lies on a cycle that is exact
abbrev pub Exact : DeadlockTest → Type 0
Exact cycle = (s : Server) → AsksInRange s → (c : ℕ) → (cycle s c ≡ true) ↔ LiesOnCycle (WaitsFor s) c

pub record SoundAsks (s : Server) : Type 0 where
  pub one : OneAsk s.queue
  pub known : AsksInRange s

-- queues with asks taken away
pub record Fewer (queue old : ℕ → List WaitingAsk) : Type 0 where
  pub less : (p c : ℕ) → ask_count c (queue p) ≤ ask_count c (old p)

pub count_rest : (c : ℕ) (q : List WaitingAsk) → ask_count c (after_first q) ≤ ask_count c q
count_rest c [] = omega arith
count_rest c (a ∷ q) = omega arith

pub count_without : (c d : ℕ) (q : List WaitingAsk) → ask_count d (without_client c q) ≤ ask_count d q
count_without c d [] = omega arith
count_without c d (a ∷ q) = grind (arith, count_without c d q)

without_none : (c : ℕ) (q : List WaitingAsk) → ask_count c q ≡ 0 → without_client c q ≡ q
without_none c [] e = refl
without_none c (a ∷ q) e = grind (arith, without_none c q)

pub without_shorter : (c : ℕ) (q : List WaitingAsk) → length (without_client c q) ≤ length q
without_shorter c [] = omega arith
without_shorter c (a ∷ q) = grind (arith, without_shorter c q)

pub count_called : (c : ℕ) (q : List WaitingAsk) → ask_count c (set_called_back q) ≤ ask_count c q
count_called c [] = omega arith
count_called c (a ∷ q) = omega arith

pub count_told : (t c : ℕ) (q : List WaitingAsk) → ask_count c (set_downgrade_sent t q) ≤ ask_count c q
count_told t c [] = omega arith
count_told t c (a ∷ q) = omega arith

-- asks taken away leave the asks sound
pub sound_fewer : (h k : Server) → SoundAsks h → Fewer k.queue h.queue → k.clients ≡ h.clients → k.pages ≡ h.pages → SoundAsks k
sound_fewer h k s f e g = record {
  one = record {
    here = λ p c. let u = f.less p c in let v = s.one.here p c in omega arith;
    apart = λ p q c n. let u = f.less p c in let v = f.less q c in let w = s.one.apart p q c n in omega arith;
  };
  known = λ p c i. let u = f.less p c in let v = has_count c (k.queue p) i in let w = s.known p c (count_has c (h.queue p) (omega arith)) in (rw e w.0, rw g w.1);
}

-- k is h but for page p: what asks, permissions and marks of the other pages are, and who lives
pub record SameElsewhere (p : ℕ) (h k : Server) : Type 0 where
  pub queues : (q : ℕ) → q ≢ p → k.queue q ≡ h.queue q
  pub writers : (q : ℕ) → q ≢ p → k.store.holder q ≡ h.store.holder q
  pub tags : (q : ℕ) → q ≢ p → k.store.tag q ≡ h.store.tag q
  pub rows : (d q : ℕ) → q ≢ p → (k.session d).row q ≡ (h.session d).row q
  pub marks : (d q : ℕ) → k.in_use d q ≡ h.in_use d q
  pub txns : (d : ℕ) → (k.session d).txn ≡ (h.session d).txn
  pub ends : (d : ℕ) → (k.session d).ended ≡ (h.session d).ended
  pub keep_write : k.store.keep_write ≡ h.store.keep_write
  pub clients : k.clients ≡ h.clients
  pub pages : k.pages ≡ h.pages

pub same_refl : (p : ℕ) (h : Server) → SameElsewhere p h h
same_refl p h = record { queues = λ q n. refl; writers = λ q n. refl; tags = λ q n. refl; rows = λ d q n. refl; marks = λ d q. refl; txns = λ d. refl; ends = λ d. refl; keep_write = refl; clients = refl; pages = refl }

same_trans : (p : ℕ) (h k l : Server) → SameElsewhere p h k → SameElsewhere p k l → SameElsewhere p h l
same_trans p h k l a b = record {
  queues = λ q n. b.queues q n ∙ a.queues q n;
  writers = λ q n. b.writers q n ∙ a.writers q n;
  tags = λ q n. b.tags q n ∙ a.tags q n;
  rows = λ d q n. b.rows d q n ∙ a.rows d q n;
  marks = λ d q. b.marks d q ∙ a.marks d q;
  txns = λ d. b.txns d ∙ a.txns d;
  ends = λ d. b.ends d ∙ a.ends d;
  keep_write = b.keep_write ∙ a.keep_write;
  clients = b.clients ∙ a.clients;
  pages = b.pages ∙ a.pages;
}

live_same : (n p d : ℕ) (h k : Server) → SameElsewhere n h k → p ≢ n → is_live_permission k d p ≡ is_live_permission h d p
live_same n p d h k o m = let a = o.tags p m in let b = o.txns d in let c = o.ends d in cc

-- who holds up an ask of another page is as before
pub held_same : (n : ℕ) (h k : Server) → SameElsewhere n h k → (p : ℕ) (a : WaitingAsk) (d : ℕ) → p ≢ n → HoldsUp k p a d → HoldsUp h p a d
held_same n h k o p a d m (inl e) = inl (sym (o.writers p m) ∙ e.0, elim e.1 [ inl x ↦ inl (sym (live_same n p d h k o m) ∙ x) | inr x ↦ inr (sym (o.marks d p) ∙ x) ])
held_same n h k o p a d m (inr e) = inr (e.0, sym (o.marks d p) ∙ e.1)

-- the first ask of page p can't be met, and what is to be sent for it was sent
abbrev pub StuckBy : Server → ℕ → WaitingAsk → Option ℕ → Type 0
StuckBy s p a None = ((no_other_holder (s.store.holder p) a.client && is_none ((s.session a.client).row p)) ≡ false)
    × ((s.store.keep_write && keeps_permission s p a.client (s.store.holder p) && not (is_exactly a.downgrade_sent (s.store.tag p))) ≡ false)
StuckBy s p a (Some g) = ((no_other_holder (s.store.holder p) a.client && is_exactly ((s.session a.client).row p) g && sole_row s p a.client s.clients) ≡ false) × (a.called_back ≡ true)

abbrev pub Stuck : Server → ℕ → List WaitingAsk → Type 0
Stuck s p [] = Unit {0}
Stuck s p (a ∷ q) = StuckBy s p a a.write_grant

keeps_same : (n p c : ℕ) (h k : Server) (w : Option ℕ) → SameElsewhere n h k → p ≢ n → keeps_permission k p c w ≡ keeps_permission h p c w
keeps_same n p c h k None o m = refl
keeps_same n p c h k (Some d) o m = let e = live_same n p d h k o m in cc

sole_same : (n p c i : ℕ) (h k : Server) → SameElsewhere n h k → p ≢ n → sole_row k p c i ≡ sole_row h p c i
sole_same n p c zero h k o m = refl
sole_same n p c (suc i) h k o m = let e = sole_same n p c i h k o m in let f = o.rows i p m in cc

stuck_by_same : (n p : ℕ) (h k : Server) (a : WaitingAsk) (w : Option ℕ) → SameElsewhere n h k → p ≢ n → StuckBy h p a w → StuckBy k p a w
stuck_by_same n p h k a None o m b = (same ∙ b.0, more ∙ b.1)
  where
    same : (no_other_holder (k.store.holder p) a.client && is_none ((k.session a.client).row p)) ≡ (no_other_holder (h.store.holder p) a.client && is_none ((h.session a.client).row p))
    same = let e = o.writers p m in let f = o.rows a.client p m in cc

    more : (k.store.keep_write && keeps_permission k p a.client (k.store.holder p) && not (is_exactly a.downgrade_sent (k.store.tag p))) ≡ (h.store.keep_write && keeps_permission h p a.client (h.store.holder p) && not (is_exactly a.downgrade_sent (h.store.tag p)))
    more = let e = o.writers p m in let f = o.tags p m in let g = o.keep_write in let i = keeps_same n p a.client h k (h.store.holder p) o m in cc
stuck_by_same n p h k a (Some g) o m b = (same ∙ b.0, b.1)
  where
    same : (no_other_holder (k.store.holder p) a.client && is_exactly ((k.session a.client).row p) g && sole_row k p a.client k.clients) ≡ (no_other_holder (h.store.holder p) a.client && is_exactly ((h.session a.client).row p) g && sole_row h p a.client h.clients)
    same = let e = o.writers p m in let f = o.rows a.client p m in let i = o.clients in let j = sole_same n p a.client h.clients h k o m in cc

-- an ask of another page that could not be met, still can not
pub stuck_same : (n p : ℕ) (h k : Server) → SameElsewhere n h k → p ≢ n → Stuck h p (h.queue p) → Stuck k p (k.queue p)
stuck_same n p h k o m b = subst (λ (q : List WaitingAsk). Stuck k p q) (sym (o.queues p m)) (go (h.queue p) b)
  where
    go : (q : List WaitingAsk) → Stuck h p q → Stuck k p q
    go [] b = tt
    go (a ∷ q) b = stuck_by_same n p h k a a.write_grant o m b

-- who may be doomed next: whose ask was just taken away, from a cycle
abbrev pub Next : Server → ServerStep → ℕ → Type 0
Next s (RemoveAsk c) d = (d ≡ c) × LiesOnCycle (WaitsFor s) c
Next s _ d = ⊥

abbrev pub NoOne : ℕ → Type 0
NoOne d = ⊥

abbrev pub DoomRight : (ℕ → Type 0) → ServerStep → Type 0
DoomRight N (Doom c) = N c
DoomRight N _ = ⊤

abbrev pub DoomsRight : (ℕ → Type 0) → Server → List ServerStep → Type 0
DoomsRight N s [] = ⊤
DoomsRight N s (x ∷ ds) = DoomRight N x × DoomsRight (Next s x) (after_server_step s x) ds

may_more : (N : ℕ → Type 0) (x : ServerStep) → DoomRight NoOne x → DoomRight N x
may_more N (Doom c) h = absurd h
may_more N _ h = tt

dooms_more : (N : ℕ → Type 0) (s : Server) (ds : List ServerStep) → DoomsRight NoOne s ds → DoomsRight N s ds
dooms_more N s [] h = tt
dooms_more N s (x ∷ ds) h = (may_more N x h.0, h.1)

pub dooms_append : (N : ℕ → Type 0) (s : Server) (xs ys : List ServerStep) → DoomsRight N s xs → DoomsRight NoOne (server_after s xs) ys → DoomsRight N s (xs ++ ys)
dooms_append N s [] ys a b = dooms_more N s ys b
dooms_append N s (x ∷ xs) ys a b = (a.0, dooms_append (Next s x) (after_server_step s x) xs ys a.1 b)

-- each doom comes right after its client's ask was taken away from a cycle
led : (N : ℕ → Type 0) (s : Server) (before after : List ServerStep) (c : ℕ) → DoomsRight N s (before ++ Doom c ∷ after)
    → ((before ≡ []) × N c) ⊎ ((earlier : List ServerStep) × (before ≡ earlier ++ RemoveAsk c ∷ []) × LiesOnCycle (WaitsFor (server_after s earlier)) c)
led N s [] after c m = inl (refl, m.0)
led N s (x ∷ before) after c m = elim (led (Next s x) (after_server_step s x) before after c m.1) [ inl e ↦ inr (last x e.0 e.1) | inr r ↦ inr (x ∷ r.0, ap (λ (y : List ServerStep). x ∷ y) r.1, r.2) ]
  where
    last : (x : ServerStep) → before ≡ [] → Next s x c → (earlier : List ServerStep) × (x ∷ before ≡ earlier ++ RemoveAsk c ∷ []) × LiesOnCycle (WaitsFor (server_after s earlier)) c
    last (RemoveAsk d) e n = ([], rw (e, n.0) refl, subst (λ (y : ℕ). LiesOnCycle (WaitsFor s) y) (sym n.0) n.1)
    last _ e n = absurd n

-- as the law says it
pub dooms_on_cycle : (s : Server) (ds : List ServerStep) → DoomsRight NoOne s ds → DoomsOnCycle s ds
dooms_on_cycle s ds m before after c e = elim (led NoOne s before after c (subst (λ (x : List ServerStep). DoomsRight NoOne s x) e m)) [ inl n ↦ absurd n.1 | inr r ↦ r ]

-- messages alone
abbrev pub OnlySends : List ServerStep → Type 0
OnlySends [] = ⊤
OnlySends (Send c i b ∷ ds) = OnlySends ds
OnlySends (_ ∷ ds) = ⊥

pub sends_append : (xs ys : List ServerStep) → OnlySends xs → OnlySends ys → OnlySends (xs ++ ys)
sends_append [] ys a b = b
sends_append (Send c i x ∷ xs) ys a b = sends_append xs ys a b
sends_append (_ ∷ xs) ys a b = absurd a

pub after_sends : (s : Server) (ds : List ServerStep) → OnlySends ds → server_after s ds ≡ s
after_sends s [] a = refl
after_sends s (Send c i x ∷ ds) a = after_sends s ds a
after_sends s (_ ∷ ds) a = absurd a

pub dooms_sends : (N : ℕ → Type 0) (s : Server) (ds : List ServerStep) → OnlySends ds → DoomsRight N s ds
dooms_sends N s [] a = tt
dooms_sends N s (Send c i x ∷ ds) a = (tt, dooms_sends (Next s (Send c i x)) s ds a)
dooms_sends N s (_ ∷ ds) a = absurd a

sends_callback : (s : Server) (d p : ℕ) (r : Option ℕ) → OnlySends (send_callback s d p r)
sends_callback s d p None = tt
sends_callback s d p (Some g) = tt

pub sends_callbacks : (s : Server) (skip : ℕ → Bool) (p c n : ℕ) → OnlySends (send_callbacks s skip p c n)
sends_callbacks s skip p c zero = tt
sends_callbacks s skip p c (suc n) = sends_append (send_callbacks s skip p c n) (if (n == c) || skip n then [] else send_callback s n p ((s.session n).row p)) (sends_callbacks s skip p c n) (go ((n == c) || skip n))
  where
    go : (r : Bool) → OnlySends (if r then [] else send_callback s n p ((s.session n).row p))
    go true = tt
    go false = sends_callback s n p ((s.session n).row p)

pub sends_downgrades : (s : Server) (skip : ℕ → Bool) (p c : ℕ) (w : Option ℕ) → OnlySends (send_downgrades s skip p c w)
sends_downgrades s skip p c None = tt
sends_downgrades s skip p c (Some d) = go (keeps_permission s p c (Some d) && not (skip d)) ((s.session d).row p)
  where
    go : (u : Bool) (r : Option ℕ) → OnlySends (if u then send_downgrade s d p r else [])
    go true None = tt
    go true (Some g) = tt
    go false r = tt

-- what one decision leaves where settling goes on
pub record WentOn (p : ℕ) (h k : Server) : Type 0 where
  pub sound : SoundAsks k
  pub same : SameElsewhere p h k
  pub shorter : length (k.queue p) < length (h.queue p)

-- and where it stops
pub record Stopped (p : ℕ) (h k : Server) : Type 0 where
  pub sound : SoundAsks k
  pub same : SameElsewhere p h k
  pub clear : Clear (WaitsFor k) (k.queue p)
  pub stuck : Stuck k p (k.queue p)

abbrev pub DecisionRight : ℕ → Server → Decision → Type 0
DecisionRight p h (Settled ds) = Stopped p h (server_after h ds) × DoomsRight NoOne h ds
DecisionRight p h (Decided ds) = WentOn p h (server_after h ds) × DoomsRight NoOne h ds

pub put_other : {A : Type 0} (f : ℕ → A) (p q : ℕ) (v : A) → q ≢ p → update f p v q ≡ f q
put_other f p q v n = go (q == p) refl
  where
    go : (r : Bool) → (q == p) ≡ r → (if r then v else f q) ≡ f q
    go true e = absurd (n (grind arith))
    go false e = refl

pub put_there : {A : Type 0} (f : ℕ → A) (p : ℕ) (v : A) → update f p v p ≡ v
put_there f p v = grind arith

-- the queue of page p becomes one with no more asks
pub fewer_put : (f : ℕ → List WaitingAsk) (p : ℕ) (x : List WaitingAsk) → ((c : ℕ) → ask_count c x ≤ ask_count c (f p)) → Fewer (update f p x) f
fewer_put f p x l = record { less = λ q c. go q c (q == p) refl }
  where
    same : (q : ℕ) → (q == p) ≡ true → p ≡ q
    same q e = grind arith

    go : (q c : ℕ) (r : Bool) → (q == p) ≡ r → ask_count c (if r then x else f q) ≤ ask_count c (f q)
    go q c true e = subst (λ (y : ℕ). ask_count c x ≤ ask_count c (f y)) (same q e) (l c)
    go q c false e = omega arith

-- the first ask of page p leaves
went_leave : (h k : Server) (p : ℕ) (a : WaitingAsk) (q : List WaitingAsk) → h.queue p ≡ a ∷ q → SoundAsks h → k.queue ≡ update h.queue p (after_first (h.queue p)) → SameElsewhere p h k → WentOn p h k
went_leave h k p a q e s f o = record {
  sound = sound_fewer h k s (rw f (fewer_put h.queue p (after_first (h.queue p)) (λ c. count_rest c (h.queue p)))) o.clients o.pages;
  same = o;
  shorter = rw (f, put_there h.queue p (after_first (h.queue p)), e) (omega arith);
}

count_first : (a : WaitingAsk) (q : List WaitingAsk) → 0 < ask_count a.client (a ∷ q)
count_first a q = grind arith

-- the client of the first ask of page p is doomed
went_doom : (h : Server) (p : ℕ) (a : WaitingAsk) (q : List WaitingAsk) → h.queue p ≡ a ∷ q → SoundAsks h → WentOn p h (server_after h (doom_client h a.client))
went_doom h p a q e s = record {
  sound = sound_fewer h (server_after h (doom_client h a.client)) s (record { less = λ r c. count_without a.client c (h.queue r) }) refl refl;
  same = record { queues = λ r n. without_none a.client (h.queue r) (elsewhere r n); writers = λ r n. refl; tags = λ r n. refl; rows = λ d r n. refl; marks = λ d r. refl; txns = λ d. refl; ends = λ d. refl; keep_write = refl; clients = refl; pages = refl };
  shorter = rw e (let l = without_shorter a.client q in grind arith);
}
  where
    at : 0 < ask_count a.client (h.queue p)
    at = rw e (count_first a q)

    elsewhere : (r : ℕ) → r ≢ p → ask_count a.client (h.queue r) ≡ 0
    elsewhere r n = let u = s.one.apart r p a.client n in let v = at in omega arith

went_trans : (p : ℕ) (h k l : Server) → SameElsewhere p h k → length (k.queue p) ≤ length (h.queue p) → WentOn p k l → WentOn p h l
went_trans p h k l o m w = let v = w.shorter in record { sound = w.sound; same = same_trans p h k l o w.same; shorter = omega arith }

-- what was sent for the first ask was noted
record Noted (p : ℕ) (h k : Server) (a : WaitingAsk) : Type 0 where
  first : WaitingAsk
  others : List WaitingAsk
  queue : k.queue p ≡ first ∷ others
  client : first.client ≡ a.client
  sound : SoundAsks k
  same : SameElsewhere p h k
  longer : length (k.queue p) ≤ length (h.queue p)
  stuck : StuckBy k p first first.write_grant

-- the first ask is refused
right_refuses : (cycle : DeadlockTest) → Exact cycle → (h : Server) (p : ℕ) (a : WaitingAsk) (ds : List ServerStep) → DoomsRight NoOne h ds → Noted p h (server_after h ds) a → DecisionRight p h (wait_or_doom cycle h a.client ds)
right_refuses cycle x h p a ds m n = go (cycle (server_after h ds) a.client) refl
  where
    went : WentOn p h (server_after h (ds ++ doom_client (server_after h ds) a.client))
    went = subst (λ (k : Server). WentOn p h k) (sym (after_append h ds (doom_client (server_after h ds) a.client)))
        (went_trans p h (server_after h ds) (server_after (server_after h ds) (doom_client (server_after h ds) a.client)) n.same n.longer
        (subst (λ (c : ℕ). WentOn p (server_after h ds) (server_after (server_after h ds) (doom_client (server_after h ds) c))) n.client (went_doom (server_after h ds) p n.first n.others n.queue n.sound)))

    clear : cycle (server_after h ds) a.client ≡ false → Clear (WaitsFor (server_after h ds)) ((server_after h ds).queue p)
    clear l = rw n.queue (λ w. let t = (x (server_after h ds) n.sound.known a.client).1 (subst (λ (c : ℕ). LiesOnCycle (WaitsFor (server_after h ds)) c) n.client w) in absurd cc)

    go : (r : Bool) → cycle (server_after h ds) a.client ≡ r → DecisionRight p h (if r then Decided (ds ++ doom_client (server_after h ds) a.client) else Settled ds)
    go true l = (went, dooms_append NoOne h ds (doom_client (server_after h ds) a.client) m (tt, ((refl, (x (server_after h ds) n.sound.known a.client).0 l), (tt, tt))))
    go false l = (record { sound = n.sound; same = n.same; clear = clear l; stuck = rw n.queue n.stuck }, m)

-- nothing had to be noted
noted_none : (h : Server) (p : ℕ) (a : WaitingAsk) (q : List WaitingAsk) → h.queue p ≡ a ∷ q → SoundAsks h → StuckBy h p a a.write_grant → Noted p h h a
noted_none h p a q e s b = record { first = a; others = q; queue = e; client = refl; sound = s; same = same_refl p h; longer = omega arith; stuck = b }

-- the first ask of page p becomes b, of the same client
noted_first : (h : Server) (p : ℕ) (a b : WaitingAsk) (q : List WaitingAsk) → h.queue p ≡ a ∷ q → SoundAsks h → b.client ≡ a.client → StuckBy (record h { queue = update h.queue p (b ∷ q) }) p b b.write_grant → Noted p h (record h { queue = update h.queue p (b ∷ q) }) a
noted_first h p a b q e s f t = record {
  first = b;
  others = q;
  queue = put_there h.queue p (b ∷ q);
  client = f;
  sound = sound_fewer h (record h { queue = update h.queue p (b ∷ q) }) s (fewer_put h.queue p (b ∷ q) (λ c. rw (e, f) (omega arith))) refl refl;
  same = record { queues = λ r n. put_other h.queue p r (b ∷ q) n; writers = λ r n. refl; tags = λ r n. refl; rows = λ d r n. refl; marks = λ d r. refl; txns = λ d. refl; ends = λ d. refl; keep_write = refl; clients = refl; pages = refl };
  longer = rw (put_there h.queue p (b ∷ q), e) (omega arith);
  stuck = t;
}

-- messages, and then a note of them
pub after_noted : (h : Server) (ds : List ServerStep) (x : ServerStep) → OnlySends ds → server_after h (ds ++ x ∷ []) ≡ after_server_step h x
after_noted h ds x a = after_append h ds (x ∷ []) ∙ ap (λ (k : Server). after_server_step k x) (after_sends h ds a)

right_calls_back : (cycle : DeadlockTest) → Exact cycle → (h : Server) (p : ℕ) (a : WaitingAsk) (q : List WaitingAsk) (g : ℕ) → h.queue p ≡ a ∷ q → SoundAsks h → a.write_grant ≡ Some g
    → (no_other_holder (h.store.holder p) a.client && is_exactly ((h.session a.client).row p) g && sole_row h p a.client h.clients) ≡ false → DecisionRight p h (wait_or_doom cycle h a.client (call_back_once h p a))
right_calls_back cycle x h p a q g e s w n = go a.called_back refl
  where
    ds : List ServerStep
    ds = send_callbacks h nobody p a.client h.clients

    b : WaitingAsk
    b = record a { called_back = true }

    noted : Noted p h (record h { queue = update h.queue p (b ∷ q) }) a
    noted = noted_first h p a b q e s refl (subst (λ (v : Option ℕ). StuckBy (record h { queue = update h.queue p (b ∷ q) }) p b v) (sym w) (n, refl))

    same : server_after h (ds ++ MarkCalledBack p ∷ []) ≡ record h { queue = update h.queue p (b ∷ q) }
    same = after_noted h ds (MarkCalledBack p) (sends_callbacks h nobody p a.client h.clients) ∙ ap (λ (z : List WaitingAsk). record h { queue = update h.queue p (set_called_back z) }) e

    go : (r : Bool) → a.called_back ≡ r → DecisionRight p h (wait_or_doom cycle h a.client (if r then [] else ds ++ MarkCalledBack p ∷ []))
    go true f = right_refuses cycle x h p a [] tt (noted_none h p a q e s (subst (λ (v : Option ℕ). StuckBy h p a v) (sym w) (n, f)))
    go false f = right_refuses cycle x h p a (ds ++ MarkCalledBack p ∷ []) (dooms_append NoOne h ds (MarkCalledBack p ∷ []) (dooms_sends NoOne h ds (sends_callbacks h nobody p a.client h.clients)) (tt, tt)) (subst (λ (k : Server). Noted p h k a) (sym same) noted)

sent_there : (t : ℕ) → is_exactly (Some t) t ≡ true
sent_there t = grind arith

right_brings_down : (cycle : DeadlockTest) → Exact cycle → (h : Server) (p : ℕ) (a : WaitingAsk) (q : List WaitingAsk) → h.queue p ≡ a ∷ q → SoundAsks h → a.write_grant ≡ None
    → (no_other_holder (h.store.holder p) a.client && is_none ((h.session a.client).row p)) ≡ false → DecisionRight p h (wait_or_doom cycle h a.client (downgrade_once h p a))
right_brings_down cycle x h p a q e s w n = go (h.store.keep_write && keeps_permission h p a.client (h.store.holder p) && not (is_exactly a.downgrade_sent (h.store.tag p))) refl
  where
    ds : List ServerStep
    ds = send_downgrades h nobody p a.client (h.store.holder p)

    t : ℕ
    t = h.store.tag p

    b : WaitingAsk
    b = record a { downgrade_sent = Some t }

    noted_before : (u v z : Bool) → z ≡ true → (u && v && not z) ≡ false
    noted_before u v z i = grind arith

    noted : Noted p h (record h { queue = update h.queue p (b ∷ q) }) a
    noted = noted_first h p a b q e s refl (subst (λ (v : Option ℕ). StuckBy (record h { queue = update h.queue p (b ∷ q) }) p b v) (sym w) (n, noted_before h.store.keep_write (keeps_permission (record h { queue = update h.queue p (b ∷ q) }) p a.client (h.store.holder p)) (is_exactly (Some t) t) (sent_there t)))

    same : server_after h (ds ++ MarkDowngradeSent p t ∷ []) ≡ record h { queue = update h.queue p (b ∷ q) }
    same = after_noted h ds (MarkDowngradeSent p t) (sends_downgrades h nobody p a.client (h.store.holder p)) ∙ ap (λ (z : List WaitingAsk). record h { queue = update h.queue p (set_downgrade_sent t z) }) e

    go : (r : Bool) → (h.store.keep_write && keeps_permission h p a.client (h.store.holder p) && not (is_exactly a.downgrade_sent (h.store.tag p))) ≡ r → DecisionRight p h (wait_or_doom cycle h a.client (if r then ds ++ MarkDowngradeSent p t ∷ [] else []))
    go false f = right_refuses cycle x h p a [] tt (noted_none h p a q e s (subst (λ (v : Option ℕ). StuckBy h p a v) (sym w) (n, f)))
    go true f = right_refuses cycle x h p a (ds ++ MarkDowngradeSent p t ∷ []) (dooms_append NoOne h ds (MarkDowngradeSent p t ∷ []) (dooms_sends NoOne h ds (sends_downgrades h nobody p a.client (h.store.holder p))) (tt, tt)) (subst (λ (k : Server). Noted p h k a) (sym same) noted)

put_row : (f : ℕ → Session) (c p g d q : ℕ) → q ≢ p → (update f c (session_after (f c) (GrantRow p g)) d).row q ≡ (f d).row q
put_row f c p g d q n = grind arith

put_seat : (f : ℕ → Session) (c d : ℕ) → update f c (f c) d ≡ f d
put_seat f c d = grind arith

put_txn : (f : ℕ → Session) (c d : ℕ) (t : Session) → t.txn ≡ (f c).txn → (update f c t d).txn ≡ (f d).txn
put_txn f c d t e = grind arith

put_ended : (f : ℕ → Session) (c d : ℕ) (t : Session) → t.ended ≡ (f c).ended → (update f c t d).ended ≡ (f d).ended
put_ended f c d t e = grind arith

right_permits : (h : Server) (p : ℕ) (a : WaitingAsk) (q : List WaitingAsk) (g : ℕ) → h.queue p ≡ a ∷ q → SoundAsks h → DecisionRight p h (Decided (permit_write h p a.client g))
right_permits h p a q g e s = (
  went_leave h _ p a q e s refl (record {
    queues = λ r n. put_other h.queue p r _ n;
    writers = λ r n. put_other h.store.holder p r _ n;
    tags = λ r n. put_other h.store.tag p r _ n;
    rows = λ d r n. ap (λ (t : Session). t.row r) (put_seat h.session a.client d);
    marks = λ d r. refl;
    txns = λ d. put_txn h.session a.client d (h.session a.client) refl;
    ends = λ d. put_ended h.session a.client d (h.session a.client) refl;
    keep_write = refl;
    clients = refl;
    pages = refl;
  }),
  (tt, (tt, (tt, tt))),
)

right_grants : (h : Server) (p : ℕ) (a : WaitingAsk) (q : List WaitingAsk) → h.queue p ≡ a ∷ q → SoundAsks h → DecisionRight p h (Decided (grant_row h p a.client))
right_grants h p a q e s = (
  went_leave h _ p a q e s refl (record {
    queues = λ r n. put_other h.queue p r _ n;
    writers = λ r n. refl;
    tags = λ r n. refl;
    rows = λ d r n. put_row h.session a.client p h.next_grant d r n;
    marks = λ d r. refl;
    txns = λ d. put_txn h.session a.client d (session_after (h.session a.client) (GrantRow p h.next_grant)) refl;
    ends = λ d. put_ended h.session a.client d (session_after (h.session a.client) (GrantRow p h.next_grant)) refl;
    keep_write = refl;
    clients = refl;
    pages = refl;
  }),
  (tt, (tt, (tt, tt))),
)

-- each decision about page p: what it leaves, and that it dooms only who lies on a cycle
pub right_decide : (cycle : DeadlockTest) → Exact cycle → (h : Server) (p : ℕ) (q : List WaitingAsk) → h.queue p ≡ q → SoundAsks h → DecisionRight p h (decide cycle h p q)
right_decide cycle x h p [] e s = (record { sound = s; same = same_refl p h; clear = rw e tt; stuck = rw e tt }, tt)
right_decide cycle x h p (a ∷ q) e s = kind_of a.write_grant refl
  where
    reads : a.write_grant ≡ None → (u : Bool) → (no_other_holder (h.store.holder p) a.client && is_none ((h.session a.client).row p)) ≡ u → DecisionRight p h (if u then Decided (grant_row h p a.client) else wait_or_doom cycle h a.client (downgrade_once h p a))
    reads w true f = right_grants h p a q e s
    reads w false f = right_brings_down cycle x h p a q e s w f

    writes : (g : ℕ) → a.write_grant ≡ Some g → (u : Bool) → (no_other_holder (h.store.holder p) a.client && is_exactly ((h.session a.client).row p) g && sole_row h p a.client h.clients) ≡ u
        → DecisionRight p h (if u then Decided (permit_write h p a.client g) else wait_or_doom cycle h a.client (call_back_once h p a))
    writes g w true f = right_permits h p a q g e s
    writes g w false f = right_calls_back cycle x h p a q g e s w f

    kind_of : (w : Option ℕ) → a.write_grant ≡ w → DecisionRight p h (elim w [ None ↦ decide_read cycle h p a | Some g ↦ decide_write cycle h p a g ])
    kind_of None w = reads w (no_other_holder (h.store.holder p) a.client && is_none ((h.session a.client).row p)) refl
    kind_of (Some g) w = writes g w (no_other_holder (h.store.holder p) a.client && is_exactly ((h.session a.client).row p) g && sole_row h p a.client h.clients) refl

-- so settling page p leaves its first ask on no cycle, with nothing to be done
pub right_settle : (cycle : DeadlockTest) → Exact cycle → (n : ℕ) (h : Server) (p : ℕ) → length (h.queue p) < n → SoundAsks h → Stopped p h (server_after h (settle_page cycle n h p)) × DoomsRight NoOne h (settle_page cycle n h p)
right_settle cycle x zero h p l s = absurd (omega arith)
right_settle cycle x (suc n) h p l s = go (λ k m t. right_settle cycle x n k p m t) (decide cycle h p (h.queue p)) (right_decide cycle x h p (h.queue p) refl s)
  where
    go : ((k : Server) → length (k.queue p) < n → SoundAsks k → Stopped p k (server_after k (settle_page cycle n k p)) × DoomsRight NoOne k (settle_page cycle n k p)) → (v : Decision) → DecisionRight p h v
        → Stopped p h (server_after h (elim v [ Settled ds ↦ ds | Decided ds ↦ ds ++ settle_page cycle n (server_after h ds) p ])) × DoomsRight NoOne h (elim v [ Settled ds ↦ ds | Decided ds ↦ ds ++ settle_page cycle n (server_after h ds) p ])
    go f (Settled ds) a = a
    go f (Decided ds) a = let t = f (server_after h ds) (let u = a.0.shorter in omega arith) a.0.sound in (
      subst (λ (k : Server). Stopped p h k) (sym (after_append h ds (settle_page cycle n (server_after h ds) p))) (record { sound = t.0.sound; same = same_trans p h _ _ a.0.same t.0.same; clear = t.0.clear; stuck = t.0.stuck }),
      dooms_append NoOne h ds _ a.1 t.1,
    )

-- the pages below n are settled
pub record SettledBelow (n : ℕ) (h k : Server) : Type 0 where
  pub sound : SoundAsks k
  pub clear : (p : ℕ) → p < n → Clear (WaitsFor k) (k.queue p)
  pub stuck : (p : ℕ) → p < n → Stuck k p (k.queue p)
  pub later : (p : ℕ) → n ≤ p → k.queue p ≡ h.queue p
  pub clients : k.clients ≡ h.clients
  pub pages : k.pages ≡ h.pages

tidy_more : (n : ℕ) (h k l : Server) → SettledBelow n h k → Stopped n k l → SettledBelow (n + 1) h l
tidy_more n h k l t s = record {
  sound = s.sound;
  clear = λ p m. elim (same_or_not p n) [
    | inl e ↦ subst (λ (x : ℕ). Clear (WaitsFor l) (l.queue x)) (sym e) s.clear
    | inr d ↦ stays_clear l.queue k.queue (HoldsUp l) (HoldsUp k) s.sound.one n s.same.queues (held_same n k l s.same) p d s.clear (t.clear p (omega arith))
  ];
  stuck = λ p m. elim (same_or_not p n) [ inl e ↦ subst (λ (x : ℕ). Stuck l x (l.queue x)) (sym e) s.stuck | inr d ↦ stuck_same n p k l s.same d (t.stuck p (omega arith)) ];
  later = λ p m. s.same.queues p (omega arith) ∙ t.later p (omega arith);
  clients = s.same.clients ∙ t.clients;
  pages = s.same.pages ∙ t.pages;
}

-- and settling the pages below n leaves all of them so
pub right_settles : (cycle : DeadlockTest) → Exact cycle → (h : Server) (n : ℕ) → SoundAsks h → SettledBelow n h (server_after h (settle_pages cycle h n)) × DoomsRight NoOne h (settle_pages cycle h n)
right_settles cycle x h zero s = (record { sound = s; clear = λ p l. absurd (omega arith); stuck = λ p l. absurd (omega arith); later = λ p l. refl; clients = refl; pages = refl }, tt)
right_settles cycle x h (suc n) s = let a = right_settles cycle x h n s in
    let k = server_after h (settle_pages cycle h n) in
    let b = right_settle cycle x (length (h.queue n) + 1) k n (rw (a.0.later n (omega arith)) (omega arith)) a.0.sound in
    (subst (λ (z : Server). SettledBelow (suc n) h z) (sym (after_append h (settle_pages cycle h n) (settle_page cycle (length (h.queue n) + 1) k n))) (subst (λ (m : ℕ). SettledBelow m h (server_after k (settle_page cycle (length (h.queue n) + 1) k n))) (add-one n) (tidy_more n h k _ a.0 b.0)), dooms_append NoOne h (settle_pages cycle h n) _ a.1 b.1)

-- A server between two steps: no client waits for itself, and nothing is left to be settled.
pub record BetweenSteps (s : Server) : Type 0 where
  pub sound : SoundAsks s
  pub no_cycle : NoCycle s
  pub stuck : (p : ℕ) → Stuck s p (s.queue p)

-- settling all pages leaves such a server, and dooms only who lies on a cycle
pub settled_stands : (cycle : DeadlockTest) → Exact cycle → (h : Server) → SoundAsks h → BetweenSteps (server_after h (settle_pages cycle h h.pages)) × DoomsRight NoOne h (settle_pages cycle h h.pages)
settled_stands cycle x h s = let t = right_settles cycle x h h.pages s in (
  record {
    sound = t.0.sound;
    no_cycle = none_where_clear _ _ t.0.sound.one (λ p. clear p t.0 (below_or_not p h.pages));
    stuck = λ p. stuck p t.0 (below_or_not p h.pages);
  },
  t.1,
)
  where
    nothing : (p : ℕ) {k : Server} → SettledBelow h.pages h k → h.pages ≤ p → k.queue p ≡ []
    nothing p {k} t l = go (k.queue p) refl
      where
        go : (q : List WaitingAsk) → k.queue p ≡ q → q ≡ []
        go [] e = refl
        go (a ∷ q) e = absurd (let u = (t.sound.known p a.client (rw e (inl refl))).1 in let v = t.pages in omega arith)

    clear : (p : ℕ) {k : Server} → SettledBelow h.pages h k → (p < h.pages) ⊎ (h.pages ≤ p) → Clear (WaitsFor k) (k.queue p)
    clear p t (inl l) = t.clear p l
    clear p t (inr l) = rw (nothing p t l) tt

    stuck : (p : ℕ) {k : Server} → SettledBelow h.pages h k → (p < h.pages) ⊎ (h.pages ≤ p) → Stuck k p (k.queue p)
    stuck p t (inl l) = t.stuck p l
    stuck p t (inr l) = rw (nothing p t l) tt
