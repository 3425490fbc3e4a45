-- What each event of the world over all lives keeps and sends, and that what is on disk stands for ever.
use Rattle.std.proofs.Common.{Bool, List, [], ap, arith, false, if◌then◌else◌, inl, inr, nat_le, refl, subst, sym, true, ℕ, ◌++◌, ◌<◌, ◌∙◌, ◌∷◌, ◌≡◌, ◌≤◌}
use Rattle.cb_protocol.proofs.Cases.{serves_no_old_hello}
use Rattle.cb_protocol.proofs.LifeImage.{SentBy, SentInLife, in_append, in_left, in_right}
use Rattle.cb_protocol.proofs.LifeSends.{Sends, event_sends}
use Rattle.cb_protocol.proofs.LivesHistory.{survives}
use Rattle.cb_protocol.proofs.LivesProof.{Ends, Stands, ended_numbers, ends, life_of, nothing_of, promised, stands_after, stands_along, stands_first}
use Rattle.cb_protocol.specs.AnyMessages.{IsCommit, Numbered}
use Rattle.cb_protocol.specs.Answers.{Taken}
use Rattle.cb_protocol.specs.Basics.{IsIn, Limits}
use Rattle.cb_protocol.specs.Headline.{DoneSent, SoundOpening}
use Rattle.cb_protocol.specs.Lives.{lives_commits, welcome_to}
use Rattle.cb_laws.proofs.AccountsKept.{Tells, tells_along, tells_first}
use Rattle.cb_laws.proofs.CommitsAdded.{Adds, event_adds}
use Rattle.cb_laws.proofs.NeverCommitted.{Gone, gone_along, told_gone}
use Rattle.cb_laws.proofs.HellosAnswered.{Sent, event_sent, hello_greeted, hello_served}
use Rattle.cb_laws.proofs.HellosAnswered.{same_behind}
use Rattle.cb_laws.specs.LivesEvents.{DiskStandsForEver, EventsKeepTheirLife, EventsSendInTheirLife}
use Rattle.cb_laws.specs.LivesEvents.{LosesAbove, RestartsLeaveTheDisk, TakesHello}
use Rattle.cb_laws.specs.Outcomes.{last_ended}
use Rattle.cb_protocol.specs.LivesWorld.{LeadsTo, Lives, LivesEvent, LivesEventAllowed, Reaches, ServerRestarts, WithinLife, commits_on_disk, commits_up_to, first_life, lives_step}
use Rattle.cb_protocol.specs.Messages.{Commit, Hello, Message}
use Rattle.cb_protocol.specs.Client.{Aborted, Committed, Dropped}
use Rattle.cb_protocol.specs.Server.{AppliedCommit, DeadlockTest, server_after}
use Rattle.cb_protocol.specs.ServerMessages.{server_take}
use Rattle.cb_protocol.specs.World.{Event, Opening, TakePacket, World, messages_sent, server_does, step}

-- a commit's number is at most the last
numbered_up_to : (first last : ℕ) (xs : List AppliedCommit) → Numbered first xs last → (x : AppliedCommit) → IsIn x xs → x.number ≤ last
numbered_up_to first last [] h x i = absurd i
numbered_up_to first last (y ∷ xs) h x i = elim i [
  | inl e ↦ (let q = ap (λ (z : AppliedCommit). z.number) e in let k = h.0 in omega (arith, q, k))
  | inr j ↦ (let l = numbered_up_to first h.1.0 xs h.1.2 x j in let k = h.1.1 in omega (arith, l, k))
]

-- what a number cuts off
cut : (n : ℕ) (xs : List AppliedCommit) → (lost : List AppliedCommit) × (xs ≡ lost ++ commits_up_to n xs) × ((x : AppliedCommit) → IsIn x lost → n < x.number)
cut n [] = ([], refl, λ x i. absurd i)
cut n (y ∷ xs) = go (nat_le y.number n) refl (cut n xs)
  where
    above : nat_le y.number n ≡ false → (x : AppliedCommit) → y ≡ x → n < x.number
    above e x q = let z = ap (λ (c : AppliedCommit). c.number) q in let l : n < y.number = grind arith in omega (arith, z, l)

    go : (r : Bool) → nat_le y.number n ≡ r → (lost : List AppliedCommit) × (xs ≡ lost ++ commits_up_to n xs) × ((x : AppliedCommit) → IsIn x lost → n < x.number)
        → (lost : List AppliedCommit) × (y ∷ xs ≡ lost ++ (if r then y ∷ xs else commits_up_to n xs)) × ((x : AppliedCommit) → IsIn x lost → n < x.number)
    go true e h = ([], refl, λ x i. absurd i)
    go false e h = (y ∷ h.0, ap (λ (zs : List AppliedCommit). y ∷ zs) h.1, λ x i. elim i [ inl q ↦ above e x q | inr j ↦ h.2 x j ])

append_assoc_of : (xs ys zs : List AppliedCommit) → (xs ++ ys) ++ zs ≡ xs ++ (ys ++ zs)
append_assoc_of [] ys zs = refl
append_assoc_of (x ∷ xs) ys zs = ap (λ (l : List AppliedCommit). x ∷ l) (append_assoc_of xs ys zs)

-- a restart loses what is above the number, and nothing else
loses : (L : Limits) (first : Opening) (lives : Lives) (n : ℕ) → Stands L first lives → lives.world.server.flushed ≤ n → n ≤ lives.world.server.store.last_commit
    → LosesAbove n (lives_commits lives) (commits_on_disk lives.world.server n ++ lives.former)
loses L first lives n r a b = record {
  lost = c.0;
  all = ap (λ (xs : List AppliedCommit). xs ++ lives.former) c.1 ∙ append_assoc_of c.0 (commits_on_disk lives.world.server n) lives.former;
  above = c.2;
  up_to = λ x i. elim (in_append x (commits_on_disk lives.world.server n) lives.former i) [
    | inl j ↦ numbered_up_to lives.opening.number n (commits_on_disk lives.world.server n) (ended_numbers L lives r.told r.machine n r.image (record { reported = a; made = b })) x j
    | inr j ↦ (let l = numbered_up_to first.number lives.opening.number lives.former r.left.numbered x j in let o = r.image.opened in omega (arith, l, o, a))
  ];
}
  where
    c : (lost : List AppliedCommit) × (lives.world.server.commits ≡ lost ++ commits_up_to n lives.world.server.commits) × ((x : AppliedCommit) → IsIn x lost → n < x.number)
    c = cut n lives.world.server.commits

reached : (L : Limits) (cycle : DeadlockTest) (o : Opening) (es : List LivesEvent) (lives : Lives) → SoundOpening o → Reaches L cycle o es lives → Stands L o lives
reached L cycle o es lives s p = stands_along L cycle o es (first_life L o) lives p (stands_first L o s)

pub restarts_leave : (L : Limits) (cycle : DeadlockTest) → RestartsLeaveTheDisk L cycle
restarts_leave L cycle o es lives floor n let_go s p a = record {
  packets = refl;
  client = refl;
  incarnation = refl;
  transcript = refl;
  heeds = refl;
  hellos = e.sent;
  unwelcomed = e.fresh;
  commits = loses L o lives n h a.1.reported a.1.made;
  own = refl;
  last = refl;
  flushed = refl;
  nothing = nothing_of L _ floor;
  fits = record { clients = refl; pages = refl; keep_write = refl };
  opening = refl;
}
  where
    h : Stands L o lives
    h = reached L cycle o es lives s p

    e : Ends L lives h.told h.machine floor
    e = ends L lives h.told h.machine floor h.image a.0

pub events_send : (L : Limits) (cycle : DeadlockTest) → EventsSendInTheirLife L cycle
events_send L cycle o es lives e let_go s p a = record {
  sent = r.sent;
  grows = r.grows;
  by_client = r.by_client;
  by_server = r.by_server;
  answered = λ c i t l. answered c i t l;
  older = λ c i t l. older c i t l;
  welcome = λ c i j. q.welcomes c i (subst (λ (fs : List Message). IsIn (welcome_to c i) fs) (same_behind lives.world.packets r.sent q.sent (sym r.grows ∙ q.grows)) j);
}
  where
    v : World
    v = lives.world

    u : World
    u = (step L cycle lives.world e let_go).world

    h : Stands L o lives
    h = reached L cycle o es lives s p

    r : Sends L.clients lives.floor lives.world (step L cycle lives.world e let_go).world
    r = event_sends L cycle (life_of lives h.told) lives.world h.machine e let_go h.image h.spoken

    q : Sent lives.world e (step L cycle lives.world e let_go).world
    q = event_sent L cycle lives.world e let_go

    -- the world after a Hello is taken
    taken : (c i : ℕ) → (t : TakesHello lives e c i) → u ≡ (server_does v (TakePacket t.0) Taken (server_take cycle v.server c i Hello)).world
    taken c i t = ap (λ (x : Event). (step L cycle v x let_go).world) t.1 ∙ hello_served L cycle v t.0 c i let_go t.2

    answered : (c i : ℕ) → TakesHello lives e c i → (v.server.session c).current ≤ i → IsIn (welcome_to c i) r.sent × ((u.server.session c).current ≡ i)
    answered c i t l = let g = hello_greeted cycle v.server c i l in (
      subst (λ (fs : List Message). IsIn (welcome_to c i) fs) (same_behind v.packets (messages_sent (server_take cycle v.server c i Hello)) r.sent (sym (ap (λ (x : World). x.packets) (taken c i t)) ∙ r.grows)) g.welcome,
      ap (λ (x : World). (x.server.session c).current) (taken c i t) ∙ g.current,
    )

    older : (c i : ℕ) → TakesHello lives e c i → i < (v.server.session c).current → (r.sent ≡ []) × (u.server ≡ v.server)
    older c i t l = (
      same_behind v.packets r.sent (messages_sent (server_take cycle v.server c i Hello)) (sym r.grows ∙ ap (λ (x : World). x.packets) (taken c i t)) ∙ ap messages_sent (serves_no_old_hello cycle v.server c i l),
      ap (λ (x : World). x.server) (taken c i t) ∙ ap (server_after v.server) (serves_no_old_hello cycle v.server c i l),
    )

tells_reached : (L : Limits) (cycle : DeadlockTest) (o : Opening) (es : List LivesEvent) (lives : Lives) → SoundOpening o → Reaches L cycle o es lives → Tells lives
tells_reached L cycle o es lives s p = tells_along L cycle o es (first_life L o) lives p (stands_first L o s) (tells_first L o)

pub events_keep : (L : Limits) (cycle : DeadlockTest) → EventsKeepTheirLife L cycle
events_keep L cycle o es lives e let_go s p a = record {
  world = refl;
  floor = refl;
  opening = refl;
  former = refl;
  added = c.added;
  commits = c.commits;
  made = λ x i. (let y = c.asked x i in record { later = c.later x i; of_life = y.0; welcomed = t.accounts.asked x.client x.incarnation x.txn x.writes y.1; asked = y.1 });
  incarnation = r.rises;
}
  where
    h : Stands L o lives
    h = reached L cycle o es lives s p

    t : Tells lives
    t = tells_reached L cycle o es lives s p

    r : Sends L.clients lives.floor lives.world (step L cycle lives.world e let_go).world
    r = event_sends L cycle (life_of lives h.told) lives.world h.machine e let_go h.image h.spoken

    c : Adds (SentInLife lives.floor lives.world) lives.world.server.store.last_commit lives.world.server.commits (step L cycle lives.world e let_go).world.server.commits
    c = event_adds L cycle (life_of lives h.told) lives.world h.machine e let_go h.image

-- what a step keeps of packets and of the commits on disk
record Keeps (lives after : Lives) : Type 0 where
  packets : (f : Message) → IsIn f lives.world.packets → IsIn f after.world.packets
  flushed : lives.world.server.flushed ≤ after.world.server.flushed
  commits : (x : AppliedCommit) → IsIn x (lives_commits lives) → x.number ≤ lives.world.server.flushed → IsIn x (lives_commits after)

keeps_all : (lives : Lives) → Keeps lives lives
keeps_all lives = record { packets = λ f i. i; flushed = omega arith; commits = λ x i l. i }

keeps_more : (a b c : Lives) → Keeps a b → Keeps b c → Keeps a c
keeps_more a b c h k = record {
  packets = λ f i. k.packets f (h.packets f i);
  flushed = let l = h.flushed in let m = k.flushed in omega (arith, l, m);
  commits = λ x i l. k.commits x (h.commits x i l) (let m = h.flushed in omega (arith, l, m));
}

keeps_step : (L : Limits) (cycle : DeadlockTest) (o : Opening) (lives : Lives) (e : LivesEvent) (let_go : _) → LivesEventAllowed L lives e let_go → Stands L o lives → Keeps lives (lives_step L cycle lives e let_go)
keeps_step L cycle o lives (WithinLife e) let_go a h = record {
  packets = λ f i. subst (λ (fs : List Message). IsIn f fs) (sym r.grows) (in_left f lives.world.packets r.sent i);
  flushed = r.flushed;
  commits = λ x i l. elim (in_append x lives.world.server.commits lives.former i) [
    | inl j ↦ in_left x v.server.commits lives.former (r.commits x j)
    | inr j ↦ in_right x v.server.commits lives.former j
  ];
}
  where
    v : World
    v = (step L cycle lives.world e let_go).world

    r : Sends L.clients lives.floor lives.world (step L cycle lives.world e let_go).world
    r = event_sends L cycle (life_of lives h.told) lives.world h.machine e let_go h.image h.spoken
keeps_step L cycle o lives (ServerRestarts floor n) let_go a h = record {
  packets = λ f i. i;
  flushed = a.1.reported;
  commits = λ x i l. elim (in_append x lives.world.server.commits lives.former i) [
    | inl j ↦ in_left x (commits_on_disk lives.world.server n) lives.former (survives n lives.world.server.commits x j (let k = a.1.reported in omega (arith, k, l)))
    | inr j ↦ in_right x (commits_on_disk lives.world.server n) lives.former j
  ];
}

keeps_along : (L : Limits) (cycle : DeadlockTest) (o : Opening) (es : List LivesEvent) (lives after : Lives) → LeadsTo L cycle lives es after → Stands L o lives → Keeps lives after
keeps_along L cycle o [] lives after p h = subst (λ (x : Lives). Keeps lives x) p (keeps_all lives)
keeps_along L cycle o (e ∷ es) lives after p h =
    let b : Lives = lives_step L cycle lives e p.0 in
    keeps_more lives b after (keeps_step L cycle o lives e p.0 p.1 h) (keeps_along L cycle o es b after p.2 (stands_after L cycle o lives e p.0 p.1 h))

pub disk_stands : (L : Limits) (cycle : DeadlockTest) → DiskStandsForEver L cycle
disk_stands L cycle o es later lives after s p q = record {
  dones = dones;
  told = λ c n e. dones c (lives.world.incarnation c) (last_ended (lives.world.client c)) n ((t.accounts.each c).told n e);
  gone = λ c n e d. never c (λ x f. elim e [ inl y ↦ (let z : Dropped ≡ Committed x = sym y ∙ f in cc) | inr y ↦ (let z : Aborted ≡ Committed x = sym y ∙ f in cc) ]) n d;
  flushed = k.commits;
}
  where
    h : Stands L o lives
    h = reached L cycle o es lives s p

    k : Keeps lives after
    k = keeps_along L cycle o later lives after q h

    t : Tells lives
    t = tells_reached L cycle o es lives s p

    dones : (c i t n : ℕ) → DoneSent lives.world c i t n → IsCommit (lives_commits after) c i t n
    dones c i t n x = (promised L o after (stands_along L cycle o later lives after q h)).dones.committed c i t n (k.packets _ x)

    never : (c : ℕ) → ((x : ℕ) → (lives.world.client c).last_outcome ≡ Committed x → ⊥) → (n : ℕ) → IsCommit (lives_commits after) c (lives.world.incarnation c) (last_ended (lives.world.client c)) n → ⊥
    never c f n d = gone.unsaid d.0.writes (subst (λ (x : ℕ). SentBy after.world x (lives.world.incarnation c) (Commit (last_ended (lives.world.client c)) d.0.writes)) d.2
        (subst (λ (x : ℕ). SentBy after.world d.0.client x (Commit (last_ended (lives.world.client c)) d.0.writes)) d.3
        (subst (λ (x : ℕ). SentBy after.world d.0.client d.0.incarnation (Commit x d.0.writes)) d.4 ((tells_along L cycle o later lives after q h t).commits d.0 d.1))))
      where
        gone : Gone c (lives.world.incarnation c) (last_ended (lives.world.client c)) after.world
        gone = gone_along c (lives.world.incarnation c) (last_ended (lives.world.client c)) L cycle o later lives after q h t (told_gone lives.world c t.accounts f)
