-- The accounts of all clients, kept by each event over all lives; and what they say of the commits that count.
use Rattle.std.proofs.Common.{List, Option, [], ap, arith, inl, inr, refl, subst, sym, true, ℕ, ◌++◌, ◌+◌, ◌∙◌, ◌∷◌, ◌≡◌, ◌≤◌, ◌⊎◌}
use Rattle.cb_protocol.proofs.InvariantKept.{put_each}
use Rattle.cb_protocol.proofs.LifeEvents.{packet_is_in, served}
use Rattle.cb_protocol.proofs.LifeImage.{Image, Life, SentBy, SentInLife, back, in_append, in_left, in_right, put_two}
use Rattle.cb_protocol.proofs.LivesHistory.{survived}
use Rattle.cb_protocol.proofs.LivesProof.{Stands, life_of, promised, stands_after, stands_along, stands_first}
use Rattle.cb_protocol.proofs.Machine.{Machine}
use Rattle.cb_protocol.proofs.ServerTakes.{right_again, right_flushes}
use Rattle.cb_protocol.specs.AnyMessages.{committed_names}
use Rattle.cb_protocol.specs.Answers.{AnswerWord, Taken}
use Rattle.cb_protocol.specs.Basics.{IsIn, Limits}
use Rattle.cb_protocol.specs.Cache.{Committing, Idle}
use Rattle.cb_protocol.specs.Client.{Client, ClientStep, Committed, bodies_said, client_after, new_client}
use Rattle.cb_protocol.specs.ClientAlone.{ClientInput, ReceivesCall, ReceivesMessage}
use Rattle.cb_protocol.specs.ClientCalls.{client_call}
use Rattle.cb_protocol.specs.ClientMessages.{client_take}
use Rattle.cb_protocol.specs.Flush.{server_flush}
use Rattle.cb_protocol.specs.Lives.{LivesPromise, lives_commits}
use Rattle.cb_protocol.specs.LivesWorld.{LeadsTo, Lives, LivesEvent, ServerRestarts, WithinLife, commits_on_disk, first_life, lives_step}
use Rattle.cb_protocol.specs.Messages.{Body, Commit, Message, Welcome}
use Rattle.cb_protocol.specs.Resend.{server_again}
use Rattle.cb_protocol.specs.Serial.{EachOnce, TransactionName}
use Rattle.cb_protocol.specs.Server.{AppliedCommit, DeadlockTest}
use Rattle.cb_protocol.specs.ServerMessages.{server_take}
use Rattle.cb_protocol.specs.World.{ClientCalls, Event, Opening, TakePacket, World, client_does, messages_said, messages_sent, step}
use Rattle.cb_laws.proofs.CommitsAdded.{Adds, event_adds}
use Rattle.cb_laws.proofs.EventTurns.{by_turns}
use Rattle.cb_laws.proofs.HellosAnswered.{Sent, event_sent}
use Rattle.cb_laws.proofs.OutcomesNamed.{Begins, CommitsSaid, Current, EndsAs, Finishes, Stays}
use Rattle.cb_laws.proofs.OutcomesNamed.{Turned, call_turned, last_busy, message_turned}
use Rattle.cb_laws.proofs.OutcomesStand.{Account, Asked, CameAs, account_more, account_turned}
use Rattle.cb_laws.proofs.OutcomesStand.{call_welcome, message_welcome, said_commit, sent_no_commit}
use Rattle.cb_laws.proofs.OutcomesStand.{welcome_stays}
use Rattle.cb_laws.specs.Outcomes.{ClientsAreToldTheTruth, OutcomesAreTrue, last_ended}

-- of every client, and that who sent a Commit was welcomed
pub record Accounts (v : World) : Type 0 where
  pub each : (c : ℕ) → Account (SentBy v c (v.incarnation c)) (v.client c)
  pub asked : (c i t : ℕ) (ws : _) → SentBy v c i (Commit t ws) → SentBy v c i Welcome

-- nothing that is sent is a Commit, and no client changes
accounts_stay : (v u : World) (new : List Message) → u.client ≡ v.client → u.incarnation ≡ v.incarnation → u.packets ≡ v.packets ++ new → ((c i t : ℕ) (ws : _) → IsIn (record { client = c; incarnation = i; body = Commit t ws }) new → ⊥) → Accounts v → Accounts u
accounts_stay v u new e f g n h = record {
  each = λ c. subst (λ (k : ℕ → Client). Account (SentBy u c (u.incarnation c)) (k c)) (sym e) (subst (λ (i : ℕ → ℕ). Account (SentBy u c (i c)) (v.client c)) (sym f)
      (account_more (SentBy v c (v.incarnation c)) (SentBy u c (v.incarnation c)) (v.client c) (λ b. grow c (v.incarnation c) b) (λ t ws j. old c (v.incarnation c) t ws j) (h.each c)));
  asked = λ c i t ws j. grow c i Welcome (h.asked c i t ws (old c i t ws j));
}
  where
    grow : (c i : ℕ) (b : Body) → SentBy v c i b → SentBy u c i b
    grow c i b j = subst (λ (fs : List Message). IsIn (record { client = c; incarnation = i; body = b }) fs) (sym g) (in_left _ v.packets new j)

    old : (c i t : ℕ) (ws : _) → SentBy u c i (Commit t ws) → SentBy v c i (Commit t ws)
    old c i t ws j = elim (in_append _ v.packets new (subst (λ (fs : List Message). IsIn (record { client = c; incarnation = i; body = Commit t ws }) fs) g j)) [ inl k ↦ k | inr k ↦ absurd (n c i t ws k) ]

pub commits_of : (k l : Client) (i : ClientInput) (steps : List ClientStep) → Turned k i steps l → CommitsSaid (Current l) steps
commits_of k l i steps (Stays n s c) = c
commits_of k l i steps (Begins n w a b c d e) = e
commits_of k l i steps (Finishes n a b c d e) = e
commits_of k l i steps (EndsAs o x a b c d) = d

-- a client acts
accounts_act : (L : Limits) (v : World) (e : Event) (c : ℕ) (word : AnswerWord) (i : ClientInput) (steps : List ClientStep) → CameAs (SentBy v c (v.incarnation c)) i → Turned (v.client c) i steps (client_after L.keep_write (v.client c) steps)
    → ((client_after L.keep_write (v.client c) steps).cache.welcomed ≡ true → SentBy v c (v.incarnation c) Welcome) → Accounts v → Accounts (client_does L v e c word steps).world
accounts_act L v e c word i steps came turned wel h = record {
  each = put_each (λ d k. Account (SentBy u d (v.incarnation d)) k) v.client c l mine
      (λ d ne. account_more (SentBy v d (v.incarnation d)) (SentBy u d (v.incarnation d)) (v.client d) (λ b. grow d (v.incarnation d) b) (λ t ws j. elim (commits d (v.incarnation d) t ws j) [ inl x ↦ x | inr y ↦ absurd (ne (sym y.0)) ]) (h.each d));
  asked = λ d j t ws x. elim (commits d j t ws x) [
    | inl y ↦ grow d j Welcome (h.asked d j t ws y)
    | inr y ↦ subst (λ (z : ℕ). SentBy u z j Welcome) y.0 (subst (λ (z : ℕ). SentBy u c z Welcome) y.1 (mine.welcomed (mine.busy (λ q. let z : Idle ≡ Committing = sym q ∙ (y.2).1 in absurd cc)).1))
  ];
}
  where
    u : World
    u = (client_does L v e c word steps).world

    l : Client
    l = client_after L.keep_write (v.client c) steps

    new : List Message
    new = messages_said c (v.incarnation c) (bodies_said steps)

    grow : (d j : ℕ) (b : Body) → SentBy v d j b → SentBy u d j b
    grow d j b x = in_left _ v.packets new x

    commits : (d j t : ℕ) (ws : _) → SentBy u d j (Commit t ws) → SentBy v d j (Commit t ws) ⊎ ((c ≡ d) × (v.incarnation c ≡ j) × Current l t)
    commits d j t ws x = elim (in_append _ v.packets new x) [
      | inl y ↦ inl y
      | inr y ↦ inr (said_commit (Current l) c (v.incarnation c) d j t ws steps (commits_of (v.client c) l i steps turned) y)
    ]

    mine : Account (SentBy u c (v.incarnation c)) l
    mine = account_turned (SentBy v c (v.incarnation c)) (SentBy u c (v.incarnation c)) (v.client c) l i steps came (λ b. grow c (v.incarnation c) b)
        (λ t ws j. elim (commits c (v.incarnation c) t ws j) [ inl x ↦ inl x | inr y ↦ inr y.2 ]) (welcome_stays L.keep_write (v.client c) steps) (λ q. grow c (v.incarnation c) Welcome (wel q)) (h.each c) turned

-- each event within a life
pub accounts_event : (L : Limits) (cycle : DeadlockTest) (b : Life) (v : World) (w : Machine) (e : Event) (let_go : Option ℕ) → Image L b v w → ((f : Message) → IsIn f v.packets → f.incarnation ≤ v.incarnation f.client) → Accounts v → Accounts (step L cycle v e let_go).world
accounts_event L cycle b v w e let_go m past h = by_turns L cycle v e let_go (λ e u. Accounts u) (record {
  answered = λ e word. accounts_stay v _ [] refl refl refl (λ c i t ws j. j) h;
  called = λ c x l. accounts_act L v (ClientCalls c x) c (client_call L (v.client c) x).word (ReceivesCall x) (client_call L (v.client c) x).steps tt (call_turned L (v.client c) x) (λ q. (h.each c).welcomed (call_welcome L (v.client c) x q)) h;
  taken = λ n f i d s. (let came : SentBy v f.client (v.incarnation f.client) f.body = subst (λ (j : ℕ). SentBy v f.client j f.body) s (packet_is_in v.packets n f i) in
      accounts_act L v (TakePacket n) f.client Taken (ReceivesMessage f.body let_go) (client_take L (v.client f.client) f.body let_go) came (message_turned L (v.client f.client) f.body let_go)
      (λ q. elim (message_welcome L (v.client f.client) f.body let_go q) [ inl x ↦ (h.each f.client).welcomed x | inr x ↦ subst (λ (y : Body). SentBy v f.client (v.incarnation f.client) y) x came ]) h);
  served = λ n f i d. accounts_stay v _ (messages_sent (server_take cycle v.server f.client f.incarnation f.body)) refl refl refl (λ c j t ws k. sent_no_commit (SentInLife b.floor v) v.server (server_take cycle v.server f.client f.incarnation f.body) c j t ws (served L cycle b v w f m (packet_is_in v.packets n f i)).0 k) h;
  again = accounts_stay v _ (messages_sent (server_again v.server)) refl refl refl (λ c j t ws k. sent_no_commit (SentInLife b.floor v) v.server (server_again v.server) c j t ws (right_again (SentInLife b.floor v) v.server m.orderly).0 k) h;
  flushed = λ e n f. accounts_stay v _ (messages_sent (server_flush v.server n)) refl refl refl (λ c j t ws k. sent_no_commit (SentInLife b.floor v) v.server (server_flush v.server n) c j t ws (right_flushes (SentInLife b.floor v) v.server n m.orderly).0 k) h;
  restarted = λ c l k. record {
    each = put_two (λ d x i. Account (λ y. IsIn (record { client = d; incarnation = i; body = y }) (v.packets ++ [])) x) v.client v.incarnation c new_client (v.incarnation c + 1)
        (record { busy = λ u. absurd (u refl); told = λ n q. absurd cc; said = λ t ws j. absurd (let z = past _ (back _ v.packets j) in omega (arith, z)); welcomed = λ q. absurd cc; nothing = (λ q. refl, λ q. refl) })
        (λ d ne. account_more (SentBy v d (v.incarnation d)) (λ y. IsIn (record { client = d; incarnation = v.incarnation d; body = y }) (v.packets ++ [])) (v.client d) (λ y j. in_left _ v.packets [] j) (λ t ws j. back _ v.packets j) (h.each d));
    asked = λ d i t ws j. in_left _ v.packets [] (h.asked d i t ws (back _ v.packets j));
  };
})

-- over all lives: the accounts, and that each commit that counts was asked for
pub record Tells (lives : Lives) : Type 0 where
  pub accounts : Accounts lives.world
  pub commits : (x : AppliedCommit) → IsIn x (lives_commits lives) → SentBy lives.world x.client x.incarnation (Commit x.txn x.writes)

pub tells_first : (L : Limits) (o : Opening) → Tells (first_life L o)
tells_first L o = record {
  accounts = record {
    each = λ c. record { busy = λ u. absurd (u refl); told = λ n q. absurd cc; said = λ t ws j. absurd j; welcomed = λ q. absurd cc; nothing = (λ q. refl, λ q. refl) };
    asked = λ c i t ws j. absurd j;
  };
  commits = λ x i. absurd i;
}

pub tells_step : (L : Limits) (cycle : DeadlockTest) (o : Opening) (lives : Lives) (e : LivesEvent) (let_go : Option ℕ) → Stands L o lives → Tells lives → Tells (lives_step L cycle lives e let_go)
tells_step L cycle o lives (WithinLife e) let_go h t = record {
  accounts = accounts_event L cycle (life_of lives h.told) lives.world h.machine e let_go h.image h.spoken.past t.accounts;
  commits = λ x i. elim (in_append x u.server.commits lives.former i) [
    | inl j ↦ elim (in_append x a.added lives.world.server.commits (subst (λ (xs : List AppliedCommit). IsIn x xs) a.commits j)) [
      | inl k ↦ grow x (a.asked x k).1
      | inr k ↦ grow x (t.commits x (in_left x lives.world.server.commits lives.former k))
    ]
    | inr j ↦ grow x (t.commits x (in_right x lives.world.server.commits lives.former j))
  ];
}
  where
    u : World
    u = (step L cycle lives.world e let_go).world

    a : Adds (SentInLife lives.floor lives.world) lives.world.server.store.last_commit lives.world.server.commits (step L cycle lives.world e let_go).world.server.commits
    a = event_adds L cycle (life_of lives h.told) lives.world h.machine e let_go h.image

    s : Sent lives.world e (step L cycle lives.world e let_go).world
    s = event_sent L cycle lives.world e let_go

    grow : (x : AppliedCommit) → SentBy lives.world x.client x.incarnation (Commit x.txn x.writes) → SentBy (step L cycle lives.world e let_go).world x.client x.incarnation (Commit x.txn x.writes)
    grow x j = subst (λ (fs : List Message). IsIn (record { client = x.client; incarnation = x.incarnation; body = Commit x.txn x.writes }) fs) (sym s.grows) (in_left _ lives.world.packets s.sent j)
tells_step L cycle o lives (ServerRestarts floor n) let_go h t = record {
  accounts = record { each = t.accounts.each; asked = t.accounts.asked };
  commits = λ x i. elim (in_append x (commits_on_disk lives.world.server n) lives.former i) [
    | inl j ↦ t.commits x (in_left x lives.world.server.commits lives.former (survived n lives.world.server.commits x j))
    | inr j ↦ t.commits x (in_right x lives.world.server.commits lives.former j)
  ];
}

pub tells_along : (L : Limits) (cycle : DeadlockTest) (o : Opening) (es : List LivesEvent) (lives after : Lives) → LeadsTo L cycle lives es after → Stands L o lives → Tells lives → Tells after
tells_along L cycle o [] lives after p h t = subst (λ (x : Lives). Tells x) p t
tells_along L cycle o (e ∷ es) lives after p h t = tells_along L cycle o es (lives_step L cycle lives e p.0) after p.2 (stands_after L cycle o lives e p.0 p.1 h) (tells_step L cycle o lives e p.0 h t)

-- two commits of one transaction are one
named : (xs : List AppliedCommit) (y : AppliedCommit) (n : TransactionName) → IsIn y xs → y.client ≡ n.client → y.incarnation ≡ n.incarnation → y.txn ≡ n.txn → IsIn n (committed_names xs)
named [] y n i a b c = absurd i
named (z ∷ xs) y n i a b c = elim i [
  | inl e ↦ inl (λ j. record { client = (ap (λ (q : AppliedCommit). q.client) e ∙ a) j; incarnation = (ap (λ (q : AppliedCommit). q.incarnation) e ∙ b) j; txn = (ap (λ (q : AppliedCommit). q.txn) e ∙ c) j })
  | inr k ↦ inr (named xs y n k a b c)
]

one_number : (xs : List AppliedCommit) → EachOnce (committed_names xs) → (x y : AppliedCommit) → IsIn x xs → IsIn y xs → y.client ≡ x.client → y.incarnation ≡ x.incarnation → y.txn ≡ x.txn → y.number ≡ x.number
one_number [] h x y i j a b c = absurd i
one_number (z ∷ xs) h x y i j a b c = elim i [
  | inl e ↦ elim j [
    | inl f ↦ sym (ap (λ (q : AppliedCommit). q.number) f) ∙ ap (λ (q : AppliedCommit). q.number) e
    | inr f ↦ absurd (h.0 (named xs y _ f (a ∙ sym (ap (λ (q : AppliedCommit). q.client) e)) (b ∙ sym (ap (λ (q : AppliedCommit). q.incarnation) e)) (c ∙ sym (ap (λ (q : AppliedCommit). q.txn) e))))
  ]
  | inr e ↦ elim j [
    | inl f ↦ absurd (h.0 (named xs x _ e (sym a ∙ sym (ap (λ (q : AppliedCommit). q.client) f)) (sym b ∙ sym (ap (λ (q : AppliedCommit). q.incarnation) f)) (sym c ∙ sym (ap (λ (q : AppliedCommit). q.txn) f))))
    | inr f ↦ one_number xs h.1 x y e f a b c
  ]
]

-- what clients were told is true
pub outcomes_true : (L : Limits) (o : Opening) (lives : Lives) → Stands L o lives → Tells lives → OutcomesAreTrue lives
outcomes_true L o lives h t = record {
  committed = λ c n e. p.dones.committed c (lives.world.incarnation c) (last_ended (lives.world.client c)) n ((t.accounts.each c).told n e);
  on_disk = λ c n e. p.dones.on_disk c (lives.world.incarnation c) (last_ended (lives.world.client c)) n ((t.accounts.each c).told n e);
  told = λ x i e q. told x i e q;
  nothing = λ c. (t.accounts.each c).nothing;
  counted = λ c. (sym (h.image.restarts c), sym (h.image.begins c));
  welcomed = λ c e. (t.accounts.each c).welcomed e;
}
  where
    p : LivesPromise o lives
    p = promised L o lives h

    told : (x : AppliedCommit) → IsIn x (lives_commits lives) → x.incarnation ≡ lives.world.incarnation x.client → x.txn ≡ last_ended (lives.world.client x.client) → (lives.world.client x.client).last_outcome ≡ Committed x.number
    told x i e q = elim a.1 [
      | inl y ↦ absurd (let z = last_busy k (λ r. let s : Idle ≡ Committing = sym r ∙ y.1 in absurd cc) in let s = a.0 in let r = y.0 in omega (arith, z, s, r, q))
      | inr y ↦ (let r = y.1 q in let d = p.dones.committed x.client (lives.world.incarnation x.client) (last_ended k) r.0 ((t.accounts.each x.client).told r.0 r.1) in
          r.1 ∙ ap (λ (n : ℕ). Committed n) (sym d.5 ∙ one_number (lives_commits lives) p.once x d.0 i d.1 d.2 (d.3 ∙ sym e) (d.4 ∙ sym q)))
    ]
      where
        k : Client
        k = lives.world.client x.client

        a : Asked (lives.world.client x.client) x.txn
        a = (t.accounts.each x.client).said x.txn x.writes (subst (λ (j : ℕ). SentBy lives.world x.client j (Commit x.txn x.writes)) e (t.commits x i))

pub told_the_truth : (L : Limits) (cycle : DeadlockTest) → ClientsAreToldTheTruth L cycle
told_the_truth L cycle o es lives s p = outcomes_true L o lives (stands_along L cycle o es (first_life L o) lives p (stands_first L o s)) (tells_along L cycle o es (first_life L o) lives p (stands_first L o s) (tells_first L o))
