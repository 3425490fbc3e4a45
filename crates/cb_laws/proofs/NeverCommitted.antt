-- A transaction that its client was told was dropped or aborted is never committed, whatever comes after: no Commit of it was sent, and none will be.
use Rattle.std.proofs.Common.{List, Option, [], arith, inl, inr, refl, subst, sym, ℕ, ◌++◌, ◌+◌, ◌<◌, ◌∙◌, ◌∷◌, ◌≡◌, ◌≤◌, ◌⊎◌}
use Rattle.cb_protocol.proofs.LifeEvents.{packet_is_in, served}
use Rattle.cb_protocol.proofs.LifeImage.{Image, Life, SentBy, SentInLife, back, in_append, put_two}
use Rattle.cb_protocol.proofs.InvariantKept.{put_each}
use Rattle.cb_protocol.proofs.LivesProof.{Stands, life_of, stands_after}
use Rattle.cb_protocol.proofs.Machine.{Machine}
use Rattle.cb_protocol.proofs.ServerTakes.{right_again, right_flushes}
use Rattle.cb_protocol.specs.Answers.{AnswerWord, Taken}
use Rattle.cb_protocol.specs.Basics.{IsIn, Limits}
use Rattle.cb_protocol.specs.Cache.{Committing, Idle, Open}
use Rattle.cb_protocol.specs.Client.{Client, ClientStep, Committed, bodies_said, client_after, new_client}
use Rattle.cb_protocol.specs.ClientAlone.{ClientInput, ReceivesCall, ReceivesMessage}
use Rattle.cb_protocol.specs.ClientCalls.{client_call}
use Rattle.cb_protocol.specs.ClientMessages.{client_take}
use Rattle.cb_protocol.specs.Flush.{server_flush}
use Rattle.cb_protocol.specs.LivesWorld.{LeadsTo, Lives, LivesEvent, ServerRestarts, WithinLife, lives_step}
use Rattle.cb_protocol.specs.Messages.{Body, Commit, Message}
use Rattle.cb_protocol.specs.Resend.{server_again}
use Rattle.cb_protocol.specs.Server.{DeadlockTest}
use Rattle.cb_protocol.specs.ServerMessages.{server_take}
use Rattle.cb_protocol.specs.World.{ClientCalls, Event, Opening, TakePacket, World, client_does, messages_said, messages_sent, step}
use Rattle.cb_laws.proofs.AccountsKept.{Accounts, Tells, commits_of, tells_step}
use Rattle.cb_laws.proofs.EventTurns.{by_turns}
use Rattle.cb_laws.proofs.OutcomesNamed.{Begins, Current, EndsAs, Finishes, Stays, Turned}
use Rattle.cb_laws.proofs.OutcomesNamed.{call_turned, last_began, last_busy, last_finished}
use Rattle.cb_laws.proofs.OutcomesNamed.{last_idle, last_same, message_turned}
use Rattle.cb_laws.proofs.OutcomesStand.{Account, Asked, ends_busy, said_commit, sent_no_commit}
use Rattle.cb_laws.specs.Outcomes.{last_ended}

-- that transaction of a client's incarnation ended, and no Commit of it was sent
pub record Gone (c i t : ℕ) (v : World) : Type 0 where
  pub unsaid : (ws : _) → SentBy v c i (Commit t ws) → ⊥
  pub over : (i < v.incarnation c) ⊎ ((i ≡ v.incarnation c) × (t ≤ last_ended (v.client c)))

-- the transaction that ended last only rises
last_rises : (k l : Client) (i : ClientInput) (steps : List ClientStep) → Turned k i steps l → last_ended k ≤ last_ended l
last_rises k l i steps (Stays n s c) = let e = last_same k l s in omega (arith, e)
last_rises k l i steps (Begins n w a b c d e) = let q = last_began k l a b c in omega (arith, q)
last_rises k l i steps (Finishes n a b c d e) = let q = last_finished k l a b c in omega (arith, q)
last_rises k l i steps (EndsAs o x a b c d) = let p = last_busy k (ends_busy k i o x) in let q = last_idle l b in omega (arith, p, q, a)

-- who is committing has not ended that transaction
current_later : (l : Client) (t : ℕ) → 1 ≤ l.cache.number → Current l t → last_ended l < t
current_later l t one y = let e = last_busy l (λ q. let z : Idle ≡ Committing = sym q ∙ y.1 in absurd cc) in let p = y.0 in omega (arith, one, e, p)

-- nothing that is sent is a Commit, and no client changes
gone_stays : (c i t : ℕ) (v u : World) (new : List Message) → u.client ≡ v.client → u.incarnation ≡ v.incarnation → u.packets ≡ v.packets ++ new → ((ws : _) → IsIn (record { client = c; incarnation = i; body = Commit t ws }) new → ⊥) → Gone c i t v → Gone c i t u
gone_stays c i t v u new e f g n h = record {
  unsaid = λ ws j. elim (in_append _ v.packets new (subst (λ (fs : List Message). IsIn (record { client = c; incarnation = i; body = Commit t ws }) fs) g j)) [ inl k ↦ h.unsaid ws k | inr k ↦ n ws k ];
  over = subst (λ (k : ℕ → Client). (i < u.incarnation c) ⊎ ((i ≡ u.incarnation c) × (t ≤ last_ended (k c)))) (sym e) (subst (λ (j : ℕ → ℕ). (i < j c) ⊎ ((i ≡ j c) × (t ≤ last_ended (v.client c)))) (sym f) h.over);
}

-- a client acts
gone_acts : (c i t : ℕ) (L : Limits) (v : World) (e : Event) (d : ℕ) (word : AnswerWord) (x : ClientInput) (steps : List ClientStep) → Turned (v.client d) x steps (client_after L.keep_write (v.client d) steps)
    → (Current (client_after L.keep_write (v.client d) steps) t → 1 ≤ (client_after L.keep_write (v.client d) steps).cache.number) → Gone c i t v → Gone c i t (client_does L v e d word steps).world
gone_acts c i t L v e d word x steps turned one h = record {
  unsaid = λ ws j. elim (in_append _ v.packets (messages_said d (v.incarnation d) (bodies_said steps)) j) [
    | inl k ↦ h.unsaid ws k
    | inr k ↦ (let r = said_commit (Current l) d (v.incarnation d) c i t ws steps (commits_of (v.client d) l x steps turned) k in never r.0 r.1 r.2)
  ];
  over = put_each (λ b k. c ≡ b → (i < v.incarnation b) ⊎ ((i ≡ v.incarnation b) × (t ≤ last_ended k))) v.client d l
      (λ q. elim (at_client d q) [ inl y ↦ inl y | inr y ↦ inr (y.0, (let a = y.1 in let b = last_rises (v.client d) l x steps turned in omega (arith, a, b))) ])
      (λ b ne q. at_client b q) c refl;
}
  where
    l : Client
    l = client_after L.keep_write (v.client d) steps

    at_client : (b : ℕ) → c ≡ b → (i < v.incarnation b) ⊎ ((i ≡ v.incarnation b) × (t ≤ last_ended (v.client b)))
    at_client b q = subst (λ (z : ℕ). (i < v.incarnation z) ⊎ ((i ≡ v.incarnation z) × (t ≤ last_ended (v.client z)))) q h.over

    never : d ≡ c → v.incarnation d ≡ i → Current l t → ⊥
    never q r y = elim (at_client d (sym q)) [
      | inl z ↦ absurd (omega (arith, z, r))
      | inr z ↦ absurd (let a = z.1 in let b = last_rises (v.client d) l x steps turned in let f = current_later l t (one y) y in omega (arith, a, b, f))
    ]

-- who is committing has begun a transaction
current_counts : (Sent : Body → Type 0) (k l : Client) (i : ClientInput) (steps : List ClientStep) (t : ℕ) → Account Sent k → Turned k i steps l → Current l t → 1 ≤ l.cache.number
current_counts Sent k l i steps t h (Stays n s c) y = let b = (h.busy (λ q. let z : Idle ≡ Committing = sym q ∙ (sym s.status ∙ y.1) in absurd cc)).0 in let e = s.number in omega (arith, b, e)
current_counts Sent k l i steps t h (Begins n w a b c d e) y = omega (arith, b)
current_counts Sent k l i steps t h (Finishes n a b c d e) y = let q = (h.busy (λ q. let z : Idle ≡ Open = sym q ∙ a in absurd cc)).0 in omega (arith, q, b)
current_counts Sent k l i steps t h (EndsAs o x a b c d) y = absurd (let z : Idle ≡ Committing = sym b ∙ y.1 in cc)

-- each event within a life
gone_event : (c i t : ℕ) (L : Limits) (cycle : DeadlockTest) (b : Life) (v : World) (w : Machine) (e : Event) (let_go : Option ℕ) → Image L b v w → Accounts v → Gone c i t v → Gone c i t (step L cycle v e let_go).world
gone_event c i t L cycle b v w e let_go m a h = by_turns L cycle v e let_go (λ e u. Gone c i t u) (record {
  answered = λ e word. gone_stays c i t v _ [] refl refl refl (λ ws j. j) h;
  called = λ d x l. gone_acts c i t L v (ClientCalls d x) d (client_call L (v.client d) x).word (ReceivesCall x) (client_call L (v.client d) x).steps (call_turned L (v.client d) x)
      (λ y. current_counts (SentBy v d (v.incarnation d)) (v.client d) (client_after L.keep_write (v.client d) (client_call L (v.client d) x).steps) (ReceivesCall x) (client_call L (v.client d) x).steps t (a.each d) (call_turned L (v.client d) x) y) h;
  taken = λ n f j d s. gone_acts c i t L v (TakePacket n) f.client Taken (ReceivesMessage f.body let_go) (client_take L (v.client f.client) f.body let_go) (message_turned L (v.client f.client) f.body let_go)
      (λ y. current_counts (SentBy v f.client (v.incarnation f.client)) (v.client f.client) (client_after L.keep_write (v.client f.client) (client_take L (v.client f.client) f.body let_go)) (ReceivesMessage f.body let_go) (client_take L (v.client f.client) f.body let_go) t (a.each f.client) (message_turned L (v.client f.client) f.body let_go) y) h;
  served = λ n f j d. gone_stays c i t v _ (messages_sent (server_take cycle v.server f.client f.incarnation f.body)) refl refl refl (λ ws k. sent_no_commit (SentInLife b.floor v) v.server (server_take cycle v.server f.client f.incarnation f.body) c i t ws (served L cycle b v w f m (packet_is_in v.packets n f j)).0 k) h;
  again = gone_stays c i t v _ (messages_sent (server_again v.server)) refl refl refl (λ ws k. sent_no_commit (SentInLife b.floor v) v.server (server_again v.server) c i t ws (right_again (SentInLife b.floor v) v.server m.orderly).0 k) h;
  flushed = λ e n f. gone_stays c i t v _ (messages_sent (server_flush v.server n)) refl refl refl (λ ws k. sent_no_commit (SentInLife b.floor v) v.server (server_flush v.server n) c i t ws (right_flushes (SentInLife b.floor v) v.server n m.orderly).0 k) h;
  restarted = λ d l k. record {
    unsaid = λ ws j. h.unsaid ws (back _ v.packets j);
    over = put_two (λ b x n. c ≡ b → (i < n) ⊎ ((i ≡ n) × (t ≤ last_ended x))) v.client v.incarnation d new_client (v.incarnation d + 1)
        (λ q. inl (elim (at_client d q) [ inl y ↦ omega (arith, y) | inr y ↦ (let z = y.0 in omega (arith, z)) ])) (λ b ne q. at_client b q) c refl;
  };
})
  where
    at_client : (b : ℕ) → c ≡ b → (i < v.incarnation b) ⊎ ((i ≡ v.incarnation b) × (t ≤ last_ended (v.client b)))
    at_client b q = subst (λ (z : ℕ). (i < v.incarnation z) ⊎ ((i ≡ v.incarnation z) × (t ≤ last_ended (v.client z)))) q h.over

gone_step : (c i t : ℕ) (L : Limits) (cycle : DeadlockTest) (o : Opening) (lives : Lives) (e : LivesEvent) (let_go : Option ℕ) → Stands L o lives → Tells lives → Gone c i t lives.world → Gone c i t (lives_step L cycle lives e let_go).world
gone_step c i t L cycle o lives (WithinLife e) let_go h r g = gone_event c i t L cycle (life_of lives h.told) lives.world h.machine e let_go h.image r.accounts g
gone_step c i t L cycle o lives (ServerRestarts floor n) let_go h r g = record { unsaid = g.unsaid; over = g.over }

pub gone_along : (c i t : ℕ) (L : Limits) (cycle : DeadlockTest) (o : Opening) (es : List LivesEvent) (lives after : Lives) → LeadsTo L cycle lives es after → Stands L o lives → Tells lives → Gone c i t lives.world → Gone c i t after.world
gone_along c i t L cycle o [] lives after p h r g = subst (λ (x : Lives). Gone c i t x.world) p g
gone_along c i t L cycle o (e ∷ es) lives after p h r g = gone_along c i t L cycle o es (lives_step L cycle lives e p.0) after p.2 (stands_after L cycle o lives e p.0 p.1 h) (tells_step L cycle o lives e p.0 h r) (gone_step c i t L cycle o lives e p.0 h r g)

-- of the transaction of which a client was told so, no Commit was sent
pub told_gone : (v : World) (c : ℕ) → Accounts v → ((n : ℕ) → (v.client c).last_outcome ≡ Committed n → ⊥) → Gone c (v.incarnation c) (last_ended (v.client c)) v
told_gone v c a f = record { unsaid = λ ws j. unsaid ((a.each c).said (last_ended (v.client c)) ws j); over = inr (refl, omega arith) }
  where
    unsaid : Asked (v.client c) (last_ended (v.client c)) → ⊥
    unsaid q = elim q.1 [
      | inl y ↦ (let e = last_busy (v.client c) (λ r. let z : Idle ≡ Committing = sym r ∙ y.1 in absurd cc) in let p = y.0 in let one = q.0 in absurd (omega (arith, e, p, one)))
      | inr y ↦ (let r = y.1 refl in f r.0 r.1)
    ]
