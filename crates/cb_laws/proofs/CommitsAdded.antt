-- What an event within a life adds to the commits: each new one was asked for before, by a client that had been welcomed.
use Rattle.std.proofs.Common.{List, Option, [], ap, arith, inl, inr, refl, subst, ℕ, ◌++◌, ◌+◌, ◌<◌, ◌∙◌, ◌∷◌, ◌≡◌, ◌≤◌}
use Rattle.cb_protocol.proofs.LifeEvents.{packet_is_in, served}
use Rattle.cb_protocol.proofs.LifeImage.{Image, Life, SentInLife, in_append}
use Rattle.cb_protocol.proofs.Machine.{Machine}
use Rattle.cb_protocol.proofs.ServerOrder.{ServerStepsMay}
use Rattle.cb_protocol.proofs.ServerTakes.{right_again, right_flushes}
use Rattle.cb_protocol.specs.Basics.{IsIn, Limits}
use Rattle.cb_protocol.specs.Flush.{server_flush}
use Rattle.cb_protocol.specs.Messages.{Body, Commit}
use Rattle.cb_protocol.specs.Resend.{server_again}
use Rattle.cb_protocol.specs.Server.{AppliedCommit, ChangeSession, DeadlockTest, Doom, EnterQueue, ForgetTransaction, LeaveQueue, MarkCalledBack, MarkDowngradeSent, MarkInUse, RemoveAsk, Send, Server, ServerStep, SetFlushed, UnmarkInUse, after_server_step, server_after}
use Rattle.cb_protocol.specs.ServerMessages.{server_take}
use Rattle.cb_protocol.specs.Session.{Admit, ApplyCommit, BeginTransaction, DropTransaction, EndPermission, GrantRow, PermitWrite, RemoveRow}
use Rattle.cb_protocol.specs.World.{Event, World, step}
use Rattle.cb_laws.proofs.EventTurns.{by_turns}

-- what steps add to the commits; `Came`: that message came
pub record Adds (Came : ℕ → ℕ → Body → Type 0) (last : ℕ) (before after : List AppliedCommit) : Type 0 where
  pub added : List AppliedCommit
  pub commits : after ≡ added ++ before
  pub later : (x : AppliedCommit) → IsIn x added → last < x.number
  pub asked : (x : AppliedCommit) → IsIn x added → Came x.client x.incarnation (Commit x.txn x.writes)

adds_none : (Came : ℕ → ℕ → Body → Type 0) (last : ℕ) (xs : List AppliedCommit) → Adds Came last xs xs
adds_none Came last xs = record { added = []; commits = refl; later = λ x i. absurd i; asked = λ x i. absurd i }

middle : (xs ys : List AppliedCommit) (y : AppliedCommit) → xs ++ (y ∷ ys) ≡ (xs ++ y ∷ []) ++ ys
middle [] ys y = refl
middle (x ∷ xs) ys y = ap (λ (l : List AppliedCommit). x ∷ l) (middle xs ys y)

-- one that is new, and what comes behind it
adds_one : (Came : ℕ → ℕ → Body → Type 0) (last next : ℕ) (y : AppliedCommit) (before after : List AppliedCommit) → last < y.number → last ≤ next → Came y.client y.incarnation (Commit y.txn y.writes) → Adds Came next (y ∷ before) after → Adds Came last before after
adds_one Came last next y before after l k c a = record {
  added = a.added ++ y ∷ [];
  commits = a.commits ∙ middle a.added before y;
  later = λ x i. elim (in_append x a.added (y ∷ []) i) [
    | inl j ↦ (let z = a.later x j in omega (arith, z, k))
    | inr j ↦ elim j [ inl e ↦ subst (λ (z : AppliedCommit). last < z.number) e l | inr z ↦ absurd z ]
  ];
  asked = λ x i. elim (in_append x a.added (y ∷ []) i) [
    | inl j ↦ a.asked x j
    | inr j ↦ elim j [ inl e ↦ subst (λ (z : AppliedCommit). Came z.client z.incarnation (Commit z.txn z.writes)) e c | inr z ↦ absurd z ]
  ];
}

-- the steps of a server add those alone whose Commit came
pub steps_add : (Came : ℕ → ℕ → Body → Type 0) (s : Server) (ds : List ServerStep) → ServerStepsMay Came s ds → Adds Came s.store.last_commit s.commits (server_after s ds).commits
steps_add Came s [] a = adds_none Came s.store.last_commit s.commits
steps_add Came s (ChangeSession c (ApplyCommit t ws) ∷ ds) a = adds_one Came s.store.last_commit (s.store.last_commit + 1) (record { client = c; incarnation = (s.session c).current; txn = t; number = s.store.last_commit + 1; writes = ws }) s.commits (server_after (after_server_step s (ChangeSession c (ApplyCommit t ws))) ds).commits
    (omega arith) (omega arith) a.0.0.0 (steps_add Came (after_server_step s (ChangeSession c (ApplyCommit t ws))) ds a.1)
steps_add Came s (ChangeSession c (Admit i) ∷ ds) a = steps_add Came (after_server_step s (ChangeSession c (Admit i))) ds a.1
steps_add Came s (ChangeSession c (BeginTransaction t) ∷ ds) a = steps_add Came (after_server_step s (ChangeSession c (BeginTransaction t))) ds a.1
steps_add Came s (ChangeSession c (DropTransaction t) ∷ ds) a = steps_add Came (after_server_step s (ChangeSession c (DropTransaction t))) ds a.1
steps_add Came s (ChangeSession c (GrantRow p g) ∷ ds) a = steps_add Came (after_server_step s (ChangeSession c (GrantRow p g))) ds a.1
steps_add Came s (ChangeSession c (PermitWrite p g) ∷ ds) a = steps_add Came (after_server_step s (ChangeSession c (PermitWrite p g))) ds a.1
steps_add Came s (ChangeSession c (RemoveRow p g) ∷ ds) a = steps_add Came (after_server_step s (ChangeSession c (RemoveRow p g))) ds a.1
steps_add Came s (ChangeSession c (EndPermission p g t) ∷ ds) a = steps_add Came (after_server_step s (ChangeSession c (EndPermission p g t))) ds a.1
steps_add Came s (Send c i b ∷ ds) a = steps_add Came s ds a.1
steps_add Came s (EnterQueue p w ∷ ds) a = steps_add Came (after_server_step s (EnterQueue p w)) ds a.1
steps_add Came s (LeaveQueue p ∷ ds) a = steps_add Came (after_server_step s (LeaveQueue p)) ds a.1
steps_add Came s (MarkCalledBack p ∷ ds) a = steps_add Came (after_server_step s (MarkCalledBack p)) ds a.1
steps_add Came s (MarkDowngradeSent p t ∷ ds) a = steps_add Came (after_server_step s (MarkDowngradeSent p t)) ds a.1
steps_add Came s (MarkInUse c p ∷ ds) a = steps_add Came (after_server_step s (MarkInUse c p)) ds a.1
steps_add Came s (UnmarkInUse c p ∷ ds) a = steps_add Came (after_server_step s (UnmarkInUse c p)) ds a.1
steps_add Came s (RemoveAsk c ∷ ds) a = steps_add Came (after_server_step s (RemoveAsk c)) ds a.1
steps_add Came s (Doom c ∷ ds) a = steps_add Came (after_server_step s (Doom c)) ds a.1
steps_add Came s (ForgetTransaction c ∷ ds) a = steps_add Came (after_server_step s (ForgetTransaction c)) ds a.1
steps_add Came s (SetFlushed n ∷ ds) a = steps_add Came (after_server_step s (SetFlushed n)) ds a.1

-- so does an event within a life
pub event_adds : (L : Limits) (cycle : DeadlockTest) (b : Life) (v : World) (w : Machine) (e : Event) (let_go : Option ℕ) → Image L b v w → Adds (SentInLife b.floor v) v.server.store.last_commit v.server.commits (step L cycle v e let_go).world.server.commits
event_adds L cycle b v w e let_go m = by_turns L cycle v e let_go (λ e u. Adds (SentInLife b.floor v) v.server.store.last_commit v.server.commits u.server.commits) (record {
  answered = λ e word. none;
  called = λ c x l. none;
  taken = λ n f i d s. none;
  served = λ n f i d. steps_add (SentInLife b.floor v) v.server (server_take cycle v.server f.client f.incarnation f.body) (served L cycle b v w f m (packet_is_in v.packets n f i)).0;
  again = steps_add (SentInLife b.floor v) v.server (server_again v.server) (right_again (SentInLife b.floor v) v.server m.orderly).0;
  flushed = λ e n f. steps_add (SentInLife b.floor v) v.server (server_flush v.server n) (right_flushes (SentInLife b.floor v) v.server n m.orderly).0;
  restarted = λ c l k. none;
})
  where
    none : Adds (SentInLife b.floor v) v.server.store.last_commit v.server.commits v.server.commits
    none = adds_none (SentInLife b.floor v) v.server.store.last_commit v.server.commits
