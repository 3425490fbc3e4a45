-- What holds of a server alone, whatever messages come, and what its steps keep.
use Rattle.std.proofs.Common.{Bool, List, None, Option, Some, [], arith, false, if◌then◌else◌, inl, inr, refl, subst, sym, true, ℕ, ◌++◌, ◌+◌, ◌<◌, ◌==◌, ◌∙◌, ◌∷◌, ◌≡◌, ◌≢◌, ◌≤◌, ◌⊎◌}
use Rattle.std.specs.Prelude.{⊤}
use Rattle.cb_protocol.proofs.Machine.{NoOther, ServerMayChange, ServerMaySend}
use Rattle.cb_protocol.specs.Basics.{IsIn, Limits, update}
use Rattle.cb_protocol.specs.Messages.{AskWrite, Body, PageWrite}
use Rattle.cb_protocol.specs.Server.{AppliedCommit, MarkCalledBack, ServerStep, EnterQueue, LeaveQueue, ForgetTransaction, Server, Send, MarkDowngradeSent, ChangeSession, RemoveAsk, WaitingAsk, new_server, after_first, server_after, after_server_step, set_called_back, set_downgrade_sent, without_client}
use Rattle.cb_protocol.specs.Session.{Admit, ApplyCommit, DropTransaction, GrantRow, BeginTransaction, PermitWrite, RemoveRow, SessionChange, EndPermission, set_commit_number, session_after}
use Rattle.cb_protocol.specs.World.{Opening, opening_store}

-- an ask in the queue of page p is of a live transaction, and came
abbrev pub WaitsWell : (ℕ → ℕ → Body → Type 0) → Server → ℕ → ℕ → Option ℕ → Type 0
WaitsWell Came s p c w = (c < s.clients) × ((s.session c).ended < (s.session c).txn) × ((g : ℕ) → w ≡ Some g → Came c (s.session c).current (AskWrite (s.session c).txn p g))

pub record Orderly (Came : ℕ → ℕ → Body → Type 0) (s : Server) : Type 0 where
  pub within : (d p : ℕ) → s.clients ≤ d → (s.session d).row p ≡ None
  pub ended_by : (c : ℕ) → (s.session c).ended ≤ (s.session c).txn
  pub step : (c : ℕ) → (s.session c).txn ≤ (s.session c).ended + 1
  pub tagged : (p d : ℕ) → s.store.holder p ≡ Some d → s.store.tag p ≤ (s.session d).txn
  pub sole : (p d g c : ℕ) → (s.session d).row p ≡ Some g → s.store.holder p ≡ Some c → c ≡ d
  pub asking : (p : ℕ) (a : WaitingAsk) → IsIn a (s.queue p) → WaitsWell Came s p a.client a.write_grant
  pub outcome : (c n : ℕ) → s.outcome c ≡ Some n → s.store.commit_number c (s.session c).current (s.session c).ended ≡ Some n
  pub over : (c x n : ℕ) → s.store.commit_number c (s.session c).current x ≡ Some n → x ≤ (s.session c).ended
  pub past : (c j x n : ℕ) → s.store.commit_number c j x ≡ Some n → j ≤ (s.session c).current
  pub listed : (x : AppliedCommit) → IsIn x s.commits → (x.client < s.clients) × (s.store.commit_number x.client x.incarnation x.txn ≡ Some x.number)

-- a new grant has the next number
abbrev pub Fresh : Server → SessionChange → Type 0
Fresh s (GrantRow p g) = g ≡ s.next_grant
Fresh s _ = ⊤

-- what the steps are allowed
abbrev pub ServerStepMay : (ℕ → ℕ → Body → Type 0) → Server → ServerStep → Type 0
ServerStepMay Came s (ChangeSession c m) = ServerMayChange (Came c) s.store s.session c m × Fresh s m
ServerStepMay Came s (Send c i b) = (c < s.clients) × ServerMaySend s.store c (s.session c) i b
ServerStepMay Came s _ = ⊤

abbrev pub ServerStepsMay : (ℕ → ℕ → Body → Type 0) → Server → List ServerStep → Type 0
ServerStepsMay Came s [] = ⊤
ServerStepsMay Came s (d ∷ ds) = ServerStepMay Came s d × ServerStepsMay Came (after_server_step s d) ds

-- what a list of steps needs and leaves
abbrev pub StepsRight : (ℕ → ℕ → Body → Type 0) → Server → List ServerStep → Type 0
StepsRight Came s ds = ServerStepsMay Came s ds × Orderly Came (server_after s ds)

pub right_append : (Came : ℕ → ℕ → Body → Type 0) (s : Server) (xs ys : List ServerStep) → StepsRight Came s xs → StepsRight Came (server_after s xs) ys → StepsRight Came s (xs ++ ys)
right_append Came s [] ys a b = b
right_append Came s (x ∷ xs) ys a b = let r = right_append Came (after_server_step s x) xs ys (a.0.1, a.1) b in ((a.0.0, r.0), r.1)

pub after_append : (s : Server) (xs ys : List ServerStep) → server_after s (xs ++ ys) ≡ server_after (server_after s xs) ys
after_append s [] ys = refl
after_append s (x ∷ xs) ys = after_append (after_server_step s x) xs ys

-- the queues change
orderly_queue : (Came : ℕ → ℕ → Body → Type 0) (s : Server) (q : ℕ → List WaitingAsk) → Orderly Came s → ((p : ℕ) (a : WaitingAsk) → IsIn a (q p) → WaitsWell Came s p a.client a.write_grant) → Orderly Came (record s { queue = q })
orderly_queue Came s q o f = record { within = o.within; ended_by = o.ended_by; step = o.step; tagged = o.tagged; sole = o.sole; asking = f; outcome = o.outcome; over = o.over; past = o.past; listed = o.listed }

pub orderly_mark : (Came : ℕ → ℕ → Body → Type 0) (s : Server) (m : ℕ → ℕ → Bool) → Orderly Came s → Orderly Came (record s { in_use = m })
orderly_mark Came s m o = record { within = o.within; ended_by = o.ended_by; step = o.step; tagged = o.tagged; sole = o.sole; asking = o.asking; outcome = o.outcome; over = o.over; past = o.past; listed = o.listed }

pub orderly_doom : (Came : ℕ → ℕ → Body → Type 0) (s : Server) (d : ℕ → Bool) → Orderly Came s → Orderly Came (record s { doomed = d })
orderly_doom Came s d o = record { within = o.within; ended_by = o.ended_by; step = o.step; tagged = o.tagged; sole = o.sole; asking = o.asking; outcome = o.outcome; over = o.over; past = o.past; listed = o.listed }

pub orderly_flush : (Came : ℕ → ℕ → Body → Type 0) (s : Server) (n : ℕ) → Orderly Came s → Orderly Came (record s { flushed = n })
orderly_flush Came s n o = record { within = o.within; ended_by = o.ended_by; step = o.step; tagged = o.tagged; sole = o.sole; asking = o.asking; outcome = o.outcome; over = o.over; past = o.past; listed = o.listed }

in_rest : (a : WaitingAsk) (q : List WaitingAsk) → IsIn a (after_first q) → IsIn a q
in_rest a [] i = i
in_rest a (b ∷ q) i = inr i

in_without : (c : ℕ) (a : WaitingAsk) (q : List WaitingAsk) → IsIn a (without_client c q) → IsIn a q
in_without c a [] i = i
in_without c a (b ∷ q) i = go (in_without c a q) (b.client == c) i
  where
    go : (IsIn a (without_client c q) → IsIn a q) → (r : Bool) → IsIn a (if r then without_client c q else b ∷ without_client c q) → IsIn a (b ∷ q)
    go f true j = inr (f j)
    go f false j = elim j [ inl e ↦ inl e | inr k ↦ inr (f k) ]

-- the queue of one page changes
orderly_put : (Came : ℕ → ℕ → Body → Type 0) (s : Server) (p : ℕ) (q : List WaitingAsk) → Orderly Came s → ((a : WaitingAsk) → IsIn a q → WaitsWell Came s p a.client a.write_grant) → Orderly Came (record s { queue = update s.queue p q })
orderly_put Came s p q o f = orderly_queue Came s (update s.queue p q) o (λ r a i. go r a (r == p) refl i)
  where
    same : (r : ℕ) → (r == p) ≡ true → p ≡ r
    same r e = grind arith

    go : (r : ℕ) (a : WaitingAsk) (u : Bool) → (r == p) ≡ u → IsIn a (if u then q else s.queue r) → WaitsWell Came s r a.client a.write_grant
    go r a true e i = subst (λ (x : ℕ). WaitsWell Came s x a.client a.write_grant) (same r e) (f a i)
    go r a false e i = o.asking r a i

pub orderly_leave : (Came : ℕ → ℕ → Body → Type 0) (s : Server) (p : ℕ) → Orderly Came s → Orderly Came (after_server_step s (LeaveQueue p))
orderly_leave Came s p o = orderly_put Came s p (after_first (s.queue p)) o (λ a i. o.asking p a (in_rest a (s.queue p) i))

pub orderly_called : (Came : ℕ → ℕ → Body → Type 0) (s : Server) (p : ℕ) → Orderly Came s → Orderly Came (after_server_step s (MarkCalledBack p))
orderly_called Came s p o = orderly_put Came s p (set_called_back (s.queue p)) o (λ a i. go (s.queue p) (λ b j. o.asking p b j) a i)
  where
    go : (q : List WaitingAsk) → ((a : WaitingAsk) → IsIn a q → WaitsWell Came s p a.client a.write_grant) → (a : WaitingAsk) → IsIn a (set_called_back q) → WaitsWell Came s p a.client a.write_grant
    go [] f a i = absurd i
    go (b ∷ q) f a i = elim i [ inl e ↦ subst (λ (x : WaitingAsk). WaitsWell Came s p x.client x.write_grant) e (f b (inl refl)) | inr j ↦ f a (inr j) ]

pub orderly_told : (Came : ℕ → ℕ → Body → Type 0) (s : Server) (p t : ℕ) → Orderly Came s → Orderly Came (after_server_step s (MarkDowngradeSent p t))
orderly_told Came s p t o = orderly_put Came s p (set_downgrade_sent t (s.queue p)) o (λ a i. go (s.queue p) (λ b j. o.asking p b j) a i)
  where
    go : (q : List WaitingAsk) → ((a : WaitingAsk) → IsIn a q → WaitsWell Came s p a.client a.write_grant) → (a : WaitingAsk) → IsIn a (set_downgrade_sent t q) → WaitsWell Came s p a.client a.write_grant
    go [] f a i = absurd i
    go (b ∷ q) f a i = elim i [ inl e ↦ subst (λ (x : WaitingAsk). WaitsWell Came s p x.client x.write_grant) e (f b (inl refl)) | inr j ↦ f a (inr j) ]

in_push : (a b : WaitingAsk) (q : List WaitingAsk) → IsIn a (q ++ b ∷ []) → IsIn a q ⊎ (b ≡ a)
in_push a b [] i = elim i [ inl e ↦ inr e | inr j ↦ absurd j ]
in_push a b (c ∷ q) i = elim i [ inl e ↦ inl (inl e) | inr j ↦ elim (in_push a b q j) [ inl k ↦ inl (inr k) | inr e ↦ inr e ] ]

pub orderly_enter : (Came : ℕ → ℕ → Body → Type 0) (s : Server) (p : ℕ) (b : WaitingAsk) → Orderly Came s → WaitsWell Came s p b.client b.write_grant → Orderly Came (after_server_step s (EnterQueue p b))
orderly_enter Came s p b o f = orderly_put Came s p (s.queue p ++ b ∷ []) o (λ a i. elim (in_push a b (s.queue p) i) [ inl j ↦ o.asking p a j | inr e ↦ subst (λ (x : WaitingAsk). WaitsWell Came s p x.client x.write_grant) e f ])

pub orderly_unask : (Came : ℕ → ℕ → Body → Type 0) (s : Server) (c : ℕ) → Orderly Came s → Orderly Came (after_server_step s (RemoveAsk c))
orderly_unask Came s c o = orderly_queue Came s (λ p. without_client c (s.queue p)) o (λ p a i. o.asking p a (in_without c a (s.queue p) i))

pub orderly_quit : (Came : ℕ → ℕ → Body → Type 0) (s : Server) (c : ℕ) → Orderly Came s → Orderly Came (after_server_step s (ForgetTransaction c))
orderly_quit Came s c o = orderly_doom Came _ (update s.doomed c false) (orderly_mark Came _ (after_server_step s (ForgetTransaction c)).in_use (orderly_unask Came s c o))

-- the asks of c are gone
abbrev pub Quiet : Server → ℕ → Type 0
Quiet s c = (p : ℕ) (a : WaitingAsk) → IsIn a (s.queue p) → a.client ≢ c

quiet_without : (c : ℕ) (a : WaitingAsk) (q : List WaitingAsk) → IsIn a (without_client c q) → a.client ≢ c
quiet_without c a [] i = absurd i
quiet_without c a (b ∷ q) i = go (quiet_without c a q) (b.client == c) refl i
  where
    apart : (b.client == c) ≡ false → b.client ≢ c
    apart e = grind arith

    go : (IsIn a (without_client c q) → a.client ≢ c) → (r : Bool) → (b.client == c) ≡ r → IsIn a (if r then without_client c q else b ∷ without_client c q) → a.client ≢ c
    go f true e j = f j
    go f false e j = elim j [ inl q ↦ subst (λ (x : WaitingAsk). x.client ≢ c) q (apart e) | inr k ↦ f k ]

pub quiet_quit : (s : Server) (c : ℕ) → Quiet (after_server_step s (ForgetTransaction c)) c
quiet_quit s c p a i = quiet_without c a (s.queue p) i

-- a change that leaves the transactions of all
waits_same : (Came : ℕ → ℕ → Body → Type 0) (s : Server) (c : ℕ) (m : SessionChange) (p d : ℕ) (w : Option ℕ)
    → (session_after (s.session c) m).ended ≡ (s.session c).ended → (session_after (s.session c) m).txn ≡ (s.session c).txn → (session_after (s.session c) m).current ≡ (s.session c).current
    → WaitsWell Came s p d w → WaitsWell Came (after_server_step s (ChangeSession c m)) p d w
waits_same Came s c m p d w e t i a = go (d == c) refl
  where
    same : (d == c) ≡ true → c ≡ d
    same q = grind arith

    here : WaitsWell Came s p c w → (c < s.clients) × ((session_after (s.session c) m).ended < (session_after (s.session c) m).txn) × ((g : ℕ) → w ≡ Some g → Came c (session_after (s.session c) m).current (AskWrite (session_after (s.session c) m).txn p g))
    here b = let l = b.1 in (b.0, omega arith, λ g q. subst (λ (j : ℕ). Came c j (AskWrite (session_after (s.session c) m).txn p g)) (sym i) (subst (λ (x : ℕ). Came c (s.session c).current (AskWrite x p g)) (sym t) (b.2 g q)))

    go : (r : Bool) → (d == c) ≡ r → (d < s.clients) × ((if r then session_after (s.session c) m else s.session d).ended < (if r then session_after (s.session c) m else s.session d).txn)
        × ((g : ℕ) → w ≡ Some g → Came d (if r then session_after (s.session c) m else s.session d).current (AskWrite (if r then session_after (s.session c) m else s.session d).txn p g))
    go true q = subst (λ (x : ℕ). (x < s.clients) × ((session_after (s.session c) m).ended < (session_after (s.session c) m).txn) × ((g : ℕ) → w ≡ Some g → Came x (session_after (s.session c) m).current (AskWrite (session_after (s.session c) m).txn p g))) (same q) (here (subst (λ (x : ℕ). WaitsWell Came s p x w) (sym (same q)) a))
    go false q = a

-- one that begins or ends a transaction of a quiet client
waits_quiet : (Came : ℕ → ℕ → Body → Type 0) (s : Server) (c : ℕ) (m : SessionChange) (p d : ℕ) (w : Option ℕ) → d ≢ c → WaitsWell Came s p d w → WaitsWell Came (after_server_step s (ChangeSession c m)) p d w
waits_quiet Came s c m p d w n a = go (d == c) refl
  where
    wrong : (d == c) ≡ true → ⊥
    wrong q = grind arith

    go : (r : Bool) → (d == c) ≡ r → (d < s.clients) × ((if r then session_after (s.session c) m else s.session d).ended < (if r then session_after (s.session c) m else s.session d).txn)
        × ((g : ℕ) → w ≡ Some g → Came d (if r then session_after (s.session c) m else s.session d).current (AskWrite (if r then session_after (s.session c) m else s.session d).txn p g))
    go true q = absurd (wrong q)
    go false q = a

pub orderly_grant : (Came : ℕ → ℕ → Body → Type 0) (s : Server) (c p g : ℕ) → Orderly Came s → c < s.clients → NoOther s.store c p → Orderly Came (after_server_step s (ChangeSession c (GrantRow p g)))
orderly_grant Came s c p g o l n = record {
  within = λ d q. grind (arith, o.within d q);
  ended_by = λ d. grind (arith, o.ended_by d);
  step = λ d. grind (arith, o.step d);
  tagged = λ q d. grind (arith, o.tagged q d);
  sole = λ q d h e. grind (arith, o.sole q d h e, n e);
  asking = λ q a i. waits_same Came s c (GrantRow p g) q a.client a.write_grant refl refl refl (o.asking q a i);
  outcome = λ d m. grind (arith, o.outcome d m);
  over = λ d x m. grind (arith, o.over d x m);
  past = λ d j x m. grind (arith, o.past d j x m);
  listed = o.listed;
}

pub orderly_permit : (Came : ℕ → ℕ → Body → Type 0) (s : Server) (c p g : ℕ) → Orderly Came s → ((d : ℕ) → d ≢ c → (s.session d).row p ≡ None) → Orderly Came (after_server_step s (ChangeSession c (PermitWrite p g)))
orderly_permit Came s c p g o n = record {
  within = λ d q. grind (arith, o.within d q);
  ended_by = λ d. grind (arith, o.ended_by d);
  step = λ d. grind (arith, o.step d);
  tagged = λ q d. grind (arith, o.tagged q d);
  sole = λ q d h e. grind (arith, o.sole q d h e, n d);
  asking = λ q a i. waits_same Came s c (PermitWrite p g) q a.client a.write_grant refl refl refl (o.asking q a i);
  outcome = λ d m. grind (arith, o.outcome d m);
  over = λ d x m. grind (arith, o.over d x m);
  past = λ d j x m. grind (arith, o.past d j x m);
  listed = o.listed;
}

pub orderly_row_gone : (Came : ℕ → ℕ → Body → Type 0) (s : Server) (c p g : ℕ) → Orderly Came s → Orderly Came (after_server_step s (ChangeSession c (RemoveRow p g)))
orderly_row_gone Came s c p g o = record {
  within = λ d q. grind (arith, o.within d q);
  ended_by = λ d. grind (arith, o.ended_by d);
  step = λ d. grind (arith, o.step d);
  tagged = λ q d. grind (arith, o.tagged q d);
  sole = λ q d h e. grind (arith, o.sole q d h e);
  asking = λ q a i. waits_same Came s c (RemoveRow p g) q a.client a.write_grant refl refl refl (o.asking q a i);
  outcome = λ d m. grind (arith, o.outcome d m);
  over = λ d x m. grind (arith, o.over d x m);
  past = λ d j x m. grind (arith, o.past d j x m);
  listed = o.listed;
}

pub orderly_take_down : (Came : ℕ → ℕ → Body → Type 0) (s : Server) (c p g x : ℕ) → Orderly Came s → Orderly Came (after_server_step s (ChangeSession c (EndPermission p g x)))
orderly_take_down Came s c p g x o = record {
  within = λ d q. grind (arith, o.within d q);
  ended_by = λ d. grind (arith, o.ended_by d);
  step = λ d. grind (arith, o.step d);
  tagged = λ q d. grind (arith, o.tagged q d);
  sole = λ q d h e. grind (arith, o.sole q d h e);
  asking = λ q a i. waits_same Came s c (EndPermission p g x) q a.client a.write_grant refl refl refl (o.asking q a i);
  outcome = λ d m. grind (arith, o.outcome d m);
  over = λ d y m. grind (arith, o.over d y m);
  past = λ d j y m. grind (arith, o.past d j y m);
  listed = o.listed;
}

pub orderly_admit : (Came : ℕ → ℕ → Body → Type 0) (s : Server) (c i : ℕ) → Orderly Came s → Quiet s c → (s.session c).current < i → Orderly Came (after_server_step s (ChangeSession c (Admit i)))
orderly_admit Came s c i o q l = record {
  within = λ d q. grind (arith, o.within d q);
  ended_by = λ d. grind (arith, o.ended_by d);
  step = λ d. grind (arith, o.step d);
  tagged = λ q d. grind (arith, o.tagged q d);
  sole = λ q d h e. grind (arith, o.sole q d h e);
  asking = λ p a j. waits_quiet Came s c (Admit i) p a.client a.write_grant (q p a j) (o.asking p a j);
  outcome = λ d m. grind (arith, o.outcome d m);
  over = λ d x m. grind (arith, o.over d x m, o.past d i x m);
  past = λ d j x m. grind (arith, o.past d j x m);
  listed = o.listed;
}

pub orderly_meet : (Came : ℕ → ℕ → Body → Type 0) (s : Server) (c x : ℕ) → Orderly Came s → Quiet s c → (s.session c).txn < x → Orderly Came (after_server_step s (ChangeSession c (BeginTransaction x)))
orderly_meet Came s c x o q l = record {
  within = λ d q. grind (arith, o.within d q);
  ended_by = λ d. grind (arith, o.ended_by d);
  step = λ d. grind (arith, o.step d);
  tagged = λ q d. grind (arith, o.tagged q d);
  sole = λ q d h e. grind (arith, o.sole q d h e);
  asking = λ p a j. waits_quiet Came s c (BeginTransaction x) p a.client a.write_grant (q p a j) (o.asking p a j);
  outcome = λ d m. grind (arith, o.outcome d m);
  over = λ d y m. grind (arith, o.over d y m, o.ended_by d);
  past = λ d j y m. grind (arith, o.past d j y m);
  listed = o.listed;
}

pub orderly_end : (Came : ℕ → ℕ → Body → Type 0) (s : Server) (c x : ℕ) → Orderly Came s → Quiet s c → (s.session c).txn ≡ x → (s.session c).ended < x → Orderly Came (after_server_step s (ChangeSession c (DropTransaction x)))
orderly_end Came s c x o q e l = record {
  within = λ d q. grind (arith, o.within d q);
  ended_by = λ d. grind (arith, o.ended_by d);
  step = λ d. grind (arith, o.step d);
  tagged = λ q d. grind (arith, o.tagged q d);
  sole = λ q d h e. grind (arith, o.sole q d h e);
  asking = λ p a j. waits_quiet Came s c (DropTransaction x) p a.client a.write_grant (q p a j) (o.asking p a j);
  outcome = λ d m. grind (arith, o.outcome d m);
  over = λ d y m. grind (arith, o.over d y m);
  past = λ d j y m. grind (arith, o.past d j y m);
  listed = o.listed;
}

pub orderly_apply : (Came : ℕ → ℕ → Body → Type 0) (s : Server) (c x : ℕ) (ws : List PageWrite) → Orderly Came s → Quiet s c → c < s.clients → (s.session c).txn ≡ x → (s.session c).ended < x → Orderly Came (after_server_step s (ChangeSession c (ApplyCommit x ws)))
orderly_apply Came s c x ws o q n e l = record {
  within = λ d q. grind (arith, o.within d q);
  ended_by = λ d. grind (arith, o.ended_by d);
  step = λ d. grind (arith, o.step d);
  tagged = λ q d. grind (arith, o.tagged q d);
  sole = λ q d h e. grind (arith, o.sole q d h e);
  asking = λ p a j. waits_quiet Came s c (ApplyCommit x ws) p a.client a.write_grant (q p a j) (o.asking p a j);
  outcome = λ d m. grind (arith, o.outcome d m);
  over = λ d y m. grind (arith, o.over d y m);
  past = λ d j y m. grind (arith, o.past d j y m);
  listed = λ a. elim [
    | inl f ↦ subst (λ (y : AppliedCommit). (y.client < s.clients) × (set_commit_number s.store.commit_number c (s.session c).current x (s.store.last_commit + 1) y.client y.incarnation y.txn ≡ Some y.number)) f (n, made_there s.store.commit_number c (s.session c).current x (s.store.last_commit + 1))
    | inr j ↦ ((o.listed a j).0, made_other s.store.commit_number c (s.session c).current x (s.store.last_commit + 1) a.client a.incarnation a.txn (apart a j) ∙ (o.listed a j).1)
  ];
}
  where
    made_there : (f : ℕ → ℕ → ℕ → Option ℕ) (c i x n : ℕ) → set_commit_number f c i x n c i x ≡ Some n
    made_there f c i x n = grind arith

    made_other : (f : ℕ → ℕ → ℕ → Option ℕ) (c i x n d j y : ℕ) → (d ≡ c → j ≡ i → y ≡ x → ⊥) → set_commit_number f c i x n d j y ≡ f d j y
    made_other f c i x n d j y ne = grind arith

    apart : (a : AppliedCommit) → IsIn a s.commits → a.client ≡ c → a.incarnation ≡ (s.session c).current → a.txn ≡ x → ⊥
    apart a j f g h = let b : s.store.commit_number c (s.session c).current x ≡ Some a.number = subst (λ (y : ℕ). s.store.commit_number c (s.session c).current y ≡ Some a.number) h (subst (λ (y : ℕ). s.store.commit_number c y a.txn ≡ Some a.number) g (subst (λ (y : ℕ). s.store.commit_number y a.incarnation a.txn ≡ Some a.number) f (o.listed a j).1)) in
        let u = o.over c x a.number b in omega arith

pub orderly_start : (Came : ℕ → ℕ → Body → Type 0) (L : Limits) (x : Opening) → Orderly Came (new_server L.clients L.pages (opening_store L x))
orderly_start Came L x = record {
  within = λ d p l. refl;
  ended_by = λ c. omega arith;
  step = λ c. omega arith;
  tagged = λ p d e. absurd cc;
  sole = λ p d g c e f. absurd cc;
  asking = λ p a i. absurd i;
  outcome = λ c n e. absurd cc;
  over = λ c y n e. absurd cc;
  past = λ c j y n e. absurd cc;
  listed = λ a i. absurd i;
}
