-- What each step of a list meets, and what settling does: walked once, for every law about single steps.
use Rattle.std.proofs.Common.{Bool, List, None, Option, Some, [], false, if◌then◌else◌, length, not, subst, suc, sym, true, zero, ℕ, ◌&&◌, ◌++◌, ◌+◌, ◌==◌, ◌||◌, ◌∷◌, ◌≡◌}
use Rattle.std.specs.Prelude.{⊤}
use Rattle.cb_protocol.proofs.SettlingClears.{after_sends, sends_callbacks}
use Rattle.cb_protocol.specs.Messages.{Callback, Downgrade}
use Rattle.cb_protocol.specs.Server.{DeadlockTest, Send, Server, ServerStep, after_server_step, is_live_permission, server_after}
use Rattle.cb_protocol.specs.Settling.{Decided, Decision, Settled, decide, decision_steps, send_callback, send_callbacks, send_downgrade, send_downgrades, settle_page, settle_pages}

-- what a step meets: at the server just before it, before the steps that come
abbrev pub StepRule : Type 1
StepRule = Server → ServerStep → List ServerStep → Type 0

-- a rule that no later step breaks
abbrev pub Lasting : StepRule → Type 0
Lasting P = (s : Server) (d : ServerStep) (xs ys : List ServerStep) → P s d xs → P s d (xs ++ ys)

-- each step meets the rule
abbrev pub EachStep : StepRule → Server → List ServerStep → Type 0
EachStep P s [] = ⊤
EachStep P s (d ∷ ds) = P s d ds × EachStep P (after_server_step s d) ds

pub each_append : (P : StepRule) → Lasting P → (s : Server) (xs ys : List ServerStep)
    → EachStep P s xs → EachStep P (server_after s xs) ys → EachStep P s (xs ++ ys)
each_append P more s [] ys a b = b
each_append P more s (x ∷ xs) ys a b = (more s x xs ys a.0, each_append P more (after_server_step s x) xs ys a.1 b)

-- a step in the middle
pub each_there : (P : StepRule) (s : Server) (before after : List ServerStep) (d : ServerStep)
    → EachStep P s (before ++ d ∷ after) → P (server_after s before) d after
each_there P s [] after d a = a.0
each_there P s (x ∷ before) after d a = each_there P (after_server_step s x) before after d a.1

-- a weaker rule
pub each_weaker : (P Q : StepRule) → ((s : Server) (d : ServerStep) (ds : List ServerStep) → P s d ds → Q s d ds)
    → (s : Server) (ds : List ServerStep) → EachStep P s ds → EachStep Q s ds
each_weaker P Q f s [] a = tt
each_weaker P Q f s (d ∷ ds) a = (f s d ds a.0, each_weaker P Q f (after_server_step s d) ds a.1)

-- what each step that meets the rule keeps, all keep
abbrev pub KeptUnder : StepRule → (Server → Type 0) → Type 0
KeptUnder P I = (s : Server) (d : ServerStep) (ds : List ServerStep) → P s d ds → I s → I (after_server_step s d)

pub kept_by_each : (P : StepRule) (I : Server → Type 0) → KeptUnder P I
    → (s : Server) (ds : List ServerStep) → EachStep P s ds → I s → I (server_after s ds)
kept_by_each P I keep s [] a i = i
kept_by_each P I keep s (d ∷ ds) a i = kept_by_each P I keep (after_server_step s d) ds a.1 (keep s d ds a.0 i)

-- messages, then more
pub each_after_sends : (P : StepRule) → Lasting P → (s : Server) (xs ys : List ServerStep)
    → server_after s xs ≡ s → EachStep P s xs → EachStep P s ys → EachStep P s (xs ++ ys)
each_after_sends P more s xs ys e a b = each_append P more s xs ys a (subst (λ (x : Server). EachStep P x ys) (sym e) b)

pub each_callbacks : (P : StepRule) → Lasting P → (s : Server) (skip : ℕ → Bool) (p c n : ℕ)
    → ((d i g : ℕ) → P s (Send d i (Callback p g)) []) → EachStep P s (send_callbacks s skip p c n)
each_callbacks P more s skip p c zero f = tt
each_callbacks P more s skip p c (suc n) f =
    each_after_sends P more s (send_callbacks s skip p c n) _
    (after_sends s (send_callbacks s skip p c n) (sends_callbacks s skip p c n))
    (each_callbacks P more s skip p c n f) (go ((n == c) || skip n) ((s.session n).row p))
  where
    go : (r : Bool) (o : Option ℕ) → EachStep P s (if r then [] else send_callback s n p o)
    go true o = tt
    go false None = tt
    go false (Some g) = (f n (s.session n).current g, tt)

pub each_downgrades : (P : StepRule) (s : Server) (skip : ℕ → Bool) (p c : ℕ) (w : Option ℕ)
    → ((d i g t : ℕ) → P s (Send d i (Downgrade p g t)) []) → EachStep P s (send_downgrades s skip p c w)
each_downgrades P s skip p c None f = tt
each_downgrades P s skip p c (Some d) f = go (not (d == c) && not (is_live_permission s d p) && not (skip d)) ((s.session d).row p)
  where
    go : (u : Bool) (r : Option ℕ) → EachStep P s (if u then send_downgrade s d p r else [])
    go true None = tt
    go true (Some g) = (f d (s.session d).current g (s.store.tag p), tt)
    go false r = tt

-- Settling, where each decision about a page meets the rule, and what it needs is kept by it.
pub each_settle : (cycle : DeadlockTest) (P : StepRule) → Lasting P → (I : Server → Type 0) → KeptUnder P I
    → ((s : Server) (p : ℕ) → I s → EachStep P s (decision_steps (decide cycle s p (s.queue p))))
    → (n : ℕ) (s : Server) (p : ℕ) → I s → EachStep P s (settle_page cycle n s p)
each_settle cycle P more I keep decides zero s p i = tt
each_settle cycle P more I keep decides (suc n) s p i =
    go (λ k j. each_settle cycle P more I keep decides n k p j) (decide cycle s p (s.queue p)) (decides s p i)
  where
    go : ((k : Server) → I k → EachStep P k (settle_page cycle n k p)) → (v : Decision) → EachStep P s (decision_steps v)
        → EachStep P s (elim v [ Settled ds ↦ ds | Decided ds ↦ ds ++ settle_page cycle n (server_after s ds) p ])
    go f (Settled ds) a = a
    go f (Decided ds) a = each_append P more s ds _ a (f (server_after s ds) (kept_by_each P I keep s ds a i))

pub each_settles : (cycle : DeadlockTest) (P : StepRule) → Lasting P → (I : Server → Type 0) → KeptUnder P I
    → ((s : Server) (p : ℕ) → I s → EachStep P s (decision_steps (decide cycle s p (s.queue p))))
    → (s : Server) (n : ℕ) → I s → EachStep P s (settle_pages cycle s n)
each_settles cycle P more I keep decides s zero i = tt
each_settles cycle P more I keep decides s (suc n) i = let a = each_settles cycle P more I keep decides s n i in
    each_append P more s (settle_pages cycle s n) _ a
    (each_settle cycle P more I keep decides (length (s.queue n) + 1) (server_after s (settle_pages cycle s n)) n
    (kept_by_each P I keep s (settle_pages cycle s n) a i))
