-- Who is granted a page, and when: what every step of a server at an input meets.
use Rattle.std.proofs.Common.{Bool, List, None, Option, Some, [], ap, arith, false, if◌then◌else◌, not, refl, true, ℕ, ◌&&◌, ◌++◌, ◌∷◌, ◌≡◌}
use Rattle.std.specs.Prelude.{⊤}
use Rattle.cb_protocol.proofs.ServerWalks.{EachStep, Lasting, StepRule, each_after_sends, each_append, each_callbacks, each_downgrades, each_settles}
use Rattle.cb_protocol.proofs.SettlingClears.{after_sends, sends_callbacks, sends_downgrades}
use Rattle.cb_protocol.proofs.SettlingRight.{is_none_is, is_some_is, no_other_is, sole_is}
use Rattle.cb_protocol.specs.AskLaws.{GrantIsSent, IsFirst, MayBeGranted, MayBePermitted, PermissionIsSent}
use Rattle.cb_protocol.specs.Basics.{is_exactly, is_none}
use Rattle.cb_protocol.specs.Messages.{Body, Done, Welcome}
use Rattle.cb_protocol.specs.Server.{ChangeSession, DeadlockTest, EnterQueue, ForgetTransaction, MarkCalledBack, MarkInUse, MarkDowngradeSent, Send, Server, ServerStep, SetFlushed, UnmarkInUse, WaitingAsk, server_after}
use Rattle.cb_protocol.specs.Session.{GrantRow, PermitWrite}
use Rattle.cb_protocol.specs.Settling.{Decided, Settled, call_back_once, decide, decide_read, decide_write, decision_steps, doom_client, downgrade_once, grant_row, keeps_permission, no_other_holder, nobody, permit_write, send_callbacks, send_downgrades, settle_pages, sole_row, wait_or_doom}

-- the message is no Done and no Welcome
abbrev pub NoNews : Body → Type 0
NoNews (Done t n) = ⊥
NoNews Welcome = ⊥
NoNews _ = ⊤

-- what settling does: it grants and permits in order, and does nothing else to a session
abbrev pub Settles : StepRule
Settles s (ChangeSession c (GrantRow p g)) ds =
    IsFirst s p c None × MayBeGranted s p c × (g ≡ s.next_grant) × GrantIsSent s ds c p g
Settles s (ChangeSession c (PermitWrite p g)) ds =
    IsFirst s p c (Some g) × MayBePermitted s p c g × PermissionIsSent s ds c p g
Settles s (ChangeSession c m) ds = ⊥
Settles s (Send c i b) ds = NoNews b
Settles s (MarkInUse c p) ds = ⊥
Settles s (UnmarkInUse c p) ds = ⊥
Settles s (EnterQueue p a) ds = ⊥
Settles s (ForgetTransaction c) ds = ⊥
Settles s (SetFlushed n) ds = ⊥
Settles s _ ds = ⊤

grant_more : (s : Server) (xs ys : List ServerStep) (c p g : ℕ) → GrantIsSent s xs c p g → GrantIsSent s (xs ++ ys) c p g
grant_more s xs ys c p g a = (a.0 ++ ys, ap (λ (zs : List ServerStep). zs ++ ys) a.1)

permission_more : (s : Server) (xs ys : List ServerStep) (c p g : ℕ) → PermissionIsSent s xs c p g → PermissionIsSent s (xs ++ ys) c p g
permission_more s xs ys c p g a = (a.0 ++ ys, ap (λ (zs : List ServerStep). zs ++ ys) a.1)

settles_lasting : Lasting Settles
settles_lasting s (ChangeSession c (GrantRow p g)) xs ys a = (a.0, a.1, a.2, grant_more s xs ys c p g a.3)
settles_lasting s (ChangeSession c (PermitWrite p g)) xs ys a = (a.0, a.1, permission_more s xs ys c p g a.2)
settles_lasting s _ xs ys a = a

-- an ask that can't be met now
settles_refuse : (cycle : DeadlockTest) (s : Server) (c : ℕ) (ds : List ServerStep) → EachStep Settles s ds
    → EachStep Settles s (decision_steps (wait_or_doom cycle s c ds))
settles_refuse cycle s c ds a = go (cycle (server_after s ds) c)
  where
    go : (r : Bool) → EachStep Settles s (decision_steps (if r then Decided (ds ++ doom_client (server_after s ds) c) else Settled ds))
    go true = each_append Settles settles_lasting s ds (doom_client (server_after s ds) c) a (tt, (tt, (tt, tt)))
    go false = a

settles_calls_back : (s : Server) (p : ℕ) (a : WaitingAsk) → EachStep Settles s (call_back_once s p a)
settles_calls_back s p a = go a.called_back
  where
    go : (r : Bool) → EachStep Settles s (if r then [] else send_callbacks s nobody p a.client s.clients ++ MarkCalledBack p ∷ [])
    go true = tt
    go false = each_after_sends Settles settles_lasting s (send_callbacks s nobody p a.client s.clients) (MarkCalledBack p ∷ [])
        (after_sends s (send_callbacks s nobody p a.client s.clients) (sends_callbacks s nobody p a.client s.clients))
        (each_callbacks Settles settles_lasting s nobody p a.client s.clients (λ d i g. tt)) (tt, tt)

settles_brings_down : (s : Server) (p : ℕ) (a : WaitingAsk) → EachStep Settles s (downgrade_once s p a)
settles_brings_down s p a = go (s.store.keep_write && keeps_permission s p a.client (s.store.holder p) && not (is_exactly a.downgrade_sent (s.store.tag p)))
  where
    ds : List ServerStep
    ds = send_downgrades s nobody p a.client (s.store.holder p)

    go : (r : Bool) → EachStep Settles s (if r then send_downgrades s nobody p a.client (s.store.holder p) ++ MarkDowngradeSent p (s.store.tag p) ∷ [] else [])
    go true = each_after_sends Settles settles_lasting s (send_downgrades s nobody p a.client (s.store.holder p)) (MarkDowngradeSent p (s.store.tag p) ∷ [])
        (after_sends s (send_downgrades s nobody p a.client (s.store.holder p)) (sends_downgrades s nobody p a.client (s.store.holder p)))
        (each_downgrades Settles s nobody p a.client (s.store.holder p) (λ d i g t. tt)) (tt, tt)
    go false = tt

settles_decide : (cycle : DeadlockTest) (s : Server) (p : ℕ) (q : List WaitingAsk) → s.queue p ≡ q
    → EachStep Settles s (decision_steps (decide cycle s p q))
settles_decide cycle s p [] e = tt
settles_decide cycle s p (a ∷ q) e = kind_of a.write_grant refl
  where
    reads : a.write_grant ≡ None → (u : Bool) → (no_other_holder (s.store.holder p) a.client && is_none ((s.session a.client).row p)) ≡ u
        → EachStep Settles s (decision_steps (if u then Decided (grant_row s p a.client) else wait_or_doom cycle s a.client (downgrade_once s p a)))
    reads k true f = (
      ((a, q, e, refl, k), (is_none_is ((s.session a.client).row p) (grind arith), no_other_is s.store p a.client (grind arith)), refl, (_, refl)),
      (tt, (tt, tt)),
    )
    reads k false f = settles_refuse cycle s a.client (downgrade_once s p a) (settles_brings_down s p a)

    writes : (g : ℕ) → a.write_grant ≡ Some g → (u : Bool)
        → (no_other_holder (s.store.holder p) a.client && is_exactly ((s.session a.client).row p) g && sole_row s p a.client s.clients) ≡ u
        → EachStep Settles s (decision_steps (if u then Decided (permit_write s p a.client g) else wait_or_doom cycle s a.client (call_back_once s p a)))
    writes g k true f = (
      (
        (a, q, e, refl, k),
        (is_some_is ((s.session a.client).row p) g (grind arith), no_other_is s.store p a.client (grind arith), λ d l n. sole_is s p a.client s.clients (grind arith) d l n),
        (_, refl),
      ),
      (tt, (tt, tt)),
    )
    writes g k false f = settles_refuse cycle s a.client (call_back_once s p a) (settles_calls_back s p a)

    kind_of : (r : Option ℕ) → a.write_grant ≡ r
        → EachStep Settles s (decision_steps (elim r [ None ↦ decide_read cycle s p a | Some g ↦ decide_write cycle s p a g ]))
    kind_of None k = reads k (no_other_holder (s.store.holder p) a.client && is_none ((s.session a.client).row p)) refl
    kind_of (Some g) k = writes g k (no_other_holder (s.store.holder p) a.client && is_exactly ((s.session a.client).row p) g && sole_row s p a.client s.clients) refl

-- each step of settling
pub settles : (cycle : DeadlockTest) (s : Server) (n : ℕ) → EachStep Settles s (settle_pages cycle s n)
settles cycle s n = each_settles cycle Settles settles_lasting (λ k. ⊤) (λ k d ds a i. tt) (λ k p i. settles_decide cycle k p (k.queue p) refl) s n tt
