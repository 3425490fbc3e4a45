-- Without kept write permission each permission is of its holder's live transaction.
use Rattle.std.proofs.Common.{◌≡◌, ℕ, ◌<◌, true, false, ◌≢◌, ◌⊎◌, List, [], ◌∷◌, Some, None, arith, inl, inr}
use Rattle.std.specs.Prelude.{⊤}
use Rattle.cb_protocol.specs.World.{Opening}
use Rattle.cb_protocol.specs.Basics.{Limits}
use Rattle.cb_protocol.specs.AnyMessages.{Input, MessageComes, SendsAgain, ReachesDisk, input_steps, AfterInput, Opened, ReachedBy}
use Rattle.cb_protocol.specs.Deadlock.{InputInRange, ReachedServer, PermissionsLive, PlainHoldsUp}
use Rattle.cb_protocol.specs.Messages.{Body}
use Rattle.cb_protocol.specs.Server.{DeadlockTest, Server, ServerStep, ChangeSession, Send, EnterQueue, LeaveQueue, MarkCalledBack, MarkDowngradeSent, MarkInUse, UnmarkInUse, RemoveAsk, Doom, ForgetTransaction, SetFlushed, after_server_step, server_after, is_live_permission}
use Rattle.cb_protocol.specs.Session.{SessionChange, Admit, BeginTransaction, DropTransaction, GrantRow, PermitWrite, RemoveRow, EndPermission, ApplyCommit}
use Rattle.cb_protocol.specs.WaitsFor.{HoldsUp, on_cycle}
use Rattle.cb_protocol.proofs.Machine.{ServerMayChange}
use Rattle.cb_protocol.proofs.ServerOrder.{Orderly, ServerStepMay, ServerStepsMay, StepsRight, orderly_start}
use Rattle.cb_protocol.proofs.ServerTakes.{right_server_take, right_again, right_flushes}

-- whatever messages come
abbrev pub AnyMessage : ℕ → ℕ → Body → Type 0
AnyMessage c i b = ⊤

record Live (s : Server) : Type 0 where
  live : s.store.keep_write ≡ false → (p d : ℕ) → s.store.holder p ≡ Some d → (s.store.tag p ≡ (s.session d).txn) × ((s.session d).ended < (s.session d).txn)

-- each change of a session keeps it
live_change : (s : Server) (c : ℕ) (m : SessionChange) → ServerMayChange (AnyMessage c) s.store s.session c m → Live s → Live (after_server_step s (ChangeSession c m))
live_change s c (Admit i) a l = record { live = λ k p d e. grind (arith, l.live k p d) }
live_change s c (BeginTransaction x) a l = record { live = λ k p d e. grind (arith, l.live k p d) }
live_change s c (DropTransaction x) a l = record { live = λ k p d e. grind (arith, l.live k p d) }
live_change s c (GrantRow p g) a l = record { live = λ k q d e. grind (arith, l.live k q d) }
live_change s c (PermitWrite p g) a l = record { live = λ k q d e. grind (arith, l.live k q d) }
live_change s c (RemoveRow p g) a l = record { live = λ k q d e. grind (arith, l.live k q d) }
live_change s c (EndPermission p g x) a l = record { live = λ k q d e. grind (arith, l.live k q d) }
live_change s c (ApplyCommit x ws) a l = record { live = λ k p d e. grind (arith, l.live k p d) }

live_step : (s : Server) (x : ServerStep) → ServerStepMay AnyMessage s x → Live s → Live (after_server_step s x)
live_step s (ChangeSession c m) a l = live_change s c m a.0 l
live_step s (Send c i b) a l = l
live_step s (EnterQueue p w) a l = record { live = l.live }
live_step s (LeaveQueue p) a l = record { live = l.live }
live_step s (MarkCalledBack p) a l = record { live = l.live }
live_step s (MarkDowngradeSent p t) a l = record { live = l.live }
live_step s (MarkInUse c p) a l = record { live = l.live }
live_step s (UnmarkInUse c p) a l = record { live = l.live }
live_step s (RemoveAsk c) a l = record { live = l.live }
live_step s (Doom c) a l = record { live = l.live }
live_step s (ForgetTransaction c) a l = record { live = l.live }
live_step s (SetFlushed n) a l = record { live = l.live }

live_steps : (s : Server) (ds : List ServerStep) → ServerStepsMay AnyMessage s ds → Live s → Live (server_after s ds)
live_steps s [] a l = l
live_steps s (x ∷ ds) a l = live_steps (after_server_step s x) ds a.1 (live_step s x a.0 l)

pub right_input : (cycle : DeadlockTest) (s : Server) (i : Input) → Orderly AnyMessage s → InputInRange s i → StepsRight AnyMessage s (input_steps cycle s i)
right_input cycle s (MessageComes c i b) o f = right_server_take AnyMessage cycle s c i b o f.0 tt
right_input cycle s SendsAgain o f = right_again AnyMessage s o
right_input cycle s (ReachesDisk n) o f = right_flushes AnyMessage s n o

-- of each server that is reached
both_by : (L : Limits) (o : Opening) (s : Server) → ReachedBy L on_cycle o InputInRange s → Orderly AnyMessage s × Live s
both_by L o s Opened = (orderly_start AnyMessage L o, record { live = λ k p d e. absurd cc })
both_by L o s (AfterInput {server = k} r i f) = let b = both_by L o k r in let t = right_input on_cycle k i b.0 f in (t.1, live_steps k (input_steps on_cycle k i) t.0 b.1)

both : (s : Server) → ReachedServer s → Orderly AnyMessage s × Live s
both s r = both_by r.0 r.1 s r.2

is_live : (s : Server) (d p : ℕ) → (s.store.tag p ≡ (s.session d).txn) × ((s.session d).ended < (s.session d).txn) → is_live_permission s d p ≡ true
is_live s d p e = grind arith

pub permissions_live : PermissionsLive
permissions_live s r k p d e = is_live s d p ((both s r).1.live k p d e)

pub plain_holds_up : PlainHoldsUp
plain_holds_up s r k p a d = (to, from)
  where
    to : HoldsUp s p a d → (s.store.holder p ≡ Some d) ⊎ ((a.write_grant ≢ None) × (s.in_use d p ≡ true))
    to (inl e) = inl e.0
    to (inr e) = inr e

    from : (s.store.holder p ≡ Some d) ⊎ ((a.write_grant ≢ None) × (s.in_use d p ≡ true)) → HoldsUp s p a d
    from (inl e) = inl (e, inl (permissions_live s r k p d e))
    from (inr e) = inr e
