-- What a step of the server makes of the disk, and of the Dones that are said.
use Rattle.std.proofs.Common.{List, [], arith, subst, sym, true, ℕ, ◌∷◌, ◌≡◌, ◌≤◌}
use Rattle.cb_protocol.proofs.ServedSteps.{done_from_disk}
use Rattle.cb_protocol.specs.AnyMessages.{Input, MessageComes, ReachesDisk, SendsAgain, input_steps}
use Rattle.cb_protocol.specs.CommitLaws.{DonesUpTo, flushed_by}
use Rattle.cb_protocol.specs.Flush.{can_flush, server_flush}
use Rattle.cb_protocol.specs.Messages.{Body}
use Rattle.cb_protocol.specs.Resend.{server_again}
use Rattle.cb_protocol.specs.Server.{DeadlockTest, Server, ServerStep, after_server_step, server_after}
use Rattle.cb_protocol.specs.ServerMessages.{server_take}
use Rattle.cb_protocol.specs.World.{messages_sent}

pub record FromDisk (s : Server) (ds : List ServerStep) : Type 0 where
  pub rises : s.flushed ≤ (server_after s ds).flushed
  pub committed : s.flushed ≤ s.store.last_commit → (server_after s ds).flushed ≤ (server_after s ds).store.last_commit
  pub told : DonesUpTo (server_after s ds).flushed (messages_sent ds)

-- commits are only added
last_after : (s : Server) (d : ServerStep) → s.store.last_commit ≤ (after_server_step s d).store.last_commit
last_after s d = grind arith

last_rises : (s : Server) (ds : List ServerStep) → s.store.last_commit ≤ (server_after s ds).store.last_commit
last_rises s [] = omega arith
last_rises s (d ∷ ds) = let a = last_after s d in let b = last_rises (after_server_step s d) ds in omega arith

from_disk : (cycle : DeadlockTest) (s : Server) (i : Input) → s.flushed ≤ flushed_by s i
    → (s.flushed ≤ s.store.last_commit → flushed_by s i ≤ s.store.last_commit) → FromDisk s (input_steps cycle s i)
from_disk cycle s i up made = let a = done_from_disk cycle s i in let l = last_rises s (input_steps cycle s i) in let e = a.0 in record {
  rises = omega (arith, e, up);
  committed = λ c. (let m = made c in omega (arith, e, m, l));
  told = subst (λ (n : ℕ). DonesUpTo n (messages_sent (input_steps cycle s i))) (sym e) a.1;
}

pub taken_from_disk : (cycle : DeadlockTest) (s : Server) (c i : ℕ) (b : Body) → FromDisk s (server_take cycle s c i b)
taken_from_disk cycle s c i b = from_disk cycle s (MessageComes c i b) (omega arith) (λ l. l)

nobody_waits : DeadlockTest
nobody_waits s c = true

pub again_from_disk : (s : Server) → FromDisk s (server_again s)
again_from_disk s = from_disk nobody_waits s SendsAgain (omega arith) (λ l. l)

pub flushed_to_disk : (s : Server) (n : ℕ) → can_flush s n ≡ true → FromDisk s (server_flush s n)
flushed_to_disk s n e = from_disk nobody_waits s (ReachesDisk n) (up e) (λ l. made e)
  where
    up : can_flush s n ≡ true → s.flushed ≤ n
    up f = grind arith

    made : can_flush s n ≡ true → n ≤ s.store.last_commit
    made f = grind arith
