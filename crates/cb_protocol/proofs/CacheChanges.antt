-- Lemmas of a changes of a client's cache, for one client.
use Rattle.std.proofs.Common.{None, Some, arith, false, true, ℕ, ◌<◌, ◌≡◌, ◌≢◌}
use Rattle.cb_protocol.proofs.Invariant.{SessionFacts, MessageFact}
use Rattle.cb_protocol.specs.Cache.{Begin, Cache, Committing, Fill, Finish, Abandon, Idle, Install, LetGo, Lock, MakeBare, Open, WriteBytes, Read, RefuseGrant, TakeDone, TakePermission, TakeWelcome, YieldPermission, cache_after}
use Rattle.cb_protocol.specs.Basics.{Bytes}
use Rattle.cb_protocol.specs.Messages.{Done, Granted, MayWrite}
use Rattle.cb_protocol.specs.Session.{Session, Store}

pub good_begin : (c : ℕ) (s : Store) (t : Session) (k : Cache) → SessionFacts c s t k → k.welcomed ≡ true → k.status ≡ Idle → SessionFacts c s t (cache_after s.keep_write k Begin)
good_begin c s t k h w i = grind arith

pub good_install : (c : ℕ) (s : Store) (t : Session) (k : Cache) (p g v : ℕ) (b : Bytes) → SessionFacts c s t k → k.welcomed ≡ true → MessageFact c s t k (Granted p g v b) → k.held p ≡ None → k.seen p < g → SessionFacts c s t (cache_after s.keep_write k (Install p g v b))
good_install c s t k p g v b h w n e l = grind arith

pub good_welcome : (c : ℕ) (s : Store) (t : Session) (k : Cache) → SessionFacts c s t k → SessionFacts c s t (cache_after s.keep_write k TakeWelcome)
good_welcome c s t k h = grind arith

pub good_lock : (c : ℕ) (s : Store) (t : Session) (k : Cache) (p : ℕ) (b : Bytes) → SessionFacts c s t k → k.welcomed ≡ true → k.content p ≡ Some b → SessionFacts c s t (cache_after s.keep_write k (Lock p))
good_lock c s t k p b h w e = grind arith

pub good_permission : (c : ℕ) (s : Store) (t : Session) (k : Cache) (p g : ℕ) → SessionFacts c s t k → k.welcomed ≡ true → k.status ≡ Open → MessageFact c s t k (MayWrite k.number p g) → k.held p ≡ Some g → SessionFacts c s t (cache_after s.keep_write k (TakePermission p))
good_permission c s t k p g h w o n e = grind arith

pub good_put : (c : ℕ) (s : Store) (t : Session) (k : Cache) (p : ℕ) (b o : Bytes) → SessionFacts c s t k → k.welcomed ≡ true → k.status ≡ Open → k.may_write p ≡ true → k.locked p ≡ true → k.content p ≡ Some o → SessionFacts c s t (cache_after s.keep_write k (WriteBytes p b))
good_put c s t k p b o h w operation m l e = grind arith

pub good_finish : (c : ℕ) (s : Store) (t : Session) (k : Cache) → SessionFacts c s t k → k.welcomed ≡ true → k.status ≡ Open → SessionFacts c s t (cache_after s.keep_write k Finish)
good_finish c s t k h w o = grind arith

pub good_give_up : (c : ℕ) (s : Store) (t : Session) (k : Cache) → SessionFacts c s t k → k.welcomed ≡ true → k.status ≡ Open → SessionFacts c s t (cache_after s.keep_write k Abandon)
good_give_up c s t k h w o = grind arith

pub good_done : (c : ℕ) (s : Store) (t : Session) (k : Cache) (n : ℕ) → SessionFacts c s t k → k.welcomed ≡ true → k.status ≡ Committing → MessageFact c s t k (Done k.number n) → SessionFacts c s t (cache_after s.keep_write k (TakeDone n))
good_done c s t k n h w o d = grind arith

pub good_fill : (c : ℕ) (s : Store) (t : Session) (k : Cache) (p g : ℕ) (b : Bytes) → SessionFacts c s t k → k.welcomed ≡ true → MessageFact c s t k (Granted p g (k.version p) b) → k.held p ≡ Some g → k.content p ≡ None → SessionFacts c s t (cache_after s.keep_write k (Fill p g b))
good_fill c s t k p g b h w n e o = grind arith

pub good_refuse : (c : ℕ) (s : Store) (t : Session) (k : Cache) (p g : ℕ) → SessionFacts c s t k → k.welcomed ≡ true → k.held p ≢ Some g → SessionFacts c s t (cache_after s.keep_write k (RefuseGrant p g))
good_refuse c s t k p g h w n = grind arith

pub good_let_go : (c : ℕ) (s : Store) (t : Session) (k : Cache) (p : ℕ) → SessionFacts c s t k → k.welcomed ≡ true → k.locked p ≡ false → SessionFacts c s t (cache_after s.keep_write k (LetGo p))
good_let_go c s t k p h w n = grind arith

pub good_bare : (c : ℕ) (s : Store) (t : Session) (k : Cache) (p : ℕ) → SessionFacts c s t k → k.welcomed ≡ true → k.wrote p ≡ false → SessionFacts c s t (cache_after s.keep_write k (MakeBare p))
good_bare c s t k p h w n = grind arith

pub good_read : (c : ℕ) (s : Store) (t : Session) (k : Cache) (p : ℕ) (b : Bytes) → SessionFacts c s t k → k.welcomed ≡ true → k.status ≡ Open → k.content p ≡ Some b → SessionFacts c s t (cache_after s.keep_write k (Read p b))
good_read c s t k p b h w o e = grind arith

pub good_yield : (c : ℕ) (s : Store) (t : Session) (k : Cache) (p : ℕ) → SessionFacts c s t k → k.welcomed ≡ true → k.wrote p ≡ false → SessionFacts c s t (cache_after s.keep_write k (YieldPermission p))
good_yield c s t k p h w n = grind arith
