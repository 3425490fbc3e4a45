-- What is known of a message stands through each change of its client.
use Rattle.std.proofs.Common.{None, Some, arith, false, true, ℕ, ◌<◌, ◌≡◌, ◌≢◌}
use Rattle.cb_protocol.proofs.Invariant.{SessionFacts, MessageFact}
use Rattle.cb_protocol.specs.Cache.{Begin, Cache, Committing, Fill, Finish, Abandon, Idle, Install, LetGo, Lock, MakeBare, Open, WriteBytes, Read, RefuseGrant, TakeDone, TakePermission, TakeWelcome, YieldPermission, cache_after}
use Rattle.cb_protocol.specs.Basics.{Bytes}
use Rattle.cb_protocol.specs.Messages.{Body, Done}
use Rattle.cb_protocol.specs.Session.{Session, Store}

pub now_welcome : (c : ℕ) (s : Store) (t : Session) (k : Cache) (y : Body) → SessionFacts c s t k → MessageFact c s t k y → MessageFact c s t (cache_after s.keep_write k TakeWelcome) y
now_welcome c s t k y h f = grind arith

pub now_begin : (c : ℕ) (s : Store) (t : Session) (k : Cache) (y : Body) → SessionFacts c s t k → k.welcomed ≡ true → k.status ≡ Idle → MessageFact c s t k y → MessageFact c s t (cache_after s.keep_write k Begin) y
now_begin c s t k y h w i f = grind arith

pub now_lock : (c : ℕ) (s : Store) (t : Session) (k : Cache) (p : ℕ) (y : Body) → SessionFacts c s t k → k.welcomed ≡ true → MessageFact c s t k y → MessageFact c s t (cache_after s.keep_write k (Lock p)) y
now_lock c s t k p y h w f = grind arith

pub now_permission : (c : ℕ) (s : Store) (t : Session) (k : Cache) (p g : ℕ) (y : Body) → SessionFacts c s t k → k.welcomed ≡ true → k.status ≡ Open → MessageFact c s t k y → MessageFact c s t (cache_after s.keep_write k (TakePermission p)) y
now_permission c s t k p g y h w o f = grind arith

pub now_put : (c : ℕ) (s : Store) (t : Session) (k : Cache) (p : ℕ) (b : Bytes) (y : Body) → SessionFacts c s t k → k.welcomed ≡ true → k.status ≡ Open → MessageFact c s t k y → MessageFact c s t (cache_after s.keep_write k (WriteBytes p b)) y
now_put c s t k p b y h w o f = grind arith

pub now_finish : (c : ℕ) (s : Store) (t : Session) (k : Cache) (y : Body) → SessionFacts c s t k → k.welcomed ≡ true → k.status ≡ Open → MessageFact c s t k y → MessageFact c s t (cache_after s.keep_write k Finish) y
now_finish c s t k y h w o f = grind arith

pub now_give_up : (c : ℕ) (s : Store) (t : Session) (k : Cache) (y : Body) → SessionFacts c s t k → k.welcomed ≡ true → k.status ≡ Open → MessageFact c s t k y → MessageFact c s t (cache_after s.keep_write k Abandon) y
now_give_up c s t k y h w o f = grind arith

pub now_done : (c : ℕ) (s : Store) (t : Session) (k : Cache) (n : ℕ) (y : Body) → SessionFacts c s t k → k.welcomed ≡ true → k.status ≡ Committing → MessageFact c s t k (Done k.number n) → MessageFact c s t k y → MessageFact c s t (cache_after s.keep_write k (TakeDone n)) y
now_done c s t k n y h w o d f = grind arith

pub now_install : (c : ℕ) (s : Store) (t : Session) (k : Cache) (p g v : ℕ) (b : Bytes) (y : Body) → SessionFacts c s t k → k.welcomed ≡ true → k.held p ≡ None → k.seen p < g → MessageFact c s t k y → MessageFact c s t (cache_after s.keep_write k (Install p g v b)) y
now_install c s t k p g v b y h w e l f = grind arith

pub now_fill : (c : ℕ) (s : Store) (t : Session) (k : Cache) (p g : ℕ) (b : Bytes) (y : Body) → SessionFacts c s t k → k.welcomed ≡ true → k.held p ≡ Some g → k.content p ≡ None → MessageFact c s t k y → MessageFact c s t (cache_after s.keep_write k (Fill p g b)) y
now_fill c s t k p g b y h w e o f = grind arith

pub now_refuse : (c : ℕ) (s : Store) (t : Session) (k : Cache) (p g : ℕ) (y : Body) → SessionFacts c s t k → k.welcomed ≡ true → k.held p ≢ Some g → MessageFact c s t k y → MessageFact c s t (cache_after s.keep_write k (RefuseGrant p g)) y
now_refuse c s t k p g y h w e f = grind arith

pub now_let_go : (c : ℕ) (s : Store) (t : Session) (k : Cache) (p : ℕ) (y : Body) → SessionFacts c s t k → k.welcomed ≡ true → k.locked p ≡ false → MessageFact c s t k y → MessageFact c s t (cache_after s.keep_write k (LetGo p)) y
now_let_go c s t k p y h w e f = grind arith

pub now_bare : (c : ℕ) (s : Store) (t : Session) (k : Cache) (p : ℕ) (y : Body) → SessionFacts c s t k → k.welcomed ≡ true → k.wrote p ≡ false → MessageFact c s t k y → MessageFact c s t (cache_after s.keep_write k (MakeBare p)) y
now_bare c s t k p y h w e f = grind arith

pub now_read : (c : ℕ) (s : Store) (t : Session) (k : Cache) (p : ℕ) (b : Bytes) (y : Body) → SessionFacts c s t k → k.welcomed ≡ true → MessageFact c s t k y → MessageFact c s t (cache_after s.keep_write k (Read p b)) y
now_read c s t k p b y h w f = grind arith

pub now_yield : (c : ℕ) (s : Store) (t : Session) (k : Cache) (p : ℕ) (y : Body) → SessionFacts c s t k → k.welcomed ≡ true → k.wrote p ≡ false → MessageFact c s t k y → MessageFact c s t (cache_after s.keep_write k (YieldPermission p)) y
now_yield c s t k p y h w n f = grind arith
