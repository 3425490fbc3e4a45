-- What a transaction wrote last of a page is in its client's cache, and is marked.
use Rattle.std.proofs.Common.{None, Some, arith, true, ℕ, ◌≡◌, ◌≢◌}
use Rattle.cb_laws.specs.WrittenPages.{last_written}
use Rattle.cb_protocol.proofs.Followed.{Keeps}
use Rattle.cb_protocol.proofs.Invariant.{SessionFacts}
use Rattle.cb_protocol.proofs.Machine.{ClientChanges, ClientMayChange, ClientRestarts, ClientSays, Machine, ServerChanges, ServerSends, WasSent, present_cache, start}
use Rattle.cb_protocol.proofs.MachineSteps.{mover_current, present_good}
use Rattle.cb_protocol.proofs.TranscriptKept.{put_both}
use Rattle.cb_protocol.specs.Basics.{Bytes, Limits}
use Rattle.cb_protocol.specs.Cache.{Abandon, Begin, Cache, CacheChange, Fill, Finish, Install, LetGo, Lock, MakeBare, Read, RefuseGrant, TakeDone, TakePermission, TakeWelcome, WriteBytes, YieldPermission, cache_after}
use Rattle.cb_protocol.specs.Messages.{Body}
use Rattle.cb_protocol.specs.Session.{Session, Store}
use Rattle.cb_protocol.specs.World.{Opening}

-- the marks are exact, and a written page has the bytes written last
pub record MarksExact (k : Cache) : Type 0 where
  pub mark : (p : ℕ) (b : Bytes) → last_written k.operations p ≡ Some b → (k.wrote p ≡ true) × (k.content p ≡ Some b)
  pub marked : (p : ℕ) → k.wrote p ≡ true → last_written k.operations p ≢ None

marks_changed : (c : ℕ) (s : Store) (t : Session) (k : Cache) (Came : Body → Type 0) (m : CacheChange) → SessionFacts c s t k → ClientMayChange Came k m → MarksExact k → MarksExact (cache_after s.keep_write k m)
marks_changed c s t k Came TakeWelcome h a r = record { mark = r.mark; marked = r.marked }
marks_changed c s t k Came Begin h a r = record { mark = r.mark; marked = r.marked }
marks_changed c s t k Came (Lock p) h a r = record { mark = r.mark; marked = r.marked }
marks_changed c s t k Came (Read p b) h a r = record { mark = r.mark; marked = r.marked }
marks_changed c s t k Came (TakePermission p) h a r = record { mark = r.mark; marked = r.marked }
marks_changed c s t k Came (WriteBytes p b) h a r = record { mark = λ q e f. grind (arith, r.mark q e); marked = λ q f. grind (arith, r.marked q) }
marks_changed c s t k Came Finish h a r = record { mark = r.mark; marked = r.marked }
marks_changed c s t k Came Abandon h a r = record { mark = λ q e f. absurd cc; marked = λ q f. absurd cc }
marks_changed c s t k Came (TakeDone n) h a r = record { mark = λ q e f. absurd cc; marked = λ q f. absurd cc }
marks_changed c s t k Came (Install p g v b) h a r = record { mark = λ q e f. grind (arith, r.mark q e, h.wrote_may q, h.may_held q); marked = r.marked }
marks_changed c s t k Came (Fill p g b) h a r = record { mark = λ q e f. grind (arith, r.mark q e); marked = r.marked }
marks_changed c s t k Came (RefuseGrant p g) h a r = record { mark = r.mark; marked = r.marked }
marks_changed c s t k Came (LetGo p) h a r = record { mark = λ q e f. grind (arith, r.mark q e, h.wrote_locked q); marked = r.marked }
marks_changed c s t k Came (MakeBare p) h a r = record { mark = λ q e f. grind (arith, r.mark q e); marked = r.marked }
marks_changed c s t k Came (YieldPermission p) h a r = record { mark = r.mark; marked = r.marked }

-- so of each client's incarnation
abbrev pub AllMarks : Machine → Type 0
AllMarks w = (c i : ℕ) → MarksExact (w.client c i)

pub marks_at_start : (L : Limits) (o : Opening) → AllMarks (start L o)
marks_at_start L o c i = record { mark = λ p b e. absurd cc; marked = λ p e. absurd cc }

pub marks_kept : Keeps AllMarks
marks_kept w (ClientChanges c m) h a r =
    put_both (λ d j x. MarksExact x) w.client c (w.incarnation c) (cache_after w.store.keep_write (present_cache w c) m)
    (marks_changed c w.store (w.session c) (present_cache w c) (WasSent w c (w.incarnation c)) m (present_good w c h (mover_current w c m h a)) a (r c (w.incarnation c))) (λ d j ne. r d j)
marks_kept w (ClientSays c y) h a r = r
marks_kept w (ServerChanges c m) h a r = r
marks_kept w (ServerSends c i y) h a r = r
marks_kept w (ClientRestarts c) h a r = r
