-- What a client holds, by the invariant of the machine: its rows, its permissions, and the store's versions and bytes.
use Rattle.std.proofs.Common.{None, Some, arith, false, inl, sym, true, ℕ, ◌∙◌, ◌≡◌, ◌≢◌}
use Rattle.cb_protocol.proofs.Invariant.{Invariant, SessionFacts}
use Rattle.cb_protocol.proofs.InvariantKept.{readable, up_to_date}
use Rattle.cb_protocol.proofs.Machine.{Machine, WasSent, present_cache}
use Rattle.cb_protocol.proofs.MachineSteps.{present_good, present_now}
use Rattle.cb_protocol.specs.Basics.{Bytes}
use Rattle.cb_protocol.specs.Cache.{Cache, Open}
use Rattle.cb_protocol.specs.Messages.{GiveBack}
use Rattle.cb_protocol.specs.Session.{Session, Store}

-- a client that holds a grant is of the server's current incarnation
holder_current : (w : Machine) (c p g : ℕ) → Invariant w → (present_cache w c).held p ≡ Some g → (w.session c).current ≡ w.incarnation c
holder_current w c p g h e = grind (arith, up_to_date, h.behind c, h.ahead c (w.incarnation c))

copy_held : (c : ℕ) (s : Store) (t : Session) (k : Cache) (p : ℕ) (b : Bytes) → SessionFacts c s t k → k.content p ≡ Some b → k.held p ≢ None
copy_held c s t k p b h e f = let n = h.kept p f in absurd (let z : Some b ≡ None = sym e ∙ n in cc)

pub record BackedBy (w : Machine) : Type 0 where
  pub row : (c p g : ℕ) → (present_cache w c).held p ≡ Some g → (w.session c).row p ≡ Some g
  pub never_back : (c p g : ℕ) → (present_cache w c).held p ≡ Some g → WasSent w c (w.incarnation c) (GiveBack p g) → ⊥
  pub permission : (c p : ℕ) → (present_cache w c).status ≡ Open → (present_cache w c).may_write p ≡ true → w.store.holder p ≡ Some c
  pub version : (c p g : ℕ) → (present_cache w c).held p ≡ Some g → (present_cache w c).wrote p ≡ false → (present_cache w c).version p ≡ w.store.version p
  pub bytes : (c p : ℕ) (b : Bytes) → (present_cache w c).content p ≡ Some b → (present_cache w c).wrote p ≡ false → b ≡ w.store.bytes p

mays : (w : Machine) (c p : ℕ) → Invariant w → (present_cache w c).status ≡ Open → (w.session c).current ≡ w.incarnation c
mays w c p h o = grind (arith, up_to_date, h.behind c, h.ahead c (w.incarnation c))

pub backed_by : (w : Machine) → Invariant w → BackedBy w
backed_by w h = record {
  row = λ c p g e. (present_good w c h (holder_current w c p g h e)).held p g e;
  never_back = λ c p g e s. (present_now w c (GiveBack p g) h (holder_current w c p g h e) s).0 e;
  permission = λ c p o e. let q = present_good w c h (mays w c p h o) in (q.may_write p e (inl (q.lives o))).0;
  version = λ c p g e f. (present_good w c h (holder_current w c p g h e)).version p g e f;
  bytes = λ c p b e f. (present_good w c h (readable w c p b h e)).bytes p b e f;
}
