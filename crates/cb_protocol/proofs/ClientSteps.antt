-- A list of steps of a client is a list of steps of the machine.
use Rattle.std.proofs.Common.{Bool, List, [], ap, arith, inl, inr, refl, subst, sym, ℕ, ◌∙◌, ◌∷◌, ◌≡◌}
use Rattle.std.specs.Prelude.{⊤}
use Rattle.cb_protocol.proofs.Machine.{ClientMayChange, ClientMaySay, ClientChanges, ClientSays, Machine, MachineMayRun, MaySpeak, MachineStep, WasSent, happens, performed_after, present_cache, put_client, run}
use Rattle.cb_protocol.specs.Cache.{Cache, CacheChange, cache_after}
use Rattle.cb_protocol.specs.Client.{ClientStep, SetAsk, Client, EndTransaction, ChangeCache, MarkDue, MarkDueDowngrade, Say, MarkWanted, client_after, after_client_step, bodies_said}
use Rattle.cb_protocol.specs.Basics.{IsIn}
use Rattle.cb_protocol.specs.Messages.{Body, Done, Message}
use Rattle.cb_protocol.specs.Serial.{PerformedOperation}
use Rattle.cb_protocol.specs.World.{messages_said}

abbrev pub cache_after_steps : Bool → Cache → List ClientStep → Cache
cache_after_steps keep_write k [] = k
cache_after_steps keep_write k (ChangeCache m ∷ steps) = cache_after_steps keep_write (cache_after keep_write k m) steps
cache_after_steps keep_write k (_ ∷ steps) = cache_after_steps keep_write k steps

-- each step is allowed
abbrev pub ClientStepsMay : Bool → (Body → Type 0) → Cache → List ClientStep → Type 0
ClientStepsMay keep_write Came k [] = ⊤
ClientStepsMay keep_write Came k (ChangeCache m ∷ steps) = ClientMayChange Came k m × ClientStepsMay keep_write Came (cache_after keep_write k m) steps
ClientStepsMay keep_write Came k (Say b ∷ steps) = (MaySpeak k b × ClientMaySay Came k b) × ClientStepsMay keep_write Came k steps
ClientStepsMay keep_write Came k (_ ∷ steps) = ClientStepsMay keep_write Came k steps

abbrev pub client_machine_steps : ℕ → List ClientStep → List MachineStep
client_machine_steps c [] = []
client_machine_steps c (ChangeCache m ∷ steps) = ClientChanges c m ∷ client_machine_steps c steps
client_machine_steps c (Say b ∷ steps) = ClientSays c b ∷ client_machine_steps c steps
client_machine_steps c (_ ∷ steps) = client_machine_steps c steps

abbrev pub performed_by_steps : Bool → List PerformedOperation → ℕ → ℕ → Cache → List ClientStep → List PerformedOperation
performed_by_steps keep_write ls c i k [] = ls
performed_by_steps keep_write ls c i k (ChangeCache m ∷ steps) = performed_by_steps keep_write (performed_after ls c i k.number m) c i (cache_after keep_write k m) steps
performed_by_steps keep_write ls c i k (_ ∷ steps) = performed_by_steps keep_write ls c i k steps

-- the cache of a client after its steps
pub cache_of : (keep_write : Bool) (k : Client) (steps : List ClientStep) → (client_after keep_write k steps).cache ≡ cache_after_steps keep_write k.cache steps
cache_of keep_write k [] = refl
cache_of keep_write k (ChangeCache m ∷ steps) = cache_of keep_write (after_client_step keep_write k (ChangeCache m)) steps
cache_of keep_write k (Say b ∷ steps) = cache_of keep_write k steps
cache_of keep_write k (SetAsk a ∷ steps) = cache_of keep_write (after_client_step keep_write k (SetAsk a)) steps
cache_of keep_write k (MarkWanted p ∷ steps) = cache_of keep_write (after_client_step keep_write k (MarkWanted p)) steps
cache_of keep_write k (MarkDue p ∷ steps) = cache_of keep_write (after_client_step keep_write k (MarkDue p)) steps
cache_of keep_write k (MarkDueDowngrade p y ∷ steps) = cache_of keep_write (after_client_step keep_write k (MarkDueDowngrade p y)) steps
cache_of keep_write k (EndTransaction l ∷ steps) = cache_of keep_write (after_client_step keep_write k (EndTransaction l)) steps

may_more : (Came Came' : Body → Type 0) → ((b : Body) → Came b → Came' b) → (k : Cache) (m : CacheChange) → ClientMayChange Came k m → ClientMayChange Came' k m
may_more Came Came' f k m a = grind arith

say_more : (Came Came' : Body → Type 0) → ((b : Body) → Came b → Came' b) → (k : Cache) (b : Body) → ClientMaySay Came k b → ClientMaySay Came' k b
say_more Came Came' f k b a = grind arith

pub client_steps_more : (keep_write : Bool) (Came Came' : Body → Type 0) → ((b : Body) → Came b → Came' b) → (k : Cache) (steps : List ClientStep) → ClientStepsMay keep_write Came k steps → ClientStepsMay keep_write Came' k steps
client_steps_more keep_write Came Came' f k [] a = tt
client_steps_more keep_write Came Came' f k (ChangeCache m ∷ steps) a = (may_more Came Came' f k m a.0, client_steps_more keep_write Came Came' f (cache_after keep_write k m) steps a.1)
client_steps_more keep_write Came Came' f k (Say b ∷ steps) a = ((a.0.0, say_more Came Came' f k b a.0.1), client_steps_more keep_write Came Came' f k steps a.1)
client_steps_more keep_write Came Came' f k (SetAsk x ∷ steps) a = client_steps_more keep_write Came Came' f k steps a
client_steps_more keep_write Came Came' f k (MarkWanted p ∷ steps) a = client_steps_more keep_write Came Came' f k steps a
client_steps_more keep_write Came Came' f k (MarkDue p ∷ steps) a = client_steps_more keep_write Came Came' f k steps a
client_steps_more keep_write Came Came' f k (MarkDueDowngrade p y ∷ steps) a = client_steps_more keep_write Came Came' f k steps a
client_steps_more keep_write Came Came' f k (EndTransaction l ∷ steps) a = client_steps_more keep_write Came Came' f k steps a

pub there : (f : ℕ → ℕ → Cache) (c i : ℕ) (k : Cache) → put_client f c i k c i ≡ k
there f c i k = grind arith

pub elsewhere : (f : ℕ → ℕ → Cache) (c i : ℕ) (k : Cache) (d j : ℕ) → (d ≡ c → j ≡ i → ⊥) → put_client f c i k d j ≡ f d j
elsewhere f c i k d j n = grind arith

-- the messages onto those sent before, the newest first
abbrev pub onto : List Message → List Message → List Message
onto [] fs = fs
onto (g ∷ gs) fs = onto gs (g ∷ fs)

-- what the steps leave
pub record ClientStepped (w : Machine) (c : ℕ) (steps : List ClientStep) (v : Machine) : Type 0 where
  pub allowed : MachineMayRun (client_machine_steps c steps) w
  pub here : present_cache v c ≡ cache_after_steps w.store.keep_write (present_cache w c) steps
  pub others : (d j : ℕ) → (d ≡ c → j ≡ w.incarnation c → ⊥) → v.client d j ≡ w.client d j
  pub packets : v.packets ≡ onto (messages_said c (w.incarnation c) (bodies_said steps)) w.packets
  pub incarnation : v.incarnation ≡ w.incarnation
  pub store : v.store ≡ w.store
  pub session : v.session ≡ w.session
  pub history : v.history ≡ w.history
  pub performed : v.performed ≡ performed_by_steps w.store.keep_write w.performed c (w.incarnation c) (present_cache w c) steps

pub client_steps_leave : (w : Machine) (c : ℕ) (steps : List ClientStep) → ClientStepsMay w.store.keep_write (WasSent w c (w.incarnation c)) (present_cache w c) steps → ClientStepped w c steps (run (client_machine_steps c steps) w)
client_steps_leave w c [] a = record { allowed = tt; here = refl; others = λ d j n. refl; packets = refl; incarnation = refl; store = refl; session = refl; history = refl; performed = refl }
client_steps_leave w c (ChangeCache m ∷ steps) a =
    let k = cache_after w.store.keep_write (present_cache w c) m in
    let e : present_cache (happens w (ClientChanges c m)) c ≡ k = there w.client c (w.incarnation c) k in
    let r = client_steps_leave (happens w (ClientChanges c m)) c steps (subst (λ (x : Cache). ClientStepsMay w.store.keep_write (WasSent w c (w.incarnation c)) x steps) (sym e) a.1) in
    record {
      allowed = (a.0, r.allowed);
      here = r.here ∙ ap (λ (x : Cache). cache_after_steps w.store.keep_write x steps) e;
      others = λ d j n. r.others d j n ∙ elsewhere w.client c (w.incarnation c) k d j n;
      packets = r.packets;
      incarnation = r.incarnation;
      store = r.store;
      session = r.session;
      history = r.history;
      performed = r.performed ∙ ap (λ (x : Cache). performed_by_steps w.store.keep_write (performed_after w.performed c (w.incarnation c) (present_cache w c).number m) c (w.incarnation c) x steps) e;
    }
client_steps_leave w c (Say b ∷ steps) a =
    let r = client_steps_leave (happens w (ClientSays c b)) c steps (client_steps_more w.store.keep_write (WasSent w c (w.incarnation c)) (WasSent (happens w (ClientSays c b)) c (w.incarnation c)) (λ y i. inr i) (present_cache w c) steps a.1) in
    record { allowed = (a.0, r.allowed); here = r.here; others = r.others; packets = r.packets; incarnation = r.incarnation; store = r.store; session = r.session; history = r.history; performed = r.performed }
client_steps_leave w c (SetAsk x ∷ steps) a = let r = client_steps_leave w c steps a in
    record { allowed = r.allowed; here = r.here; others = r.others; packets = r.packets; incarnation = r.incarnation; store = r.store; session = r.session; history = r.history; performed = r.performed }
client_steps_leave w c (MarkWanted p ∷ steps) a = let r = client_steps_leave w c steps a in
    record { allowed = r.allowed; here = r.here; others = r.others; packets = r.packets; incarnation = r.incarnation; store = r.store; session = r.session; history = r.history; performed = r.performed }
client_steps_leave w c (MarkDue p ∷ steps) a = let r = client_steps_leave w c steps a in
    record { allowed = r.allowed; here = r.here; others = r.others; packets = r.packets; incarnation = r.incarnation; store = r.store; session = r.session; history = r.history; performed = r.performed }
client_steps_leave w c (MarkDueDowngrade p y ∷ steps) a = let r = client_steps_leave w c steps a in
    record { allowed = r.allowed; here = r.here; others = r.others; packets = r.packets; incarnation = r.incarnation; store = r.store; session = r.session; history = r.history; performed = r.performed }
client_steps_leave w c (EndTransaction l ∷ steps) a = let r = client_steps_leave w c steps a in
    record { allowed = r.allowed; here = r.here; others = r.others; packets = r.packets; incarnation = r.incarnation; store = r.store; session = r.session; history = r.history; performed = r.performed }

-- a client says no Done
pub says_no_done : (keep_write : Bool) (Came : Body → Type 0) (k : Cache) (steps : List ClientStep) (c i d j t n : ℕ) → ClientStepsMay keep_write Came k steps → IsIn (record { client = c; incarnation = i; body = Done t n }) (messages_said d j (bodies_said steps)) → ⊥
says_no_done keep_write Came k [] c i d j t n a x = absurd x
says_no_done keep_write Came k (ChangeCache m ∷ steps) c i d j t n a x = says_no_done keep_write Came (cache_after keep_write k m) steps c i d j t n a.1 x
says_no_done keep_write Came k (Say b ∷ steps) c i d j t n a x = elim x [
  | inl q ↦ subst (λ (f : Message). ClientMaySay Came k f.body) q a.0.1
  | inr y ↦ says_no_done keep_write Came k steps c i d j t n a.1 y
]
says_no_done keep_write Came k (SetAsk y ∷ steps) c i d j t n a x = says_no_done keep_write Came k steps c i d j t n a x
says_no_done keep_write Came k (MarkWanted p ∷ steps) c i d j t n a x = says_no_done keep_write Came k steps c i d j t n a x
says_no_done keep_write Came k (MarkDue p ∷ steps) c i d j t n a x = says_no_done keep_write Came k steps c i d j t n a x
says_no_done keep_write Came k (MarkDueDowngrade p y ∷ steps) c i d j t n a x = says_no_done keep_write Came k steps c i d j t n a x
says_no_done keep_write Came k (EndTransaction l ∷ steps) c i d j t n a x = says_no_done keep_write Came k steps c i d j t n a x
