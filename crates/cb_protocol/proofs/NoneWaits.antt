-- After every step no first ask may have what it waits for.
use Rattle.std.proofs.Common.{Bool, List, None, Option, Some, arith, false, inl, inr, refl, subst, suc, true, zero, ℕ, ◌<◌, ◌==◌, ◌||◌, ◌≡◌, ◌≢◌}
use Rattle.cb_protocol.proofs.CommitsApplied.{exactly}
use Rattle.cb_protocol.proofs.NoCycles.{between_steps}
use Rattle.cb_protocol.proofs.SettlingClears.{Stuck, StuckBy}
use Rattle.cb_protocol.specs.AskLaws.{MayBeGranted, MayBePermitted, NoneWaitsInVain}
use Rattle.cb_protocol.specs.Basics.{is_none}
use Rattle.cb_protocol.specs.Server.{Server, WaitingAsk}
use Rattle.cb_protocol.specs.Settling.{no_other_holder, sole_row}

no_other : (r : Option ℕ) (c : ℕ) → ((d : ℕ) → r ≡ Some d → d ≡ c) → no_other_holder r c ≡ true
no_other None c f = refl
no_other (Some d) c f = grind (arith, f d refl)

none_there : (r : Option ℕ) → r ≡ None → is_none r ≡ true
none_there r e = grind arith

sole : (s : Server) (p c n : ℕ) → ((d : ℕ) → d < n → d ≢ c → (s.session d).row p ≡ None) → sole_row s p c n ≡ true
sole s p c zero f = refl
sole s p c (suc n) f = rw (sole s p c n (λ d l. f d (omega arith))) (go (n == c) refl)
  where
    apart : (n == c) ≡ false → n ≢ c
    apart e = grind arith

    go : (r : Bool) → (n == c) ≡ r → (r || is_none ((s.session n).row p)) ≡ true
    go true e = refl
    go false e = none_there ((s.session n).row p) (f n (omega arith) (apart e))

granted : (s : Server) (p : ℕ) (a : WaitingAsk) → MayBeGranted s p a.client → StuckBy s p a None → ⊥
granted s p a m b = let x = no_other (s.store.holder p) a.client m.1 in let y = none_there ((s.session a.client).row p) m.0 in let z = b.0 in grind arith

permitted : (s : Server) (p : ℕ) (a : WaitingAsk) (g : ℕ) → MayBePermitted s p a.client g → StuckBy s p a (Some g) → ⊥
permitted s p a g m b = let x = no_other (s.store.holder p) a.client m.1 in let y = exactly ((s.session a.client).row p) g m.0 in
    let w = sole s p a.client s.clients m.2 in let z = b.0 in grind arith

pub none_waits : NoneWaitsInVain
none_waits s r p a q e m = elim m [
  | inl k ↦ granted s p a k.1 (subst (λ (w : Option ℕ). StuckBy s p a w) k.0 stuck)
  | inr k ↦ permitted s p a k.0 k.2 (subst (λ (w : Option ℕ). StuckBy s p a w) k.1 stuck)
]
  where
    stuck : StuckBy s p a a.write_grant
    stuck = subst (λ (x : List WaitingAsk). Stuck s p x) e ((between_steps s r).stuck p)
