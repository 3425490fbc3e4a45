-- The view's cycles are the server's.
use Rattle.std.proofs.Common.{◌≡◌, ℕ, Bool, true, false, IsTrue, ◌↔◌, refl, sym, ◌∙◌}
use Rattle.cb_protocol.specs.Server.{Server}
use Rattle.cb_protocol.specs.WaitsFor.{AsksInRange, LiesOnCycle, MoreEdges, OneEdge, Path, on_cycle}
use Rattle.cb_protocol.proofs.CycleTest.{test_is_exact, waits_is}
use Rattle.cb_waits.specs.Graph.{Edges, Waits}
use Rattle.cb_waits.specs.Follows.{Follows}

-- a path of one relation is a path of a wider one
widened : {R S : ℕ → ℕ → Type 0} → ((c d : ℕ) → R c d → S c d) → (c d : ℕ) → Path R c d → Path S c d
widened f c d (OneEdge e) = OneEdge (f c d e)
widened f c d (MoreEdges {next = n} e w) = MoreEdges (f c n e) (widened f n d w)

same_test : (x y : Bool) (A : Type 0) → IsTrue x ↔ A → (y ≡ true) ↔ A → x ≡ y
same_test true true A f g = refl
same_test false false A f g = refl
same_test true false A f g = sym (g.1 (f.0 refl))
same_test false true A f g = f.1 (g.0 refl)

-- the view's answer is the protocol's test
pub closes_cycle_is_test : (view : Edges) (server : Server) → AsksInRange server
    → Follows view server → (client : ℕ) (answer : Bool)
    → IsTrue answer ↔ LiesOnCycle (Waits view) client → answer ≡ on_cycle server client
closes_cycle_is_test view server range follows client answer exact =
    let test = test_is_exact server range client in
    same_test answer (on_cycle server client) (LiesOnCycle (Waits view) client) exact (
      (λ e. widened (λ c d w. follows c d ∙ (waits_is server range c d).1 w) client client (test.0 e)),
      (λ w. test.1 (widened (λ c d e. (waits_is server range c d).0 (sym (follows c d) ∙ e)) client client w)),
    )
