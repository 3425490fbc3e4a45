-- Which incarnations a server knows.
use Rattle.std.proofs.Common.{◌≡◌, ◌≢◌, ◌⊎◌, inl, inr, ◌<◌, ◌≤◌, ◌==◌, ℕ, Bool, true, false, nat_lt, if◌then◌else◌, ap, arith, refl, sym, subst, ◌∙◌, true≢false}
use Rattle.std.proofs.lemmas.Bool.{cases_eq, cases_lt}
use Rattle.cb_commit.specs.Stores.{StoreState}
use Rattle.cb_page.specs.Bounds.{Bounds}
use Rattle.cb_protocol.proofs.Cases.{serves_hello_again, serves_no_old_hello}
use Rattle.cb_protocol.proofs.HelloStarts.{greater_hello}
use Rattle.cb_protocol.proofs.OthersKeep.{others_keep_rows_and_permissions}
use Rattle.cb_protocol.specs.AnyMessages.{Input, MessageComes, ReachesDisk, SendsAgain, input_steps}
use Rattle.cb_protocol.specs.Messages.{Body, Hello}
use Rattle.cb_protocol.specs.Server.{Server, server_after}
use Rattle.cb_protocol.specs.ServerMessages.{server_take}
use Rattle.cb_protocol.specs.WaitsFor.{on_cycle}
use Rattle.cb_server.specs.Answering.{is_hello}
use Rattle.cb_server.specs.Knowing.{GreetsBelow, HellosAloneAreKnown, KnowsBelow, ResumedKnowTheFloor}
use Rattle.cb_server.specs.ServerValue.{IsResumed, ServerValue, server_of}
use Rattle.cb_server.proofs.Onward.{goes_on}

hello_is : (b : Body) → is_hello b ≡ true → b ≡ Hello
hello_is Hello e = refl
hello_is _ e = absurd (true≢false (sym e))

not_hello : (b : Body) → is_hello b ≡ false → b ≢ Hello
not_hello b e is = true≢false (sym (ap is_hello is) ∙ e)

-- a Hello's own client
greeted : (s : Server) (c i below : ℕ) → (s.session c).current < below → i < below → ((server_after s (server_take on_cycle s c i Hello)).session c).current < below
greeted s c i below known l = elim (cases_lt (s.session c).current i) [
  | inl newer ↦ (let is = (greater_hello on_cycle s c i newer).0.current in omega (arith, is, l))
  | inr past ↦
      elim (cases_eq i (s.session c).current) [
        | inl same ↦ subst (λ ds. ((server_after s ds).session c).current < below) (sym (serves_hello_again on_cycle s c i same)) known
        | inr apart ↦ subst (λ ds. ((server_after s ds).session c).current < below) (sym (serves_no_old_hello on_cycle s c i (grind (arith, past, apart)))) known
      ]
]

-- a message's own client
own : (s : Server) (c i : ℕ) (b : Body) (below : ℕ) → (s.session c).current < below → GreetsBelow (MessageComes c i b) below → ((server_after s (server_take on_cycle s c i b)).session c).current < below
own s c i b below known g = go (is_hello b) refl
  where
    go : (r : Bool) → is_hello b ≡ r → ((server_after s (server_take on_cycle s c i b)).session c).current < below
    go true e = let is = hello_is b e in
        subst (λ x. ((server_after s (server_take on_cycle s c i x)).session c).current < below) (sym is) (greeted s c i below known (g c i (ap (MessageComes c i) is)))
    go false e = let same = (goes_on on_cycle s c i b (not_hello b e)).current in omega (arith, same, known)

pub knows_after : HellosAloneAreKnown
knows_after s (MessageComes c i b) below known g d = elim (cases_eq d c) [
  | inl same ↦ subst (λ k. ((server_after s (server_take on_cycle s c i b)).session k).current < below) (sym same) (own s c i b below (known c) g)
  | inr apart ↦ (let same = ((others_keep_rows_and_permissions on_cycle s).0 c i b d apart).incarnation in let l = known d in omega (arith, same, l))
]
knows_after s SendsAgain below known g d = let same = ((others_keep_rows_and_permissions on_cycle s).1 d).incarnation in let l = known d in omega (arith, same, l)
knows_after s (ReachesDisk n) below known g d = let same = ((others_keep_rows_and_permissions on_cycle s).2 n d).incarnation in let l = known d in omega (arith, same, l)

at_most : (n floor : ℕ) (r : Bool) → (if r then floor else 0) ≤ floor
at_most n floor true = omega arith
at_most n floor false = omega arith

pub knows_floor : ResumedKnowTheFloor
knows_floor bounds store floor below value is l c =
    let same = ap (λ (s : Server). (s.session c).current) is.server in let most = at_most c floor (nat_lt c bounds.clients) in omega (arith, same, most, l)
