-- A world in which each client has greeted the server at a floor: its server is that of a life.
use Rattle.std.proofs.Common.{◌≡◌, ◌≢◌, ◌<◌, ◌≤◌, ◌+◌, ◌-◌, ℕ, zero, suc, [], refl}
use Rattle.std.proofs.Common.{sym, ◌∙◌, ap, subst, arith, inl, inr}
use Rattle.std.proofs.Common.{◌⊎◌, Some}
use Rattle.std.proofs.lemmas.Bool.{cases_eq}
use Rattle.cb_laws.proofs.HellosAnswered.{hello_taken}
use Rattle.cb_laws.proofs.LifeBegins.{greeted, greets_alone, none_greeted}
use Rattle.cb_protocol.specs.Answers.{Taken}
use Rattle.cb_protocol.specs.Basics.{IsIn, Limits, max_number}
use Rattle.cb_protocol.specs.Client.{new_client}
use Rattle.cb_protocol.specs.Messages.{Hello, Message}
use Rattle.cb_protocol.specs.Server.{Server, server_after}
use Rattle.cb_protocol.specs.ServerMessages.{server_take}
use Rattle.cb_protocol.specs.Transcript.{transcript_operations}
use Rattle.cb_protocol.specs.WaitsFor.{on_cycle}
use Rattle.cb_protocol.specs.World.{Opening, TakePacket, World, new_world, packet_at, server_does}
use Rattle.cb_running_laws.proofs.Events.{Reached, number_of, opening_world, served_reach}
use Rattle.cb_running_laws.proofs.Greeting.{Renewed, greets, renews}

-- The clients below n have greeted at the floor; the others did nothing yet.
pub record FloorTold (L : Limits) (o : Opening) (floor n : ℕ) : Type 0 where
  pub world : World
  pub reached : Reached L (opening_world L o) world
  pub server : world.server ≡ greeted L o floor n
  pub below : (c : ℕ) → c < n → world.incarnation c ≡ floor
  pub rest : (c : ℕ) → n ≤ c → (world.client c ≡ new_client) × (world.incarnation c ≡ 1)
  pub silent : transcript_operations world.transcript ≡ []

nobody_told : (L : Limits) (o : Opening) (floor : ℕ) → FloorTold L o floor 0
nobody_told L o floor = record {
  world = new_world L o;
  reached = ([], tt, refl);
  server = sym (none_greeted L o floor);
  below = λ c l. absurd (omega (arith, l));
  rest = λ c l. (refl, refl);
  silent = refl;
}

-- one client more
module _ (L : Limits) (o : Opening) (floor n : ℕ) (least : 1 ≤ floor) (most : floor ≤ max_number)
    (lt : n < L.clients) (told : FloorTold L o floor n) where
  renewed : Renewed L (opening_world L o) told.world n floor told.world.server
  renewed =
      let own = told.rest n (omega arith) in let one = own.1 in
      renews L (opening_world L o) n floor (floor - 1) told.world lt most told.reached
      (omega (arith, one, least)) (λ z. own.0)

  -- its Hello is on the way
  abbrev hello : Message
  hello = record { client = n; incarnation = floor; body = Hello }

  said : (x : World) × Reached L (opening_world L o) x × (x.server ≡ greeted L o floor n)
      × (x.incarnation n ≡ floor)
      × ((c : ℕ) → c ≢ n → (x.client c ≡ told.world.client c)
      × (x.incarnation c ≡ told.world.incarnation c))
      × IsIn hello x.packets × (transcript_operations x.transcript ≡ [])
  said =
      let g = greets L (opening_world L o) n floor lt renewed.world renewed.reached renewed.client
      renewed.incarnation in (
        g.0,
        g.1,
        g.2 ∙ renewed.server_is ∙ told.server,
        g.4,
        λ c apart. ((g.5 c apart).0 ∙ (renewed.others c apart).0, (g.5 c apart).1 ∙ (renewed.others c apart).1),
        g.7,
        g.8 ∙ renewed.silent ∙ told.silent,
      )

  at : (k : ℕ) × (packet_at said.0.packets k ≡ Some hello)
  at = number_of hello said.0.packets said.5

  one_more : FloorTold L o floor (n + 1)
  one_more = record {
    world = (server_does said.0 (TakePacket at.0) Taken
        (server_take on_cycle said.0.server n floor Hello)).world;
    reached = served_reach L (opening_world L o) said.0 hello at.0 at.1 said.1 refl
        (hello_taken said.0.server n floor);
    server = ap (λ (s : Server). server_after s (server_take on_cycle s n floor Hello)) said.2
        ∙ greets_alone L on_cycle o floor n least;
    below = λ c l. by (cases_eq c n) l;
    rest = λ c l. (let apart : c ≢ n = (λ e. omega (arith, e, l)) in let x = said.4 c apart in
        let y = told.rest c (omega (arith, l)) in (x.0 ∙ y.0, x.1 ∙ y.1));
    silent = said.6;
  }
    where
      by : {c : ℕ} → (c ≡ n) ⊎ (c ≢ n) → c < n + 1 → said.0.incarnation c ≡ floor
      by {c} (inl e) l = ap (λ (k : ℕ). said.0.incarnation k) e ∙ said.3
      by {c} (inr apart) l = (said.4 c apart).1 ∙ told.below c (omega (arith, apart, l))

-- all of them
pub floor_told : (L : Limits) (o : Opening) (floor : ℕ) → 1 ≤ floor → floor ≤ max_number → (n : ℕ)
    → n ≤ L.clients → FloorTold L o floor n
floor_told L o floor least most zero within = nobody_told L o floor
floor_told L o floor least most (suc n) within =
    let e : n + 1 ≡ suc n = omega arith in
    subst (FloorTold L o floor) e (one_more L o floor n least most (omega (arith, within))
    (floor_told L o floor least most n (omega (arith, within))))
