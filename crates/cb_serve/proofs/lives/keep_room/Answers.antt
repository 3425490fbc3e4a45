-- Goals of `keep_room`.
use Rattle.std.proofs.Common.{◌≡◌, ◌<◌, ◌≤◌, ℕ, [], ◌∷◌, Option, ap, arith, rules, subst, sym}
use Rattle.sqlite.specs.Held.{state}
use Rattle.sqlite.specs.State.{Survives}
use Rattle.cb_server.specs.Knowing.{KnowsUpTo}
use Rattle.cb_server.specs.ServerValue.{server_of}
use Rattle.cb_server_state.specs.States.{or_zero}
use Rattle.cb_shelf.specs.LifeRows.{LifeState, life_row}
use Rattle.cb_shelf.specs.Living.{MadeBy, life_end, raised}
use Rattle.cb_shelf.specs.Statements.{MakesAll}
use Rattle.cb_serve.specs.Living.MakesRoom.{made}
use Rattle.cb_serve.proofs.Hearing.{room_left}
use Rattle.cb_serve.proofs.lives.keep_room.Goals as goal

pub raise-requires-clause-room : goal.raise-requires-clause-room
raise-requires-clause-room g c =
    let beyond : c.args.life.now.below ≤ c.in-Some.greatest = search rules in
    let before : c.in-Some.greatest < life_end c.args.life.now =
    subst (λ (o : Option ℕ). or_zero o < life_end c.args.life.now) c.in-Some.is (c.greatest_known.ensures.least (life_end c.args.life.now) c.requires) in
    room_left c.args.life.now c.in-Some.greatest beyond before

pub returns-in-Ok-clause-ok : goal.returns-in-Ok-clause-ok
returns-in-Ok-clause-ok g c =
    let is : c.raise.new.life ≡ raised c.args.life.now c.in-Some.greatest = search rules in
    let beyond : c.args.life.now.below ≤ c.in-Some.greatest = search rules in
    let known : KnowsUpTo (server_of c.args.server.now) c.in-Some.greatest = subst (λ (o : Option ℕ). KnowsUpTo (server_of c.args.server.now) (or_zero o)) c.in-Some.is c.greatest_known.ensures.most in
    record {
      room = made c.in-Some.greatest beyond is
          (λ clean. subst (λ (life : LifeState). MakesAll g.S.Store (life_row life ∷ []) (state g.S.Store c.args.shelf.now.conn).now (state g.S.Store c.raise.new.self.conn).committed) (sym is) (c.in-Ok.ensures.made clean))
          (λ clean. c.in-Ok.ensures.settled clean)
          (subst (λ (life : LifeState). Survives (state g.S.Store c.args.shelf.now.conn) (state g.S.Store c.raise.new.self.conn) (MadeBy g.S.Store (life_row life ∷ []) c.args.shelf.now.conn)) (sym is) c.in-Ok.ensures.crash);
      known = λ client. (let l = known client in let below = ap (λ (life : LifeState). life.below) is in omega (arith, l, below));
    }
