-- Goals of `ServerState::begin`.
use Rattle.std.proofs.Common.{subst, ◌≡◌, true, false, rules}
use Rattle.cb_links.specs.Changes.{is_live_transaction, session_of}
use Rattle.cb_server_state.proofs.Steps.{Forgotten, begins_after, begins_live}
use Rattle.cb_server_state.specs.declared.server_state.ServerState.{ServerState}
use Rattle.cb_server_state.proofs.server_state.ServerState.begin.Goals as goal
use Rattle.cb_server_state.proofs.server_state.ServerState.begin.Goals.{then-is_live, else-is_live}

pub returns-clause-does : goal.returns-clause-does
returns-clause-does c =
    elim c.if-is_live.branch [
      | then-is_live w ↦
          let live : is_live_transaction (session_of c.args.self.now.sessions c.args.client).transaction ≡ true = search rules in
          rw (c.begin.ensures, w.self-is)
          (begins_live c.args.self.now c.args.client c.args.txn _ _ _ c.requires.client c.requires.agree live w.clear_writers.ensures
          (subst (λ (v : ServerState). Forgotten v.asks v.marks c.args.client c.forget.new.asks c.forget.new.marks) w.self-is
          (record { removed = c.forget.ensures.asks; cleared = c.forget.ensures.marks })))
      | else-is_live w ↦
          let over : is_live_transaction (session_of c.args.self.now.sessions c.args.client).transaction ≡ false = search rules in
          rw (c.begin.ensures, w.self-is)
          (begins_after c.args.self.now c.args.client c.args.txn _ _ c.requires.client c.requires.agree over
          (subst (λ (v : ServerState). Forgotten v.asks v.marks c.args.client c.forget.new.asks c.forget.new.marks) w.self-is
          (record { removed = c.forget.ensures.asks; cleared = c.forget.ensures.marks })))
    ]
