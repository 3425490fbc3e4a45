-- Goals of `ServerState::apply_commit`.
use Rattle.std.proofs.Common.{subst, ◌≡◌, true, false, refl, rules}
use Rattle.cb_server_state.proofs.Applying.{MayApply, applied_agree, applies_ending, applies_keeping}
use Rattle.cb_server_state.proofs.Steps.{Forgotten}
use Rattle.cb_server_state.specs.declared.server_state.ServerState.{ServerState}
use Rattle.cb_server_state.proofs.server_state.ServerState.apply_commit.Goals as goal
use Rattle.cb_server_state.proofs.server_state.ServerState.apply_commit.Goals.{then-not-self, else-not-self}

pub returns-clause-agree : goal.returns-clause-agree
returns-clause-agree c =
    elim c.if-not-self.branch [
      | then-not-self w ↦
          let gone = subst (λ (v : ServerState). Forgotten v.asks v.marks c.args.client c.forget.new.asks c.forget.new.marks) w.self-is
          (record { removed = c.forget.ensures.asks; cleared = c.forget.ensures.marks }) in
          rw (c.end.ensures, w.self-is, c.in_ok-number.ensures.number, c.in_ok-number.ensures.ok)
          (applied_agree c.args.self.now c.args.client c.args.incarnation c.args.txn c.args.writes _ _ _ c.requires.agree c.requires.client w.clear_writers.ensures.has.size gone)
      | else-not-self w ↦
          let gone = subst (λ (v : ServerState). Forgotten v.asks v.marks c.args.client c.forget.new.asks c.forget.new.marks) w.self-is
          (record { removed = c.forget.ensures.asks; cleared = c.forget.ensures.marks }) in
          rw (c.end.ensures, w.self-is, c.in_ok-number.ensures.number, c.in_ok-number.ensures.ok)
          (applied_agree c.args.self.now c.args.client c.args.incarnation c.args.txn c.args.writes _ _ _ c.requires.agree c.requires.client (record { clients = refl; pages = refl }) gone)
    ]

pub returns-clause-ok : goal.returns-clause-ok
returns-clause-ok c =
    let may : MayApply c.args.self.now c.args.client c.args.incarnation c.args.txn c.args.writes = record {
      client = c.requires.client;
      current = c.requires.current;
      txn = c.requires.txn;
      live = c.requires.live;
      fit = c.requires.fit;
    } in
    elim c.if-not-self.branch [
      | then-not-self w ↦
          let gone = subst (λ (v : ServerState). Forgotten v.asks v.marks c.args.client c.forget.new.asks c.forget.new.marks) w.self-is
          (record { removed = c.forget.ensures.asks; cleared = c.forget.ensures.marks }) in
          let ending : c.args.self.now.keep_write ≡ false = search rules in
          rw (c.end.ensures, w.self-is, c.in_ok-number.ensures.number, c.in_ok-number.ensures.ok)
          (applies_ending c.args.self.now c.args.client c.args.incarnation c.args.txn c.args.writes _ _ _ c.requires.agree may ending w.clear_writers.ensures gone)
      | else-not-self w ↦
          let gone = subst (λ (v : ServerState). Forgotten v.asks v.marks c.args.client c.forget.new.asks c.forget.new.marks) w.self-is
          (record { removed = c.forget.ensures.asks; cleared = c.forget.ensures.marks }) in
          let keeping : c.args.self.now.keep_write ≡ true = search rules in
          rw (c.end.ensures, w.self-is, c.in_ok-number.ensures.number, c.in_ok-number.ensures.ok)
          (applies_keeping c.args.self.now c.args.client c.args.incarnation c.args.txn c.args.writes _ _ c.requires.agree may keeping gone)
    ]
