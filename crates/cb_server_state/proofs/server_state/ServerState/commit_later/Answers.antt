-- Goals of `ServerState::commit_later`.
use Rattle.std.proofs.Common.{subst, ◌≡◌, ◌∙◌, true, false, refl, rules, sym, ap}
use Rattle.cb_links.specs.Changes.{is_live_transaction}
use Rattle.cb_server_state.proofs.Later.{after_end, after_kept, after_live, later_agree}
use Rattle.cb_server_state.proofs.Steps.{Forgotten}
use Rattle.cb_server_state.specs.declared.server_state.ServerState.{ServerState}
use Rattle.cb_server_state.proofs.server_state.ServerState.commit_later.Goals as goal
use Rattle.cb_server_state.proofs.server_state.ServerState.commit_later.Goals.{then-lives, then-lives-via-then-lives, then-lives-via-else-lives+then-not-self, else-lives+else-not-self}

pub returns-clause-agree : goal.returns-clause-agree
returns-clause-agree c =
    elim c.if-lives.branch [
      | then-lives w ↦
          let gone = subst (λ (v : ServerState). Forgotten v.asks v.marks c.args.client c.forget.new.asks c.forget.new.marks) w.self-is
          (record { removed = c.forget.ensures.asks; cleared = c.forget.ensures.marks }) in
          rw (c.end.ensures, c.begin.ensures, w.self-is, c.in_ok-commit.ensures.number, c.in_ok-commit.ensures.ok)
          (later_agree c.args.self.now c.args.client c.args.incarnation c.args.txn c.args.writes _ _ c.requires.agree c.requires.client gone c.requires.current c.requires.later c.requires.fit _ w.clear_writers.ensures.has.size)
      | else-lives+else-not-self w ↦
          let gone = subst (λ (v : ServerState). Forgotten v.asks v.marks c.args.client c.forget.new.asks c.forget.new.marks) w.self-is
          (record { removed = c.forget.ensures.asks; cleared = c.forget.ensures.marks }) in
          rw (c.end.ensures, c.begin.ensures, w.self-is, c.in_ok-commit.ensures.number, c.in_ok-commit.ensures.ok)
          (later_agree c.args.self.now c.args.client c.args.incarnation c.args.txn c.args.writes _ _ c.requires.agree c.requires.client gone c.requires.current c.requires.later c.requires.fit _ (record { clients = refl; pages = refl }))
    ]

pub returns-clause-ok : goal.returns-clause-ok
returns-clause-ok c =
    let known = c.is_live-lives.ensures ∙ ap (λ s. is_live_transaction s.transaction) c.session.ensures in
    elim c.if-lives.branch [
      | then-lives w ↦
          let gone = subst (λ (v : ServerState). Forgotten v.asks v.marks c.args.client c.forget.new.asks c.forget.new.marks) w.self-is
          (record { removed = c.forget.ensures.asks; cleared = c.forget.ensures.marks }) in
          elim w.then-lives.branch [
            | then-lives-via-then-lives u ↦
                rw (c.end.ensures, c.begin.ensures, w.self-is, c.in_ok-commit.ensures.number, c.in_ok-commit.ensures.ok)
                (after_live c.args.self.now c.args.client c.args.incarnation c.args.txn c.args.writes _ _ c.requires.agree c.requires.client gone c.requires.current c.requires.later c.requires.fit _ (sym known ∙ u.if-lives.true) w.clear_writers.ensures)
            | then-lives-via-else-lives+then-not-self u ↦
                let ending : c.args.self.now.keep_write ≡ false = search rules in
                rw (c.end.ensures, c.begin.ensures, w.self-is, c.in_ok-commit.ensures.number, c.in_ok-commit.ensures.ok)
                (after_end c.args.self.now c.args.client c.args.incarnation c.args.txn c.args.writes _ _ c.requires.agree c.requires.client gone c.requires.current c.requires.later c.requires.fit _ (sym known ∙ u.if-lives.false) ending w.clear_writers.ensures)
          ]
      | else-lives+else-not-self w ↦
          let gone = subst (λ (v : ServerState). Forgotten v.asks v.marks c.args.client c.forget.new.asks c.forget.new.marks) w.self-is
          (record { removed = c.forget.ensures.asks; cleared = c.forget.ensures.marks }) in
          let keeping : c.args.self.now.keep_write ≡ true = search rules in
          rw (c.end.ensures, c.begin.ensures, w.self-is, c.in_ok-commit.ensures.number, c.in_ok-commit.ensures.ok)
          (after_kept c.args.self.now c.args.client c.args.incarnation c.args.txn c.args.writes _ _ c.requires.agree c.requires.client gone c.requires.current c.requires.later c.requires.fit (sym known ∙ w.if-lives.false) keeping)
    ]
