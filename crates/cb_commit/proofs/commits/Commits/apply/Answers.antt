-- Goals of `Commits::apply`.
use Rattle.std.proofs.Common.{◌≡◌, ◌+◌, ◌∙◌, ℕ, ap, arith, rules}
use Rattle.cb_commit.specs.declared.commit.Commit.{Commit}
use Rattle.cb_commit.specs.History.{CommitsState}
use Rattle.cb_commit.specs.Memory.{commits_in}
use Rattle.cb_commit.proofs.Changed.{marks}
use Rattle.cb_commit.proofs.Folding.{applied_are}
use Rattle.cb_commit.proofs.commits.Commits.apply.Goals as goal

pub invariant_of-self-2 : goal.invariant_of-self-2
invariant_of-self-2 c =
    let s : CommitsState = commits_in c.self.inside.opening.items c.self.inside.store c.self.inside.commits c.self.inside.flushed in
    let one : Commit = record { client = c.args.client; incarnation = c.args.incarnation; txn = c.args.txn; number = c.new-number.result; writes = c.args.writes } in
    let number : c.new-number.result ≡ c.self.inside.store.number + 1 = omega (arith, c.new-number.ensures, c.number.ensures.value) in
    let are = c.self.invariant.0 in
    let fit = rw (← c.self.view_is) at c.requires.fit in
    rw (c.push_reserved.ensures.items, c.push_reserved.ensures.forgotten, c.reserve_one.ensures.items, c.reserve_one.ensures.forgotten, c.write.ensures, c.as_slice.ensures, c.mark.ensures)
    (applied_are s one are number fit.rising, marks c.args.writes s.flushed s.store.pages c.self.inside.changed c.new-number.result c.self.invariant.1 (omega (arith, number, are.to_last)) (λ k d lt. (fit.pages k d lt).page))

pub write-requires-clause-next : goal.write-requires-clause-next
write-requires-clause-next c = omega (arith, c.new-number.ensures, c.number.ensures.value)

pub returns-clause-number : goal.returns-clause-number
returns-clause-number c = c.new-number.ensures ∙ ap (λ (n : ℕ). n + 1) (c.number.ensures.value ∙ ap (λ (s : CommitsState). s.store.number) c.self.view_is)

pub returns-clause-ok : goal.returns-clause-ok
returns-clause-ok c = search rules
