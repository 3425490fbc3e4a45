-- Goals of `IndexedQueues::forget`.
use Rattle.std.proofs.Common.{List, ℕ, sym, ◌∙◌, ap}
use Rattle.cb_twoq.specs.Indexed.{queues_of}
use Rattle.cb_twoq.proofs.Placing.{forgets_none, forgets_a1in, forgets_am}
use Rattle.cb_twoq.proofs.twoq.queues.IndexedQueues.forget.Goals as goal

pub returns-in-Out-clause-queues : goal.returns-in-Out-clause-queues
returns-in-Out-clause-queues c = forgets_none (queues_of c.args.self.now) c.args.page (sym c.in-Out.is ∙ c.requires.place)

pub returns-in-A1in-clause-queues : goal.returns-in-A1in-clause-queues
returns-in-A1in-clause-queues c =
    ap (λ (l : List ℕ). record (queues_of c.args.self.now) { a1in = l }) c.take_off.ensures.pages
    ∙ forgets_a1in (queues_of c.args.self.now) c.args.page (sym c.in-A1in.is ∙ c.requires.place)

pub returns-in-Am-clause-queues : goal.returns-in-Am-clause-queues
returns-in-Am-clause-queues c =
    ap (λ (l : List ℕ). record (queues_of c.args.self.now) { am = l }) c.pop.ensures.pages
    ∙ forgets_am (queues_of c.args.self.now) c.args.page c.requires.queues (sym c.in-Am.is ∙ c.requires.place)
