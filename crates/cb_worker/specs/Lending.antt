-- What a worker is once the loan of a page's bytes is over.
use Rattle.std.specs.Prelude.{⊤}
use Rattle.std.specs.Borrow.{MutBor, Fml, RattleType, follows_so}
use mathlib.Core.Option.{none}
use Rattle.cb_twoq.specs.declared.chooser.Chooser as chooser
use Rattle.cb_worker.specs.Workers.{WorkerState}
use Rattle.cb_worker.specs.contracts.worker.Worker.{the_row}

module _ (Q : RattleType) (choose : chooser.Ghosts Q.Denot) where
  -- the worker ends as one of which this holds
  abbrev pub worker_ends : MutBor WorkerState → (WorkerState → Type 0) → Fml
  worker_ends lent Holds =
      follows_so (the_row Q choose) (the_row Q choose) lent.ghost_name none (λ _ _. ⊤) Holds
