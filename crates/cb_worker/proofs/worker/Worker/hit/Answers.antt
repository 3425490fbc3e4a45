-- Goals of `Worker::hit`.
use Rattle.std.proofs.Common.{◌≡◌, true, sym, ◌∙◌, ap, refl}
use Rattle.std.specs.Option.{option_copied}
use Rattle.cb_cache.specs.CacheState.{content_at}
use Rattle.cb_worker.proofs.Reading.{hits, peeked, same_bytes}
use Rattle.cb_worker.specs.Workers.{WorkerState, may_hit}
use Rattle.cb_worker.proofs.worker.Worker.hit.Goals as goal

pub returns-then-read_here : goal.returns-then-read_here
returns-then-read_here g c =
    let may : may_hit c.args.self.now c.args.page ≡ true = sym c.if-read_here.ensures.here in
    let bytes : option_copied c.peek.result ≡ content_at c.args.self.now.client.copies c.args.page =
    peeked c.self.inside.client c.args.page (option_copied c.peek.result) c.peek.ensures ∙ ap (λ (w : WorkerState). content_at w.client.copies c.args.page) (c.self.view_is ∙ c.read_here.ensures.after) ∙ same_bytes c.args.self.now c.args.page may in (
      (refl, λ x. tt, c.self.view_is ∙ c.read_here.ensures.after),
      record { ends = tt; hits = hits c.args.self.now c.args.page (option_copied c.peek.result) may bytes },
    )
