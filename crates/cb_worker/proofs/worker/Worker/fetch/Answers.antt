-- Goals of `Worker::fetch`.
use Rattle.std.proofs.Common.{◌≡◌, ℕ, true, sym, ◌∙◌, ap, refl, rules, subst}
use Rattle.std.specs.Option.{option_copied}
use Rattle.cb_cache.specs.CacheState.{content_at}
use Rattle.cb_worker.proofs.Reading.{fetches, not_bare, peeked}
use Rattle.cb_client_core.specs.ClientState.{IsClient}
use Rattle.cb_worker.proofs.Using.{uses_read}
use Rattle.cb_worker.specs.Keeping.{Uses}
use Rattle.cb_worker.specs.Waiting.{HasRead}
use Rattle.cb_worker.specs.Workers.{WorkerState, seen_by}
use Rattle.cb_worker.specs.Moving.{IsStill}
use Rattle.cb_worker.proofs.worker.Worker.fetch.Goals as goal

pub returns : goal.returns
returns g c =
    let yes : c.in_ok-fetch_copy.field-0 ≡ true = search rules in
    let has : HasRead c.fetch_copy.new.self c.args.page = rw yes at c.in_ok-fetch_copy.ensures.reads in
    let there : option_copied c.peek.result ≡ content_at c.fetch_copy.new.self.client.copies c.args.page =
    peeked c.self.inside.client c.args.page (option_copied c.peek.result) c.peek.ensures ∙ ap (λ (w : WorkerState). content_at w.client.copies c.args.page) c.self.view_is in
    let still = subst (λ (w : WorkerState). IsStill c.args.self.now w) (sym c.self.view_is) c.fetch_copy.ensures.still in
    let all = fetches c.fetch_copy.new.self c.args.page c.in-Some.bytes.now has (ap option_copied (sym c.in-Some.is) ∙ there) in
    let uses = subst (λ (w : WorkerState). (grant : ℕ) × Uses (seen_by w) c.args.page grant c.in-Some.bytes.now) (sym c.self.view_is)
    (uses_read all.0 c.fetch_copy.new.self c.args.page c.in-Some.bytes.now all.1 all.2 (sym (ap option_copied (sym c.in-Some.is) ∙ there)) (subst (λ (w : WorkerState). IsClient w.client) c.self.view_is c.limits-known.ensures.arose)) in
    ((refl, λ x. tt, (still, (c.in_ok-fetch_copy.ensures.had, all.0, all.1, c.self.view_is ∙ all.2, still, uses), tt)), record { ends = tt; at_hand = tt; refused = tt })

pub unreachable-requires : goal.unreachable-requires
unreachable-requires g c =
    let yes : c.in_ok-fetch_copy.field-0 ≡ true = search rules in
    let has : HasRead c.fetch_copy.new.self c.args.page = rw yes at c.in_ok-fetch_copy.ensures.reads in
    let there : option_copied c.peek.result ≡ content_at c.fetch_copy.new.self.client.copies c.args.page =
    peeked c.self.inside.client c.args.page (option_copied c.peek.result) c.peek.ensures ∙ ap (λ (w : WorkerState). content_at w.client.copies c.args.page) c.self.view_is in
    not_bare c.fetch_copy.new.self c.args.page has (ap option_copied (sym c.in_default.is) ∙ there)
