-- Goals of `read_pages`.
use Rattle.std.proofs.Common.{◌≡◌, ◌<◌, refl, sym, subst, ℕ, Ok, Err, rules, arith}
use Rattle.std.proofs.lemmas.List.Elements.{All-push}
use Rattle.sqlite.specs.Effect.{Database}
use Rattle.cb_commit.specs.Stores.{IsStored}
use Rattle.cb_shelf.specs.Inside.{IsNever}
use Rattle.cb_shelf.proofs.Stepping.{stays_any, asks_then, asks_judged}
use Rattle.cb_shelf.proofs.Asking.{tells_nothing, tells_then, tells_stops, tells_judged}
use Rattle.cb_shelf.specs.Reading.{HasPage, HasPages, HasNoPage}
use Rattle.cb_shelf.proofs.Answering.{not_refused, pages_more, tells_wanting}
use Rattle.cb_shelf.proofs.reading.read_pages.Goals as goal

pub loop-page-init : goal.loop-page-init
loop-page-init g c = record {
  same_reference = refl;
  inside = stays_any g.S.Store _ (Ok tt);
  count = search rules;
  stored = search rules;
  tells = tells_nothing g.S.Store _ _ _ IsNever (Ok tt) refl (λ db at low. absurd (omega arith)) (λ db wrong. not_refused wrong);
}

pub loop-page-preserved : goal.loop-page-preserved
loop-page-preserved g c =
    let size = c.args.limits.now.page_size in
    let stored = c.in_ok-stored.stored in
    record {
      same_reference = search rules;
      inside = asks_then g.S.Store _ _ _ tt (Ok tt) c.loop-page.invariant.inside (asks_judged g.S.Store _ _ stored (Ok tt) c.in_ok-stored.ensures.inside);
      count = search rules;
      stored = rw c.in_ok-push.ensures.items (All-push (IsStored size c.args.number) _ stored c.loop-page.invariant.stored c.in_ok-stored.ensures.stored);
      tells = tells_then g.S.Store _ _ _ _ _ _ _ _ IsNever tt stored (Ok tt)
          (λ db before next. subst (HasPages c.args.tables db size) (sym c.in_ok-push.ensures.items) (pages_more c.args.tables db size c.loop-page.page _ stored c.loop-page.invariant.count before (subst (λ (page : ℕ). HasPage c.args.tables db size page stored) c.new.ensures next)))
          (λ db before next wrong. not_refused wrong) c.loop-page.invariant.tells c.in_ok-stored.ensures.tells c.in_ok-stored.ensures.inside.survives;
    }

pub returns-in_err-stored-clause-tells : goal.returns-in_err-stored-clause-tells
returns-in_err-stored-clause-tells g c =
    let within : c.loop-page.page < c.args.limits.now.pages = search rules in
    let same : c.from_residual.result ≡ Err c.in_err-stored.field-0.0 = search rules in
    tells_stops g.S.Store _ _ _ _ _ _ _ _ _ _ _ _ same
    (λ db before h. (c.loop-page.page, within, subst (HasNoPage c.args.tables db c.args.limits.now.page_size c.args.number) c.new.ensures h))
    c.loop-page.invariant.tells c.in_err-stored.ensures.tells c.in_err-stored.ensures.inside.survives

pub returns-in_err-push-clause-tells : goal.returns-in_err-push-clause-tells
returns-in_err-push-clause-tells g c =
    tells_wanting g.S.Store _ _ (λ (db : Database) (read : Unit {0}). HasPages c.args.tables db c.args.limits.now.page_size c.loop-page.pages.items) _ IsNever _ tt c.from_residual-in_err-push.result c.from_residual-in_err-push.ensures.1
    (tells_then g.S.Store _ _ _ _ _ _ _ _ IsNever tt c.in_ok-stored.stored (Ok tt) (λ db before next. before) (λ db before next wrong. not_refused wrong) c.loop-page.invariant.tells c.in_ok-stored.ensures.tells c.in_ok-stored.ensures.inside.survives)

pub returns-clause-tells : goal.returns-clause-tells
returns-clause-tells g c = tells_judged g.S.Store _ _ _ _ _ _ tt (Ok c.loop-page.pages) (λ db known. known) (λ db known wrong. not_refused wrong) c.loop-page.invariant.tells
