-- Goals of `ask`.
use Rattle.sqlite.specs.Values.{bound}
use Rattle.sqlite.specs.State.{HasCleanDisk}
use Rattle.sqlite.specs.Held.{state}
use Rattle.cb_shelf.specs.Inside.{IsAny}
use Rattle.cb_shelf.proofs.Stepping.{asked, refused, refused_kept}
use Rattle.cb_shelf.proofs.Asking.{shown_replies, refused_blames_nothing}
use Rattle.cb_shelf.proofs.step.ask.Goals as goal

pub returns-in_err-rows-clause-inside : goal.returns-in_err-rows-clause-inside
returns-in_err-rows-clause-inside g c =
    refused g.S.Store IsAny _ c.args.tx.now.conn.now c.query_all.new.self.conn.now c.from_residual.result c.from_residual.ensures.1
    (λ clean _. refused_kept (state g.S.Store c.args.tx.now.conn.now) (state g.S.Store c.query_all.new.self.conn.now) c.args.text.now (bound c.args.params.now) c.in_err-rows.field-0.0 (c.in_err-rows.ensures.err clean))
    c.query_all.ensures.survives

pub returns-clause-inside : goal.returns-clause-inside
returns-clause-inside g c =
    asked g.S.Store c.args.text.now (bound c.args.params.now) c.args.tx.now.conn.now c.query_all.new.self.conn.now _ c.in_ok-rows.rows c.in_ok-rows.ensures.ok c.query_all.ensures.survives

pub returns-in_err-rows-clause-tells : goal.returns-in_err-rows-clause-tells
returns-in_err-rows-clause-tells g c question =
    refused_blames_nothing g.S.Store _ c.args.tx.now.conn.now c.query_all.new.self.conn.now c.from_residual.result c.in_err-rows.field-0.0 c.from_residual.ensures.1

pub returns-clause-tells : goal.returns-clause-tells
returns-clause-tells g c question =
    let shown = λ (clean : HasCleanDisk (state g.S.Store c.query_all.new.self.conn.now)).
    shown_replies c.args.text.now (bound c.args.params.now) (state g.S.Store c.args.tx.now.conn.now) (state g.S.Store c.query_all.new.self.conn.now) c.in_ok-rows.rows.items question (c.in_ok-rows.ensures.ok clean) in
    record { told = λ clean. (shown clean).0; same = λ clean. (shown clean).1.0.now_is; blamed = λ _ wrong. cc }
