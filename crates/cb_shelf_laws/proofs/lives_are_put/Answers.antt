-- Goals of `lives_are_put`.
use Rattle.cb_shelf_laws.proofs.Holding.{life_held}
use Rattle.cb_shelf_laws.proofs.Laying.{life_laid}
use Rattle.cb_shelf_laws.proofs.Lives.{batch_keeps, begins, puts, unlived_begins}
use Rattle.cb_shelf_laws.proofs.Unlived.{unlived_kept}
use Rattle.cb_shelf_laws.proofs.lives_are_put.Goals as goal

pub returns-clause-put : goal.returns-clause-put
returns-clause-put g c = puts g.S.Store

pub returns-clause-begin : goal.returns-clause-begin
returns-clause-begin g c = begins g.S.Store

pub returns-clause-unlived : goal.returns-clause-unlived
returns-clause-unlived g c = unlived_begins g.S.Store

pub returns-clause-kept : goal.returns-clause-kept
returns-clause-kept g c = batch_keeps g.S.Store

pub returns-clause-laid : goal.returns-clause-laid
returns-clause-laid g c = life_laid g.S.Store

pub returns-clause-stores : goal.returns-clause-stores
returns-clause-stores g c = life_held

pub returns-clause-unlived_stores : goal.returns-clause-unlived_stores
returns-clause-unlived_stores g c = unlived_kept
