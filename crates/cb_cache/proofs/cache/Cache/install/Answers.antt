-- Goals of `Cache::install`.
use Rattle.std.proofs.Common.{◌≡◌, Err, rules}
use Rattle.cb_cache.proofs.Steps.{installs}
use Rattle.cb_cache.proofs.Keeping.{keeps_installed}
use Rattle.cb_cache.proofs.PoolRoom.{full_by}
use Rattle.cb_cache.proofs.cache.Cache.install.Goals as goal

pub returns-in_err-gone-clause-full : goal.returns-in_err-gone-clause-full
returns-in_err-gone-clause-full g c =
    let same : c.from_residual.result ≡ Err c.in_err-gone.field-0.0 = search rules in
    rw same (rw (← c.self.view_is) (full_by _ c.self.invariant c.args.page _ c.in_err-gone.ensures.full))

pub returns-clause-full : goal.returns-clause-full
returns-clause-full g c = rw (← c.self.view_is) (full_by _ c.self.invariant c.args.page _ c.in_ok-gone.ensures.full)

pub invariant_of-self-2 : goal.invariant_of-self-2
invariant_of-self-2 g c = rw (c.put.ensures, c.at-copy.ensures, c.in_ok-gone.ensures.pages)
    (keeps_installed _ c.args.page c.args.grant c.args.version c.args.bytes c.in_ok-gone.gone _ (rw (← c.self.view_is) at c.requires.page) c.self.invariant c.in_ok-gone.ensures.gone)

pub returns-clause-ok : goal.returns-clause-ok
returns-clause-ok g c = rw (c.put.ensures, c.at-copy.ensures, c.in_ok-gone.ensures.pages, ← c.self.view_is)
    (installs _ c.args.page c.args.grant c.args.version c.args.bytes c.in_ok-gone.gone (rw (← c.self.view_is) at c.requires.page) c.self.invariant c.in_ok-gone.ensures.gone)
