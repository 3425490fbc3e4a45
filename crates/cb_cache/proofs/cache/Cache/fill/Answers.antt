-- Goals of `Cache::fill`.
use Rattle.std.proofs.Common.{refl}
use Rattle.cb_cache.proofs.Keeping.{keeps_fill}
use Rattle.cb_cache.proofs.Steps.{fill_result}
use Rattle.cb_cache.proofs.PoolRoom.{full_by}
use Rattle.cb_cache.proofs.cache.Cache.fill.Goals as goal

pub returns-clause-full : goal.returns-clause-full
returns-clause-full g c = rw (← c.self.view_is) (full_by _ c.self.invariant c.args.page _ c.install_or_return.ensures.full)

pub returns-clause-ok : goal.returns-clause-ok
returns-clause-ok g c = rw (← c.self.view_is)
    (fill_result _ _ c.args.page c.args.bytes c.install_or_return.result c.install_or_return.new.self (rw (← c.self.view_is) at c.requires.page) c.self.invariant c.install_or_return.ensures.pages c.install_or_return.ensures.gone refl)

pub invariant_of-self : goal.invariant_of-self
invariant_of-self g c = keeps_fill _ c.args.page c.args.bytes c.install_or_return.result c.install_or_return.new.self (rw (← c.self.view_is) at c.requires.page) (rw (← c.self.view_is) at c.requires.held) c.self.invariant
    c.install_or_return.ensures.pages c.install_or_return.ensures.gone c.install_or_return.ensures.err
