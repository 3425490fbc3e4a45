-- Goals of `ClientCore::take_in`.
use Rattle.std.proofs.Common.{sym, ◌∙◌}
use Rattle.cb_client_core.proofs.Granting.{filled_of, fills, fills_keeps, gone_page, gone_unwritten, installed_of, installs, installs_keeps, none_here, not_full, full_alone}
use Rattle.cb_cache.specs.ByTable.{Filled, Installed}
use Rattle.cb_client_core.proofs.client_core.ClientCore.take_in.Goals as goal

pub come_in-requires : goal.come_in-requires
come_in-requires g c = full_alone c.fill.result c.args.bytes
    (λ full. not_full _ c.args.page c.requires.sound (filled_of _ c.requires.sound c.args.page c.args.grant c.args.version (sym c.requires.case ∙ c.in-Filled.is)).asked ((c.fill.ensures.full.0 full).1)) c.fill.ensures.back

pub come_in-requires-in-Installed : goal.come_in-requires-in-Installed
come_in-requires-in-Installed g c = full_alone c.install.result c.args.bytes
    (λ full. not_full _ c.args.page c.requires.sound (installed_of _ c.requires.sound c.args.page c.args.grant c.args.version (sym c.requires.case ∙ c.in-Installed.is)).asked ((c.install.ensures.full.0 full).1)) c.install.ensures.back

pub give_gone-requires-clause-page : goal.give_gone-requires-clause-page
give_gone-requires-clause-page g c =
    let is = filled_of _ c.requires.sound c.args.page c.args.grant c.args.version (sym c.requires.case ∙ c.in-Filled.is) in
    gone_page _ c.requires.sound c.args.page c.in_ok-gone-in-Filled.gone _ _ is.bare ((rw c.in_ok-gone-in-Filled.ensures.ok at c.fill.ensures.ok) c.args.grant)

pub give_gone-requires-clause-unwritten : goal.give_gone-requires-clause-unwritten
give_gone-requires-clause-unwritten g c =
    let is = filled_of _ c.requires.sound c.args.page c.args.grant c.args.version (sym c.requires.case ∙ c.in-Filled.is) in
    gone_unwritten _ c.requires.sound c.args.page c.in_ok-gone-in-Filled.gone _ _ (Filled c.args.grant c.args.bytes) is.bare ((rw c.in_ok-gone-in-Filled.ensures.ok at c.fill.ensures.ok) c.args.grant)

pub give_gone-frame-requires-clause-page : goal.give_gone-frame-requires-clause-page
give_gone-frame-requires-clause-page g c =
    let is = installed_of _ c.requires.sound c.args.page c.args.grant c.args.version (sym c.requires.case ∙ c.in-Installed.is) in
    gone_page _ c.requires.sound c.args.page c.in_ok-gone-in-Installed.gone _ _ (none_here _ c.requires.sound c.args.page is.none_held) (rw c.in_ok-gone-in-Installed.ensures.ok at c.install.ensures.ok)

pub give_gone-frame-requires-clause-unwritten : goal.give_gone-frame-requires-clause-unwritten
give_gone-frame-requires-clause-unwritten g c =
    let is = installed_of _ c.requires.sound c.args.page c.args.grant c.args.version (sym c.requires.case ∙ c.in-Installed.is) in
    gone_unwritten _ c.requires.sound c.args.page c.in_ok-gone-in-Installed.gone _ _ (Installed c.args.grant c.args.version c.args.bytes) (none_here _ c.requires.sound c.args.page is.none_held) (rw c.in_ok-gone-in-Installed.ensures.ok at c.install.ensures.ok)

pub returns-in_ok-gone-in-Filled-clause-sound : goal.returns-in_ok-gone-in-Filled-clause-sound
returns-in_ok-gone-in-Filled-clause-sound g c =
    fills_keeps _ c.args.page c.args.grant c.args.version c.args.bytes c.in_ok-gone-in-Filled.gone _ _ c.give_gone.result c.requires.sound c.requires.welcomed c.requires.fits
    (filled_of _ c.requires.sound c.args.page c.args.grant c.args.version (sym c.requires.case ∙ c.in-Filled.is)) ((rw c.in_ok-gone-in-Filled.ensures.ok at c.fill.ensures.ok) c.args.grant) c.give_gone.ensures.does c.give_gone.ensures.says

pub returns-in_ok-gone-in-Filled-clause-ok : goal.returns-in_ok-gone-in-Filled-clause-ok
returns-in_ok-gone-in-Filled-clause-ok g c = (fills _ c.args.page c.args.grant c.args.version c.args.bytes c.in_ok-gone-in-Filled.gone _ _ c.give_gone.result c.requires.sound c.requires.welcomed
    (filled_of _ c.requires.sound c.args.page c.args.grant c.args.version (sym c.requires.case ∙ c.in-Filled.is)) ((rw c.in_ok-gone-in-Filled.ensures.ok at c.fill.ensures.ok) c.args.grant) c.give_gone.ensures.does c.give_gone.ensures.says)

pub returns-in_ok-gone-in-Installed-clause-sound : goal.returns-in_ok-gone-in-Installed-clause-sound
returns-in_ok-gone-in-Installed-clause-sound g c = rw c.lock.ensures
    (installs_keeps _ c.args.page c.args.grant c.args.version c.args.bytes c.in_ok-gone-in-Installed.gone _ _ c.give_gone-frame.result c.requires.sound c.requires.welcomed c.requires.fits
    (installed_of _ c.requires.sound c.args.page c.args.grant c.args.version (sym c.requires.case ∙ c.in-Installed.is)) (rw c.in_ok-gone-in-Installed.ensures.ok at c.install.ensures.ok) c.give_gone-frame.ensures.does c.give_gone-frame.ensures.says)

pub returns-in_ok-gone-in-Installed-clause-ok : goal.returns-in_ok-gone-in-Installed-clause-ok
returns-in_ok-gone-in-Installed-clause-ok g c = rw c.lock.ensures
    (installs _ c.args.page c.args.grant c.args.version c.args.bytes c.in_ok-gone-in-Installed.gone _ _ c.give_gone-frame.result c.requires.sound c.requires.welcomed c.requires.fits
    (installed_of _ c.requires.sound c.args.page c.args.grant c.args.version (sym c.requires.case ∙ c.in-Installed.is)) (rw c.in_ok-gone-in-Installed.ensures.ok at c.install.ensures.ok) c.give_gone-frame.ensures.does c.give_gone-frame.ensures.says)
