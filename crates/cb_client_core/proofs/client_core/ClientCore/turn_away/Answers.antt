-- Goals of `ClientCore::turn_away`.
use Rattle.std.proofs.Common.{sym, ◌∙◌}
use Rattle.cb_client_core.proofs.Granting.{ignores, refuses, refuses_keeps}
use Rattle.cb_client_core.proofs.client_core.ClientCore.turn_away.Goals as goal

pub returns-in-Ignored-clause-takes : goal.returns-in-Ignored-clause-takes
returns-in-Ignored-clause-takes g c = λ version bytes case. ignores _ c.args.page c.args.grant version bytes c.requires.welcomed (sym case ∙ c.in-Ignored.is)

pub returns-in-Refused-clause-takes : goal.returns-in-Refused-clause-takes
returns-in-Refused-clause-takes g c = λ version bytes case. rw (c.give_back.ensures, c.called-due.ensures)
    (refuses _ c.args.page c.args.grant version bytes _ c.requires.sound c.requires.welcomed (sym case ∙ c.in-Refused.is) c.refuse.ensures)

pub returns-in-Refused-clause-sound : goal.returns-in-Refused-clause-sound
returns-in-Refused-clause-sound g c = λ version bytes case fits. refuses_keeps _ c.args.page c.args.grant version bytes _ c.requires.sound c.requires.welcomed fits (sym case ∙ c.in-Refused.is) c.refuse.ensures
