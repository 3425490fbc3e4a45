-- Goals of `own_changes`.
use Rattle.cb_hands.proofs.Agreeing.{copy_comes, copy_goes, empty_hand, permission_comes, permissions_end}
use Rattle.cb_hands.proofs.agreement.own_changes.Goals as goal

pub returns : goal.returns
returns c = record { empty = empty_hand; comes = copy_comes; goes = copy_goes; told = permission_comes; ended = permissions_end }
