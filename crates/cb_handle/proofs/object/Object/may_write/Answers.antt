-- Goals of `Object::may_write`.
use Rattle.std.proofs.Common.{subst, sym}
use Rattle.cb_handle.specs.Objects.{ShowsPermission}
use Rattle.cb_handle.specs.declared.object.Object.{Object}
use Rattle.cb_handle.proofs.object.Object.may_write.Goals as goal

pub returns-in-Client : goal.returns-in-Client
returns-in-Client c = subst (λ (x : Object). ShowsPermission x c.args.page c.may_write.result) (sym c.in-Client.is) (c.may_write.ensures.within, c.may_write.ensures.past)
