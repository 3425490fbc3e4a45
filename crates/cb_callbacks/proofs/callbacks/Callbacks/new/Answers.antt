-- Goals of `Callbacks::new`.
use Rattle.std.proofs.Common.{sym, subst, arith}
use Rattle.cb_callbacks.proofs.Opening.{follows_new, waits_new}
use Rattle.cb_server_state.specs.States.{limits_of, opening_of}
use Rattle.cb_server_state.specs.Waits.{Waits}
use Rattle.cb_waits.specs.Follows.{Follows}
use Rattle.cb_callbacks.proofs.callbacks.Callbacks.new.Goals as goal

pub invariant_of-result : goal.invariant_of-result
invariant_of-result c =
    let same = c.in_ok-new.ensures.server in
    record {
      agree = c.in_ok-new.ensures.agree;
      waits = subst Waits (sym same) (waits_new (limits_of c.args.limits.now) (opening_of c.args.store));
      follows = subst (Follows c.nobody.result) (sym same) (follows_new (limits_of c.args.limits.now) (opening_of c.args.store) c.nobody.result c.nobody.ensures);
      few = let is = c.in_ok-new.ensures.of.clients in let range = c.clients-known.ensures.in_range.clients in omega (arith, is, range);
    }
