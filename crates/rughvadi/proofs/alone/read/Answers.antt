-- Goals of `read`.
use Rattle.std.proofs.Common.{◌≡◌, ◌∙◌, Option, None, ap, subst}
use Rattle.std.specs.Option.{option_or}
use Rattle.cb_handle.proofs.Taking.{whole_frame}
use Rattle.cb_handle.specs.Causes.{in_bytes}
use Rattle.cb_handle.specs.declared.refusal.HandleRefusal.{HandleRefusal}
use Rattle.cb_page.specs.Bounds.{Bounds}
use Rattle.rughvadi.proofs.alone.read.Goals as goal
use Rattle.rughvadi.specs.Limits.{bounds_of}

pub returns-in-Ok-clause-why : goal.returns-in-Ok-clause-why
returns-in-Ok-clause-why c =
    let bytes = c.args.bytes.now in
    let whole : in_bytes (bounds_of c.args.limits.now) bytes ≡ None = subst (λ (l : Bounds). in_bytes l bytes ≡ None) c.in_ok-limits.ensures.limits (whole_frame _ bytes _ _ c.page_size-known.ensures.in_range c.in-Ok.ensures.found) in
    ap (λ (x : Option HandleRefusal). option_or x (in_bytes (bounds_of c.args.limits.now) bytes)) c.in_ok-limits.ensures.why ∙ whole
