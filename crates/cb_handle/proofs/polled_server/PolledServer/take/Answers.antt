-- Goals of `PolledServer::take`.
use Rattle.std.proofs.Common.{ℕ, refl, subst, sym}
use Rattle.std.specs.Prelude.{Err}
use Rattle.cb_handle.proofs.Taking.{server_taker, whole_fetched}
use Rattle.cb_handle.proofs.polled_server.PolledServer.take.Goals as goal
use Rattle.cb_handle.specs.Causes.{Decides, after_fetch, in_bytes, server_take_may}
use Rattle.cb_handle.specs.declared.refusal.HandleRefusal.TheVariants as refusal
use Rattle.cb_page.specs.Bounds.{AreInRange, Bounds}
use Rattle.cb_server.specs.declared.server_fault.ServerFault.{ServerFault}

pub returns-in-Ok-clause-why : goal.returns-in-Ok-clause-why
returns-in-Ok-clause-why c =
    let takes = c.in-Ok.ensures.ok in
    let range = subst (λ (l : Bounds). AreInRange l) c.limits.ensures.value c.page_size-known.ensures.in_range in
    whole_fetched c.args.self.now.said c.args.self.now.server.limits c.args.bytes.now takes.frame _ (c.in_ok-check_fetched.ensures.fetched refl) range takes.read

pub returns-in-Err-Taker-clause-why : goal.returns-in-Err-Taker-clause-why
returns-in-Err-Taker-clause-why c =
    let said = c.args.self.now.said in
    let server = c.args.self.now.server in
    let range = subst (λ (l : Bounds). AreInRange l) c.limits.ensures.value c.page_size-known.ensures.in_range in
    subst (λ (x : ServerFault). Decides {X = ℕ} (after_fetch said (in_bytes server.limits c.args.bytes.now)) (server_take_may server c.args.bytes.now) (Err (refusal.Server x))) (sym c.in-Err-Taker.fault-is)
    (server_taker said server c.args.bytes.now c.in-Err-Taker.fault (c.in_ok-check_fetched.ensures.fetched refl) range (rw c.in-Err-Taker.field-0-is at c.in-Err-Taker.ensures.err))
