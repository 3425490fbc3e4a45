-- Goals of `PolledClient::take`.
use Rattle.std.proofs.Common.{ℕ, refl, subst, sym}
use Rattle.std.specs.Prelude.{Err}
use Rattle.cb_client.specs.declared.client_fault.ClientFault.{ClientFault}
use Rattle.cb_handle.proofs.Taking.{client_taker, whole_fetched}
use Rattle.cb_handle.proofs.polled_client.PolledClient.take.Goals as goal
use Rattle.cb_handle.specs.Causes.{Decides, after_fetch, client_take_may, in_bytes}
use Rattle.cb_handle.specs.declared.refusal.HandleRefusal.TheVariants as refusal
use Rattle.cb_page.specs.Bounds.{AreInRange, Bounds}

pub returns-in-Ok-clause-why : goal.returns-in-Ok-clause-why
returns-in-Ok-clause-why c =
    let takes = c.in-Ok.ensures.ok in
    let range = subst (λ (l : Bounds). AreInRange l) c.limits.ensures.value c.page_size-known.ensures.in_range in
    whole_fetched c.args.self.now.said c.args.self.now.client.copies.limits c.args.bytes.now takes.frame _ (c.in_ok-check_fetched.ensures.fetched refl) range takes.begin.read

pub returns-in-Err-Taker-clause-why : goal.returns-in-Err-Taker-clause-why
returns-in-Err-Taker-clause-why c =
    let said = c.args.self.now.said in
    let client = c.args.self.now.client in
    let range = subst (λ (l : Bounds). AreInRange l) c.limits.ensures.value c.page_size-known.ensures.in_range in
    subst (λ (x : ClientFault). Decides {X = ℕ} (after_fetch said (in_bytes client.copies.limits c.args.bytes.now)) (client_take_may client c.args.bytes.now) (Err (refusal.Client x))) (sym c.in-Err-Taker.fault-is)
    (client_taker said client c.args.bytes.now c.in-Err-Taker.fault (c.in_ok-check_fetched.ensures.fetched refl) range (rw c.in-Err-Taker.field-0-is at c.in-Err-Taker.ensures.err))
