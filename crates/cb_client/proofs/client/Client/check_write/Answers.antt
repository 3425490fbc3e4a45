-- Goals of `Client::check_write`.
use Rattle.std.proofs.Common.{◌≡◌, ◌==◌, length, true, false, Err, sym, rules, arith}
use Rattle.std.proofs.lemmas.Bool.Decides.{nat_tests}
use Rattle.cb_page.specs.Flags.{has}
use Rattle.cb_client.proofs.Refusals.{write_free, write_is, write_shut, write_sized, write_unpermitted}
use Rattle.cb_client.proofs.client.Client.check_write.Goals as goal

pub returns-in_err-check_read-clause-decided : goal.returns-in_err-check_read-clause-decided
returns-in_err-check_read-clause-decided g c =
    let same : c.from_residual.result ≡ Err c.in_err-check_read.field-0.0 = search rules in
    rw same (write_is c.args.self.now c.args.page c.args.bytes.now _ (write_shut c.args.self.now c.args.page c.args.bytes.now _ c.in_err-check_read.ensures.causes))

pub returns-then-not-may_write-clause-decided : goal.returns-then-not-may_write-clause-decided
returns-then-not-may_write-clause-decided g c =
    let permitted : has c.args.self.now.copies.may_write c.args.page ≡ false = rw (← c.self.view_is) (sym c.if-not-may_write.ensures) in
    write_is c.args.self.now c.args.page c.args.bytes.now _ (write_unpermitted c.args.self.now c.args.page c.args.bytes.now c.in_ok-check_read.ensures.causes permitted)

pub returns-then-bytes-page_size-clause-decided : goal.returns-then-bytes-page_size-clause-decided
returns-then-bytes-page_size-clause-decided g c =
    let permitted : has c.args.self.now.copies.may_write c.args.page ≡ true = rw (← c.self.view_is) (sym c.if-not-may_write.ensures) in
    let sized : (length c.args.bytes.now == c.args.self.now.copies.limits.page_size) ≡ false = grind (arith, nat_tests, c.if-bytes-page_size.true, c.page_size.ensures.value, c.limits.ensures.value) in
    write_is c.args.self.now c.args.page c.args.bytes.now _ (write_sized c.args.self.now c.args.page c.args.bytes.now c.in_ok-check_read.ensures.causes permitted sized)

pub returns-clause-decided : goal.returns-clause-decided
returns-clause-decided g c =
    let permitted : has c.args.self.now.copies.may_write c.args.page ≡ true = rw (← c.self.view_is) (sym c.if-not-may_write.ensures) in
    let sized : (length c.args.bytes.now == c.args.self.now.copies.limits.page_size) ≡ true = grind (arith, nat_tests, c.if-bytes-page_size.false, c.page_size.ensures.value, c.limits.ensures.value) in
    write_is c.args.self.now c.args.page c.args.bytes.now _ (write_free c.args.self.now c.args.page c.args.bytes.now c.in_ok-check_read.ensures.causes permitted sized)
