-- Goals of `Client::read_or_ask`.
use Rattle.std.proofs.Common.{◌≡◌, Err, refl, sym, ◌∙◌, rules}
use Rattle.cb_client.proofs.Calling.{after_here, after_refused, called_here, called_refused, finds_here, read_shut_out}
use Rattle.cb_client.proofs.Refusals.{fetch_is, fetch_shut, page_shut, page_within}
use Rattle.cb_client.proofs.client.Client.read_or_ask.Goals as goal

pub returns-in_err-check_finish-clause-decided : goal.returns-in_err-check_finish-clause-decided
returns-in_err-check_finish-clause-decided g c =
    let same : c.from_residual.result ≡ Err c.in_err-check_finish.field-0.0 = search rules in
    rw same (fetch_is c.args.self.now c.args.page _ (fetch_shut c.args.self.now c.args.page _ (page_shut c.args.self.now c.args.page _ c.in_err-check_finish.ensures.decided)))

pub returns-in_err-check_finish-clause-after : goal.returns-in_err-check_finish-clause-after
returns-in_err-check_finish-clause-after g c = after_refused c.args.self.now c.args.page _
    (read_shut_out c.args.self.now c.args.page c.in_err-check_finish.field-0.0 (page_shut c.args.self.now c.args.page _ c.in_err-check_finish.ensures.decided))

pub returns-in_err-check_finish-clause-called : goal.returns-in_err-check_finish-clause-called
returns-in_err-check_finish-clause-called g c = called_refused c.args.self.now c.args.page _
    (read_shut_out c.args.self.now c.args.page c.in_err-check_finish.field-0.0 (page_shut c.args.self.now c.args.page _ c.in_err-check_finish.ensures.decided))

pub returns-then-lock_here-clause-decided : goal.returns-then-lock_here-clause-decided
returns-then-lock_here-clause-decided g c =
    let free = page_within c.args.self.now c.args.page c.in_ok-check_finish.ensures.decided (c.if-lock_here.ensures.page refl) in
    finds_here c.args.self.now c.args.page free (sym c.if-lock_here.ensures.here)

pub returns-then-lock_here-clause-after : goal.returns-then-lock_here-clause-after
returns-then-lock_here-clause-after g c =
    let free = page_within c.args.self.now c.args.page c.in_ok-check_finish.ensures.decided (c.if-lock_here.ensures.page refl) in
    let here = sym c.if-lock_here.ensures.here in
    c.if-lock_here.ensures.read refl ∙ after_here _ c.args.page (finds_here c.args.self.now c.args.page free here) here

pub returns-then-lock_here-clause-called : goal.returns-then-lock_here-clause-called
returns-then-lock_here-clause-called g c =
    let free = page_within c.args.self.now c.args.page c.in_ok-check_finish.ensures.decided (c.if-lock_here.ensures.page refl) in
    let here = sym c.if-lock_here.ensures.here in
    rw (c.if-lock_here.ensures.read refl) (called_here _ c.args.page (finds_here c.args.self.now c.args.page free here) (c.if-lock_here.ensures.locks refl) here)

pub ask_to_read-requires-clause-free : goal.ask_to_read-requires-clause-free
ask_to_read-requires-clause-free g c = rw (c.if-lock_here.ensures.away refl) c.in_ok-check_finish.ensures.decided

pub ask_to_read-requires-clause-away : goal.ask_to_read-requires-clause-away
ask_to_read-requires-clause-away g c = rw (c.if-lock_here.ensures.away refl) (sym c.if-lock_here.ensures.here)

pub returns-in_err-ask_to_read-clause-decided : goal.returns-in_err-ask_to_read-clause-decided
returns-in_err-ask_to_read-clause-decided g c =
    let same : c.from_residual-in_err-ask_to_read.result ≡ Err c.in_err-ask_to_read.field-0.0 = search rules in
    rw same (rw (c.if-lock_here.ensures.away refl) at c.in_err-ask_to_read.ensures.decided)

pub returns-in_err-ask_to_read-clause-after : goal.returns-in_err-ask_to_read-clause-after
returns-in_err-ask_to_read-clause-after g c = rw (c.if-lock_here.ensures.away refl) at c.in_err-ask_to_read.ensures.after

pub returns-in_err-ask_to_read-clause-called : goal.returns-in_err-ask_to_read-clause-called
returns-in_err-ask_to_read-clause-called g c = rw (c.if-lock_here.ensures.away refl) at c.in_err-ask_to_read.ensures.called

pub returns-clause-decided : goal.returns-clause-decided
returns-clause-decided g c = rw (c.if-lock_here.ensures.away refl) at c.in_ok-ask_to_read.ensures.decided

pub returns-clause-after : goal.returns-clause-after
returns-clause-after g c = rw (c.if-lock_here.ensures.away refl) at c.in_ok-ask_to_read.ensures.after

pub returns-clause-called : goal.returns-clause-called
returns-clause-called g c = rw (c.if-lock_here.ensures.away refl) at c.in_ok-ask_to_read.ensures.called

pub returns-clause-here : goal.returns-clause-here
returns-clause-here g c = rw (c.in_ok-ask_to_read.ensures.kept, c.if-lock_here.ensures.away refl) c.if-lock_here.ensures.here
