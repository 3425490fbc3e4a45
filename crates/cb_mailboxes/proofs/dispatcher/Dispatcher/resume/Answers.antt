-- Goals of `Dispatcher::resume`.
use Rattle.std.proofs.Common.{◌≤◌, rules}
use Rattle.cb_mailboxes.proofs.Keeping.{kept_resumed}
use Rattle.cb_mailboxes.proofs.dispatcher.Dispatcher.resume.Goals as goal

pub invariant_of-result : goal.invariant_of-result
invariant_of-result c =
    let least : 1 ≤ c.args.floor = search rules in
    kept_resumed c.args.limits.now c.args.store c.args.floor _ c.in_ok-server.server
    c.in_ok-mailboxes.mailboxes c.number-known.ensures.sound least c.in_ok-server.ensures
    c.clients-clients.ensures.value c.in_ok-mailboxes.ensures.empty
