-- Goals of `PolledClient::peek`.
use Rattle.std.proofs.Common.{rules, ◌≡◌, None, Some, inl, ap, length}
use Rattle.cb_cache.specs.CacheState.{content_at}
use Rattle.cb_handle.proofs.Deciding.{peeked}
use Rattle.cb_handle.proofs.polled_client.PolledClient.peek.Goals as goal
use Rattle.cb_handle.specs.Causes.{shown_in}

pub returns-in-None-clause-why : goal.returns-in-None-clause-why
returns-in-None-clause-why c = inl (ap (λ x. shown_in x (length c.args.room.now)) (peeked c.args.self.now.client _ c.args.page None _ _ c.in-None.ensures))

pub returns-then-room-bytes-clause-why : goal.returns-then-room-bytes-clause-why
returns-then-room-bytes-clause-why c =
    let found : content_at c.args.self.now.client.copies c.args.page ≡ Some c.in-Some.bytes.now = peeked c.args.self.now.client _ c.args.page (Some c.in-Some.bytes.now) _ _ c.in-Some.ensures in
    rw found (search rules)

pub returns-else-room-bytes-clause-why : goal.returns-else-room-bytes-clause-why
returns-else-room-bytes-clause-why c =
    let found : content_at c.args.self.now.client.copies c.args.page ≡ Some c.in-Some.bytes.now = peeked c.args.self.now.client _ c.args.page (Some c.in-Some.bytes.now) _ _ c.in-Some.ensures in
    rw found (search rules)
