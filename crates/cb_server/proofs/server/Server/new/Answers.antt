-- Goals of `Server::new`.
use Rattle.std.proofs.Common.{refl}
use Rattle.cb_server.proofs.Serving.{begins_at_rest}
use Rattle.cb_server.proofs.server.Server.new.Goals as goal

pub invariant_of-result : goal.invariant_of-result
invariant_of-result c =
    begins_at_rest c.args.limits.now c.args.store c.in_ok-new.field-0.state c.new-2.result c.number-known.ensures.sound c.requires c.in_ok-new.ensures.of c.in_ok-new.ensures.commits
    c.in_ok-new.ensures.server c.new-2.ensures.sent c.new-2.ensures.page_size c.new-2.ensures.spare c.new-2.ensures.room

pub returns : goal.returns
returns c = record { limits = refl; commits = c.in_ok-new.ensures.commits; server = c.in_ok-new.ensures.server }
