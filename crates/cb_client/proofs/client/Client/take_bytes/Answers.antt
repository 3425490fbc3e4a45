-- Goals of `Client::take_bytes`.
use Rattle.std.proofs.Common.{rules, sym, true≢false}
use Rattle.cb_client.proofs.Room.{needs_room}
use Rattle.cb_client.proofs.client.Client.take_bytes.Goals as goal

pub returns-in-Ok-take_owned-clause-ok : goal.returns-in-Ok-take_owned-clause-ok
returns-in-Ok-take_owned-clause-ok g c = search rules

pub returns-in-Err-take_owned-clause-err : goal.returns-in-Err-take_owned-clause-err
returns-in-Err-take_owned-clause-err g c =
    let lacks = needs_room c.args.self.now c.in-Ok.frame (λ room brings. true≢false (sym (c.in-Err-take_owned.ensures.none room brings))) in
    record {
      memory = c.in-Err-take_owned.ensures.err;
      frame = c.in-Ok.frame;
      used = c.in-Ok.used;
      begin = search rules;
      own = lacks.0;
      needed = lacks.1;
    }
