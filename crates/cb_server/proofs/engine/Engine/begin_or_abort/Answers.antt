-- Goals of `Engine::begin_or_abort`.
use Rattle.std.proofs.Common.{refl}
use Rattle.cb_protocol.specs.Messages.{AbortNow}
use Rattle.cb_server.proofs.Beginning.{current_begun}
use Rattle.cb_server.proofs.DirectAnswers.{says_one}
use Rattle.cb_server.proofs.engine.Engine.begin_or_abort.Goals as goal

pub returns-in-Live : goal.returns-in-Live
returns-in-Live c = record { begins = c.begin.ensures.begins; stands = c.in-Live.ensures.stands }

pub returns-in-Doomed : goal.returns-in-Doomed
returns-in-Doomed c = record {
  between = c.begin.new.self;
  has = record { begins = c.begin.ensures.begins; stands = c.in-Doomed.ensures.stands };
  told = says_one c.begin.new.self (record { callbacks = c.begin.new.self.callbacks; outbox = c.say.new.self }) c.args.client c.args.incarnation (AbortNow c.args.txn)
      (current_begun c.args.self.now c.begin.new.self c.args.client c.args.txn c.args.incarnation c.begin.ensures.begins c.requires.current) refl refl c.say.ensures;
}

pub returns-in-Ended : goal.returns-in-Ended
returns-in-Ended c = record { begins = c.begin.ensures.begins; stands = c.in-Ended.ensures.stands }
