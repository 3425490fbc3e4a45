-- Goals of `Engine::pass_over`.
use Rattle.cb_server.proofs.Beginning.{current_begun}
use Rattle.cb_server.proofs.Committing.{not_applied_doomed, not_applied_ended, not_applied_live}
use Rattle.cb_server.proofs.engine.Engine.pass_over.Goals as goal

pub done_again-requires-clause-current : goal.done_again-requires-clause-current
done_again-requires-clause-current c = current_begun c.args.self.now c.begin_or_abort.new.self c.args.client c.args.txn c.args.incarnation c.in-Ended.ensures.begins c.requires.current

pub returns-in-Live : goal.returns-in-Live
returns-in-Live c = λ writes not. not_applied_live c.args.self.now c.begin_or_abort.new.self c.args.client c.args.txn writes c.in-Live.ensures.begins not c.in-Live.ensures.stands

pub returns-in-Doomed : goal.returns-in-Doomed
returns-in-Doomed c = λ writes not.
    let doomed = c.in-Doomed.ensures in
    not_applied_doomed c.args.self.now doomed.between c.begin_or_abort.new.self c.args.client c.args.txn writes doomed.has.begins doomed.has.stands doomed.told

pub returns-in-Ended : goal.returns-in-Ended
returns-in-Ended c = λ writes not. not_applied_ended c.args.self.now c.begin_or_abort.new.self c.done_again.new.self c.args.client c.args.txn writes c.in-Ended.ensures.begins (c.done_again.ensures writes)
