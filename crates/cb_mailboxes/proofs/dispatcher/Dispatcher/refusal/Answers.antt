-- Goals of `Dispatcher::refusal`.
use Rattle.std.proofs.Common.{rules}
use Rattle.cb_mailboxes.proofs.dispatcher.Dispatcher.refusal.Goals as goal

pub returns-then-is_exhausted_by : goal.returns-then-is_exhausted_by
returns-then-is_exhausted_by c = search rules
