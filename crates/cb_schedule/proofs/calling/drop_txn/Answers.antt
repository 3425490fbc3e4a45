-- Goals of `drop_txn`.
use Rattle.cb_protocol.specs.ClientCalls.{CallDrop}
use Rattle.cb_schedule.proofs.Replying.{lack_told, refused_or_lacks}
use Rattle.cb_schedule.proofs.calling.drop_txn.Goals as goal

pub returns-in-Err-clause-ok : goal.returns-in-Err-clause-ok
returns-in-Err-clause-ok g c =
    refused_or_lacks c.args.client.now c.drop_txn.new.self CallDrop c.in-Err.fault c.refused.result c.in-Err.ensures.err c.refused.ensures.ok

pub returns-in-Err-clause-fails : goal.returns-in-Err-clause-fails
returns-in-Err-clause-fails g c = lack_told c.args.client.now c.drop_txn.new.self CallDrop c.in-Err.fault c.refused.result c.in-Err.ensures.err c.refused.ensures.fails
