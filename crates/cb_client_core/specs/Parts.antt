-- The client that the parts of one are.
use Rattle.cb_client_core.specs.ClientState.{ClientState}
use Rattle.cb_client_core.specs.declared.client_core.ClientCore.{ClientCore}

-- all of its parts
abbrev pub client_in : {Chooser : Type 0} → ClientCore Chooser → ClientState
client_in core = record {
  no = core.no;
  incarnation = core.incarnation;
  welcomed = core.welcomed;
  txn = core.txn;
  stage = core.stage;
  ask = core.ask;
  dropped = core.dropped;
  last = core.last;
  copies = core.copies;
  locks = core.locks;
}
