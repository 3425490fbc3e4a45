-- The entries of a queue's map as the protocol's asks.
use Rattle.std.specs.Prelude.{ℕ, List, map}
use Rattle.cb_protocol.specs.Server.{WaitingAsk}
use Rattle.cb_asks.specs.declared.queue.Entry.{Entry}

-- an entry of the map as the protocol's ask
abbrev pub ask_of_entry : ℕ × Entry → WaitingAsk
ask_of_entry pair = record {
  client = pair.0;
  write_grant = pair.1.write_grant;
  called_back = pair.1.called_back;
  downgrade_sent = pair.1.downgrade_sent;
}

-- the entries in order
abbrev pub asks_of : List (ℕ × Entry) → List WaitingAsk
asks_of entries = map ask_of_entry entries
