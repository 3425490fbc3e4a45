-- Goals of `Callbacks::messages_to_settle`.
use Rattle.std.proofs.Common.{◌∙◌, sym, arith}
use Rattle.cb_server_state.specs.States.{server_of}
use Rattle.cb_callbacks.proofs.Bounds.{few_by_kind, messages_counted, reads_among}
use Rattle.cb_callbacks.proofs.callbacks.Callbacks.messages_to_settle.Goals as goal

pub overflow_sub-writes : goal.overflow_sub-writes
overflow_sub-writes c =
    let among = reads_among (server_of c.args.self.now.state) (server_of c.args.self.now.state).pages in
    let reads = c.read_asks-reads.ensures.reads in let asks = c.waiting_asks.ensures.asks in
    omega (arith, among, reads, asks)

pub overflow_mul-result : goal.overflow_mul-result
overflow_mul-result c =
    let among = reads_among (server_of c.args.self.now.state) (server_of c.args.self.now.state).pages in
    let reads = c.read_asks-reads.ensures.reads in let asks = c.waiting_asks.ensures.asks in let few = c.waiting_asks.ensures.few in
    omega (arith, among, reads, asks, few)

pub overflow_add-result-2 : goal.overflow_add-result-2
overflow_add-result-2 c =
    let few = few_by_kind (server_of c.args.self.now.state) c.from.result c.read_asks-reads.result c.waiting_asks.result (c.from.ensures ∙ c.clients.ensures.value ∙ sym c.requires.clients)
    c.read_asks-reads.ensures.reads c.waiting_asks.ensures.asks
    (let most = c.clients.ensures.in_range.clients in let is = c.from.ensures ∙ c.clients.ensures.value in omega (arith, most, is)) c.waiting_asks.ensures.few in
    omega (arith, few)

pub returns-clause-messages : goal.returns-clause-messages
returns-clause-messages c =
    messages_counted (server_of c.args.self.now.state) c.from.result c.read_asks-reads.result c.waiting_asks.result (c.from.ensures ∙ c.clients.ensures.value ∙ sym c.requires.clients)
    c.read_asks-reads.ensures.reads c.waiting_asks.ensures.asks

pub returns-clause-few : goal.returns-clause-few
returns-clause-few c =
    few_by_kind (server_of c.args.self.now.state) c.from.result c.read_asks-reads.result c.waiting_asks.result (c.from.ensures ∙ c.clients.ensures.value ∙ sym c.requires.clients)
    c.read_asks-reads.ensures.reads c.waiting_asks.ensures.asks
    (let most = c.clients.ensures.in_range.clients in let is = c.from.ensures ∙ c.clients.ensures.value in omega (arith, most, is)) c.waiting_asks.ensures.few
