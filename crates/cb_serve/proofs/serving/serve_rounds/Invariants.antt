-- What holds at each turn of the loop of `serve_rounds`.
use Rattle.std.proofs.Common.{◌≡◌}
use Rattle.cb_server.specs.Knowing.{KnowsBelow}
use Rattle.cb_server.specs.ServerValue.{server_of}
use Rattle.cb_serve.proofs.Rounds.{Far}
use Rattle.cb_serve.specs.Parts.{standing}
use Rattle.cb_serve.specs.Streams.{IsPart}
use Rattle.cb_serve.proofs.serving.serve_rounds.Given as goal

-- rounds were done, less than a whole piece waits, and the life has room for whom the server knows
abbrev pub invariant-loop-count : goal.invariant-loop-count
invariant-loop-count g l = (l.shelf.limits ≡ l.fn.shelf.limits) × (l.server.limits ≡ l.fn.server.limits) × IsPart l.fn.server.limits l.buffers.pending.items
    × Far g.S.Store l.fn.server.limits l._count (standing g.S.Store l.fn.server l.fn.buffers l.fn.shelf.conn) (standing g.S.Store l.server l.buffers l.shelf.conn) l.fn.life l.life
    (g.R.Read.remaining l.fn.input) (g.R.Read.remaining l.input) (g.W.Write.contents l.fn.output) (g.W.Write.contents l.output)
    × KnowsBelow (server_of l.server) l.life.below
