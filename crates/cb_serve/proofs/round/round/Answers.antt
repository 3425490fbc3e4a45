-- Goals of `round`.
use Rattle.std.proofs.Common.{◌≡◌, Err, refl, rules}
use Rattle.cb_serve.proofs.Faults.{on_fault}
use Rattle.cb_serve.proofs.Rounds.{cause_behind, does_round, known_then, stops_committing, stops_reading, stops_within}
use Rattle.cb_serve.specs.Parts.{StopsRound, standing}
use Rattle.cb_serve.specs.declared.fault.RoundFault.{RoundFault}
use Rattle.cb_serve.proofs.round.round.Goals as goal

pub returns-in_err-read_more-clause-err : goal.returns-in_err-read_more-clause-err
returns-in_err-read_more-clause-err g c =
    let same : c.from_residual.result ≡ Err c.in_err-read_more.field-0.0 = search rules in
    on_fault (λ (f : RoundFault). StopsRound g.S.Store c.args.server.now.limits f (standing g.S.Store c.args.server.now c.args.buffers.now c.args.shelf.now.conn) c.args.life.now c.args.buffers.now.passed_over c.args.shelf.now.conn
    (g.R.Read.remaining c.args.input.now) (g.R.Read.remaining c.read_more.new.input) (g.W.Write.contents c.args.output.now) (g.W.Write.contents c.args.output.now))
    c.from_residual.result c.in_err-read_more.field-0.0 same
    (stops_reading g.S.Store c.args.server.now.limits c.in_err-read_more.field-0.0 (standing g.S.Store c.args.server.now c.args.buffers.now c.args.shelf.now.conn) c.args.life.now c.in_err-read_more.ensures.err.0
    (g.R.Read.remaining c.args.input.now) (g.R.Read.remaining c.read_more.new.input) (g.W.Write.contents c.args.output.now) c.in_err-read_more.ensures.err.2 c.in_err-read_more.ensures.err.1)

pub returns-in_err-taken-clause-err : goal.returns-in_err-taken-clause-err
returns-in_err-taken-clause-err g c =
    let same : c.from_residual-in_err-taken.result ≡ Err c.in_err-taken.field-0.0 = search rules in
    on_fault (λ (f : RoundFault). StopsRound g.S.Store c.args.server.now.limits f (standing g.S.Store c.args.server.now c.args.buffers.now c.args.shelf.now.conn) c.args.life.now c.answer.new.buffers.passed_over c.answer.new.shelf.conn
    (g.R.Read.remaining c.args.input.now) (g.R.Read.remaining c.read_more.new.input) (g.W.Write.contents c.args.output.now) (g.W.Write.contents c.answer.new.output))
    c.from_residual-in_err-taken.result c.in_err-taken.field-0.0 same
    (stops_within g.S.Store c.args.server.now.limits c.in_err-taken.field-0.0 c.args.server.now c.args.buffers.now (record { pending = c.read_more.new.pending; said = c.args.buffers.now.said; passed_over = c.args.buffers.now.passed_over }) c.answer.new.buffers c.args.shelf.now.conn c.answer.new.shelf.conn c.args.life.now c.in_ok-read_more.ensures.ok.0
    (g.R.Read.remaining c.args.input.now) (g.R.Read.remaining c.read_more.new.input) (g.W.Write.contents c.args.output.now) (g.W.Write.contents c.answer.new.output)
    refl c.in_ok-read_more.ensures.ok.1 refl c.in_ok-read_more.ensures.ok.2
    (cause_behind c.in_err-taken.field-0.0 c.in_ok-read_more.ensures.ok.0 c.in_err-taken.ensures.cause (c.in_ok-read_more.ensures.ok.3 (search rules))) c.in_err-taken.ensures.err)

pub returns-in_err-commit-clause-err : goal.returns-in_err-commit-clause-err
returns-in_err-commit-clause-err g c =
    let same : c.from_residual-in_err-commit.result ≡ Err c.in_err-commit.field-0.0 = search rules in
    on_fault (λ (f : RoundFault). StopsRound g.S.Store c.args.server.now.limits f (standing g.S.Store c.args.server.now c.args.buffers.now c.args.shelf.now.conn) c.args.life.now c.answer.new.buffers.passed_over c.commit.new.shelf.conn
    (g.R.Read.remaining c.args.input.now) (g.R.Read.remaining c.read_more.new.input) (g.W.Write.contents c.args.output.now) (g.W.Write.contents c.commit.new.output))
    c.from_residual-in_err-commit.result c.in_err-commit.field-0.0 same
    (stops_committing g.S.Store c.args.server.now.limits c.in_err-commit.field-0.0 c.args.server.now c.answer.new.server c.args.buffers.now
    (record { pending = c.read_more.new.pending; said = c.args.buffers.now.said; passed_over = c.args.buffers.now.passed_over }) c.answer.new.buffers c.args.shelf.now.conn c.answer.new.shelf.conn c.commit.new.shelf.conn c.args.life.now c.answer.new.life
    c.in_ok-read_more.ensures.ok.0 c.in_ok-taken.taken (g.R.Read.remaining c.args.input.now) (g.R.Read.remaining c.read_more.new.input)
    (g.W.Write.contents c.args.output.now) (g.W.Write.contents c.answer.new.output) (g.W.Write.contents c.commit.new.output)
    c.in_ok-taken.ensures.room.room refl c.in_ok-read_more.ensures.ok.1 refl c.in_ok-read_more.ensures.ok.2
    (cause_behind c.in_err-commit.field-0.0 c.in_ok-read_more.ensures.ok.0 c.in_err-commit.ensures.cause (c.in_ok-read_more.ensures.ok.3 (search rules))) c.in_ok-taken.ensures.ok c.in_err-commit.ensures.err)

pub returns-then-taken-clause-ok : goal.returns-then-taken-clause-ok
returns-then-taken-clause-ok g c = (
  does_round g.S.Store c.args.server.now.limits c.args.server.now c.answer.new.server c.commit.new.server c.args.buffers.now
      (record { pending = c.read_more.new.pending; said = c.args.buffers.now.said; passed_over = c.args.buffers.now.passed_over }) c.answer.new.buffers c.args.shelf.now.conn c.answer.new.shelf.conn c.commit.new.shelf.conn c.args.life.now c.answer.new.life
      c.in_ok-read_more.ensures.ok.0 c.in_ok-taken.taken (g.R.Read.remaining c.args.input.now) (g.R.Read.remaining c.read_more.new.input)
      (g.W.Write.contents c.args.output.now) (g.W.Write.contents c.answer.new.output) (g.W.Write.contents c.commit.new.output)
      c.in_ok-taken.ensures.room refl c.in_ok-read_more.ensures.ok.1 refl c.in_ok-read_more.ensures.ok.2 (c.in_ok-read_more.ensures.ok.3 (search rules)) c.in_ok-taken.ensures.ok c.in_ok-commit.ensures.ok,
  c.in_ok-taken.ensures.ok.no_frame c.if-taken.true,
)

pub returns-clause-ok : goal.returns-clause-ok
returns-clause-ok g c = (
  does_round g.S.Store c.args.server.now.limits c.args.server.now c.answer.new.server c.commit.new.server c.args.buffers.now
      (record { pending = c.read_more.new.pending; said = c.args.buffers.now.said; passed_over = c.args.buffers.now.passed_over }) c.answer.new.buffers c.args.shelf.now.conn c.answer.new.shelf.conn c.commit.new.shelf.conn c.args.life.now c.answer.new.life
      c.in_ok-read_more.ensures.ok.0 c.in_ok-taken.taken (g.R.Read.remaining c.args.input.now) (g.R.Read.remaining c.read_more.new.input)
      (g.W.Write.contents c.args.output.now) (g.W.Write.contents c.answer.new.output) (g.W.Write.contents c.commit.new.output)
      c.in_ok-taken.ensures.room refl c.in_ok-read_more.ensures.ok.1 refl c.in_ok-read_more.ensures.ok.2 (c.in_ok-read_more.ensures.ok.3 (search rules)) c.in_ok-taken.ensures.ok c.in_ok-commit.ensures.ok,
  c.in_ok-taken.ensures.ok.part c.if-taken.false,
)

pub returns-then-taken-clause-known : goal.returns-then-taken-clause-known
returns-then-taken-clause-known g c =
    known_then g.S.Store c.answer.new.server c.commit.new.server c.args.life.now c.answer.new.life c.args.shelf.now.conn c.answer.new.shelf.conn c.commit.new.shelf.conn
    (g.W.Write.contents c.answer.new.output) (g.W.Write.contents c.commit.new.output) c.in_ok-taken.ensures.room c.in_ok-commit.ensures.ok

pub returns-clause-known : goal.returns-clause-known
returns-clause-known g c =
    known_then g.S.Store c.answer.new.server c.commit.new.server c.args.life.now c.answer.new.life c.args.shelf.now.conn c.answer.new.shelf.conn c.commit.new.shelf.conn
    (g.W.Write.contents c.answer.new.output) (g.W.Write.contents c.commit.new.output) c.in_ok-taken.ensures.room c.in_ok-commit.ensures.ok
