-- Goals of `answer`.
use Rattle.std.proofs.Common.{◌≡◌, ◌∙◌, ◌++◌, ℕ, List, Err, ap, drop, inl, inr, refl, rules, subst, sym, take}
use Rattle.std.proofs.lemmas.List.{take-append-drop}
use Rattle.std.specs.Io.KnownBytes.{Appends}
use Rattle.cb_serve.proofs.Faults.{behind_front, behind_room, on_fault}
use Rattle.cb_serve.proofs.Rounds.{stops_at_answers, stops_taking}
use Rattle.cb_serve.specs.Living.MakesRoom.{had}
use Rattle.cb_serve.specs.Parts.{StopsBehind, StopsWithin}
use Rattle.cb_serve.specs.Steps.{StopsTaking, TakesAll}
use Rattle.cb_serve.specs.declared.fault.RoundFault.{RoundFault}
use Rattle.cb_serve.proofs.round.answer.Goals as goal

pub returns-in_err-taken-clause-err : goal.returns-in_err-taken-clause-err
returns-in_err-taken-clause-err g c =
    let same : c.from_residual.result ≡ Err c.in_err-taken.field-0.0 = search rules in
    on_fault (λ (f : RoundFault). StopsWithin g.S.Store f c.args.server.now c.args.buffers.now (record { pending = c.args.buffers.now.pending; said = c.take_all.new.said; passed_over = c.take_all.new.passed_over }) c.args.life.now c.args.shelf.now.conn c.args.shelf.now.conn (g.W.Write.contents c.args.output.now) (g.W.Write.contents c.args.output.now))
    c.from_residual.result c.in_err-taken.field-0.0 same
    (inl (
      c.args.life.now,
      had refl refl,
      stops_taking c.in_err-taken.field-0.0 c.args.server.now c.args.buffers.now (record { pending = c.args.buffers.now.pending; said = c.take_all.new.said; passed_over = c.take_all.new.passed_over }) (g.W.Write.contents c.args.output.now)
          (subst (λ (k : List ℕ). StopsTaking c.args.server.now k c.args.buffers.now.passed_over c.take_all.new.passed_over c.in_err-taken.field-0.0) c.as_slice.ensures.value c.in_err-taken.ensures.err),
    ))

pub returns-in_err-keep_room-clause-err : goal.returns-in_err-keep_room-clause-err
returns-in_err-keep_room-clause-err g c =
    let same : c.from_residual-in_err-keep_room.result ≡ Err c.in_err-keep_room.field-0.0 = search rules in
    let t = subst (λ (k : List ℕ). TakesAll c.args.server.now k c.clear.new.self.items c.args.buffers.now.passed_over c.in_ok-taken.taken c.take_all.new.said.items c.take_all.new.passed_over c.take_all.new.server) c.as_slice.ensures.value c.in_ok-taken.ensures.ok in
    on_fault (λ (f : RoundFault). StopsWithin g.S.Store f c.args.server.now c.args.buffers.now (record { pending = c.drop_front.new.bytes; said = c.take_all.new.said; passed_over = c.take_all.new.passed_over }) c.args.life.now c.args.shelf.now.conn c.keep_room.new.shelf.conn (g.W.Write.contents c.args.output.now) (g.W.Write.contents c.args.output.now))
    c.from_residual-in_err-keep_room.result c.in_err-keep_room.field-0.0 same
    (inr (record {
      pieces = t.pieces;
      rest = drop c.in_ok-taken.taken.used c.args.buffers.now.pending.items;
      are = t.takes.are;
      cut = sym (take-append-drop c.in_ok-taken.taken.used c.args.buffers.now.pending.items) ∙ ap (λ (k : List ℕ). k ++ drop c.in_ok-taken.taken.used c.args.buffers.now.pending.items) t.takes.cut;
      passed = t.count;
      unsaid = refl;
      told = c.in_err-keep_room.ensures.err;
      crash = c.in_err-keep_room.ensures.crash;
    }))

pub returns-in-Err-clause-err : goal.returns-in-Err-clause-err
returns-in-Err-clause-err g c = inl (
  c.keep_room.new.life,
  c.in_ok-keep_room.ensures.ok.room,
  stops_at_answers _ c.args.server.now c.take_all.new.server c.args.buffers.now (record { pending = c.drop_front.new.bytes; said = c.take_all.new.said; passed_over = c.take_all.new.passed_over }) c.clear.new.self.items c.take_all.new.said.items c.in_ok-taken.taken c.in-Err.ensures.err.0
      (g.W.Write.contents c.args.output.now) (g.W.Write.contents c.put_out.new.output) tt c.clear.ensures.items
      (subst (λ (k : List ℕ). TakesAll c.args.server.now k c.clear.new.self.items c.args.buffers.now.passed_over c.in_ok-taken.taken c.take_all.new.said.items c.take_all.new.passed_over c.take_all.new.server) c.as_slice.ensures.value c.in_ok-taken.ensures.ok)
      (subst (λ (k : List ℕ). Appends (g.W.Write.contents c.args.output.now) (g.W.Write.contents c.put_out.new.output) (take c.in-Err.ensures.err.0 k)) c.as_slice-2.ensures.value c.in-Err.ensures.err.1),
)

pub returns-in_err-taken-clause-cause : goal.returns-in_err-taken-clause-cause
returns-in_err-taken-clause-cause g c =
    let same : c.from_residual.result ≡ Err c.in_err-taken.field-0.0 = search rules in
    let stops = c.in_err-taken.ensures.err in
    on_fault StopsBehind c.from_residual.result c.in_err-taken.field-0.0 same (behind_front stops.mid (drop stops.used c.as_slice.result.now) c.in_err-taken.field-0.0 stops.refuses)

pub returns-in_err-keep_room-clause-cause : goal.returns-in_err-keep_room-clause-cause
returns-in_err-keep_room-clause-cause g c =
    let same : c.from_residual-in_err-keep_room.result ≡ Err c.in_err-keep_room.field-0.0 = search rules in
    on_fault StopsBehind c.from_residual-in_err-keep_room.result c.in_err-keep_room.field-0.0 same
    (behind_room g.S.Store c.in_err-keep_room.field-0.0 c.args.shelf.now.conn c.keep_room.new.shelf.conn c.in_err-keep_room.ensures.err)
