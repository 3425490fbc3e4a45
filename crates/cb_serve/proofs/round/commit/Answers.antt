-- Goals of `commit`.
use Rattle.std.proofs.Common.{◌≡◌, ◌∙◌, ◌++◌, ℕ, List, Err, ap, option_map, rules, subst, sym, take}
use Rattle.std.specs.Io.KnownBytes.{Appends}
use Rattle.std.specs.List.{flat_map}
use Rattle.cb_frame.specs.Spelling.{spelling}
use Rattle.cb_outbox.specs.Messages.{messages_of}
use Rattle.cb_protocol.specs.AnyMessages.{ReachesDisk}
use Rattle.cb_server.specs.ServerValue.{forgot}
use Rattle.cb_server.specs.Taking.{Does}
use Rattle.cb_server_state.specs.Commits.{batch_of}
use Rattle.cb_serve.proofs.Faults.{behind_batch, on_fault, on_memory}
use Rattle.cb_serve.proofs.Writing.{commits_batch, stops_at_batch, stops_at_dones, stops_before, stops_behind}
use Rattle.cb_serve.specs.Parts.{StopsBehind, StopsCommit}
use Rattle.cb_serve.specs.declared.fault.RoundFault.{RoundFault}
use Rattle.cb_serve.proofs.round.commit.Goals as goal

pub write_batch-requires-clause-next : goal.write_batch-requires-clause-next
write_batch-requires-clause-next g c = sym c.in_ok-batch.ensures.batch ∙ ap (option_map batch_of) c.in-Some.is

pub returns-in_err-batch-clause-err : goal.returns-in_err-batch-clause-err
returns-in_err-batch-clause-err g c =
    on_memory (λ (f : RoundFault). StopsCommit g.S.Store f c.args.server.now c.args.shelf.now.conn c.args.shelf.now.conn (g.W.Write.contents c.args.output.now) (g.W.Write.contents c.args.output.now))
    c.from_residual.result c.from_residual.ensures.1 (stops_before g.S.Store c.args.server.now c.args.shelf.now.conn (g.W.Write.contents c.args.output.now))

pub returns-in_err-written-clause-err : goal.returns-in_err-written-clause-err
returns-in_err-written-clause-err g c =
    let same : c.from_residual-in_err-written.result ≡ Err c.in_err-written.field-0.0 = search rules in
    on_fault (λ (f : RoundFault). StopsCommit g.S.Store f c.args.server.now c.args.shelf.now.conn c.write_batch.new.shelf.conn (g.W.Write.contents c.args.output.now) (g.W.Write.contents c.args.output.now))
    c.from_residual-in_err-written.result c.in_err-written.field-0.0 same
    (stops_at_batch g.S.Store c.in_err-written.field-0.0 c.args.server.now c.args.shelf.now.conn c.write_batch.new.shelf.conn c.in-Some.batch (g.W.Write.contents c.args.output.now)
    (sym c.in_ok-batch.ensures.batch ∙ ap (option_map batch_of) c.in-Some.is) c.write_batch.ensures.fits c.in_err-written.ensures.err c.write_batch.ensures.crash)

pub returns-in_err-dones-clause-err : goal.returns-in_err-dones-clause-err
returns-in_err-dones-clause-err g c =
    let same : c.from_residual-in_err-dones.result ≡ Err c.in_err-dones.field-0.0 = search rules in
    let P : RoundFault → Type 0 = λ f. StopsCommit g.S.Store f c.args.server.now c.args.shelf.now.conn c.write_batch.new.shelf.conn (g.W.Write.contents c.args.output.now) (g.W.Write.contents c.args.output.now) in
    on_fault P c.from_residual-in_err-dones.result c.in_err-dones.field-0.0 same (subst P (sym c.in_err-dones.ensures.err)
    (stops_behind g.S.Store c.args.server.now c.args.shelf.now.conn c.write_batch.new.shelf.conn c.in-Some.batch (g.W.Write.contents c.args.output.now)
    (sym c.in_ok-batch.ensures.batch ∙ ap (option_map batch_of) c.in-Some.is) c.in_ok-written.ensures.ok c.write_batch.ensures.crash))

pub returns-in_err-append_frames-clause-err : goal.returns-in_err-append_frames-clause-err
returns-in_err-append_frames-clause-err g c =
    on_memory (λ (f : RoundFault). StopsCommit g.S.Store f c.args.server.now c.args.shelf.now.conn c.write_batch.new.shelf.conn (g.W.Write.contents c.args.output.now) (g.W.Write.contents c.args.output.now))
    c.from_residual-in_err-append_frames.result c.from_residual-in_err-append_frames.ensures.1
    (stops_behind g.S.Store c.args.server.now c.args.shelf.now.conn c.write_batch.new.shelf.conn c.in-Some.batch (g.W.Write.contents c.args.output.now)
    (sym c.in_ok-batch.ensures.batch ∙ ap (option_map batch_of) c.in-Some.is) c.in_ok-written.ensures.ok c.write_batch.ensures.crash)

pub returns-in-Ok-clause-ok : goal.returns-in-Ok-clause-ok
returns-in-Ok-clause-ok g c =
    commits_batch g.S.Store c.args.server.now c.in_ok-dones.ensures.ok.reported c.report.new.server c.args.shelf.now.conn c.write_batch.new.shelf.conn c.in-Some.batch c.in_ok-dones.dones.items
    (g.W.Write.contents c.args.output.now) (g.W.Write.contents c.put_out.new.output)
    (sym c.in_ok-batch.ensures.batch ∙ ap (option_map batch_of) c.in-Some.is)
    c.in_ok-written.ensures.ok
    c.write_batch.ensures.crash
    (subst (λ (n : ℕ). Does c.args.server.now (ReachesDisk n) (messages_of c.in_ok-dones.dones.items) c.in_ok-dones.ensures.ok.reported) c.in_ok-written.ensures.number c.in_ok-dones.ensures.ok.does)
    c.in_ok-dones.ensures.ok.fit
    (c.in_ok-dones.ensures.ok.forgets ∙ ap (forgot c.in_ok-dones.ensures.ok.reported) c.in_ok-written.ensures.number)
    (subst (λ (k : List ℕ). Appends (g.W.Write.contents c.args.output.now) (g.W.Write.contents c.put_out.new.output) k)
    (c.as_slice-2.ensures.value ∙ c.in_ok-append_frames.ensures ∙ ap (λ (k : List ℕ). k ++ flat_map spelling c.as_slice.result.now) c.clear.ensures.items ∙ ap (flat_map spelling) c.as_slice.ensures.value)
    c.in-Ok.ensures.ok)

pub returns-clause-err : goal.returns-clause-err
returns-clause-err g c =
    stops_at_dones g.S.Store _ c.args.server.now c.in_ok-dones.ensures.ok.reported c.args.shelf.now.conn c.write_batch.new.shelf.conn c.in-Some.batch c.in_ok-dones.dones.items
    (g.W.Write.contents c.args.output.now) (g.W.Write.contents c.put_out.new.output) c.in-Err.ensures.err.0 tt
    (sym c.in_ok-batch.ensures.batch ∙ ap (option_map batch_of) c.in-Some.is)
    c.in_ok-written.ensures.ok
    c.write_batch.ensures.crash
    (subst (λ (n : ℕ). Does c.args.server.now (ReachesDisk n) (messages_of c.in_ok-dones.dones.items) c.in_ok-dones.ensures.ok.reported) c.in_ok-written.ensures.number c.in_ok-dones.ensures.ok.does)
    c.in_ok-dones.ensures.ok.fit
    (subst (λ (k : List ℕ). Appends (g.W.Write.contents c.args.output.now) (g.W.Write.contents c.put_out.new.output) (take c.in-Err.ensures.err.0 k))
    (c.as_slice-2.ensures.value ∙ c.in_ok-append_frames.ensures ∙ ap (λ (k : List ℕ). k ++ flat_map spelling c.as_slice.result.now) c.clear.ensures.items ∙ ap (flat_map spelling) c.as_slice.ensures.value)
    c.in-Err.ensures.err.1)

pub returns-in_err-batch-clause-cause : goal.returns-in_err-batch-clause-cause
returns-in_err-batch-clause-cause g c = on_memory StopsBehind c.from_residual.result c.from_residual.ensures.1 tt

pub returns-in_err-written-clause-cause : goal.returns-in_err-written-clause-cause
returns-in_err-written-clause-cause g c =
    let same : c.from_residual-in_err-written.result ≡ Err c.in_err-written.field-0.0 = search rules in
    on_fault StopsBehind c.from_residual-in_err-written.result c.in_err-written.field-0.0 same
    (behind_batch g.S.Store c.in_err-written.field-0.0 c.args.shelf.now.conn c.write_batch.new.shelf.conn c.in_err-written.ensures.err)

pub returns-in_err-dones-clause-cause : goal.returns-in_err-dones-clause-cause
returns-in_err-dones-clause-cause g c =
    let same : c.from_residual-in_err-dones.result ≡ Err c.in_err-dones.field-0.0 = search rules in
    on_fault StopsBehind c.from_residual-in_err-dones.result c.in_err-dones.field-0.0 same (subst StopsBehind (sym c.in_err-dones.ensures.err) tt)

pub returns-in_err-append_frames-clause-cause : goal.returns-in_err-append_frames-clause-cause
returns-in_err-append_frames-clause-cause g c = on_memory StopsBehind c.from_residual-in_err-append_frames.result c.from_residual-in_err-append_frames.ensures.1 tt
