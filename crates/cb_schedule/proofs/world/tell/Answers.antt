-- Goals of `tell`.
use Rattle.std.proofs.Common.{◌≡◌, ◌∙◌, ◌++◌, ℕ, List, ap, drop, length, map, subst, sym, take}
use Rattle.cb_commit.specs.declared.commit.Commit.{Commit}
use Rattle.cb_schedule.specs.NetState.{NetState}
use Rattle.cb_schedule.specs.Packets.{PacketsState}
use Rattle.cb_server.specs.ServerValue.{ServerValue, server_of}
use Rattle.cb_transcript.specs.Transcripts.{TranscriptState, committed_name}
use Rattle.cb_transcript.specs.declared.transcript.TransactionName.{TransactionName}
use Rattle.cb_schedule.specs.WorldState.{Tells}
use Rattle.cb_schedule.proofs.Telling.{enough, follows, tells}
use Rattle.cb_schedule.proofs.Worlds.{if_ok, on_err, packets_taken_back}
use Rattle.cb_schedule.proofs.world.tell.Goals as goal

pub returns-then-is_err-clause-packets : goal.returns-then-is_err-clause-packets
returns-then-is_err-clause-packets g c =
    let before : c.len-sent_before.result ≡ length c.args.net.now.packets.sent = c.len-sent_before.ensures ∙ ap (λ (p : PacketsState). length p.sent) c.packets.ensures in
    let same : c.keep_packets.new.self.packets.sent ≡ c.args.net.now.packets.sent = ap (λ (n : NetState). n.packets.sent) c.keep_packets.ensures
    ∙ ap (λ (k : ℕ). take k c.event.new.self.packets.sent) before ∙ packets_taken_back c.args.net.now c.event.new.self _ c.in_ok-answer.answer c.in_ok-answer.ensures.ok in
    on_err c.tell-told.result _ same

pub untold-applied-requires : goal.untold-applied-requires
untold-applied-requires g c =
    let names = c.args.transcript.now.commits in
    let listed = c.committed.ensures.all c.server.ensures.forgotten ∙ ap (λ (s : ServerValue). (server_of s).commits) c.server.ensures.value in
    let more = follows c.args.net.now c.event.new.self _ c.in_ok-answer.answer names c.committed.result.now c.requires c.in_ok-answer.ensures.ok listed in
    rw c.commits.ensures (enough c.event.new.self names c.committed.result.now more)

pub returns-else-is_err-clause-ok : goal.returns-else-is_err-clause-ok
returns-else-is_err-clause-ok g c =
    let names = c.args.transcript.now.commits in
    let commits = c.committed.result.now in
    let listed = c.committed.ensures.all c.server.ensures.forgotten ∙ ap (λ (s : ServerValue). (server_of s).commits) c.server.ensures.value in
    let more = follows c.args.net.now c.event.new.self _ c.in_ok-answer.answer names commits c.requires c.in_ok-answer.ensures.ok listed in
    let applied = c.untold-applied.ensures ∙ ap (λ (ns : List TransactionName). drop (length ns) commits) c.commits.ensures in
    if_ok c.tell-told.result c.tell-told.ensures.ok (λ told. (
      c.in_ok-answer.answer,
      c.in_ok-answer.ensures.ok,
      ap (λ (t : TranscriptState). t.entries) told,
      subst (λ (ns : List TransactionName). Tells c.event.new.self names ns)
          (sym (ap (λ (t : TranscriptState). t.commits) told ∙ ap (λ (cs : List Commit). names ++ map committed_name cs) applied))
          (tells c.event.new.self names commits listed more),
    ))
