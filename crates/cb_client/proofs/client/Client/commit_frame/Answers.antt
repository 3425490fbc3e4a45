-- Goals of `Client::commit_frame`.
use Rattle.std.proofs.Common.{◌≡◌, false, true, true≢false, sym}
use Rattle.cb_cache.specs.CacheState.{client_with}
use Rattle.cb_outbox.specs.Messages.{page_writes}
use Rattle.cb_protocol.specs.Client.{Client}
use Rattle.cb_protocol.specs.ClientCalls.{written_pages}
use Rattle.cb_client.proofs.CommitFits.{commit_fits}
use Rattle.cb_client.proofs.Writing.{commit_said}
use Rattle.cb_client_core.specs.ClientState.{IsClient}
use Rattle.cb_client.specs.CallAnswers.{SaysCommit}
use Rattle.cb_frame.specs.declared.frame.Body.TheVariants.{Commit}
use Rattle.cb_frame.specs.declared.frame.Frame.{Frame}
use Rattle.cb_client.proofs.client.Client.commit_frame.Goals as goal

pub returns-in_err-writes-clause-nothing : goal.returns-in_err-writes-clause-nothing
returns-in_err-writes-clause-nothing g c = λ none.
    let z : false ≡ true = c.in_err-writes.ensures.nothing (rw (← c.self.view_is) at none) in
    absurd (true≢false (sym z))

pub returns-clause-said : goal.returns-clause-said
returns-clause-said g c =
    let pages : (k : Client) → page_writes c.in_ok-writes.writes ≡ written_pages (client_with c.args.self.now.copies k) c.args.self.now.copies.limits.pages = rw (← c.self.view_is) c.in_ok-writes.ensures.said in
    let said = commit_said c.args.self.now c.present_txn-txn.result c.in_ok-writes.writes c.present_txn-txn.ensures pages in
    rw (← c.self.view_is) (rw (← c.self.view_is) at said)

pub returns-clause-fits : goal.returns-clause-fits
returns-clause-fits g c =
    let pages : (k : Client) → page_writes c.in_ok-writes.writes ≡ written_pages (client_with c.args.self.now.copies k) c.args.self.now.copies.limits.pages = rw (← c.self.view_is) c.in_ok-writes.ensures.said in
    let said = commit_said c.args.self.now c.present_txn-txn.result c.in_ok-writes.writes c.present_txn-txn.ensures pages in
    let sound : IsClient c.args.self.now = rw (← c.self.view_is) c.self.invariant in
    let frame : Frame = record { client = c.self.inside.core.no; incarnation = c.self.inside.core.incarnation; body = Commit c.present_txn-txn.result c.in_ok-writes.writes } in
    let says : SaysCommit c.args.self.now frame = rw (← c.self.view_is) (rw (← c.self.view_is) at said) in
    commit_fits c.args.self.now frame sound c.requires says
