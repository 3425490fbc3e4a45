-- Goals of `entry_of`.
use Rattle.std.proofs.Common.{List, map, sym, ◌∙◌, ap}
use Rattle.cb_frame.specs.Grammar.{page_of}
use Rattle.cb_frame.specs.declared.frame.Body.{Body}
use Rattle.cb_frame.specs.declared.writes.Write.{Write}
use Rattle.cb_station.specs.Commits.{txn_in, writes_in}
use Rattle.cb_station.proofs.station.committing.entry_of.Goals as goal

pub returns-clause-entry : goal.returns-clause-entry
returns-clause-entry c = record {
  client = c.client.ensures;
  incarnation = c.incarnation.ensures;
  txn = sym (ap txn_in c.in-Commit.is);
  reads = c.in_ok-reads_of.ensures;
  writes = c.in_ok-pages_of.ensures ∙ ap (λ (ws : List Write). map page_of ws) c.as_slice.ensures ∙ sym (ap (λ (b : Body). map page_of (writes_in b)) c.in-Commit.is);
}
