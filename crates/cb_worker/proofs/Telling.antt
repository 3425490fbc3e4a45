-- All who are to be told are told.
use Rattle.std.proofs.Common.{◌∙◌, ap, sym, Err, subst}
use Rattle.cb_page.specs.Clients.{Clients, has}
use Rattle.cb_station.specs.Stations.{IsUnchanged, StationState}
use Rattle.cb_station.specs.Telling.{IsTold}
use Rattle.cb_station.specs.declared.station.flags.Flags.{Flags}
use Rattle.cb_worker.specs.Committing.{CommitsAt}
use Rattle.cb_worker.specs.Workers.{WorkerState}
use Rattle.cb_worker.specs.declared.worker_fault.WorkerFault.{WorkerFault}
use Rattle.cb_worker.specs.declared.worker_fault.WorkerFault.TheVariants as worker

unchanged_told : (before after : StationState) → IsUnchanged before after → IsTold before → IsTold after
unchanged_told before after same told = record {
  clients = λ client. ap (λ (s : Clients). has s client) same.dispatcher.untold ∙ told.clients client;
  news = ap (λ (f : Flags). f.news) same.flags ∙ told.news;
}

-- so where a commit was refused
pub refused_told : (old new : WorkerState) (before after : StationState) (f : WorkerFault) → IsTold before → CommitsAt old before (Err f) new after → IsTold after
refused_told old new before after (worker.Office f) told h = unchanged_told before after h.committed.err.0 told
refused_told old new before after (worker.Client f) told h = subst (λ (s : StationState). IsTold s) (sym h.2) told
refused_told old new before after worker.Halted told h = absurd h
