-- Goals of `Station::report`.
use Rattle.std.proofs.Common.{◌≤◌, ℕ, refl, rules, subst}
use Rattle.cb_protocol.specs.Flush.{can_flush}
use Rattle.cb_station.specs.Stations.{server_of}
use Rattle.cb_station.proofs.Reporting.{reports_up_to, unreported}
use Rattle.cb_station.proofs.station.Station.report.Goals as goal

pub returns-then-not-on_disk-clause-unchanged : goal.returns-then-not-on_disk-clause-unchanged
returns-then-not-on_disk-clause-unchanged c =
    let low : ¬ (c.number-number.result ≤ (server_of c.flushed.new.self).flushed) = search rules in
    (unreported c.flushed.result (can_flush (server_of c.args.self.now) c.args.written) c.args.self.now c.flushed.new.self c.args.written refl
    c.flushed.ensures.posts c.flushed.ensures.err (λ idle. (c.flushed.ensures.idle idle).1) (subst (λ (n : ℕ). ¬ (n ≤ (server_of c.flushed.new.self).flushed)) c.number-number.ensures low)).0

pub returns-then-not-on_disk-clause-unreported : goal.returns-then-not-on_disk-clause-unreported
returns-then-not-on_disk-clause-unreported c =
    let low : ¬ (c.number-number.result ≤ (server_of c.flushed.new.self).flushed) = search rules in
    (unreported c.flushed.result (can_flush (server_of c.args.self.now) c.args.written) c.args.self.now c.flushed.new.self c.args.written refl
    c.flushed.ensures.posts c.flushed.ensures.err (λ idle. (c.flushed.ensures.idle idle).1) (subst (λ (n : ℕ). ¬ (n ≤ (server_of c.flushed.new.self).flushed)) c.number-number.ensures low)).1

pub returns-clause-reports : goal.returns-clause-reports
returns-clause-reports c =
    let far : c.number-number.result ≤ (server_of c.flushed.new.self).flushed = search rules in
    reports_up_to c.flushed.result c.args.self.now c.flushed.new.self c.forget.new.self c.args.written
    c.flushed.ensures.posts c.flushed.ensures.err (λ idle. (c.flushed.ensures.idle idle).1) (subst (λ (n : ℕ). n ≤ (server_of c.flushed.new.self).flushed) c.number-number.ensures far) c.flushed.ensures.hands c.flushed.ensures.history c.flushed.ensures.flags c.forget.ensures
