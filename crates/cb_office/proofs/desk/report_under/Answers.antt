-- Goals of `report_under`.
use Rattle.std.proofs.Common.{◌≡◌}
use Rattle.cb_station.specs.Stations.{IsUnchanged, StationState}
use Rattle.cb_office.proofs.Telling.{then_told, then_told_unchanged}
use Rattle.cb_station.specs.Reporting.{ReportsUpTo}
use Rattle.cb_office.proofs.desk.report_under.Goals as goal

pub returns-clause-reports : goal.returns-clause-reports
returns-clause-reports c =
    then_told c.report-reported.result (λ (s : StationState). ReportsUpTo c.args.written c.args.station.now s) c.report-reported.new.self c.tell.new.station c.report-reported.ensures.reports c.tell.ensures

pub returns-clause-unchanged : goal.returns-clause-unchanged
returns-clause-unchanged c =
    then_told_unchanged c.report-reported.result (λ (s : StationState). IsUnchanged c.args.station.now s) c.report-reported.new.self c.tell.new.station c.report-reported.ensures.unchanged c.tell.ensures
