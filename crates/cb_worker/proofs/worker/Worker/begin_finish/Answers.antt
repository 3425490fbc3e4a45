-- Goals of `Worker::begin_finish`.
use Rattle.std.proofs.Common.{◌≡◌, Err, inl, inr, rules}
use Rattle.cb_worker.proofs.Knowing.{commit_knows}
use Rattle.cb_worker.proofs.Saying.{still_says}
use Rattle.cb_worker.proofs.Staying.{after, commits_still}
use Rattle.cb_worker.proofs.Steps.{begun_at}
use Rattle.cb_worker.proofs.Telling.{refused_told}
use Rattle.cb_worker.proofs.Using.{was_over}
use Rattle.cb_worker.proofs.Written.{handed_written}
use Rattle.cb_worker.proofs.worker.Worker.begin_finish.Goals as goal

pub commit_by-requires-clause-says : goal.commit_by-requires-clause-says
commit_by-requires-clause-says g c = still_says c.args.self.now c.serve_knowing.new.self c.args.frame c.requires.arose c.requires.says c.serve_knowing.ensures.still

pub go_on-requires : goal.go_on-requires
go_on-requires g c = commit_knows _ c.serve_knowing.new.self c.commit_by.new.self c.serve_knowing.new.station c.commit_by.new.station c.in_ok-_number._number c.serve_knowing.ensures.known c.in_ok-_number.ensures

pub returns-in_err-_number-clause-still : goal.returns-in_err-_number-clause-still
returns-in_err-_number-clause-still g c =
    after c.args.self.now c.serve_knowing.new.self c.commit_by.new.self c.serve_knowing.ensures.still (commits_still c.serve_knowing.new.self c.commit_by.new.self _ _ c.commit_by.result c.commit_by.ensures)

pub returns-clause-still : goal.returns-clause-still
returns-clause-still g c =
    after c.args.self.now c.commit_by.new.self c.go_on.new.self (after c.args.self.now c.serve_knowing.new.self c.commit_by.new.self c.serve_knowing.ensures.still (commits_still c.serve_knowing.new.self c.commit_by.new.self _ _ c.commit_by.result c.commit_by.ensures))
    c.go_on.ensures.still

pub returns-clause-comes : goal.returns-clause-comes
returns-clause-comes g c = search rules

pub returns-in_err-_number-clause-told : goal.returns-in_err-_number-clause-told
returns-in_err-_number-clause-told g c =
    refused_told c.serve_knowing.new.self c.commit_by.new.self c.serve_knowing.new.station c.commit_by.new.station c.in_err-_number.field-0.0 c.serve_knowing.ensures.told c.in_err-_number.ensures

pub returns-in_err-_number-clause-refused : goal.returns-in_err-_number-clause-refused
returns-in_err-_number-clause-refused g c =
    let is : c.from_residual-in_err-_number.result ≡ Err c.in_err-_number.field-0.0 = search rules in
    rw is (inr (record { old = c.serve_knowing.new.self; going = c.ended.ensures.none c.in_default.is; before = c.serve_knowing.new.station; sound = c.history-known.ensures.sound; after = c.commit_by.new.station; commits = c.in_err-_number.ensures }))

pub returns-in-Some-clause-begun : goal.returns-in-Some-clause-begun
returns-in-Some-clause-begun g c = inl (was_over c.args.self.now c.serve_knowing.new.self c.serve_knowing.ensures.goes c.in-Some.ensures.so.idle)

pub returns-clause-begun : goal.returns-clause-begun
returns-clause-begun g c =
    begun_at c.go_on.result (inr (record {
      served = c.serve_knowing.new.self;
      still = c.serve_knowing.ensures.still;
      before = c.serve_knowing.new.station;
      sound = c.history-known.ensures.sound;
      number = c.in_ok-_number._number;
      new = c.commit_by.new.self;
      after = c.commit_by.new.station;
      commits = c.in_ok-_number.ensures;
      written = handed_written c.args.self.now c.serve_knowing.new.self c.commit_by.new.self _ _ _ c.serve_knowing.ensures.still c.in_ok-_number.ensures;
    }))
